-- Each part is put behind those before it.
use Rattle.std.proofs.Common.{◌++◌, arith}
use Rattle.plan_text.specs.Lines.{written_word, number, writing_line}
use Rattle.plan_text.proofs.PushLaws.{behind}
use Rattle.plan_text.proofs.answer_lines.written_line.Goals as goal

pub returns : goal.returns
unfolding writing_line
returns c =
    let l = c.args.line.now in
    let told = behind l 0 written_word (omega arith) c.push-word.ensures c.push_number-told.ensures.pushed in
    behind l 0 (written_word ++ number c.args.count) (omega arith) told c.push.ensures
