-- Each part is put behind those before it.
use Rattle.std.proofs.Common.{◌++◌, arith}
use Rattle.plan_text.specs.Lines.{safe_word, number, line_of}
use Rattle.plan_text.proofs.PushLaws.{behind}
use Rattle.plan_text.proofs.answer_lines.safe_line.Goals as goal

pub returns : goal.returns
unfolding line_of
returns c =
    let l = c.args.line.now in
    let told = behind l 0 safe_word (omega arith) c.push-word.ensures c.push_number-counted.ensures.pushed in
    behind l 0 (safe_word ++ number c.args.count) (omega arith) told c.push.ensures
