-- Each part is put behind those before it.
use Rattle.std.proofs.Common.{◌++◌, arith}
use Rattle.plan_text.specs.Lines.{refused_word, number, line_of}
use Rattle.plan_text.proofs.PushLaws.{behind}
use Rattle.plan_text.proofs.answer_lines.refused_line.Goals as goal

pub returns : goal.returns
unfolding line_of
returns c =
    let l = c.args.line.now in
    let r = c.args.refusal in
    let numbered = behind l 0 refused_word (omega arith) c.push-word.ensures c.push_number-numbered.ensures.pushed in
    let placed = behind l 0 (refused_word ++ number r.number) (omega arith) numbered c.push_number-placed.ensures.pushed in
    let lined = behind l 0 (refused_word ++ number r.number ++ number r.place) (omega arith) placed c.push_number-lined.ensures.pushed in
    behind l 0 (refused_word ++ number r.number ++ number r.place ++ number r.line) (omega arith) lined c.push.ensures
