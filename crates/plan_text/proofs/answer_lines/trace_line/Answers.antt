-- Each part is put behind those before it.
use Rattle.std.proofs.Common.{◌++◌, arith}
use Rattle.plan_text.specs.Lines.{trace_word, number, values_in, line_of}
use Rattle.plan_text.proofs.PushLaws.{behind}
use Rattle.plan_text.proofs.answer_lines.trace_line.Goals as goal

pub returns : goal.returns
unfolding line_of
returns c =
    let l = c.args.line.now in
    let counted = behind l 0 trace_word (omega arith) c.push-word.ensures c.push_number-counted.ensures.pushed in
    let told = behind l 0 (trace_word ++ number c.args.steps) (omega arith) counted c.push_values-valued.ensures.pushed in
    behind l 0 (trace_word ++ number c.args.steps ++ values_in c.args.values.now) (omega arith) told c.push.ensures
