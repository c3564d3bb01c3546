-- `judge` meets its contract: the program's refusal is the answer, and the answer to a certificate of a program that has the form.
use Rattle.std.specs.Prelude.{Ok}
use Rattle.std.proofs.Common.{◌≡◌, sym, ap, ◌∙◌}
use Rattle.answers.specs.Answers.{refusal_of, told}
use Rattle.program_form.specs.Form.{program_form}
use Rattle.program_form.specs.FormLaws.{formed_form, formed_header}
use Rattle.judge.specs.WholeLaws.{judged_refused, judged_formed}
use Rattle.judge.proofs.judge.Goals.{In-Ok}
use Rattle.judge.proofs.judge.Goals as goal

-- the program has its form
formed : (c : In-Ok) → program_form c.args.program.now ≡ Ok c.in-Ok.sizes
formed c = sym c.program_tested-form.ensures.value ∙ ap told c.in-Ok.is

pub judge_formed-requires-clause-header : goal.judge_formed-requires-clause-header
judge_formed-requires-clause-header c = formed_header c.args.program.now c.in-Ok.sizes (formed (goal.at.judge_formed-requires-clause-header c).In-Ok)

pub judge_formed-requires-clause-program_form : goal.judge_formed-requires-clause-program_form
judge_formed-requires-clause-program_form c = formed_form c.args.program.now c.in-Ok.sizes (formed (goal.at.judge_formed-requires-clause-program_form c).In-Ok)

pub returns-in-Ok : goal.returns-in-Ok
returns-in-Ok c =
    c.judge_formed.ensures ∙ judged_formed c.args.program.now c.args.witness.now (formed_form c.args.program.now c.in-Ok.sizes (formed (goal.at.returns-in-Ok c).In-Ok))

pub returns-in-Err : goal.returns-in-Err
returns-in-Err c = judged_refused c.args.program.now c.args.witness.now (refusal_of c.in-Err.refusal) (sym c.program_tested-form.ensures.value ∙ ap told c.in-Err.is)
