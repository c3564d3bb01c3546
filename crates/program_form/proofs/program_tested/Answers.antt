-- `program_tested` meets its contract: one law for each way that it can end.
use Rattle.std.proofs.Common.{◌≡◌, ◌∙◌, sym, Result, Err, IsErrAnd}
use Rattle.std.proofs.lemmas.Result.{err_from_is_err_and}
use Rattle.basics.proofs.Booleans.{holds}
use Rattle.answers.specs.Answers.{told, refusal_of}
use Rattle.answers.specs.declared.Refusal.{Refusal}
use Rattle.program_readers.specs.declared.places.Sizes.{Sizes}
use Rattle.program_readers.specs.SizeLaws.{header_passed}
use Rattle.program_readers.specs.Sizes.{Header}
use Rattle.program_form.specs.FormLaws.{sizes_refused, total_refused, exit_refused, statement_refused, all_formed, exits_pass}
use Rattle.program_form.proofs.program_tested.Goals as goal
use Rattle.program_form.proofs.program_tested.Goals.{After-sizes_of-sizes}

handed_on : (r : Result Sizes Refusal) (e : Refusal) → IsErrAnd r (λ y. y ≡ e) → told r ≡ Err (refusal_of e)
handed_on r e h = let (y, is, same) = err_from_is_err_and r h in rw (is, same)

header : (c : After-sizes_of-sizes) → Header c.args.program.now c.sizes_of-sizes.result
header c = rw c.sizes_of-sizes.ensures (header_passed c.args.program.now (holds (sym c.if-not-sizes_pass.ensures)))

pub returns-then-not-sizes_pass-clause-value : goal.returns-then-not-sizes_pass-clause-value
returns-then-not-sizes_pass-clause-value c = rw c.at-wrong_size.ensures (sizes_refused c.args.program.now (sym c.if-not-sizes_pass.ensures))

pub total_passes-requires : goal.total_passes-requires
total_passes-requires c = header c

pub returns-then-not-total_passes-clause-value : goal.returns-then-not-total_passes-clause-value
returns-then-not-total_passes-clause-value c =
    rw c.at-wrong_size.ensures (total_refused c.args.program.now (sym c.if-not-sizes_pass.ensures) (sym c.if-not-total_passes.ensures))

pub exits_tested-requires : goal.exits_tested-requires
exits_tested-requires c = header (goal.at.exits_tested-requires c).After-sizes_of-sizes

pub returns-in_err-exits_tested-clause-value : goal.returns-in_err-exits_tested-clause-value
returns-in_err-exits_tested-clause-value c =
    let r = c.in_err-exits_tested in
    handed_on c.from_residual.result r.field-0.0 c.from_residual.ensures.1
    ∙ exit_refused c.args.program.now (sym c.if-not-sizes_pass.ensures) (sym c.if-not-total_passes.ensures) (refusal_of r.field-0.0) (sym r.ensures)

pub fill_owners-requires-clause-header : goal.fill_owners-requires-clause-header
fill_owners-requires-clause-header c = header (goal.at.fill_owners-requires-clause-header c).After-sizes_of-sizes

pub fill_owners-requires-clause-exits_pass : goal.fill_owners-requires-clause-exits_pass
fill_owners-requires-clause-exits_pass c = exits_pass c.args.program.now (sym c.in_ok-exits_tested.ensures)

pub statements_tested-requires-clause-header : goal.statements_tested-requires-clause-header
statements_tested-requires-clause-header c = header (goal.at.statements_tested-requires-clause-header c).After-sizes_of-sizes

pub returns-in_err-statements_tested-clause-value : goal.returns-in_err-statements_tested-clause-value
returns-in_err-statements_tested-clause-value c =
    let r = c.in_err-statements_tested in
    handed_on c.from_residual-in_err-statements_tested.result r.field-0.0 c.from_residual-in_err-statements_tested.ensures.1
    ∙ statement_refused c.args.program.now (sym c.if-not-sizes_pass.ensures) (sym c.if-not-total_passes.ensures) (sym c.in_ok-exits_tested.ensures) (refusal_of r.field-0.0) (sym r.ensures)

pub returns-clause-value : goal.returns-clause-value
returns-clause-value c =
    rw c.sizes_of-sizes.ensures
    (all_formed c.args.program.now (sym c.if-not-sizes_pass.ensures) (sym c.if-not-total_passes.ensures) (sym c.in_ok-exits_tested.ensures) (sym c.in_ok-statements_tested.ensures))
