-- `certificate_tested` meets its contract. The loop's invariant: no entry tested so far fails, and `free` is the next free place.
use Rattle.std.proofs.Common.{◌≡◌, ℕ, ◌+◌, ◌-◌, ◌≤◌, Bool, length, take, drop, arith, refl, sym, ap, ◌∙◌}
use Rattle.std.proofs.Math.Option.{none}
use Rattle.std.proofs.lemmas.Result.{err_from_is_err_and}
use Rattle.basics.specs.Lists.{gathered}
use Rattle.words.specs.Limits.{most_words}
use Rattle.words.specs.Tests.{first_failure}
use Rattle.words.proofs.TestLoops.{no_list, next_list_passes}
use Rattle.certificates.specs.CertificateWords.{entries as entry_number, count_of, row_words}
use Rattle.certificates.specs.CertificateTests.{header_passes_of, header_passes, entry_tests, rows_used_of, rows_used}
use Rattle.certificates.proofs.CertificateForm.{rows_few}
use Rattle.answers.specs.Answers.{refusal_of, told}
use Rattle.answers.specs.Tested.{tested}
use Rattle.certificate_form.specs.PlainLaws.{header_is, slice_is, rows_inside}
use Rattle.certificate_form.specs.TestLaws.{header_fails, entry_fails, rows_left, all_pass}
use Rattle.certificate_form.specs.FreePlaces.{free_after, free_none, free_next, entry_tests_are, used_is}
use Rattle.certificate_form.specs.Outcomes.{outcome, outcome_failed, outcome_passed}
use Rattle.certificate_form.specs.EdgeColumns.{entries_is}
use Rattle.certificate_form.proofs.certificate_tested.Goals as goal
use Rattle.certificate_form.proofs.certificate_tested.Goals.{Start, After-number_at-size, In-loop-i, After-entry_tested, After-loop-i}

-- the number of entries is the certificate's
many : (c : Start) → c.args.sizes.statements + c.args.sizes.procedures + c.args.sizes.procedures ≡ entry_number c.args.program.now c.args.witness.now
many c = entries_is c.args.program.now c.args.witness.now c.args.sizes c.requires.header

-- test 4
four : (c : Start) {b : Bool} → b ≡ header_passes_of c.args.form c.args.witness.now (c.args.sizes.statements + c.args.sizes.procedures + c.args.sizes.procedures) → header_passes c.args.program.now c.args.witness.now c.args.form ≡ b
four c e = sym (e ∙ header_is c.args.program.now c.args.witness.now c.args.form (many c))

pub returns-then-not-header_passes : goal.returns-then-not-header_passes
unfolding tested
returns-then-not-header_passes c =
    let a = c.args in
    rw c.at.ensures (ap tested (sym (header_fails a.program.now a.witness.now a.form (four (goal.at.returns-then-not-header_passes c).Start c.if-not-header_passes.ensures))))

pub loop-i-init : goal.loop-i-init
loop-i-init c =
    let a = c.args in
    record { pass = no_list (entry_tests a.program.now a.witness.now a.form); next = free_none a.program.now a.witness.now a.form }

-- the row words, as a slice, which lies in the certificate, and has few words
module _ (c : After-number_at-size) where
  slice : take (c.rows_start-start.result + c.number_at-size.result - c.rows_start-start.result) (drop c.rows_start-start.result c.args.witness.now) ≡ row_words c.args.program.now c.args.witness.now
  slice = slice_is c.args.program.now c.args.witness.now (entries_is c.args.program.now c.args.witness.now c.args.sizes c.requires.header) c.rows_start-start.ensures c.number_at-size.ensures.value

  ends : c.rows_start-start.result + c.number_at-size.result ≤ length c.args.witness.now
  ends =
      let a = c.args in
      let inside = rows_inside a.form a.witness.now (a.sizes.statements + a.sizes.procedures + a.sizes.procedures) (sym c.if-not-header_passes.ensures) in
      omega (arith, inside, c.number_at-size.ensures.value, c.rows_start-start.ensures)

  few : length (take (c.rows_start-start.result + c.number_at-size.result - c.rows_start-start.result) (drop c.rows_start-start.result c.args.witness.now)) ≤ most_words
  few = rw slice (rows_few c.args.program.now c.args.witness.now)

pub slice_bounds-entry_tested-end : goal.slice_bounds-entry_tested-end
slice_bounds-entry_tested-end c = omega (arith, ends (goal.at.slice_bounds-entry_tested-end c).After-number_at-size)

-- `free` is a place
pub entry_tested-requires-clause-free_le_most_words : goal.entry_tested-requires-clause-free_le_most_words
entry_tested-requires-clause-free_le_most_words c =
    (omega (arith, c.loop-i.invariant.next.inside, rows_few c.args.program.now c.args.witness.now), few (goal.at.entry_tested-requires-clause-free_le_most_words c).After-number_at-size)

-- what the tests of the entry at hand come to, and the next free place behind it
module _ (c : After-entry_tested) where
  abbrev next : ℕ
  next =
      let start = c.rows_start-start.result in
      free_after c.args.form (take (start + c.number_at-size.result - start) (drop start c.args.witness.now)) c.edge_columns-columns.result (count_of c.args.witness.now (c.loop-i.i + 1)) c.loop-i.free

  entry_told : take (c.rows_start-start.result + c.number_at-size.result - c.rows_start-start.result) (drop c.rows_start-start.result c.args.witness.now) ≡ row_words c.args.program.now c.args.witness.now
      → told c.entry_tested.result ≡ outcome (first_failure (entry_tests c.args.program.now c.args.witness.now c.args.form (c.loop-i.i + 1))) next
  entry_told slice =
      let a = c.args in
      c.entry_tested.ensures
      ∙ ap (λ ts. outcome (first_failure ts) next) (entry_tests_are a.program.now a.witness.now a.form c.loop-i.i c.loop-i.free (entries_is a.program.now a.witness.now a.sizes c.requires.header) slice (c.edge_columns-columns.ensures.value a.witness.now) c.loop-i.invariant.next)

pub returns-in_err-free : goal.returns-in_err-free
unfolding tested
returns-in_err-free c =
    let g = goal.at.returns-in_err-free c in
    let a = c.args in
    let e = g.After-entry_tested in
    let (r, result, refusal) = err_from_is_err_and c.from_residual.result c.from_residual.ensures.1 in
    rw (result, refusal)
    (ap tested
    (sym
    (entry_fails a.program.now a.witness.now a.form (four g.Start c.if-not-header_passes.ensures) c.loop-i.i (omega (arith, many g.Start)) c.loop-i.invariant.pass
    (outcome_failed (first_failure (entry_tests a.program.now a.witness.now a.form (c.loop-i.i + 1))) (next e) (refusal_of c.in_err-free.field-0.0) (sym (entry_told e (slice g.After-number_at-size)) ∙ ap told c.in_err-free.was)))))

pub loop-i-preserved : goal.loop-i-preserved
loop-i-preserved c =
    let g = goal.at.loop-i-preserved c in
    let a = c.args in
    let e = g.After-entry_tested in
    let slice = slice g.After-number_at-size in
    let (pass, is) = outcome_passed (first_failure (entry_tests a.program.now a.witness.now a.form (c.loop-i.i + 1))) (next e) c.in_ok-free.free (sym (entry_told e slice) ∙ ap told c.in_ok-free.was) in
    record {
      pass = next_list_passes (entry_tests a.program.now a.witness.now a.form) c.loop-i.i c.loop-i.invariant.pass pass;
      next = rw is (free_next a.program.now a.witness.now c.loop-i.i c.loop-i.free slice (c.edge_columns-columns.ensures.value a.witness.now) refl a.form c.loop-i.invariant.next pass);
    }

-- all entries have passed
module _ (c : After-loop-i) where
  at_end : c.loop-i.i ≡ entry_number c.args.program.now c.args.witness.now
  at_end = omega (arith, entries_is c.args.program.now c.args.witness.now c.args.sizes c.requires.header)

  passed : first_failure (gathered (entry_tests c.args.program.now c.args.witness.now c.args.form) (entry_number c.args.program.now c.args.witness.now)) ≡ none
  passed = rw (← at_end) c.loop-i.invariant.pass

  -- test 25 of the row words
  used : {b : Bool} → b ≡ rows_used_of c.args.form c.loop-i.free c.number_at-size.result → rows_used c.args.program.now c.args.witness.now c.args.form ≡ b
  used e = sym (e ∙ used_is c.args.program.now c.args.witness.now c.args.form c.loop-i.free c.number_at-size.ensures.value (rw (← at_end) c.loop-i.invariant.next))

pub returns-then-not-rows_used : goal.returns-then-not-rows_used
unfolding tested
returns-then-not-rows_used c =
    let g = goal.at.returns-then-not-rows_used c in
    let a = c.args in
    rw c.at-then-not-rows_used.ensures (ap tested (sym (rows_left a.program.now a.witness.now a.form (four g.Start c.if-not-header_passes.ensures) (passed g.After-loop-i) (used g.After-loop-i c.if-not-rows_used.ensures))))

pub returns : goal.returns
unfolding tested
returns c =
    let g = goal.at.returns c in
    let a = c.args in
    ap tested (sym (all_pass a.program.now a.witness.now a.form (four g.Start c.if-not-header_passes.ensures) (passed g.After-loop-i) (used g.After-loop-i c.if-not-rows_used.ensures)))
