-- The first of the two tests that fails is told; 25 asks nothing of a dense entry.
use Rattle.std.proofs.Common.{◌≡◌, Bool, true, refl, sym, ap}
use Rattle.words.specs.declared.StoredForm.TheVariants.{Dense}
use Rattle.certificates.specs.CertificateWords.{count_place}
use Rattle.certificates.specs.CertificateTests.{entry_passes_of, entry_strict_of}
use Rattle.certificates.proofs.EntryTests.{first_five, first_fifteen, all_three}
use Rattle.certificate_form.specs.EntryOrder.{varies_of}
use Rattle.certificate_form.specs.Outcomes.{outcome}
use Rattle.certificate_form.proofs.dense_tested.Goals as goal
use Rattle.certificate_form.proofs.dense_tested.Goals.{Start}

-- its three tests
module _ (c : Start) where
  abbrev passes : Bool
  passes = let a = c.args in entry_passes_of Dense a.rows.now a.witness.now a.entries a.columns a.i

  abbrev strict : Bool
  strict = let a = c.args in entry_strict_of Dense a.rows.now a.witness.now a.entries a.columns a.free a.i

  abbrev varies : Bool
  varies = let a = c.args in varies_of a.rows.now a.witness.now a.entries a.columns a.i Dense

  strictly : strict ≡ true
  unfolding entry_strict_of
  strictly = refl

pub returns-then-not-entry_passes : goal.returns-then-not-entry_passes
unfolding outcome
returns-then-not-entry_passes c =
    let s = (goal.at.returns-then-not-entry_passes c).Start in
    rw c.at.ensures (ap (λ o. outcome o c.args.free) (sym (first_five (count_place c.args.i) (passes s) (strict s) (varies s) (sym c.if-not-entry_passes.ensures))))

pub returns-then-not-entry_varies : goal.returns-then-not-entry_varies
unfolding outcome
returns-then-not-entry_varies c =
    let s = (goal.at.returns-then-not-entry_varies c).Start in
    rw c.at-then-not-entry_varies.ensures
    (ap (λ o. outcome o c.args.free) (sym (first_fifteen (count_place c.args.i) (passes s) (strict s) (varies s) (sym c.if-not-entry_passes.ensures) (strictly s) (sym c.if-not-entry_varies.ensures))))

pub returns : goal.returns
unfolding outcome
returns c =
    let s = (goal.at.returns c).Start in
    ap (λ o. outcome o c.args.free) (sym (all_three (count_place c.args.i) (passes s) (strict s) (varies s) (sym c.if-not-entry_passes.ensures) (strictly s) (sym c.if-not-entry_varies.ensures)))
