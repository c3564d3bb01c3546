-- The tests of an entry, in their order: 5, where it passes 25, and where that passes 15. First of any three tests so numbered, then of the entry's own.
use Rattle.std.specs.Prelude.{Bool, ℕ, ℤ}
use mathlib.Core.List.{List, [], ◌∷◌}
use Rattle.words.specs.declared.StoredForm.{StoredForm}
use Rattle.words.specs.Tests.{Test, test}
use Rattle.certificates.specs.CertificateTests.{entry_passes, entry_strict, entry_varies}

module _ (at : ℕ) (passes strict varies : Bool) where
  abbrev pub five : Test
  five = test 5 at passes

  abbrev pub twenty_five : Test
  twenty_five = test 25 at strict

  abbrev pub fifteen : Test
  fifteen = test 15 at varies

  abbrev pub in_order : List Test
  in_order = five ∷ twenty_five ∷ fifteen ∷ []

module _ (program witness : List ℤ) (form : StoredForm) (i : ℕ) where
  abbrev pub p : Bool
  p = entry_passes program witness form i

  abbrev pub o : Bool
  o = entry_strict program witness form i

  abbrev pub v : Bool
  v = entry_varies program witness form i
