-- The tests of an entry, in their order: 5, where it passes 25, and where that passes 15. First of any three tests so numbered, then of the entry's own.
use Rattle.std.specs.Prelude.{◌≡◌, Bool, true, false, ℕ, ℤ}
use Rattle.std.proofs.Common.{◌∙◌}
use mathlib.Core.List.{List, [], ◌∷◌}
use Rattle.std.proofs.Math.Option.{none, some}
use Rattle.words.specs.declared.StoredForm.{StoredForm}
use Rattle.words.specs.Tests.{first_failure, refusal_at}
use Rattle.words.proofs.TestLoops.{first_fails, first_passes}
use Rattle.certificates.specs.CertificateWords.{count_place}
use Rattle.certificates.specs.CertificateTests.{entry_passes, entry_strict, entry_varies, entry_tests}
use Rattle.certificates.specs.EntryTests.{fifteen, five, in_order, o, p, twenty_five, v}

module _ (at : ℕ) (passes strict varies : Bool) where
  pub first_five : passes ≡ false → first_failure (in_order at passes strict varies) ≡ some (refusal_at 5 at)
  first_five q = first_fails (five at passes strict varies) ((twenty_five at passes strict varies) ∷ (fifteen at passes strict varies) ∷ []) q

  pub first_twenty_five : passes ≡ true → strict ≡ false → first_failure (in_order at passes strict varies) ≡ some (refusal_at 25 at)
  first_twenty_five p q = first_passes (five at passes strict varies) ((twenty_five at passes strict varies) ∷ (fifteen at passes strict varies) ∷ []) p ∙ first_fails (twenty_five at passes strict varies) ((fifteen at passes strict varies) ∷ []) q

  pub first_fifteen : passes ≡ true → strict ≡ true → varies ≡ false → first_failure (in_order at passes strict varies) ≡ some (refusal_at 15 at)
  first_fifteen p o q = first_passes (five at passes strict varies) ((twenty_five at passes strict varies) ∷ (fifteen at passes strict varies) ∷ []) p ∙ (first_passes (twenty_five at passes strict varies) ((fifteen at passes strict varies) ∷ []) o ∙ first_fails (fifteen at passes strict varies) [] q)

  pub all_three : passes ≡ true → strict ≡ true → varies ≡ true → first_failure (in_order at passes strict varies) ≡ none
  unfolding first_failure
  all_three p o q = first_passes (five at passes strict varies) ((twenty_five at passes strict varies) ∷ (fifteen at passes strict varies) ∷ []) p ∙ (first_passes (twenty_five at passes strict varies) ((fifteen at passes strict varies) ∷ []) o ∙ first_passes (fifteen at passes strict varies) [] q)

module _ (program witness : List ℤ) (form : StoredForm) (i : ℕ) where
  pub fails_five : entry_passes program witness form i ≡ false → first_failure (entry_tests program witness form i) ≡ some (refusal_at 5 (count_place i))
  unfolding entry_tests
  fails_five = first_five (count_place i) (p program witness form i) (o program witness form i) (v program witness form i)

  pub fails_twenty_five : entry_passes program witness form i ≡ true → entry_strict program witness form i ≡ false
      → first_failure (entry_tests program witness form i) ≡ some (refusal_at 25 (count_place i))
  unfolding entry_tests
  fails_twenty_five = first_twenty_five (count_place i) (p program witness form i) (o program witness form i) (v program witness form i)

  pub fails_fifteen : entry_passes program witness form i ≡ true → entry_strict program witness form i ≡ true → entry_varies program witness form i ≡ false
      → first_failure (entry_tests program witness form i) ≡ some (refusal_at 15 (count_place i))
  unfolding entry_tests
  fails_fifteen = first_fifteen (count_place i) (p program witness form i) (o program witness form i) (v program witness form i)

  pub passes_all : entry_passes program witness form i ≡ true → entry_strict program witness form i ≡ true → entry_varies program witness form i ≡ true
      → first_failure (entry_tests program witness form i) ≡ none
  unfolding entry_tests
  passes_all = all_three (count_place i) (p program witness form i) (o program witness form i) (v program witness form i)
