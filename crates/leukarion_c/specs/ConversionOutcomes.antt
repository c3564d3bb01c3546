-- What the struct that `leukarion_to_sparse` or `leukarion_to_dense` gives back promises: the claims of leukarion/ConversionPromises, since its kind 4 and its number fix the
-- converter's answer.
use Rattle.std.specs.Prelude.{◌≡◌, refl, ◌↔◌, List, ℕ, ℤ, length, take, drop}
use Rattle.std.proofs.Math.Logic.Iff.{trans as iff_trans}
use Rattle.words.specs.declared.StoredForm.TheVariants.{Dense, Sparse}
use Rattle.conversions.specs.Conversions.{other_words, to_sparse, to_dense}
use Rattle.conversions.specs.RoundTrips.{Convertible}
use Rattle.leukarion.specs.ConversionPromises as promises
use Rattle.outcomes.specs.declared.Outcome.{Outcome}
use Rattle.outcomes.specs.WritingOutcomes.{WritingTold, written_as}

module _ (program certificate buffer : List ℤ) {after : List ℤ} {told : Outcome} where
  -- written, with a word count, if and only if both inputs have the form and the result fits, which then stands at the front, the rest as it was
  pub sparse_told : WritingTold (to_sparse program certificate (length buffer)) buffer told after → (n : ℕ)
      → ((told.kind ≡ 4) × (told.number ≡ n)) ↔ (Convertible program certificate Dense (length buffer) × (n ≡ length (other_words program certificate Dense)))
  sparse_told t n = let c = promises.sparse_contract program certificate buffer t.answer after t.wrote in iff_trans (written_as t n) (promises.written_answered c n)

  pub sparse_words_lem : WritingTold (to_sparse program certificate (length buffer)) buffer told after → told.kind ≡ 4
      → (take told.number after ≡ other_words program certificate Dense) × (drop told.number after ≡ drop told.number buffer)
  sparse_words_lem t k = promises.written_words (promises.sparse_contract program certificate buffer t.answer after t.wrote) told.number ((written_as t told.number).0 (k, refl))

  pub dense_told : WritingTold (to_dense program certificate (length buffer)) buffer told after → (n : ℕ)
      → ((told.kind ≡ 4) × (told.number ≡ n)) ↔ (Convertible program certificate Sparse (length buffer) × (n ≡ length (other_words program certificate Sparse)))
  dense_told t n = let c = promises.dense_contract program certificate buffer t.answer after t.wrote in iff_trans (written_as t n) (promises.written_answered c n)

  pub dense_words : WritingTold (to_dense program certificate (length buffer)) buffer told after → told.kind ≡ 4
      → (take told.number after ≡ other_words program certificate Sparse) × (drop told.number after ≡ drop told.number buffer)
  dense_words t k = promises.written_words (promises.dense_contract program certificate buffer t.answer after t.wrote) told.number ((written_as t told.number).0 (k, refl))
