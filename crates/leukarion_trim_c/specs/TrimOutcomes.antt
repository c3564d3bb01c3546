-- What the struct that `leukarion_trim` gives back promises, beside an answer of `leukarion_check` for the same certificate, with any result buffer: the claims of
-- leukarion/TrimPromises, since its kind 4 and its number fix the trimmer's answer.
use Rattle.std.specs.Prelude.{◌≡◌, refl, ◌↔◌, List, ℕ, ℤ, length, take, drop}
use Rattle.std.proofs.Math.Logic.Iff.{trans as iff_trans}
use Rattle.words.specs.Writing.{Fits}
use Rattle.trimmed_words.specs.Trim.{trimmed_words, trim}
use Rattle.trimmed_words.specs.TrimmedAccepted.{Trims}
use Rattle.leukarion.specs.TrimPromises as trims
use Rattle.leukarion.specs.TrimPromises.{TrimWrote}
use Rattle.outcomes.specs.declared.Outcome.{Outcome}
use Rattle.outcomes.specs.Outcomes.{Told}
use Rattle.outcomes.specs.OutcomePromises.{safe_as}
use Rattle.outcomes.specs.WritingOutcomes.{WritingTold, written_as}

module _ (program certificate buffer : List ℤ) {after : List ℤ} {told : Outcome} (t : WritingTold (trim program certificate (length buffer)) buffer told after) where
  trimmed : TrimWrote program certificate buffer t.answer after
  trimmed = record { wrote = t.wrote }

  -- written, with a word count, if and only if the check says safe and the result fits
  pub trim_told : {values left : List ℤ} {checked : Outcome} → Told program certificate values checked left → (n : ℕ)
      → ((told.kind ≡ 4) × (told.number ≡ n)) ↔ ((checked.kind ≡ 1) × Fits (trimmed_words program certificate) (length buffer) × (n ≡ length (trimmed_words program certificate)))
  trim_told c n =
      iff_trans (written_as t n) (iff_trans (trims.written_answered trimmed c.checked n) (
        λ x. (((safe_as c x.0.0).1 x.0.1).0, x.1, x.2),
        λ x. ((_, (safe_as c _).0 (x.0, refl)), x.1, x.2),
      ))

  -- the words stand at the front, and the rest as it was
  pub trim_words : told.kind ≡ 4 → (take told.number after ≡ trimmed_words program certificate) × (drop told.number after ≡ drop told.number buffer)
  trim_words k = let x = trims.written_words trimmed told.number ((written_as t told.number).0 (k, refl)) in (x.0, x.1)

  -- the check of these says safe, and trimming them again changes nothing
  pub trim_safe : told.kind ≡ 4 → Trims program certificate (take told.number after)
  trim_safe k = trims.written_trims trimmed told.number ((written_as t told.number).0 (k, refl))
