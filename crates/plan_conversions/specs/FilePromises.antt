-- What a new file promises: of any conversion, that it reads as the words that are written; and of a certificate in its other form what document 02,
-- CR 9, does, for the bytes of files. All that is used of `plan_conversion` is its contract, `FileConverts`. The answer is then one of a converter with
-- a buffer of 16,384 words, so that all promises of leukarion/ConversionPromises are promises of it, those of refusals too.
use Rattle.std.specs.Prelude.{◌≡◌, List, ℕ, ◌*◌, ℤ, pos, take, replicate, Result, Ok}
use Rattle.answers.specs.declared.Refusal.{Refusal}
use Rattle.plan_conversions.specs.declared.Conversion.{Conversion}
use Rattle.plan_conversions.specs.PlanConversions.{FileConverts}

abbrev pub zeros : List ℤ
zeros = replicate 16384 (pos 0)

-- ---- of any conversion

module _ {conversion : Conversion} {program certificate result after : List ℕ} {r : Result ℕ Refusal} (c : FileConverts conversion program certificate result r after) where
  module _ (n : ℕ) (e : r ≡ Ok n) where
    -- the bytes of the new file
    abbrev pub file : List ℕ
    file = take (n * 4) after
