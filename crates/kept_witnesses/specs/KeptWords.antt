-- The words of an entailment's witness, as they are written: with the numbers that its targets have among the kept ones, or not at all, where a source of
-- the entailment isn't kept.
use Rattle.std.specs.Prelude.{◌≡◌, Bool, true, false, ℕ, zero, suc, ◌+◌, ◌*◌, ◌-◌, ◌≤◌, ◌<◌, T, ℤ, take}
use Rattle.std.proofs.Math.Path.{refl, ap}
use Rattle.std.proofs.Common.{sym, ◌∙◌, arith}
use mathlib.Core.List.{List, [], ◌++◌}
use Rattle.std.proofs.Math.ListN.{length, drop}
use Rattle.std.proofs.lemmas.List.Edits.{sets}
use Rattle.std.proofs.Math.Seq.{take-length}
use Rattle.basics.proofs.Stores.{sets_here}
use Rattle.words.specs.Limits.{most_splits, most_disjuncts}
use Rattle.certificates.specs.Witnesses.{Witness, encode, shaped}
use Rattle.entailments.specs.Meaning.{meaning_of}
use Rattle.entailments.specs.Forms.{EntailmentForm}
use Rattle.entailments.specs.declared.Entailment.{Entailment}
use Rattle.trimming.specs.Trimmed.{renumbered}
use Rattle.witness_walks.specs.Marks.{targets_of}
use Rattle.witness_walks.specs.Counts.{added_rows, premises_are}
use Rattle.kept_witnesses.specs.StoredOver.{sets_over}
use Rattle.kept_witnesses.specs.SizedWitnesses.{Sized, shaped_sized, length_renumbered, BeginsAt, Stands, RenumberedAt}

-- a witness's counts are right for an entailment by value
abbrev pub premises_for : Entailment → ℕ
premises_for e = e.n + added_rows e.added

unfoldable pub SizedFor : List ℤ → Entailment → Witness → Type 0
SizedFor rows e x = Sized most_splits e.columns (premises_for e) (targets_of rows e) x

pub shaped_for : (words rows : List ℤ) (e : Entailment) (x : Witness) → EntailmentForm words rows e → T (shaped (meaning_of words rows e) x) → SizedFor rows e x
unfolding SizedFor targets_of meaning_of shaped
shaped_for words rows e x f t = rw (premises_are words rows e f) at (shaped_sized most_splits (meaning_of words rows e) x t)

-- the words are those of such a witness
pub record Spells (rows : List ℤ) (e : Entailment) (words : List ℤ) : Type 0 where
  pub witness : Witness
  pub sized : SizedFor rows e witness
  pub is : words ≡ encode witness

-- whichever it is, its words with new numbers stand from `to` on
pub record RenumberedInto (rows : List ℤ) (e : Entailment) (f : ℕ → Bool) (words before : List ℤ) (to : ℕ) (after : List ℤ) : Type 0 where
  pub stored : (x : Witness) → SizedFor rows e x → words ≡ encode x → after ≡ sets before to (encode (renumbered f x))

module _ (rows : List ℤ) (e : Entailment) (words before : List ℤ) (to : ℕ) (fits : to + length words ≤ length before) where
  -- copied words spell what was copied
  abbrev copied : List ℤ
  copied = sets before to (take (length words) (drop 0 words))

  copied_is : copied ≡ sets before to words
  copied_is = ap (sets before to) (take-length words)

  copied_begins : (x : Witness) → SizedFor rows e x → words ≡ encode x → BeginsAt most_splits e.columns (premises_for e) (targets_of rows e) copied to x (drop (to + length words) before)
  unfolding SizedFor
  copied_begins x s q =
      record { sized = s; spelled = ap (drop to) copied_is ∙ (sets_here words before to fits ∙ ap (λ (l : List ℤ). l ++ drop (to + length words) before) q) }

  pub copied_stands : Spells rows e words → Stands most_splits e.columns (premises_for e) (targets_of rows e) copied to
  copied_stands s = record { witness = s.witness; rest = drop (to + length words) before; begins = copied_begins s.witness s.sized s.is }

  pub copied_renumbered : (f : ℕ → Bool) (r : ℕ) (after : List ℤ) → RenumberedAt f most_splits e.columns (premises_for e) (targets_of rows e) copied to r after → RenumberedInto rows e f words before to after
  copied_renumbered f r after h = record { stored = λ x s q. h.stored x (drop (to + length words) before) (copied_begins x s q) ∙ (ap (λ (l : List ℤ). sets l to (encode (renumbered f x))) copied_is ∙ over x q) }
    where
      over : (x : Witness) → words ≡ encode x → sets (sets before to words) to (encode (renumbered f x)) ≡ sets before to (encode (renumbered f x))
      over x q =
          let same : length words ≡ length (encode (renumbered f x)) = ap length q ∙ sym (length_renumbered f x) in
          sets_over words (encode (renumbered f x)) before to same (omega arith)

-- ---- where the sources are kept

-- the place of an entry's first byte; any, where it has no disjuncts
unfoldable pub first_byte : ℕ → ℕ → ℕ
first_byte zero entry = 0
first_byte (suc count) entry = (entry - 1) * most_disjuncts

unfoldable pub kept_words : Bool → (ℕ → Bool) → Witness → List ℤ
kept_words true f x = encode (renumbered f x)
kept_words false f x = []

pub kept_fewer : (keep : Bool) (f : ℕ → Bool) (x : Witness) → length (kept_words keep f x) ≤ length (encode x)
unfolding kept_words
kept_fewer true f x = omega (arith, length_renumbered f x)
kept_fewer false f x = omega arith

-- whichever witness it is, r words are to be written for it, and stand from `to` on where they fit
pub record WrittenBy (rows : List ℤ) (e : Entailment) (keep : Bool) (f : ℕ → Bool) (words before : List ℤ) (to r : ℕ) (after : List ℤ) : Type 0 where
  pub counted : (x : Witness) → SizedFor rows e x → words ≡ encode x → r ≡ length (kept_words keep f x)
  pub stored : to + r ≤ length before → (x : Witness) → SizedFor rows e x → words ≡ encode x → after ≡ sets before to (kept_words keep f x)
  pub long : length after ≡ length before

module _ (rows : List ℤ) (e : Entailment) (f : ℕ → Bool) (words before : List ℤ) (to : ℕ) where
  pub not_written : {keep : Bool} → keep ≡ false → WrittenBy rows e keep f words before to 0 before
  unfolding kept_words
  not_written q = rw q (record { counted = λ x s p. refl; stored = λ h x s p. refl; long = refl })

  words_counted : (x : Witness) → words ≡ encode x → length words ≡ length (encode (renumbered f x))
  words_counted x p = ap length p ∙ sym (length_renumbered f x)

  pub not_fitting : {keep : Bool} → keep ≡ true → length before < to + length words → WrittenBy rows e keep f words before to (length words) before
  unfolding kept_words
  not_fitting q l = rw q (record { counted = λ x s p. words_counted x p; stored = λ h. absurd (omega arith); long = refl })

  pub is_written : {keep : Bool} (after : List ℤ) → keep ≡ true → length after ≡ length before → RenumberedInto rows e f words before to after → WrittenBy rows e keep f words before to (length words) after
  unfolding kept_words
  is_written after q l h = rw q (record { counted = λ x s p. words_counted x p; stored = λ _ x s p. h.stored x s p; long = l })

pub first_none : (count entry : ℕ) → count ≡ 0 → 0 ≡ first_byte count entry
unfolding first_byte
first_none zero entry e = refl
first_none (suc count) entry e = absurd (omega arith)

pub first_some : (count entry : ℕ) → (count ≡ 0 → ⊥) → (entry - 1) * most_disjuncts ≡ first_byte count entry
unfolding first_byte
first_some zero entry e = absurd (e refl)
first_some (suc count) entry e = refl
