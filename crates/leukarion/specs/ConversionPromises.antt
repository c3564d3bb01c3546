-- What the two converters promise of their answer r and of the buffer afterwards, document 02, CR 9. All that is used of them is their contract, `Wrote`
-- of answers/specs/Written.antt, at what is converted from a form: `to_sparse` reads the dense one, `to_dense` the sparse one.
use Rattle.std.specs.Prelude.{◌≡◌, refl, ◌↔◌, ◌⊎◌, List, ℕ, ℤ, length, take, drop, Result, Ok, Err}
use Rattle.std.proofs.Common.{sym, ap, ap₂, ◌∙◌}
use Rattle.std.proofs.Math.Logic.Iff.{trans as iff_trans}
use Rattle.words.specs.declared.StoredForm.{StoredForm}
use Rattle.words.specs.declared.StoredForm.TheVariants.{Dense, Sparse}
use Rattle.words.specs.Writing.{buffer_after, word_count, written}
use Rattle.words.proofs.Writing.{front_after, rest_after}
use Rattle.programs.specs.ProgramForm.{SizesForm, ProgramForm}
use Rattle.programs.specs.ProgramRefusals.{ExitFails, StatementFails}
use Rattle.certificates.specs.CertificateWords.{witness_words, certificate_in}
use Rattle.certificates.specs.CertificateForm.{HeaderIn, FormIn}
use Rattle.certificates.specs.CertificateRefusals.{EntryFails, EntryLoose, EntryConstant, RowsLeft}
use Rattle.layouts.proofs.OwnWords as layouts
use Rattle.checker.specs.Demand2.{witness_start}
use Rattle.conversions.specs.Conversions.{other_form, other_words, converted, to_sparse, to_dense}
use Rattle.conversions.proofs.RoundTrips as trips
use Rattle.conversions.specs.RoundTrips.{Convertible, Fits, LaidOutAs, SameIn}
use Rattle.conversions.specs.ConversionRefusals as refusals
use Rattle.conversions.proofs.ConversionRefusals as refusals_laws
use Rattle.conversions.specs.JudgedAlike.{AlikeButPlaces}
use Rattle.conversions.proofs.JudgedAlike.{converted_alike}
use Rattle.answers.specs.Answers as answers
use Rattle.answers.specs.Answers.{answer_of, refusal_of, same_told}
use Rattle.answers.specs.Written.{Wrote, as_written, as_refused}
use Rattle.answers.specs.declared.Answer.{Answer}
use Rattle.answers.specs.declared.Refusal.{Refusal}
use Rattle.leukarion.specs.Promises.{Checked}

-- a refusal, by its number, its place and its line; most have none
abbrev pub refuse_on : ℕ → ℕ → ℕ → Result ℕ Refusal
refuse_on number place line = Err (record { number = number; place = place; line = line })

abbrev pub refuse : ℕ → ℕ → Result ℕ Refusal
refuse number place = refuse_on number place 0

-- ---- the contract of a converter that reads a form

pub record Converts (form : StoredForm) (program certificate buffer : List ℤ) (r : Result ℕ Refusal) (after : List ℤ) : Type 0 where
  pub wrote : Wrote (converted program certificate form (length buffer)) buffer r after

-- that of `to_sparse`, and that of `to_dense`, in converters/src/lib.rt
module _ (program certificate buffer : List ℤ) (r : Result ℕ Refusal) (after : List ℤ) where
  pub sparse_contract : Wrote (to_sparse program certificate (length buffer)) buffer r after → Converts Dense program certificate buffer r after
  unfolding to_sparse
  sparse_contract w = record { wrote = w }

  pub dense_contract : Wrote (to_dense program certificate (length buffer)) buffer r after → Converts Sparse program certificate buffer r after
  unfolding to_dense
  dense_contract w = record { wrote = w }

-- ---- the promises

rest_written : (words buffer : List ℤ) → drop (length words) (buffer_after (written words) buffer) ≡ drop (length words) buffer
unfolding word_count
rest_written words buffer = rest_after (written words) buffer

module _ {form : StoredForm} {program certificate buffer after : List ℤ} {r : Result ℕ Refusal} (c : Converts form program certificate buffer r after) where
  -- ---- words are written

  -- what it is that is written
  words_for : (n : ℕ) → r ≡ Ok n → (words : List ℤ) × (converted program certificate form (length buffer) ≡ written words) × (n ≡ length words)
  words_for n e = (as_written (converted program certificate form (length buffer)) n).0 (sym c.wrote.answer ∙ ap answers.told e)

  -- if and only if both inputs have the form and the result fits: "its word count is answered"
  pub written_answered : (n : ℕ) → (r ≡ Ok n) ↔ (Convertible program certificate form (length buffer) × (n ≡ length (other_words program certificate form)))
  written_answered n = (there, back)
    where
      there : r ≡ Ok n → Convertible program certificate form (length buffer) × (n ≡ length (other_words program certificate form))
      there e = let w = words_for n e in let x = (trips.written_iff program certificate form (length buffer) w.0).0 w.1 in (x.0, w.2 ∙ ap length x.1)

      back : Convertible program certificate form (length buffer) × (n ≡ length (other_words program certificate form)) → r ≡ Ok n
      back x =
          let e = (trips.written_iff program certificate form (length buffer) (other_words program certificate form)).1 (x.0, refl) in
          same_told r (Ok n) (c.wrote.answer ∙ (as_written (converted program certificate form (length buffer)) n).1 (other_words program certificate form, e, x.1))

  -- "else the sheet stands at the room's front, .. and the rest stays"
  pub written_words : (n : ℕ) → r ≡ Ok n → (take n after ≡ other_words program certificate form) × (drop n after ≡ drop n buffer)
  written_words n e =
      let w = words_for n e in
      let words : List ℤ = w.0 in
      let result : after ≡ buffer_after (written words) buffer = c.wrote.result ∙ ap (λ x. buffer_after x buffer) w.1 in
      let is : words ≡ other_words program certificate form = ((trips.written_iff program certificate form (length buffer) words).0 w.1).1 in (
        ap₂ take w.2 result ∙ (front_after words buffer ∙ is),
        ap₂ drop w.2 result ∙ (rest_written words buffer ∙ ap (λ (k : ℕ). drop k buffer) (sym w.2)),
      )

  written_at : (n : ℕ) → r ≡ Ok n → converted program certificate form (length buffer) ≡ written (take n after)
  written_at n e = let w = words_for n e in w.1 ∙ ap written (((trips.written_iff program certificate form (length buffer) w.0).0 w.1).1 ∙ sym (written_words n e).0)

  -- what is written has the other form, with equal disjuncts and witness words
  pub written_form : (n : ℕ) → r ≡ Ok n → FormIn program (take n after) (other_form form) × SameIn program certificate (take n after) form (other_form form)
  written_form n e =
      let x = (written_answered n).0 e in (
        rw (written_words n e).0 (trips.other_form_lem program certificate form x.0.certificate_form x.0.enough.short),
        trips.written_same program certificate (take n after) form (length buffer) (written_at n e),
      )

  -- "Both forms are judged alike but for places"
  pub written_alike : (n : ℕ) → r ≡ Ok n → {values values' left left' : List ℤ} {told told' : Answer}
      → Checked program certificate values told left → Checked program (take n after) values' told' left'
      → AlikeButPlaces (witness_start program certificate) (witness_start program (take n after)) (answer_of told) (answer_of told')
  written_alike n e {values} {values'} one other =
      rw (one.answer, other.answer) (converted_alike program certificate (take n after) form (length buffer) (length values) (length values') (written_at n e))

  -- ---- a refusal

  refused_as : (q : Refusal) → (r ≡ Err q) ↔ refusals.Refuses program certificate form (length buffer) (refusal_of q)
  refused_as q = let x = as_refused (converted program certificate form (length buffer)) (refusal_of q) in (λ e. x.0 (sym c.wrote.answer ∙ ap answers.told e), λ e. same_told r (Err q) (c.wrote.answer ∙ x.1 e))

  -- "A refusal writes nothing"
  pub refused_buffer : (q : Refusal) → r ≡ Err q → after ≡ buffer
  unfolding buffer_after
  refused_buffer q e = rw ((refused_as q).0 e) at c.wrote.result

  -- "the converters test 1 to 5 (any kind but the one they read is 4), 25 and 15 alone, then refuse too little room or a result past 1,000,000 words
  -- with 26 at 0": no other number is answered
  pub refused_number : (q : Refusal) → r ≡ Err q → refusals.ConversionNumber (refusal_of q)
  refused_number q e = refusals_laws.conversion_number program certificate form (length buffer) (refusal_of q) ((refused_as q).0 e)

  pub refused_one : (place : ℕ) → (r ≡ refuse 1 place) ↔ ((place ≡ 0) × ¬ SizesForm program)
  refused_one place = iff_trans (refused_as _) (refusals_laws.unwritten_one program certificate form (length buffer) place)

  pub refused_two : (place : ℕ) → (r ≡ refuse 2 place) ↔ ExitFails program place
  refused_two place = iff_trans (refused_as _) (refusals_laws.unwritten_two program certificate form (length buffer) place)

  pub refused_three : (place line : ℕ) → (r ≡ refuse_on 3 place line) ↔ StatementFails program place line
  refused_three place line = iff_trans (refused_as _) (refusals_laws.unwritten_three program certificate form (length buffer) place line)

  pub refused_four : (place : ℕ) → (r ≡ refuse 4 place) ↔ (ProgramForm program × ((place ≡ 0) × ¬ HeaderIn program certificate form))
  refused_four place = iff_trans (refused_as _) (refusals_laws.unwritten_four program certificate form (length buffer) place)

  pub refused_five : (place : ℕ) → (r ≡ refuse 5 place) ↔ (ProgramForm program × (HeaderIn program certificate form × EntryFails program certificate form place))
  refused_five place = iff_trans (refused_as _) (refusals_laws.unwritten_five program certificate form (length buffer) place)

  pub refused_twenty_five : (place : ℕ) → (r ≡ refuse 25 place) ↔ (ProgramForm program × (HeaderIn program certificate form × (EntryLoose program certificate form place ⊎ RowsLeft program certificate form place)))
  refused_twenty_five place = iff_trans (refused_as _) (refusals_laws.unwritten_twenty_five program certificate form (length buffer) place)

  pub refused_fifteen : (place : ℕ) → (r ≡ refuse 15 place) ↔ (ProgramForm program × (HeaderIn program certificate form × EntryConstant program certificate form place))
  refused_fifteen place = iff_trans (refused_as _) (refusals_laws.unwritten_fifteen program certificate form (length buffer) place)

  pub refused_twenty_six : (place : ℕ) → (r ≡ refuse 26 place) ↔ (ProgramForm program × (FormIn program certificate form × ((place ≡ 0) × ¬ Fits program certificate form (length buffer))))
  refused_twenty_six place = iff_trans (refused_as _) (refusals_laws.unwritten_twenty_six program certificate form (length buffer) place)

-- ---- there and back, "Where neither way is refused"

module _ {program first buffer after buffer' after' : List ℤ} {n m : ℕ} where
  -- "dense to sparse to dense yields a dense sheet laid out like that, with equal disjuncts and witness words"
  pub dense_round : Converts Dense program first buffer (Ok n) after → Converts Sparse program (take n after) buffer' (Ok m) after' → LaidOutAs program first (take m after')
  dense_round c d = trips.dense_round program first (take n after) (take m after') (length buffer) (length buffer') (unfold to_sparse in written_at c n refl) (unfold to_dense in written_at d m refl)

  -- "sparse to dense to sparse yields the same words"
  pub sparse_round : Converts Sparse program first buffer (Ok n) after → Converts Dense program (take n after) buffer' (Ok m) after' → take m after' ≡ first
  sparse_round c d = trips.sparse_round program first (take n after) (take m after') (length buffer) (length buffer') (unfold to_dense in written_at c n refl) (unfold to_sparse in written_at d m refl)

-- "so one certificate has one sparse sheet": with equal disjuncts and witness words, the words are equal
pub sparse_unique : (program certificate other : List ℤ) → FormIn program certificate Sparse → FormIn program other Sparse
    → certificate_in program certificate Sparse ≡ certificate_in program other Sparse → witness_words program certificate ≡ witness_words program other → certificate ≡ other
sparse_unique = layouts.sparse_unique
