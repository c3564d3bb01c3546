-- Demand 2 for certificates, from the words: "Safe, with the number of entailments, is answered if and only if both sheets have the form and
-- every entailment listed in document 01 has a witness there that works, in its turn, with no word left." And the refusals 6, 7 and 8
-- likewise, with their places, where both have the form: that they are answered nowhere else is in Refusals. That they
-- work "in its turn, with no word left" is one equation: the witness words are the witnesses' encodings, one after the other, and encodings
-- are a prefix code.
use Rattle.std.specs.Prelude.{◌≡◌, Bool, List, ◌∷◌, ◌++◌, ℕ, ◌+◌, ◌-◌, T, ℤ}
use Rattle.std.proofs.Math.ListN.{length}
use Rattle.rows.specs.Rows.{fits_constant}
use Rattle.words.specs.Answer.{safe}
use Rattle.programs.specs.ProgramForm.{ProgramForm}
use Rattle.programs.specs.Decode as decode
use Rattle.certificates.specs.Entailments.{Entailment, entailments}
use Rattle.certificates.specs.Witnesses.{Witness, shaped, fits, all_work, all_work_by, encode, encode_all}
use Rattle.certificates.specs.Judged.{Stopped}
use Rattle.certificates.specs.CertificateWords.{certificate, witness_words, rows_start, R}
use Rattle.certificates.specs.CertificateForm.{CertificateForm}
use Rattle.checker.specs.Check.{check}

module _ (program witness : List ℤ) where
  -- the list that document 01 gives, for the program and the certificate that the words are
  abbrev pub listed_entailments : List Entailment
  listed_entailments = entailments (decode.program program) (certificate program witness)

  -- where the witness words begin
  abbrev pub witness_start : ℕ
  witness_start = rows_start program witness + R program witness

  -- both have the form
  pub record Forms : Type 0 where
    pub program_form : ProgramForm program
    pub certificate_form : CertificateForm program witness

  -- "a program and a certificate are accepted when the check of the two sheets answers safe"
  abbrev pub Accepted : ℕ → ℕ → Type 0
  Accepted buffer count = check program witness buffer ≡ safe count

  -- both have the form, and each entailment has a witness that works, by a rule for constants, in its turn, with no word left
  pub record WitnessedBy (rule : ℕ → ℤ → ℤ → Bool) (count : ℕ) : Type 0 where
    pub forms : Forms
    pub counted : count ≡ length listed_entailments
    pub witnesses : List Witness
    pub work : T (all_work_by rule listed_entailments witnesses)
    pub spelled : witness_words program witness ≡ encode_all witnesses

  -- by the rule that holds
  abbrev pub Witnessed : ℕ → Type 0
  Witnessed count = WitnessedBy fits_constant count

  -- the judgement comes to an entailment, `here`: those listed before it have witnesses that work, in their turn, and `left` are the words
  -- after these; the place is "that entailment's first word"
  pub record Reached (place : ℕ) : Type 0 where
    pub earlier : List Entailment
    pub here : Entailment
    pub later : List Entailment
    pub listed : listed_entailments ≡ earlier ++ (here ∷ later)
    pub witnesses : List Witness
    pub work : T (all_work earlier witnesses)
    pub left : List ℤ
    pub spelled : witness_words program witness ≡ encode_all witnesses ++ left
    pub stands : place ≡ witness_start + length (encode_all witnesses)

  -- 6, "witness word missing or beyond its range": the words left begin with no witness that has its counts and ranges right
  pub record UnreadAt (place : ℕ) : Type 0 where
    pub reached : Reached place
    pub unread : (w : Witness) (rest : List ℤ) → T (shaped reached.here w) → ¬ (reached.left ≡ encode w ++ rest)

  -- 7, "weighted sum doesn't fit": they begin with one that has, and it doesn't fit
  pub record MisfitAt (place : ℕ) : Type 0 where
    pub reached : Reached place
    pub found : Witness
    pub rest : List ℤ
    pub shape : T (shaped reached.here found)
    pub reads : reached.left ≡ encode found ++ rest
    pub misfits : ¬ T (fits reached.here found)

  -- where both have the form, a judgement that stopped at an entailment is one that came to it
  module _ (f : Forms) (place : ℕ) where
    abbrev pub stopped : (r : Reached place) → Stopped listed_entailments (witness_words program witness) r.left
    stopped r = record { earlier = r.earlier; at = r.here; later = r.later; listed = r.listed; witnesses = r.witnesses; work = r.work; spelled = r.spelled }

  -- 8, "words left after the last entailment": all entailments have witnesses that work, and words are left
  pub record LeftAt (place : ℕ) : Type 0 where
    pub first : ℤ
    pub others : List ℤ
    pub witnesses : List Witness
    pub work : T (all_work listed_entailments witnesses)
    pub spelled : witness_words program witness ≡ encode_all witnesses ++ (first ∷ others)
    pub stands : place ≡ witness_start + length (encode_all witnesses)
