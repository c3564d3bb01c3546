-- What making a choice definite promises, document 02, CR 13: "if a certificate is accepted, and one `?` branch whose row shares no words gets a condition
-- with <, >, ≤ or ≥ inside the limits, then the certificate with one multiplier 0 put in .. W raised to match, is accepted with the same count, provided it
-- stays within 1,000,000 words". It is about two answers of `check`, with any result buffers; all that is used of them is its contract. The claims are the
-- theorems of checker/ChoiceMadeDefinite.
use Rattle.std.specs.Prelude.{◌≡◌, List, ℕ, ◌+◌, ◌≤◌, ◌<◌, ℤ, pos, length}
use Rattle.basics.specs.Lists.{WithCopies}
use Rattle.rows.specs.Rows.{Row}
use Rattle.words.specs.Limits.{most_words}
use Rattle.words.specs.Words.{word}
use Rattle.programs.specs.Program.{compare}
use Rattle.programs.specs.Decode as decode
use Rattle.programs.specs.MadeDefinite.{MadeDefinite}
use Rattle.programs.specs.DefiniteWords.{definite_program, GetsCondition}
use Rattle.programs.proofs.DefiniteWords.{made_definite}
use Rattle.certificates.specs.CertificateWords.{W, witness_words}
use Rattle.certificates.specs.OtherWitnesses.{witness_count_place}
use Rattle.checker.specs.Demand2.{witness_start}
use Rattle.checker.proofs.ChoiceMadeDefinite as definite
use Rattle.checker.specs.ChoiceMadeDefinite.{definite_certificate, zeros_put_in}
use Rattle.answers.specs.declared.Answer.{Answer}
use Rattle.answers.specs.declared.Answer.TheVariants.{Safe}
use Rattle.leukarion.specs.Promises.{Checked, answers_as, safe_answered}

-- "<, >, ≤ or ≥" are the operators 1 to 4
pub choice_made_definite : {program certificate buffer after buffer' after' : List ℤ} {r r' : Answer} {count v op : ℕ} {e : Row}
    → Checked program certificate buffer r after → r ≡ Safe count
    → GetsCondition program v op e → op ≤ 4 → length (definite_certificate program certificate v) ≤ most_words
    → Checked (definite_program program v op e) (definite_certificate program certificate v) buffer' r' after' → r' ≡ Safe count
choice_made_definite {program} {certificate} {buffer} {buffer' = buffer'} {count = count} {v} {op} {e} c safe g few most c' =
    (answers_as c' (Safe count)).1 (definite.choice_made_definite program certificate v op e (length buffer) (length buffer') count ((answers_as c (Safe count)).0 safe) g few most)

-- the condition is put in: the new words are the program with it in place of the `?` at vertex v, and nothing else of the program differs
pub condition_put_in : {program certificate buffer after : List ℤ} {r : Answer} {count v op : ℕ} {e : Row}
    → Checked program certificate buffer r after → r ≡ Safe count → GetsCondition program v op e
    → MadeDefinite (decode.program program) (decode.program (definite_program program v op e)) v (compare (decode.comparison op) e)
condition_put_in {program} {count = count} {v} {op} {e} c safe g = made_definite program v op e ((safe_answered c count).0 safe).forms.program_form g

-- what is put in for vertex v
module _ {program certificate buffer after : List ℤ} {r : Answer} {count : ℕ} (c : Checked program certificate buffer r after) (safe : r ≡ Safe count) (v : ℕ) where
  -- the witness words are those of before with so many zeros put in
  pub zeros_put_in_lem : WithCopies (pos 0) (zeros_put_in program certificate v) (witness_words program certificate) (witness_words program (definite_certificate program certificate v))
  zeros_put_in_lem = definite.zeros_put_in_lem program certificate v (length buffer) count ((answers_as c (Safe count)).0 safe)

  -- there are as many words more, and "W raised to match"
  pub words_raised : (length (definite_certificate program certificate v) ≡ length certificate + zeros_put_in program certificate v)
      × (word (definite_certificate program certificate v) witness_count_place ≡ pos (W program certificate + zeros_put_in program certificate v))
  words_raised = definite.words_raised program certificate v (length buffer) count ((answers_as c (Safe count)).0 safe)

  -- every word before the witness words but W is as it was
  pub words_kept : (i : ℕ) → i < witness_start program certificate → ¬ (i ≡ witness_count_place) → word (definite_certificate program certificate v) i ≡ word certificate i
  words_kept = definite.words_kept program certificate v (length buffer) count ((answers_as c (Safe count)).0 safe)
