-- A certificate's words with other witnesses: W and the witness words change, and every other word stays. So entries and rows are read as before: the
-- words have the form they had, for any program whose entries have the same columns, where they aren't too many, and are the same certificate.
use Rattle.std.specs.Prelude.{◌≡◌, ℤ, pos, set}
use mathlib.Core.List.{List, ◌++◌}
use Prim.Native.Nat.{ℕ, ◌+◌, ◌-◌, ◌≤◌}
use Rattle.std.proofs.Math.ListN.{length, take}
use Rattle.words.specs.declared.StoredForm.{StoredForm}
use Rattle.programs.specs.ProgramWords.{n, p}
use Rattle.certificates.specs.CertificateWords.{R, entries, rows_start, edge_columns}
use Rattle.certificates.specs.CertificateForm.{FormIn}
use Rattle.certificates.specs.Witnesses.{Witness, encode_all}

-- where W stands
abbrev pub witness_count_place : ℕ
witness_count_place = 2

-- all words before the witness words, with W for so many
unfoldable pub front_with : List ℤ → List ℤ → ℕ → List ℤ
front_with program witness count = set (take (rows_start program witness + R program witness) witness) witness_count_place (pos count)

-- and then the witnesses' words
unfoldable pub with_witnesses : List ℤ → List ℤ → List Witness → List ℤ
with_witnesses program witness ws = front_with program witness (length (encode_all ws)) ++ encode_all ws

-- another program has as many entries, with the same columns
pub record SameEntries (program' program : List ℤ) : Type 0 where
  pub vertices : n program' + p program' ≡ n program + p program
  pub procedures : p program' ≡ p program
  pub columns : (witness' witness : List ℤ) (i : ℕ) → 1 ≤ i → i ≤ entries program witness → edge_columns program' witness' i ≡ edge_columns program witness i

module _ (program witness : List ℤ) (form : StoredForm) (ws : List Witness) (f : FormIn program witness form) where
  abbrev pub witness' : List ℤ
  witness' = with_witnesses program witness ws

  abbrev pub start : ℕ
  start = rows_start program witness + R program witness

  abbrev pub front : List ℤ
  front = front_with program witness (length (encode_all ws))
