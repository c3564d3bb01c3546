-- What a witness's first word says of the targets: it is missing or beyond their number, or it is 0 or names the disjunct that stands at the
-- place that is found, because there are as many targets as their count says, one after the other.
use mathlib.Core.Path.{◌≡◌}
use mathlib.Core.List.{List}
use mathlib.Core.Option.{some}
use Prim.Native.Nat.{ℕ, ◌+◌, ◌-◌, ◌≤◌}
use native.Mathlib.Omega.{arith}
use lib.IntN.{ℤ}
use lib.ListN.{length, get_elem?, drop}
use Rattle.std.specs.Prelude.{Some, None}
use Rattle.words.specs.declared.StoredForm.{StoredForm}
use Rattle.words.specs.StoredRows.{rows_in}
use Rattle.entailment_judge.specs.WitnessReader.{word_in}
use Rattle.entailment_judge.specs.declared.reader.ReadNumber.{ReadNumber}
use Rattle.certificates.specs.CertificateWords.{row_count, disjuncts_of}
use Rattle.certificates.specs.CertificateForm.{DisjunctsForm}
use Rattle.certificates.specs.CertificateWords.{disjuncts_end}
use Rattle.certificates.proofs.Entries.{length_disjuncts_of}
use Rattle.certificates.specs.Judgement.{Read, got, missing, read_within}
use Rattle.entailment_judge.proofs.Words.{found, not_found}
use Rattle.certificate_readers.specs.Disjuncts.{chosen}

module _ (form : StoredForm) (rows : List ℤ) (m place count : ℕ) where
  -- disjunct j, counted from 1, stands at p
  pub disjunct_at_lem : (j p : ℕ) → DisjunctsForm form rows m count place → 1 ≤ j → j ≤ count → p ≡ disjuncts_end form rows m (j - 1) place
      → get_elem? (disjuncts_of form m count (drop place rows)) (j - 1) ≡ some (rows_in form m (row_count rows p) (drop (p + 1) rows))
  disjunct_at_lem j p t o k q = rw q (chosen form rows m count place (j - 1) t (omega arith)).is

  module _ (w : List ℤ) (at : ℕ) where
    counted : (x : Read ℕ) → read_within 0 count (drop at w) ≡ x → read_within 0 (length (disjuncts_of form m count (drop place rows))) (drop at w) ≡ x
    counted x e = rw (length_disjuncts_of form m count (drop place rows)) e

    pub no_word : word_in w at 0 count ≡ None → read_within 0 (length (disjuncts_of form m count (drop place rows))) (drop at w) ≡ missing
    no_word e = counted missing (not_found w at 0 count e)

    pub is_word : {x : ReadNumber} → word_in w at 0 count ≡ Some x → read_within 0 (length (disjuncts_of form m count (drop place rows))) (drop at w) ≡ got x.number (drop x.at w)
    is_word {x} e = counted (got x.number (drop x.at w)) (found w at 0 count e).read
