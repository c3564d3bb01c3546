-- A choice made definite, document 02, CR 13: "if a certificate is accepted, and one `?` branch whose row shares no words gets a condition with <, >, ≤ or
-- ≥ inside the limits, then the certificate with one multiplier 0 put in for the guard row right after the disjunct's, in each list of multipliers of that
-- branch's entailments and each leaf of their trees, W raised to match, is accepted with the same count, provided it stays within 1,000,000 words". The
-- certificate is of either kind, and stays of it. The witnesses are those of before with zeros put in, and work for the program with the condition.
use Rattle.std.specs.Prelude.{List, ℕ, ℤ}
use Rattle.rows.specs.Rows.{Row}
use Rattle.programs.specs.Decode as decode
use Rattle.programs.specs.DefiniteWords.{definite_program, GetsCondition}
use Rattle.certificates.specs.Witnesses.{Witness}
use Rattle.certificates.specs.DefiniteWitnesses.{definite_witnesses, zeros_in}
use Rattle.certificates.specs.CertificateForm.{CertificateForm}
use Rattle.certificates.specs.OtherWitnesses.{with_witnesses}
use Rattle.checker.specs.ListedWitnesses.{listed_sources, listed_witnesses}
use Rattle.checker.specs.Demand2.{Witnessed}

module _ (program witness : List ℤ) (v : ℕ) where
  -- the witnesses that the words are, with zeros put in for vertex v
  abbrev pub new_witnesses : List Witness
  new_witnesses = definite_witnesses v (listed_sources program witness) (listed_witnesses program witness)

  -- the certificate's words with them, "W raised to match"
  unfoldable pub definite_certificate : List ℤ
  definite_certificate = with_witnesses program witness new_witnesses

  -- how many zeros are put in
  unfoldable pub zeros_put_in : ℕ
  zeros_put_in = zeros_in v (listed_sources program witness) (listed_witnesses program witness)

  -- ---- of an accepted certificate

  module _ (count : ℕ) (a : Witnessed program witness count) where
    abbrev pub form_before : CertificateForm program witness
    form_before = a.forms.certificate_form

    -- the branch gets a condition
    module _ (op : ℕ) (e : Row) (g : GetsCondition program v op e) where
      abbrev pub program' : List ℤ
      program' = definite_program program v op e
