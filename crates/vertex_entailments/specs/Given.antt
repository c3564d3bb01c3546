-- What is known once the tests of the form have passed, and the entailments that are asked for.
use Rattle.std.specs.Prelude.{◌≡◌, List, [], ℕ, ◌+◌, ℤ, drop}
use Rattle.words.specs.declared.StoredForm.{StoredForm}
use Rattle.words.specs.StoredRows.{rows_in}
use Rattle.programs.specs.Program.{statement_at, owner}
use Rattle.programs.specs.ProgramWords.{k}
use Rattle.programs.specs.ProgramForm.{ProgramForm}
use Rattle.programs.specs.Decode as decode
use Rattle.certificates.specs.Certificate.{Disjunct}
use Rattle.certificates.specs.CertificateWords as words
use Rattle.certificates.specs.CertificateForm.{CertificateForm}
use Rattle.certificates.specs.Entailments as certificates
use Rattle.certificates.specs.Entailments.{from_disjunct}
use Rattle.program_readers.specs.Sizes.{Header}
use Rattle.program_readers.specs.declared.places.Sizes.{Sizes}
use Rattle.entailments.specs.declared.Entailment.{Entailment}
use Rattle.entailments.specs.Meaning.{meaning_of}
use Rattle.entailments.specs.Forms.{EntailmentForm}

pub record Given (program witness : List ℤ) (sizes : Sizes) (rows : List ℤ) : Type 0 where
  pub header : Header program sizes
  pub program_form : ProgramForm program
  pub certificate_form : CertificateForm program witness
  pub row_words : rows ≡ words.row_words program witness

-- the entailments of a disjunct of a vertex
unfoldable pub cases_of : List ℤ → List ℤ → ℕ → Disjunct → List certificates.Entailment
cases_of program witness v d = from_disjunct (decode.program program) (words.certificate program witness) (owner (decode.program program) v) (statement_at (decode.program program) v) d

-- n rows of a vertex's columns from a place of the row words on, of either form
abbrev pub disjunct_at : StoredForm → List ℤ → List ℤ → ℕ → ℕ → ℕ → Disjunct
disjunct_at form program rows v from n = rows_in form (k program v + k program v) n (drop from rows)

abbrev pub no_entailment : certificates.Entailment
no_entailment = record { columns = 0; premises = []; image = []; targets = [] }

-- a value stands for an entailment, and is a good one
pub record StandsFor (program rows : List ℤ) (e : Entailment) (x : certificates.Entailment) : Type 0 where
  pub is : meaning_of program rows e ≡ x
  pub form : EntailmentForm program rows e
