-- What is known once a certificate is accepted: the forms, these are its row words and its witness words, and the words are spelled by witnesses that
-- work. And once its least set is found.
use Rattle.std.specs.Prelude.{◌≡◌, List, ℕ, ◌+◌, ℤ, length}
use Rattle.std.proofs.lemmas.List.Edits.{sets}
use Rattle.words.specs.declared.StoredForm.TheVariants.{Dense}
use Rattle.words.specs.Answer.{safe}
use Rattle.programs.specs.ProgramForm.{ProgramForm}
use Rattle.certificates.specs.CertificateWords.{stored_form, start_of, entries, row_words, witness_words}
use Rattle.certificates.specs.CertificateForm.{CertificateForm}
use Rattle.layouts.specs.Layout.{entries_code, count_words, places_from}
use Rattle.trimming.specs.Kept.{Exactly}
use Rattle.checker.specs.Check.{judged}
use Rattle.checker.proofs.Demand2.{accepted_judged, safe_answered}
use Rattle.checker.specs.ListedWitnesses.{AllListed}
use Rattle.checker.proofs.ListedWitnesses.{all_listed}
use Rattle.trimmed_words.specs.Trim.{listed_uses}
use Rattle.program_readers.specs.Sizes.{Header}
use Rattle.program_readers.specs.declared.places.Sizes.{Sizes}
use Rattle.entailment_sources.specs.KeptBytes.{most_bytes, flags_in}
use Rattle.vertex_entailments.specs.Given as entailments
use Rattle.layout_writers.specs.Given.{Given}
use Rattle.kept_rows.specs.KeptEntries.{trimmed_entries}
use Rattle.kept_witnesses.specs.PassLaws.{words_left}

pub record Known (program certificate : List ℤ) (sizes : Sizes) (rows w : List ℤ) : Type 0 where
  pub given : Given program certificate (stored_form certificate) sizes rows
  pub program_form : ProgramForm program
  pub witnesses : w ≡ witness_words program certificate
  pub all : AllListed program certificate
  pub count : ℕ
  pub accepted : judged program certificate ≡ safe count

-- as what reads entailments asks for it
pub entailments_given : {program certificate : List ℤ} {sizes : Sizes} {rows w : List ℤ} → Known program certificate sizes rows w → entailments.Given program certificate sizes rows
entailments_given k = record { header = k.given.header; program_form = k.program_form; certificate_form = k.given.formed; row_words = k.given.row_words }

-- the judge accepts
pub record Accepts (program certificate : List ℤ) : Type 0 where
  pub count : ℕ
  pub safely : judged program certificate ≡ safe count

pub certificate_formed : {program certificate : List ℤ} → Accepts program certificate → CertificateForm program certificate
certificate_formed {program} {certificate} x = ((safe_answered program certificate 0 x.count).0 ((accepted_judged program certificate 0 x.count).1 x.safely)).forms.certificate_form

pub known : {program certificate : List ℤ} {sizes : Sizes} {rows w : List ℤ} → Accepts program certificate → Header program sizes → rows ≡ row_words program certificate
    → w ≡ witness_words program certificate → Known program certificate sizes rows w
known {program} {certificate} x h r e =
    let a = (safe_answered program certificate 0 x.count).0 ((accepted_judged program certificate 0 x.count).1 x.safely) in
    record {
      given = record { header = h; formed = a.forms.certificate_form; row_words = r };
      program_form = a.forms.program_form;
      witnesses = e;
      all = all_listed program certificate x.count a;
      count = x.count;
      accepted = x.safely;
    }

-- and the bytes are the least set
pub record Selected (program certificate : List ℤ) (sizes : Sizes) (rows w : List ℤ) (kept : List ℕ) : Type 0 where
  pub known : Known program certificate sizes rows w
  pub bytes : length kept ≡ most_bytes
  pub least : Exactly (listed_uses program certificate) (flags_in sizes kept)

-- the words behind the header, stored: counts, places, row words, witness words
unfoldable pub parts_in : List ℤ → List ℤ → Sizes → List ℕ → List ℤ → List ℤ
parts_in program certificate sizes kept buffer =
    let es = trimmed_entries program certificate sizes kept in
    let m = entries program certificate in
    sets (sets (sets (sets buffer 3 (count_words es)) (3 + m) (places_from Dense 0 es)) (start_of m) (entries_code Dense es)) (start_of m + length (entries_code Dense es)) (words_left program certificate sizes kept)
