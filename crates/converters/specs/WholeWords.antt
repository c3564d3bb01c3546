-- All words of a certificate in the other form, part by part: how many they are, and that they stand at the buffer's front once the parts are stored one
-- behind the other. The counts and the witness words are those of the certificate itself.
use Rattle.std.specs.Prelude.{◌≡◌, refl, ℕ, ◌+◌, ◌-◌, ◌≤◌, ℤ, pos, take, drop}
use Rattle.std.proofs.Math.Path.{ap}
use Rattle.std.proofs.Common.{◌∙◌, arith}
use mathlib.Core.List.{List, [], ◌∷◌}
use Rattle.std.proofs.Math.ListN.{length, length-drop}
use Rattle.std.proofs.lemmas.List.Edits.{sets}
use Rattle.std.proofs.Math.Seq.{take_all}
use Rattle.words.specs.declared.StoredForm.{StoredForm}
use Rattle.words.specs.Writing.{buffer_after, written}
use Rattle.certificates.specs.Certificate.{Disjunct}
use Rattle.certificates.specs.CertificateWords.{mark_of, start_of, R, entries, witness_words}
use Rattle.certificates.specs.CertificateForm.{FormIn}
use Rattle.certificates.proofs.CertificateLookUps.{certificate_look_ups}
use Rattle.layouts.specs.Layout.{entries_code, layout}
use Rattle.layouts.proofs.LayoutLaws.{length_laid}
use Rattle.layouts.specs.OwnWords.{all_entries}
use Rattle.layouts.proofs.OwnWords.{length_all, entries_listed, own_counts}
use Rattle.conversions.specs.Conversions.{other_form, other_words}
use Rattle.program_readers.specs.declared.places.Sizes.{Sizes}
use Rattle.layout_writers.specs.Given.{Given}
use Rattle.layout_writers.specs.Given as given
use Rattle.layout_writers.specs.EntryRuns.{entries_left, places_left}
use Rattle.layout_writers.specs.Parts.{whole_laid}
use Rattle.converters.specs.OtherEntries.{entries_other, places_other}

module _ (program certificate : List ℤ) (form : StoredForm) (f : FormIn program certificate form) where
  abbrev all : List (List Disjunct)
  all = all_entries program certificate form

  abbrev count : ℕ
  count = entries program certificate

  abbrev ws : List ℤ
  ws = witness_words program certificate

  laid : other_words program certificate form ≡ layout (other_form form) all ws
  unfolding other_words
  laid = ap (λ (es : List (List Disjunct)). layout (other_form form) es ws) (entries_listed program certificate form)

  many : length all ≡ count
  many = length_all program certificate form

  pub other_length : length (other_words program certificate form) ≡ start_of count + length (entries_other program certificate form 0) + length ws
  unfolding entries_left
  other_length = ap length laid ∙ (length_laid (other_form form) all ws ∙ ap (λ (n : ℕ). start_of n + length (entries_code (other_form form) all) + length ws) many)

  -- the witness words, behind so many row words
  module _ {start size words : ℕ} (e : start ≡ start_of count) (r : size ≡ R program certificate) (w : words ≡ length certificate - (start + size)) where
    witness_length_lem : words ≡ length ws
    unfolding witness_words
    witness_length_lem = w ∙ omega (arith, length-drop (start_of count + R program certificate) certificate)

    witness_part : take words (drop (start + size) certificate) ≡ ws
    unfolding witness_words
    witness_part = take_all words (drop (start + size) certificate) (omega (arith, length-drop (start + size) certificate)) ∙ rw (e, r)

  -- ---- the parts, stored

  pub other_stored : (buffer : List ℤ) → length (other_words program certificate form) ≤ length buffer
      → sets (sets (sets (sets (sets buffer 0 (pos (mark_of (other_form form)) ∷ pos (length (entries_other program certificate form 0)) ∷ pos (length ws) ∷ [])) 3 (take count (drop 3 certificate)))
      (3 + count) (places_other program certificate form 0 0)) (start_of count) (entries_other program certificate form 0)) (start_of count + length (entries_other program certificate form 0)) ws
      ≡ buffer_after (written (other_words program certificate form)) buffer
  unfolding entries_left places_left
  other_stored buffer h = rw (own_counts program certificate form f, laid) (whole_laid (other_form form) all ws many buffer (omega (arith, ap length laid)))

  -- as the code stores them, one after the other
  pub all_stored : {one two three four : List ℤ} {m start size rows words : ℕ} (buffer : List ℤ) → length (other_words program certificate form) ≤ length buffer → m ≡ count → start ≡ start_of count
      → size ≡ length (entries_other program certificate form 0) → rows ≡ R program certificate → words ≡ length certificate - (start + rows)
      → one ≡ sets buffer 0 (pos (mark_of (other_form form)) ∷ pos size ∷ pos words ∷ []) → two ≡ sets one 3 (take m (drop 3 certificate))
      → three ≡ sets (sets two (3 + count) (places_other program certificate form 0 0)) (start_of count) (entries_other program certificate form 0)
      → four ≡ sets three (start + size) (take words (drop (start + rows) certificate)) → four ≡ buffer_after (written (other_words program certificate form)) buffer
  all_stored buffer h m e s r w one two three four =
      rw (four, three, two, one, witness_part e r w, witness_length_lem e r w, m, e, s) (other_stored buffer h)

-- where the row words begin, how many there are, and how many words come behind them, as the code has them
pub record PartsAt (program certificate : List ℤ) (start size : ℕ) : Type 0 where
  pub starts : start ≡ start_of (entries program certificate)
  pub read : size ≡ R program certificate
  pub inside : start + size ≤ length certificate
  pub rest : length certificate - (start + size) ≡ length (witness_words program certificate)

pub parts_at : {program certificate : List ℤ} {form : StoredForm} {sizes : Sizes} {rows : List ℤ} {start : ℕ} → Given program certificate form sizes rows
    → start ≡ start_of (sizes.statements + sizes.procedures + sizes.procedures) → PartsAt program certificate start (length rows)
parts_at {program} {certificate} {form} {start = start} g h =
    let e : start ≡ start_of (entries program certificate) = h ∙ ap start_of (given.many g) in
    let r = ap length g.row_words ∙ (certificate_look_ups program certificate form g.formed).rows_length in
    record { starts = e; read = r; inside = omega (arith, g.formed.header.total); rest = witness_length_lem program certificate form g.formed e r refl }
