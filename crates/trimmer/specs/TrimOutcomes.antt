-- The outcome of trimming, on each way that the code can end: the judge's refusal, then 26, else the words.
use Rattle.std.specs.Prelude.{◌≡◌, List, [], ◌∷◌, ◌++◌, ℕ, ◌+◌, ◌-◌, ◌≤◌, ℤ, pos, take, drop, Err}
use Rattle.std.proofs.Math.Path.{refl, ap}
use Rattle.std.proofs.Common.{sym, ◌∙◌, inl, inr, append_assoc, append-nil, arith, length-drop, drop_of_length-le, take_all, drop-drop}
use Rattle.std.proofs.Math.ListN.{length}
use Rattle.std.proofs.lemmas.List.Edits.{sets, sets-eq}
use Rattle.basics.proofs.Stores.{sets_front}
use Rattle.words.specs.declared.StoredForm.TheVariants.{Dense}
use Rattle.words.specs.Limits.{most_words}
use Rattle.words.specs.Words.{word}
use Rattle.words.proofs.Ranges.{number_most}
use Rattle.words.specs.Tests.{Refusal, refusal_at}
use Rattle.words.specs.Answer.{safe, trace, refused}
use Rattle.words.specs.Writing.{written, unwritten, buffer_after, Fits}
use Rattle.certificates.specs.Certificate.{Disjunct}
use Rattle.certificates.specs.CertificateWords.{stored_form, start_of, entries}
use Rattle.certificates.proofs.CertificateLookUps.{certificate_look_ups}
use Rattle.layouts.specs.Layout.{entries_code, count_words, places_from, layout}
use Rattle.layouts.proofs.LayoutLaws.{length_laid}
use Rattle.checker.specs.Check.{judged}
use Rattle.checker.proofs.Demand2.{accepted_judged, judged_untraced}
use Rattle.program_form.specs.Form.{program_form}
use Rattle.judge.specs.WholeLaws.{judged_refused}
use Rattle.trimmed_words.specs.Trim.{trimmed_words, trim}
use Rattle.trimmed_words.proofs.TrimRefusals.{trim_refused, trim_written}
use Rattle.program_readers.specs.declared.places.Sizes.{Sizes}
use Rattle.entailment_sources.specs.KeptBytes.{flags_in}
use Rattle.kept_rows.specs.KeptEntries.{trimmed_entries, left_length}
use Rattle.layout_writers.specs.Parts.{whole_laid}
use Rattle.trimmer.specs.LeastWords.{words_are}
use Rattle.kept_witnesses.specs.PassLaws.{words_left}
use Rattle.trimmer.specs.Selected.{Selected, parts_in}

module _ (program certificate : List ℤ) (buffer : ℕ) where
  pub judge_refused : (r : Refusal) → judged program certificate ≡ refused r → trim program certificate buffer ≡ unwritten r
  judge_refused r e = (trim_refused program certificate buffer 0 r).1 (inl e)

  -- it answers no trace
  pub judge_traced : (steps : ℕ) → judged program certificate ≡ trace steps → trim program certificate buffer ≡ unwritten (refusal_at 4 0)
  judge_traced steps e = absurd (judged_untraced program certificate steps e)

  -- what it refuses of the program
  pub program_refused : (r : Refusal) → program_form program ≡ Err r → trim program certificate buffer ≡ unwritten r
  program_refused r e = judge_refused r (sym (judged_refused program certificate r e))

  module _ (count : ℕ) (e : judged program certificate ≡ safe count) where
    pub unfit : ¬ Fits (trimmed_words program certificate) buffer → trim program certificate buffer ≡ unwritten (refusal_at 26 0)
    unfit n = (trim_refused program certificate buffer 0 (refusal_at 26 0)).1 (inr (count, (accepted_judged program certificate 0 count).1 e, (refl, n)))

    pub all_written : Fits (trimmed_words program certificate) buffer → trim program certificate buffer ≡ written (trimmed_words program certificate)
    all_written x = (trim_written program certificate buffer 0 (trimmed_words program certificate)).1 (record { count = count; accepted = (accepted_judged program certificate 0 count).1 e; enough = x }, refl)

-- ---- the words, part by part

module _ {program certificate : List ℤ} {sizes : Sizes} {rows w : List ℤ} {kept : List ℕ} (s : Selected program certificate sizes rows w kept) where
  abbrev es : List (List Disjunct)
  es = trimmed_entries program certificate sizes kept

  many : length es ≡ entries program certificate
  many = left_length program certificate sizes kept s.known.given.header

  laid : trimmed_words program certificate ≡ layout Dense es (words_left program certificate sizes kept)
  laid = words_are program certificate (flags_in sizes kept) s.least

  pub trimmed_length : length (trimmed_words program certificate) ≡ start_of (entries program certificate) + length (entries_code Dense es) + length (words_left program certificate sizes kept)
  trimmed_length = ap length laid ∙ (length_laid Dense es (words_left program certificate sizes kept) ∙ ap (λ (n : ℕ). start_of n + length (entries_code Dense es) + length (words_left program certificate sizes kept)) many)

  -- the header and the words behind it
  pub whole_stored : (buffer : List ℤ) {size words : ℕ} → length (trimmed_words program certificate) ≤ length buffer → size ≡ length (entries_code Dense es) → words ≡ length (words_left program certificate sizes kept)
      → parts_in program certificate sizes kept (sets buffer 0 (pos 1 ∷ pos size ∷ pos words ∷ [])) ≡ buffer_after (written (trimmed_words program certificate)) buffer
  unfolding parts_in
  whole_stored buffer h a b = rw (a, b, laid) (whole_laid Dense es (words_left program certificate sizes kept) many buffer (omega (arith, ap length laid)))

  -- the parts, as the code stores them
  pub parts_stored : {one two : List ℤ} {end : ℕ} (buffer : List ℤ) → one ≡ sets buffer 3 (count_words es)
      → two ≡ sets (sets one (3 + entries program certificate) (places_from Dense 0 es)) (start_of (entries program certificate)) (entries_code Dense es)
      → end ≡ start_of (entries program certificate) + length (entries_code Dense es) → sets two end (words_left program certificate sizes kept) ≡ parts_in program certificate sizes kept buffer
  unfolding parts_in
  parts_stored buffer a b e = rw (b, a, e) refl

  pub words_few : length w ≤ most_words
  words_few =
      let l = (certificate_look_ups program certificate (stored_form certificate) s.known.given.formed).witness_length in
      omega (arith, ap length s.known.witnesses, l, number_most most_words (word certificate 2))

-- ---- words written at the front of what a buffer has from a place on

pub part_stored : (buffer words after : List ℤ) (end : ℕ) → end + length words ≤ length buffer → after ≡ sets (take (length buffer - end) (drop end buffer)) 0 words
    → take end buffer ++ (after ++ drop (length buffer - end) (drop end buffer)) ≡ sets buffer end words
part_stored buffer words after end h e =
    let rest : List ℤ = drop end buffer in
    let long = length-drop end buffer in
    let whole : take (length buffer - end) rest ≡ rest = take_all (length buffer - end) rest (omega (arith, long)) in
    let few : length rest ≤ length buffer - end = omega (arith, long) in
    let none : drop (length buffer - end) rest ≡ [] = drop_of_length-le rest few in
    let front : after ≡ words ++ drop (end + length words) buffer = e ∙ (ap (λ (l : List ℤ). sets l 0 words) whole ∙ (sets_front words rest (omega (arith, long)) ∙ ap (λ (l : List ℤ). words ++ l) (drop-drop (length words) end buffer))) in
    rw (none, append-nil after, front) (sym (append_assoc (take end buffer) words (drop (end + length words) buffer)) ∙ sym (sets-eq words buffer end h))
