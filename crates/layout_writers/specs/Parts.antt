-- All words of a certificate, part by part: they stand at the buffer's front once the parts are stored one behind the other.
use Rattle.std.specs.Prelude.{◌≡◌, ℕ, ◌+◌, ◌≤◌, pos}
use Rattle.std.proofs.Math.Path.{refl}
use Rattle.std.proofs.Common.{◌∙◌, arith}
use mathlib.Core.List.{List, [], ◌∷◌, ◌++◌}
use Rattle.std.proofs.Math.IntN.{ℤ}
use Rattle.std.proofs.Math.ListN.{length}
use Rattle.std.proofs.Math.Seq.{sets}
use Rattle.basics.proofs.Stores.{sets_append, sets_front}
use Rattle.words.specs.declared.StoredForm.{StoredForm}
use Rattle.words.specs.Writing.{buffer_after, written}
use Rattle.certificates.specs.Certificate.{Disjunct}
use Rattle.certificates.specs.CertificateWords.{mark_of, start_of}
use Rattle.layouts.specs.Layout.{entries_code, count_words, places_from, layout}
use Rattle.layouts.proofs.LayoutLaws.{length_counts, length_places}

-- one run behind another
behind : (xs ys l : List ℤ) (i at : ℕ) → at ≡ i + length xs → sets (sets l i xs) at ys ≡ sets l i (xs ++ ys)
behind xs ys l i at e = rw e (sets_append xs ys l i)

module _ (form : StoredForm) (es : List (List Disjunct)) (ws : List ℤ) {count : ℕ} (many : length es ≡ count) where
  abbrev header : List ℤ
  header = pos (mark_of form) ∷ pos (length (entries_code form es)) ∷ pos (length ws) ∷ []

  -- header, counts, places, row words, witness words
  pub whole_laid : (buffer : List ℤ) → length (layout form es ws) ≤ length buffer
      → sets (sets (sets (sets (sets buffer 0 header) 3 (count_words es)) (3 + count) (places_from form 0 es)) (start_of count) (entries_code form es)) (start_of count + length (entries_code form es)) ws
      ≡ buffer_after (written (layout form es ws)) buffer
  unfolding buffer_after layout
  whole_laid buffer h =
      let places : List ℤ = places_from form 0 es in
      let code : List ℤ = entries_code form es in
      let one : List ℤ = sets buffer 0 header in
      let two : List ℤ = sets one 3 (count_words es) in
      let three : List ℤ = sets two (3 + count) places in
      behind code ws three (start_of count) (start_of count + length code) refl
      ∙ (behind places (code ++ ws) two (3 + count) (start_of count) (omega (arith, length_places form es 0))
      ∙ (behind (count_words es) (places ++ (code ++ ws)) one 3 (3 + count) (omega (arith, length_counts es))
      ∙ (behind header (count_words es ++ (places ++ (code ++ ws))) buffer 0 3 refl ∙ sets_front (layout form es ws) buffer h)))
