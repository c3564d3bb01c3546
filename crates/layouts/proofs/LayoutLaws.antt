-- A certificate's words, laid out in order: entries unshared, each at the next free place, no row word left. The same layout serves both forms.
use Rattle.std.specs.Prelude.{◌≡◌, ℕ, zero, suc, ◌+◌, ◌≤◌, ◌<◌, ℤ, length, get_or, take, drop}
use Rattle.std.proofs.Math.Path.{refl, sym}
use Rattle.std.proofs.Common.{ap, ◌∙◌, add-zero, arith, drop-drop, drop_at, get_or-drop}
use mathlib.Core.List.{List, [], ◌∷◌, ◌++◌}
use Rattle.std.proofs.Math.IntN.{pos}
use Rattle.std.proofs.Math.ListN.{length-append, get_or-append, get_or-map}
use Rattle.std.proofs.lemmas.List.{length-map}
use Rattle.std.proofs.Math.Seq.{drop-append-add}
use Rattle.words.specs.declared.StoredForm.{StoredForm}
use Rattle.words.specs.Words.{word}
use Rattle.certificates.specs.Certificate.{Disjunct}
use Rattle.certificates.specs.CertificateWords.{mark_of, start_of}
use Rattle.layouts.specs.DisjunctCode.{disjuncts_code}
use Rattle.layouts.specs.Layout.{begin_of, count_words, entries_code, laid, layout, places_from}

-- ---- the parts

pub entry_here : (form : StoredForm) (es : List (List Disjunct)) (j : ℕ) → j < length es
    → drop (begin_of form es j) (entries_code form es) ≡ disjuncts_code form (get_or es j []) ++ entries_code form (drop (suc j) es)
unfolding entries_code
entry_here form [] j h = absurd (omega arith)
entry_here form (e ∷ es) zero h = refl
entry_here form (e ∷ es) (suc j) h =
    ap (λ (n : ℕ). drop n (disjuncts_code form e ++ entries_code form es)) (length-append (disjuncts_code form e) (entries_code form (take j es)))
    ∙ (drop-append-add (disjuncts_code form e) (entries_code form es) (begin_of form es j) ∙ entry_here form es j (omega arith))

pub next_begin : (form : StoredForm) (es : List (List Disjunct)) (j : ℕ) → j < length es → begin_of form es (suc j) ≡ begin_of form es j + length (disjuncts_code form (get_or es j []))
unfolding entries_code
next_begin form [] j h = absurd (omega arith)
next_begin form (e ∷ es) zero h = length-append (disjuncts_code form e) [] ∙ omega arith
next_begin form (e ∷ es) (suc j) h =
    length-append (disjuncts_code form e) (entries_code form (take (suc j) es))
    ∙ omega (arith, next_begin form es j (omega arith), length-append (disjuncts_code form e) (entries_code form (take j es)))

pub last_begin : (form : StoredForm) (es : List (List Disjunct)) → begin_of form es (length es) ≡ length (entries_code form es)
unfolding entries_code
last_begin form [] = refl
last_begin form (e ∷ es) =
    length-append (disjuncts_code form e) (entries_code form (take (length es) es)) ∙ omega (arith, last_begin form es, length-append (disjuncts_code form e) (entries_code form es))

pub begin_inside : (form : StoredForm) (es : List (List Disjunct)) (j : ℕ) → begin_of form es j ≤ length (entries_code form es)
unfolding entries_code
begin_inside form [] zero = omega arith
begin_inside form [] (suc j) = omega arith
begin_inside form (e ∷ es) zero = omega arith
begin_inside form (e ∷ es) (suc j) =
    omega (arith, begin_inside form es j, length-append (disjuncts_code form e) (entries_code form (take j es)), length-append (disjuncts_code form e) (entries_code form es))

pub place_at : (form : StoredForm) (es : List (List Disjunct)) (at j : ℕ) → j < length es → get_or (places_from form at es) j (pos 0) ≡ pos (at + begin_of form es j)
unfolding places_from entries_code
place_at form [] at j h = absurd (omega arith)
place_at form (e ∷ es) at zero h = ap pos (sym (add-zero at))
place_at form (e ∷ es) at (suc j) h =
    place_at form es (at + length (disjuncts_code form e)) j (omega arith) ∙ ap pos (omega (arith, length-append (disjuncts_code form e) (entries_code form (take j es))))

pub length_places : (form : StoredForm) (es : List (List Disjunct)) (at : ℕ) → length (places_from form at es) ≡ length es
unfolding places_from
length_places form [] at = refl
length_places form (e ∷ es) at = ap suc (length_places form es (at + length (disjuncts_code form e)))

pub length_counts : (es : List (List Disjunct)) → length (count_words es) ≡ length es
unfolding count_words
length_counts es = length-map es (λ (e : List Disjunct). pos (length e))

-- ---- the words, part by part

module _ (form : StoredForm) (es : List (List Disjunct)) (ws : List ℤ) where
  pub mark_word : word (laid form es ws) 0 ≡ pos (mark_of form)
  unfolding layout
  mark_word = refl

  pub rows_word : word (laid form es ws) 1 ≡ pos (length (entries_code form es))
  unfolding layout
  rows_word = refl

  pub witness_word : word (laid form es ws) 2 ≡ pos (length ws)
  unfolding layout
  witness_word = refl

  behind_header : drop 3 (laid form es ws) ≡ count_words es ++ (places_from form 0 es ++ (entries_code form es ++ ws))
  unfolding layout
  behind_header = refl

  behind_counts : drop (3 + length es) (laid form es ws) ≡ places_from form 0 es ++ (entries_code form es ++ ws)
  behind_counts = sym (drop-drop (length es) 3 (laid form es ws)) ∙ (ap (drop (length es)) behind_header ∙ drop_at (count_words es) (places_from form 0 es ++ (entries_code form es ++ ws)) (length es) (length_counts es))

  pub behind_places : drop (start_of (length es)) (laid form es ws) ≡ entries_code form es ++ ws
  behind_places =
      sym (drop-drop (length es) (3 + length es) (laid form es ws)) ∙ (ap (drop (length es)) behind_counts ∙ drop_at (places_from form 0 es) (entries_code form es ++ ws) (length es) (length_places form es 0))

  pub behind_rows : drop (start_of (length es) + length (entries_code form es)) (laid form es ws) ≡ ws
  behind_rows =
      sym (drop-drop (length (entries_code form es)) (start_of (length es)) (laid form es ws))
      ∙ (ap (drop (length (entries_code form es))) behind_places ∙ drop_at (entries_code form es) ws (length (entries_code form es)) refl)

  pub count_word_lem : (j : ℕ) → j < length es → word (laid form es ws) (3 + j) ≡ pos (length (get_or es j []))
  unfolding count_words
  count_word_lem j h =
      sym (get_or-drop 3 (laid form es ws) j (pos 0))
      ∙ (ap (λ (l : List ℤ). word l j) behind_header
      ∙ (get_or-append (count_words es) (places_from form 0 es ++ (entries_code form es ++ ws)) (pos 0) j (omega (arith, length_counts es))
      ∙ get_or-map (λ (e : List Disjunct). pos (length e)) es j []))

  pub place_word_lem : (j : ℕ) → j < length es → word (laid form es ws) (3 + length es + j) ≡ pos (begin_of form es j)
  place_word_lem j h =
      sym (get_or-drop (3 + length es) (laid form es ws) j (pos 0))
      ∙ (ap (λ (l : List ℤ). word l j) behind_counts
      ∙ (get_or-append (places_from form 0 es) (entries_code form es ++ ws) (pos 0) j (omega (arith, length_places form es 0)) ∙ (place_at form es 0 j h ∙ ap pos (omega arith))))

  pub length_laid : length (laid form es ws) ≡ start_of (length es) + length (entries_code form es) + length ws
  unfolding layout
  length_laid =
      omega (arith, length-append (count_words es) (places_from form 0 es ++ (entries_code form es ++ ws)), length-append (places_from form 0 es) (entries_code form es ++ ws), length-append (entries_code form es) ws, length_counts es, length_places form es 0)
