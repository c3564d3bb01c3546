-- A certificate's words, laid out in order: entries unshared, each at the next free place, no row word left. The same layout serves both forms.
use Rattle.std.specs.Prelude.{ℕ, ◌+◌, ℤ, length, take}
use mathlib.Core.List.{List, [], ◌∷◌, ◌++◌, map}
use Rattle.std.proofs.Math.IntN.{pos}
use Rattle.words.specs.declared.StoredForm.{StoredForm}
use Rattle.certificates.specs.Certificate.{Disjunct, Certificate}
use Rattle.certificates.specs.CertificateWords.{mark_of}
use Rattle.layouts.specs.DisjunctCode.{disjuncts_code}

-- the entries of a certificate: "for vertices 1..n+p and then the p summaries"
unfoldable pub entries_of : Certificate → List (List Disjunct)
entries_of c = c.paths ++ c.summaries

-- the row words: "entries stand in order, unshared, no row word left"
unfoldable pub entries_code : StoredForm → List (List Disjunct) → List ℤ
entries_code form [] = []
entries_code form (e ∷ es) = disjuncts_code form e ++ entries_code form es

-- their disjunct counts
unfoldable pub count_words : List (List Disjunct) → List ℤ
count_words es = map (λ (e : List Disjunct). pos (length e)) es

-- the places, where the first is `at`
unfoldable pub places_from : StoredForm → ℕ → List (List Disjunct) → List ℤ
places_from form at [] = []
places_from form at (e ∷ es) = pos at ∷ places_from form (at + length (disjuncts_code form e)) es

-- all words: document 01's "1, R, W; two parallel arrays of n+2p words, disjunct count (0..8) and place, ..; R row words; W witness words"
unfoldable pub layout : StoredForm → List (List Disjunct) → List ℤ → List ℤ
layout form es ws = pos (mark_of form) ∷ pos (length (entries_code form es)) ∷ pos (length ws) ∷ (count_words es ++ (places_from form 0 es ++ (entries_code form es ++ ws)))

-- where entry j, from 0, begins
abbrev pub begin_of : StoredForm → List (List Disjunct) → ℕ → ℕ
begin_of form es j = length (entries_code form (take j es))

-- ---- the words, part by part

module _ (form : StoredForm) (es : List (List Disjunct)) (ws : List ℤ) where
  abbrev pub laid : List ℤ
  laid = layout form es ws
