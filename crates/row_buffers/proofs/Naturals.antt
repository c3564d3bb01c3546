-- No number of a list is negative: each is its own size.
use Rattle.std.specs.Prelude.{◌≡◌, refl, List, [], ◌∷◌, map, ℕ, zero, suc, ◌+◌, ◌<◌, ℤ, pos, nat_abs, get_or, take, drop}
use Rattle.std.proofs.Common.{get_or-take, get_or-drop}
use Rattle.words.specs.Words.{word}
use Rattle.row_buffers.specs.Naturals.{Natural}

natural_at_lem : (l : List ℤ) → Natural l → (i : ℕ) → get_or l i (pos 0) ≡ pos (nat_abs (get_or l i (pos 0)))
unfolding Natural
natural_at_lem [] h i = refl
natural_at_lem (x ∷ l) h zero = h.0
natural_at_lem (x ∷ l) h (suc i) = natural_at_lem l h.1 i

pub naturals : (ms : List ℕ) → Natural (map pos ms)
unfolding Natural
naturals [] = tt
naturals (m ∷ ms) = (refl, naturals ms)

pub weight_natural : (words : List ℤ) (from n j : ℕ) → Natural (take n (drop from words)) → j < n → word words (from + j) ≡ pos (nat_abs (word words (from + j)))
weight_natural words from n j hw h = rw (get_or-take n (drop from words) j (pos 0) h, get_or-drop from words j (pos 0)) at (natural_at_lem (take n (drop from words)) hw j)
