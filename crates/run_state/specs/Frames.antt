-- How open calls lie in the buffer of frames: ten numbers each, main's first. A frame has its procedure, the vertex at which the call below it
-- waits, and eight numbers for its locals. Where two buffers agree on their first numbers, they agree on the calls that lie there.
use Rattle.std.specs.Prelude.{◌≡◌, List, [], ◌∷◌, ◌++◌, ℕ, zero, suc, ◌+◌, ◌*◌, ◌-◌, ◌≤◌, ◌<◌, ℤ, pos, negsuc, length, get_or, take, drop}
use Rattle.std.proofs.Common.{sym, ap, ◌∙◌, zero-add, suc-add, get_or-take, take-take}
use Rattle.std.proofs.Math.Seq.{take-nil, drop-nil}
use Rattle.rows.specs.Columns.{zeros}
use Rattle.numbers.specs.Small.{Small}

abbrev pub frame_size : ℕ
frame_size = 10

abbrev pub frames_size : ℕ
frames_size = 640

-- the locals of open call i, from 0
abbrev pub locals_from : ℕ → ℕ
locals_from i = i * frame_size + 2

-- a number of a frame; one below 0 is read as 0
abbrev pub number_of : ℤ → ℕ
number_of (pos n) = n
number_of (negsuc n) = 0

abbrev pub procedure_in : List ℤ → ℕ → ℕ
procedure_in frames i = number_of (get_or frames (i * frame_size) (pos 0))

-- the vertex at which the call below open call i waits
abbrev pub caller_in : List ℤ → ℕ → ℕ
caller_in frames i = number_of (get_or frames (i * frame_size + 1) (pos 0))

-- so many numbers: these, and then 0
abbrev pub padded : ℕ → List ℤ → List ℤ
padded m l = l ++ zeros (m - length l)

-- ---- buffers that agree on their first m numbers

drop_front : (a n : ℕ) (l : List ℤ) → take n (drop a l) ≡ drop a (take (a + n) l)
drop_front zero n l = ap (λ (j : ℕ). take j l) (sym (zero-add n))
drop_front (suc a) n [] = take-nil n ∙ sym (ap (drop (suc a)) (take-nil (suc a + n)) ∙ drop-nil (suc a))
drop_front (suc a) n (x ∷ l) = drop_front a n l ∙ ap (λ (j : ℕ). drop (suc a) (take j (x ∷ l))) (sym (suc-add a n))

module _ (m : ℕ) (l l' : List ℤ) (e : take m l ≡ take m l') where
  pub number_kept : (j : ℕ) → j < m → get_or l j (pos 0) ≡ get_or l' j (pos 0)
  number_kept j h = sym (get_or-take m l j (pos 0) h) ∙ (ap (λ (x : List ℤ). get_or x j (pos 0)) e ∙ get_or-take m l' j (pos 0) h)

  pub part_kept : (a n : ℕ) → a + n ≤ m → take n (drop a l) ≡ take n (drop a l')
  part_kept a n h =
      drop_front a n l
      ∙ (ap (drop a) (sym (take-take (a + n) m l h) ∙ (ap (take (a + n)) e ∙ take-take (a + n) m l' h)) ∙ sym (drop_front a n l'))

-- ---- limits of a buffer's numbers

pub small_drop : (b n : ℕ) (l : List ℤ) → Small b l → Small b (drop n l)
unfolding Small
small_drop b zero l h = h
small_drop b (suc n) [] h = h
small_drop b (suc n) (x ∷ l) h = small_drop b n l h.1

pub small_append : (b : ℕ) (l l' : List ℤ) → Small b l → Small b l' → Small b (l ++ l')
unfolding Small
small_append b [] l' h h' = h'
small_append b (x ∷ l) l' h h' = (h.0, small_append b l l' h.1 h')
