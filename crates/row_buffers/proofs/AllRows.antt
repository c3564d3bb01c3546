-- A property of each row of a list.
use Rattle.std.specs.Prelude.{List, ◌++◌, ℕ, zero, suc, ◌*◌, ◌<◌, ℤ, get_or, drop}
use Rattle.std.proofs.Common.{arith}
use Rattle.rows.specs.Rows.{Row, substitute, substitute_all}
use Rattle.words.specs.RowWords.{rows_by}
use Rattle.words.proofs.RowLaws.{drop_rows, no_rows}
use Rattle.row_buffers.specs.AllRows.{AllRows, none, one}

module _ {P : Row → Type 0} where
  pub all_append : {rs ss : List Row} → AllRows P rs → AllRows P ss → AllRows P (rs ++ ss)
  all_append none k = k
  all_append (one h hs) k = one h (all_append hs k)

  pub all_at : (d : Row) {rs : List Row} → P d → AllRows P rs → (j : ℕ) → P (get_or rs j d)
  all_at d k none j = k
  all_at d k (one h hs) zero = h
  all_at d k (one h hs) (suc j) = all_at d k hs j

  pub all_weaken : {Q : Row → Type 0} {rs : List Row} → ((r : Row) → P r → Q r) → AllRows P rs → AllRows Q rs
  all_weaken f none = none
  all_weaken f (one {r} h hs) = one (f r h) (all_weaken f hs)

  pub all_substituted : {Q : Row → Type 0} {rs : List Row} (image : List Row) → ((r : Row) → P r → Q (substitute image r)) → AllRows P rs → AllRows Q (substitute_all image rs)
  unfolding substitute_all
  all_substituted image f none = none
  all_substituted image f (one {r} h hs) = one (f r h) (all_substituted image f hs)

-- so many rows, one after the other: each where it stands
pub all_by : {P : Row → Type 0} (size : ℕ) (read : List ℤ → Row) (n : ℕ) (l : List ℤ) → ((j : ℕ) → j < n → P (read (drop (j * size) l))) → AllRows P (rows_by size read n l)
unfolding rows_by
all_by size read zero l h = none
all_by {P} size read (suc n) l h = one (rw no_rows at (h 0 (omega arith))) (all_by size read n (drop size l) (λ j k. rw (drop_rows size j l) (h (suc j) (omega arith))))
