-- The rows of a case, put behind the n rows of a buffer: none, one or two, as the op has them.
use mathlib.Core.Path.{◌≡◌, refl}
use mathlib.Core.Bool.{true, false}
use mathlib.Core.List.{List, [], ◌∷◌}
use Prim.Native.Nat.{ℕ, ◌+◌, ◌<◌}
use lib.IntN.{ℤ}
use lib.ListN.{length}
use Rattle.rows.specs.Rows.{Row, substitute, substitute_all}
use Rattle.rows.specs.Columns.{columns as columnsFrom}
use Rattle.row_buffers.specs.FlatRows.{pushed}
use Rattle.program_readers.specs.declared.kinds.Op.{Op}
use Rattle.program_readers.specs.declared.kinds.Op.TheVariants.{Choice, Less, Greater, AtMost, AtLeast, Equal, Different}
use Rattle.entailments.specs.GuardRows.{guard_row}
use Rattle.entailments.specs.OpCases.{op_cases, guards_now, case_rows, first_row}
use Rattle.entailments.proofs.OpCases.{case_rows_lem}
use Rattle.premises.specs.PushedRows.{pushed_rows}

single : (e : Row) (op : Op) (case : ℕ) → (op ≡ Choice → ⊥) → (op ≡ Equal → ⊥) → case_rows e op case ≡ first_row e op case ∷ []
unfolding case_rows
single e Choice case z f = absurd (z refl)
single e Less case z f = refl
single e Greater case z f = refl
single e AtMost case z f = refl
single e AtLeast case z f = refl
single e Equal case z f = absurd (f refl)
single e Different case z f = refl

module _ (columns n k : ℕ) (e : Row) (op : Op) (case : ℕ) (l : List ℤ) (h : case < length (op_cases op e)) where
  -- the buffer, and how many rows were put
  abbrev Put : List ℤ → ℕ → Type 0
  Put v r = (v ≡ pushed_rows columns n (guards_now k op case e) l) × (r ≡ length (guards_now k op case e))

  abbrev first : Row
  first = substitute (columnsFrom k k) (first_row e op case)

  put_rows : (rs : List Row) → case_rows e op case ≡ rs → (v : List ℤ) (r : ℕ) → v ≡ pushed_rows columns n (substitute_all (columnsFrom k k) rs) l → r ≡ length (substitute_all (columnsFrom k k) rs) → Put v r
  put_rows rs is v r p q = rw (case_rows_lem e op case h, is) (p, q)

  pub no_row : op ≡ Choice → Put l 0
  unfolding case_rows substitute_all pushed_rows
  no_row z = put_rows [] (rw z refl) l 0 refl refl

  pub one_row : (v : List ℤ) → (op ≡ Choice → ⊥) → (op ≡ Equal → ⊥) → v ≡ pushed columns n first l → Put v 1
  unfolding substitute_all pushed_rows
  one_row v z f p = put_rows (first_row e op case ∷ []) (single e op case z f) v 1 p refl

  pub two_rows_lem : (u v : List ℤ) → op ≡ Equal → u ≡ pushed columns n first l → v ≡ pushed columns (n + 1) (substitute (columnsFrom k k) (guard_row true false e)) u → Put v 2
  unfolding case_rows substitute_all pushed_rows
  two_rows_lem u v f p q = put_rows (first_row e op case ∷ guard_row true false e ∷ []) (rw f refl) v 2 (rw p at q) refl
