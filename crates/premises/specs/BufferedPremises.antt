-- The premises that a buffer holds once the rows of a disjunct are copied and others are put behind them: a buffer with rows put behind its own
-- holds both, so a guard's rows and a summary's are one case.
use Rattle.std.specs.Prelude.{◌≡◌, List, [], ◌∷◌, ◌++◌, ℕ, ◌+◌, ◌*◌, ◌≤◌, ℤ, length, get_or, drop}
use Rattle.std.proofs.Common.{sym, ap, ◌∙◌, le_trans, arith, length-append}
use Rattle.rows.specs.Rows.{Row, substitute_all}
use Rattle.words.specs.declared.StoredForm.{StoredForm}
use Rattle.words.specs.StoredRows.{rows_in}
use Rattle.words.proofs.StoredRows.{length_in}
use Rattle.certificate_readers.specs.Disjuncts.{DisjunctHere, here_within}
use Rattle.row_buffers.proofs.RowsOfWords.{all_narrow}
use Rattle.row_buffers.specs.AllRows.{none, one}
use Rattle.row_buffers.proofs.AllRows.{all_append, all_weaken}
use Rattle.row_buffers.specs.HeldRows.{stride}
use Rattle.row_buffers.specs.FlatRows.{flat_rows, Narrow, Buffered}
use Rattle.row_buffers.proofs.FlatRows.{narrow_substitute}
use Rattle.row_buffers.proofs.ColumnRows.{narrow_columns}
use Rattle.premises.specs.PushedRows.{pushed_rows, pushed_rows_flat}
use Rattle.program_readers.specs.declared.kinds.Op.{Op}
use Rattle.entailments.specs.OpCases.{op_cases, guards_now}

pub narrow_substituted : {width : ℕ} {image : List Row} (rs : List Row) → Narrow width image → Narrow width (substitute_all image rs)
unfolding substitute_all
narrow_substituted [] h = none
narrow_substituted (r ∷ rs) h = one (narrow_substitute r h) (narrow_substituted rs h)

module _ {width : ℕ} where
  pub copied_buffered : {form : StoredForm} {m : ℕ} {rows : List ℤ} {from count : ℕ} (rest : List ℤ) {v : List ℤ} → DisjunctHere form m rows from count → m ≤ width
      → v ≡ flat_rows width (rows_in form m count (drop from rows)) ++ rest → Buffered width (rows_in form m count (drop from rows)) count v
  copied_buffered {form} {m} {rows} {from} {count} rest d h e =
      record { narrow = all_weaken (λ r k. le_trans k h) (all_narrow (here_within d)); count = sym (length_in form m count (drop from rows)); rest = rest; is = e }

  module _ {d : List Row} {n : ℕ} {u : List ℤ} (b : Buffered width d n u) where
    pub pushed_buffered : (rs : List Row) {v : List ℤ} {r : ℕ} → Narrow width rs → v ≡ pushed_rows width n rs u → r ≡ length rs → Buffered width (d ++ rs) (n + r) v
    pushed_buffered rs narrow e many =
        record {
          narrow = all_append b.narrow narrow;
          count = rw length-append (omega (arith, b.count));
          rest = drop (length rs * stride width) b.rest;
          is = e ∙ ap (pushed_rows width n rs) b.is ∙ pushed_rows_flat width d rs b.rest n (sym b.count);
        }

    pub guards_buffered : (k : ℕ) → k + k ≤ width → (op : Op) (case : ℕ) (e : Row) {v : List ℤ} {r : ℕ} → v ≡ pushed_rows width n (guards_now k op case e) u → r ≡ length (guards_now k op case e)
        → Buffered width (d ++ guards_now k op case e) (n + r) v
    guards_buffered k h op case e = pushed_buffered (guards_now k op case e) (narrow_substituted (get_or (op_cases op e) case []) (narrow_columns width k k h))
