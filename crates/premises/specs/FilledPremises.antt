-- The premises of an entailment, once the disjunct's rows are copied and what is added stands behind them: the form of the entailment gives what
-- is asked for on the way, by cases of what is added.
use Rattle.std.specs.Prelude.{◌≡◌, List, ◌++◌, ℕ, ◌+◌, ◌*◌, ◌≤◌, ◌<◌, ℤ, length, drop}
use Rattle.std.proofs.Common.{sym, ◌∙◌, mul-le-mul, le_trans, arith}
use Rattle.rows.specs.Rows.{Row, substitute_all}
use Rattle.rows.proofs.Blocks.{length_substituted}
use Rattle.words.specs.RowWords.{row_of}
use Rattle.words.specs.RowForm.{Expression}
use Rattle.words.specs.declared.StoredForm.{StoredForm}
use Rattle.words.specs.StoredRows.{rows_in, EachRow}
use Rattle.words.proofs.StoredRows.{length_in, take_fewer, form_each, strict_each}
use Rattle.certificate_readers.specs.Disjuncts.{DisjunctHere}
use Rattle.row_buffers.specs.HeldRows.{stride}
use Rattle.row_buffers.specs.EntryLimits.{Capacity}
use Rattle.row_buffers.specs.FlatRows.{flat_rows, Buffered}
use Rattle.program_readers.specs.Kinds.{op_named}
use Rattle.entailments.specs.OpCases.{most_op, op_cases, guards_now}
use Rattle.entailments.specs.declared.Image.TheVariants.{Called}
use Rattle.entailments.specs.declared.Added.TheVariants.{Nothing, Guard, Summary}
use Rattle.entailments.specs.declared.Entailment.{Entailment}
use Rattle.entailments.specs.Meaning.{image_rows, premises_of, meaning_of}
use Rattle.entailments.specs.Forms.{AddedForm, ImageHere, EntailmentForm}
use Rattle.entailments.specs.Filled.{most_columns, most_split_premises, Filled}
use Rattle.entailments.proofs.ImageSizes.{path_inside, image_narrow}
use Rattle.entailments.proofs.PremiseSizes.{few_guards, called_here}
use Rattle.premises.specs.PushedRows.{pushed_rows}
use Rattle.premises.specs.BufferedPremises.{narrow_substituted, copied_buffered, pushed_buffered, guards_buffered}

-- the first n rows of the entailment's disjunct, and what is added to it, are the first r rows of the buffer
abbrev pub FilledWith : List ℤ → List ℤ → Entailment → ℕ → ℕ → List ℤ → Type 0
FilledWith words rows e n r buffer =
    Buffered e.columns (premises_of words e.shape e.form rows (rows_in e.form (e.shape.k + e.shape.k) n (drop e.from rows)) e.added) r buffer

-- with all of them the buffer holds the entailment's premises
pub filled_all : (words rows : List ℤ) (e : Entailment) {r : ℕ} {buffer : List ℤ} → FilledWith words rows e e.n r buffer → Filled words rows e r buffer
unfolding meaning_of
filled_all words rows e f = f

-- fewer rows of a disjunct stand where all do
fewer_here : {form : StoredForm} {m : ℕ} {rows : List ℤ} {from count n : ℕ} → DisjunctHere form m rows from count → n ≤ count → DisjunctHere form m rows from n
unfolding EachRow
fewer_here {form} {m} {rows} {from} {count} {n} d h =
    record {
      stand =
          record {
            few = omega (arith, d.stand.few);
            inside = omega (arith, d.stand.inside, take_fewer form m n count (drop from rows) h);
            formed = (form_each form rows from m n).1 (λ i k. (form_each form rows from m count).0 d.stand.formed i (omega arith));
          };
      strict = (strict_each form rows from m n).1 (λ i k. (strict_each form rows from m count).0 d.strict i (omega arith));
    }

pub capacity : {columns n places : ℕ} → columns ≤ most_columns → n ≤ most_split_premises → most_split_premises * stride most_columns ≤ places → Capacity columns n places
capacity {columns} h k inside =
    let l : stride columns ≤ stride most_columns = omega arith in record { narrow = omega arith; few = omega arith; inside = le_trans (mul-le-mul k l) inside }

module _ {words rows : List ℤ} {e : Entailment} (form : EntailmentForm words rows e) where
  abbrev k : ℕ
  k = e.shape.k

  -- the columns of a summary
  abbrev m : ℕ
  m = e.shape.globals + e.shape.parameters + e.shape.globals

  -- the rows of a summary's disjunct, over the columns of the call
  abbrev called : ℕ → ℕ → ℕ → List Row
  called from n at = substitute_all (image_rows words e.shape (Called at)) (rows_in e.form m n (drop from rows))

  -- ---- what is asked for, as the form gives it

  pub guard_form : (op case at : ℕ) → e.added ≡ Guard op case at → (op ≤ most_op) × ((case < length (op_cases (op_named op) (row_of k (drop at words)))) × Expression words at k)
  unfolding AddedForm
  guard_form op case at q = rw q at form.added_form

  pub guard_few : (op case at : ℕ) → e.added ≡ Guard op case at → {r : ℕ} → r ≡ length (guards_now k (op_named op) case (row_of k (drop at words))) → r ≤ 2
  guard_few op case at q many = let f = guard_form op case at q in rw many (few_guards k (row_of k (drop at words)) (op_named op) case f.1.0)

  module _ (from n at : ℕ) (q : e.added ≡ Summary from n at) where
    summary_columns_lem : e.columns ≡ k + k + e.shape.globals
    unfolding AddedForm
    summary_columns_lem = (rw q at form.added_form).0

    pub summary_here : DisjunctHere e.form m rows from n
    unfolding AddedForm
    summary_here = (rw q at form.added_form).1.1

    pub image_here_lem : ImageHere words e.shape (Called at) (k + k + e.shape.globals) m
    unfolding AddedForm
    image_here_lem = called_here form.image_here.shape_form (rw q at form.added_form).1.0

  -- ---- what the buffer holds

  -- the first rows of the disjunct, copied over its front
  module _ (n : ℕ) (h : n ≤ e.n) where
    pub first_here : DisjunctHere e.form (k + k) rows e.from n
    first_here = fewer_here form.disjunct_here h

    module _ (t u : List ℤ) (copied : u ≡ flat_rows e.columns (rows_in e.form (k + k) n (drop e.from rows)) ++ drop (n * stride e.columns) t) where
      here : Buffered e.columns (rows_in e.form (k + k) n (drop e.from rows)) n u
      here = copied_buffered (drop (n * stride e.columns) t) first_here (path_inside form.image_here) copied

      pub nothing_filled : e.added ≡ Nothing → FilledWith words rows e n n u
      unfolding premises_of
      nothing_filled q = rw q here

      pub guard_filled : (op case at : ℕ) → e.added ≡ Guard op case at → {v : List ℤ} {r : ℕ} → v ≡ pushed_rows e.columns n (guards_now k (op_named op) case (row_of k (drop at words))) u
          → r ≡ length (guards_now k (op_named op) case (row_of k (drop at words))) → FilledWith words rows e n (n + r) v
      unfolding premises_of
      guard_filled op case at q is many = rw q (guards_buffered here k (path_inside form.image_here) (op_named op) case (row_of k (drop at words)) is many)

      pub summary_filled : (from count at : ℕ) → e.added ≡ Summary from count at → {v : List ℤ} → v ≡ pushed_rows (k + k + e.shape.globals) n (called from count at) u → FilledWith words rows e n (n + count) v
      unfolding premises_of image_rows
      summary_filled from count at q is =
          let c = summary_columns_lem from count at q in
          let image = image_rows words e.shape (Called at) in
          rw q
          (pushed_buffered here (called from count at) (narrow_substituted (rows_in e.form m count (drop from rows)) (rw c (image_narrow (image_here_lem from count at q)))) (rw c is)
          (sym (length_substituted image (rows_in e.form m count (drop from rows)) ∙ length_in e.form m count (drop from rows))))
