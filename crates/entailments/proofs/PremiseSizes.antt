-- The sizes of the premises of an entailment, from its form: they are the rows of two disjuncts at most, and no entry is larger than that of a
-- summary's row with its image put in. Of such a row the parameters alone become expressions, so it is counted by blocks.
use Rattle.std.specs.Prelude.{◌≡◌, refl, true, false, List, [], ℕ, ◌+◌, ◌≤◌, ◌<◌, ℤ, length, get_or, drop}
use Rattle.std.proofs.Common.{arith}
use Rattle.std.proofs.Math.ListN.{length-append}
use Rattle.rows.specs.Rows.{Row, substitute_all}
use Rattle.rows.specs.Columns.{columns}
use Rattle.rows.proofs.Blocks.{length_substituted}
use Rattle.words.specs.declared.StoredForm.{StoredForm}
use Rattle.words.specs.Limits.{constant_limit}
use Rattle.words.specs.RowWords.{row_of}
use Rattle.words.specs.RowForm.{RowForm}
use Rattle.words.specs.StoredRows.{rows_in}
use Rattle.words.proofs.StoredRows.{length_in}
use Rattle.certificate_readers.specs.Disjuncts.{DisjunctHere, here_within}
use Rattle.row_buffers.specs.AllRows.{none, one}
use Rattle.row_buffers.proofs.AllRows.{all_append, all_weaken, all_substituted}
use Rattle.row_buffers.specs.EntryLimits.{entry_limit, SmallRow, SmallRows, SmallSums}
use Rattle.row_buffers.proofs.EntryLimits.{rows_weaken, limited_small, small_substitute}
use Rattle.row_buffers.proofs.RowsOfWords.{form_limited, all_limited}
use Rattle.row_buffers.proofs.MovedColumns.{small_moved}
use Rattle.program_readers.specs.declared.kinds.Op.{Op}
use Rattle.program_readers.specs.Kinds.{op_named}
use Rattle.entailments.specs.GuardRows.{guard_limit}
use Rattle.entailments.proofs.GuardRows.{small_guard}
use Rattle.entailments.specs.OpCases.{op_cases, guards_now}
use Rattle.entailments.proofs.OpCases.{each_case}
use Rattle.entailments.specs.Meaning.{image_rows, premises_of}
use Rattle.entailments.specs.Forms.{ShapeForm, ImageForm, AddedForm, ImageHere, columns_of, width_of}
use Rattle.entailments.specs.Filled.{most_premises}
use Rattle.entailments.proofs.ImageSizes.{called_sums}
use Rattle.entailments.specs.declared.Added.{Added}
use Rattle.entailments.specs.declared.Added.TheVariants.{Nothing, Guard, Summary}
use Rattle.entailments.specs.declared.Image.TheVariants.{Called}
use Rattle.entailments.specs.declared.Shape.{Shape}
use Rattle.entailments.specs.PremiseSizes.{disjunct}

-- ---- rows of words

small_copied : (form : StoredForm) (words : List ℤ) (from m count : ℕ) → DisjunctHere form m words from count → SmallRows entry_limit (rows_in form m count (drop from words))
small_copied form words from m count h = rows_weaken (omega arith) (all_weaken (λ r. limited_small) (all_limited (here_within h)))

-- with an image put in
small_substituted : {b : ℕ} {image : List Row} (form : StoredForm) (words : List ℤ) (from m count : ℕ) → DisjunctHere form m words from count → SmallSums b image
    → SmallRows (constant_limit + b) (substitute_all image (rows_in form m count (drop from words)))
small_substituted {image = image} form words from m count h k = all_substituted image (λ r l. small_substitute l k) (all_limited (here_within h))

-- ---- guard rows

small_case : (e : Row) → SmallRow constant_limit e → (op : Op) (case : ℕ) → case < length (op_cases op e) → SmallRows guard_limit (get_or (op_cases op e) case [])
small_case e h = each_case e (SmallRows guard_limit) none (λ x y. one (small_guard h x y) none) (λ x y. one (small_guard h x y) (one (small_guard h true false) none))

small_guards : (words : List ℤ) (place k : ℕ) (op : Op) (case : ℕ) → RowForm words place k → case < length (op_cases op (row_of k (drop place words)))
    → SmallRows entry_limit (guards_now k op case (row_of k (drop place words)))
small_guards words place k op case h i =
    rows_weaken (omega arith) (all_substituted (columns k k) (small_moved k k) (small_case (row_of k (drop place words)) (limited_small (form_limited h)) op case i))

-- a case of a guard has none, one or two
pub few_guards : (k : ℕ) (e : Row) (op : Op) (case : ℕ) → case < length (op_cases op e) → length (guards_now k op case e) ≤ 2
few_guards k e op case h =
    rw (length_substituted (columns k k) (get_or (op_cases op e) case [])) (each_case e (λ rs. length rs ≤ 2) (omega arith) (λ x y. omega arith) (λ x y. omega arith) op case h)

-- ---- the premises, by what is added

-- the image of a summary's columns
pub called_here : {words : List ℤ} {s : Shape} {at : ℕ} → ShapeForm s → ImageForm words s (Called at) → ImageHere words s (Called at) (s.k + s.k + s.globals) (s.globals + s.parameters + s.globals)
unfolding columns_of width_of
called_here f g = record { shape_form = f; image_form = g; over = refl; wide = refl }

module _ (words : List ℤ) (form : StoredForm) (rows : List ℤ) {s : Shape} (shape : ShapeForm s) (columns from n : ℕ) (here : DisjunctHere form (s.k + s.k) rows from n) where
  many : length (disjunct words form rows shape columns from n here) ≡ n
  many = length_in form (s.k + s.k) n (drop from rows)

  small : SmallRows entry_limit (disjunct words form rows shape columns from n here)
  small = small_copied form rows from (s.k + s.k) n here

  pub few_premises : (added : Added) → AddedForm words s form rows columns added → length (premises_of words s form rows (disjunct words form rows shape columns from n here) added) ≤ most_premises
  unfolding premises_of AddedForm
  few_premises Nothing f = omega (arith, many, here.stand.few)
  few_premises (Guard op case at) f =
      let e = row_of s.k (drop at words) in
      omega (arith, many, here.stand.few, length-append (disjunct words form rows shape columns from n here) (guards_now s.k (op_named op) case e), few_guards s.k e (op_named op) case f.1.0)
  few_premises (Summary start count at) f =
      let m = s.globals + s.parameters + s.globals in
      let image = image_rows words s (Called at) in
      let summary = rows_in form m count (drop start rows) in
      omega (arith, many, here.stand.few, length-append (disjunct words form rows shape columns from n here) (substitute_all image summary), length_substituted image summary, length_in form m count (drop start rows), f.1.1.stand.few)

  pub small_premises : (added : Added) → AddedForm words s form rows columns added → SmallRows entry_limit (premises_of words s form rows (disjunct words form rows shape columns from n here) added)
  unfolding premises_of AddedForm
  small_premises Nothing f = small
  small_premises (Guard op case at) f = all_append small (small_guards words at s.k (op_named op) case f.1.1.form f.1.0)
  small_premises (Summary start count at) f =
      all_append small
      (rows_weaken (omega arith) (small_substituted form rows start (s.globals + s.parameters + s.globals) count f.1.1 (called_sums (called_here shape f.1.0))))
