-- The sizes of an image: it has a row for each of the target's columns, and each row is one of the entailment's columns, or an expression that
-- stands in the words. So no row is wider than the entailment, and no entry is larger than an expression's may be.
use Rattle.std.specs.Prelude.{◌≡◌, refl, List, ◌++◌, ℕ, zero, suc, ◌+◌, ◌*◌, ◌-◌, ◌<◌, ◌≤◌, ℤ, length, set, drop}
use Rattle.std.proofs.Common.{sym, ap, ◌∙◌, length-append, length-set, drop-drop}
use native.Mathlib.Omega.{arith}
use Rattle.rows.specs.Rows.{Row, substitute}
use Rattle.rows.specs.Columns.{column, columns as block}
use Rattle.rows.proofs.Blocks.{length_substituted}
use Rattle.words.specs.Limits.{most_globals, most_locals}
use Rattle.words.specs.RowWords.{row_size, row_of, rows_of}
use Rattle.words.proofs.RowLaws.{length_rows}
use Rattle.words.specs.RowForm.{Expression, Expressions}
use Rattle.certificates.specs.Entailments.{entry_image}
use Rattle.row_buffers.specs.AllRows.{AllRows, none, one}
use Rattle.row_buffers.proofs.AllRows.{all_append, all_substituted}
use Rattle.row_buffers.specs.Spread.{NarrowRow}
use Rattle.row_buffers.specs.EntryLimits.{weight_limit, SmallRow, SmallSums}
use Rattle.row_buffers.proofs.EntryLimits.{small_weaken, few_sums, sums_append, limited_small}
use Rattle.row_buffers.specs.FlatRows.{Narrow}
use Rattle.row_buffers.proofs.FlatRows.{narrow_substitute}
use Rattle.row_buffers.proofs.ColumnRows.{small_column, narrow_column, narrow_columns, all_columns}
use Rattle.row_buffers.proofs.MovedColumns.{small_moved}
use Rattle.row_buffers.proofs.RowsOfWords.{all_rows, form_limited}
use Rattle.entailments.specs.Meaning.{procedure_columns, image_rows, actuals_at}
use Rattle.entailments.specs.Forms.{ShapeForm, ImageForm, ImageHere, columns_of, width_of}
use Rattle.entailments.specs.Filled.{most_columns}
use Rattle.entailments.specs.declared.Image.{Image}
use Rattle.entailments.specs.declared.Image.TheVariants.{Start, Path, Assign, Entry, Return, Exit, Called}
use Rattle.entailments.specs.declared.Shape.{Shape}
use Rattle.entailments.specs.ImageSizes.{SmallImage, called_limit, expression_at, expression_limit, most_image}

-- ---- how many columns

module _ (s : Shape) where
  most : (image : Image) → ShapeForm s → columns_of s image ≤ most_columns
  unfolding columns_of
  most Start f = omega (arith, f.few_globals, f.few_locals)
  most Path f = omega (arith, f.few_columns)
  most (Assign i at) f = omega (arith, f.few_columns)
  most (Entry at) f = omega (arith, f.few_columns, f.few_locals)
  most Return f = omega (arith, f.few_columns, f.few_globals)
  most Exit f = omega (arith, f.few_columns)
  most (Called at) f = omega (arith, f.few_columns, f.few_globals)

  wide : (image : Image) → ShapeForm s → width_of s image ≤ most_image
  unfolding width_of
  wide Start f = omega (arith, f.few_globals, f.few_locals)
  wide Path f = omega (arith, f.few_columns)
  wide (Assign i at) f = omega (arith, f.few_columns)
  wide (Entry at) f = omega (arith, f.few_globals, f.few_locals)
  wide Return f = omega (arith, f.few_columns)
  wide Exit f = omega (arith, f.few_globals, f.few_locals)
  wide (Called at) f = omega (arith, f.few_globals, f.few_locals)

  path : (words : List ℤ) (image : Image) → ImageForm words s image → s.k + s.k ≤ columns_of s image
  unfolding columns_of ImageForm
  path words Start f = omega arith
  path words Path f = omega arith
  path words (Assign i at) f = omega arith
  path words (Entry at) f = omega arith
  path words Return f = omega arith
  path words Exit f = omega arith
  path words (Called at) f = omega arith

-- ---- how many rows

pub length_block : (c n : ℕ) → length (block c n) ≡ n
unfolding block
length_block c zero = refl
length_block c (suc n) = ap suc (length_block (suc c) n)

pub length_both : {m n : ℕ} (l r : List Row) → length l ≡ m → length r ≡ n → length (l ++ r) ≡ m + n
length_both l r e f = length-append l r ∙ omega arith

entered : {a b c : ℕ} (l m r : List Row) → length l ≡ a → length m ≡ b → length r ≡ c → length (entry_image l m r) ≡ a + (b + c) + (a + (b + c))
unfolding entry_image
entered l m r e f g = let h = length_both l (m ++ r) e (length_both m r f g) in length_both (l ++ (m ++ r)) (l ++ (m ++ r)) h h

module _ (words : List ℤ) (s : Shape) where
  pub length_actuals : (at : ℕ) → length (actuals_at words s at) ≡ s.parameters
  length_actuals at = length_substituted (block s.k s.k) (rows_of s.k s.parameters (drop at words)) ∙ length_rows s.k s.parameters (drop at words)

  many : (image : Image) → ImageForm words s image → length (image_rows words s image) ≡ width_of s image
  unfolding image_rows width_of ImageForm
  many Start f = length_both (block 0 (procedure_columns s)) (block 0 (procedure_columns s)) (length_block _ _) (length_block _ _)
  many Path f = length_both (block 0 s.k) (block s.k s.k) (length_block _ _) (length_block _ _)
  many (Assign i at) f = length_both (block 0 s.k) (set (block s.k s.k) i ((expression_at words s) at)) (length_block _ _) (length-set (block s.k s.k) i ((expression_at words s) at) ∙ length_block s.k s.k)
  many (Entry at) f = entered _ _ _ (length_block _ _) (length_actuals at) (length_block _ _)
  many Return f =
      length_both (block 0 s.k) (block (s.k + s.k) s.globals ++ block (s.k + s.globals) (s.k - s.globals)) (length_block _ _)
      (length_both (block (s.k + s.k) s.globals) (block (s.k + s.globals) (s.k - s.globals)) (length_block _ _) (length_block _ _))
      ∙ omega arith
  many Exit f = length_both (block 0 (s.globals + s.parameters)) (block s.k s.globals) (length_block _ _) (length_block _ _)
  many (Called at) f =
      length_both (block s.k s.globals) (actuals_at words s at ++ block (s.k + s.k) s.globals) (length_block _ _)
      (length_both (actuals_at words s at) (block (s.k + s.k) s.globals) (length_actuals at) (length_block _ _))
      ∙ omega arith

-- ---- what holds of each row

module _ {P : Row → Type 0} where
  all_set : {rs : List Row} (i : ℕ) (r : Row) → P r → AllRows P rs → AllRows P (set rs i r)
  all_set i r h none = none
  all_set zero r h (one k ks) = one h ks
  all_set (suc i) r h (one k ks) = one k (all_set i r h ks)

  all_entered : (l m r : List Row) → AllRows P l → AllRows P m → AllRows P r → AllRows P (entry_image l m r)
  unfolding entry_image
  all_entered l m r h j k = let e : AllRows P (l ++ (m ++ r)) = all_append h (all_append j k) in all_append e e

module _ (words : List ℤ) (s : Shape) where
  -- where the columns that are there and expressions have a property, each row of an image has it
  module _ (P : Row → Type 0) (columns : ℕ) (inside : (c : ℕ) → c < columns → P (column c))
      (expression : (at : ℕ) → Expression words at s.k → P (expression_at words s at)) where
    columns_have : (c n : ℕ) → c + n ≤ columns → AllRows P (block c n)
    columns_have c n h = all_columns c n (λ j k. inside (c + j) (omega arith))

    actuals_have : (at : ℕ) → Expressions words at s.k s.parameters → AllRows P (actuals_at words s at)
    actuals_have at h =
        all_substituted {P = λ r. P (substitute (block s.k s.k) r)} (block s.k s.k) (λ r k. k)
        (all_rows {P = λ r. P (substitute (block s.k s.k) r)} s.k s.parameters (drop at words) (λ j k. rw drop-drop (expression (at + j * row_size s.k) (h.each j k))))

    rows_have : (image : Image) → ImageForm words s image → columns ≡ columns_of s image → AllRows P (image_rows words s image)
    unfolding image_rows columns_of ImageForm
    rows_have Start f e = let h = columns_have 0 (procedure_columns s) (omega arith) in all_append h h
    rows_have Path f e = all_append (columns_have 0 s.k (omega arith)) (columns_have s.k s.k (omega arith))
    rows_have (Assign i at) f e = all_append (columns_have 0 s.k (omega arith)) (all_set i (expression_at words s at) (expression at f.1) (columns_have s.k s.k (omega arith)))
    rows_have (Entry at) f e = all_entered _ _ _ (columns_have s.k s.globals (omega arith)) (actuals_have at f.1) (columns_have _ _ (omega arith))
    rows_have Return f e =
        all_append (columns_have 0 s.k (omega arith))
        (all_append (columns_have (s.k + s.k) s.globals (omega arith)) (columns_have (s.k + s.globals) (s.k - s.globals) (omega arith)))
    rows_have Exit f e = all_append (columns_have 0 (s.globals + s.parameters) (omega arith)) (columns_have s.k s.globals (omega arith))
    rows_have (Called at) f e =
        all_append (columns_have s.k s.globals (omega arith)) (all_append (actuals_have at f.1) (columns_have (s.k + s.k) s.globals (omega arith)))

-- ---- an image of the target's m columns, over the entailment's

column_small : (c : ℕ) → SmallRow expression_limit (column c)
column_small c = small_weaken (omega arith) (small_column c)

expression_small : (words : List ℤ) (s : Shape) (at : ℕ) → Expression words at s.k → SmallRow expression_limit (expression_at words s at)
expression_small words s at e = small_moved s.k s.k (row_of s.k (drop at words)) (limited_small (form_limited e.form))

module _ {words : List ℤ} {s : Shape} {image : Image} {columns m : ℕ} (here : ImageHere words s image columns m) where
  pub columns_most : columns ≤ most_columns
  columns_most = omega (arith, here.over, most s image here.shape_form)

  pub width_most : m ≤ most_image
  width_most = omega (arith, here.wide, wide s image here.shape_form)

  -- the columns at entry and those now are there; the start has neither
  pub path_inside : s.k + s.k ≤ columns
  path_inside = omega (arith, here.over, path s words image here.image_form)

  pub image_length : length (image_rows words s image) ≡ m
  image_length = many words s image here.image_form ∙ sym here.wide

  pub image_narrow : Narrow columns (image_rows words s image)
  image_narrow =
      rows_have words s (NarrowRow columns) columns (narrow_column columns) (λ at e. narrow_substitute (row_of s.k (drop at words)) (narrow_columns columns s.k s.k path_inside))
      image here.image_form here.over

  pub image_small : SmallImage (image_rows words s image)
  image_small =
      record {
        few = omega (arith, image_length, width_most);
        small = rows_have words s (SmallRow expression_limit) columns (λ c k. column_small c) (expression_small words s) image here.image_form here.over;
      }

module _ {words : List ℤ} {s : Shape} {at columns m : ℕ} (here : ImageHere words s (Called at) columns m) where
  globals_sums : (c : ℕ) → SmallSums (most_globals * (weight_limit * 1)) (block c s.globals)
  globals_sums c = few_sums most_globals (omega (arith, length_block c s.globals, here.shape_form.few_globals)) (all_columns c s.globals (λ j k. small_column (c + j)))

  actuals_sums : SmallSums (most_locals * (weight_limit * expression_limit)) (actuals_at words s at)
  unfolding ImageForm
  actuals_sums =
      few_sums most_locals (omega (arith, length_actuals words s at, here.shape_form.few_locals))
      (actuals_have words s (SmallRow expression_limit) columns (λ c k. column_small c) (expression_small words s) at here.image_form.1)

  pub called_sums : SmallSums called_limit (image_rows words s (Called at))
  unfolding image_rows
  called_sums =
      let behind = block (s.k + s.k) s.globals in
      sums_append (block s.k s.globals) (actuals_at words s at ++ behind) (globals_sums s.k) (sums_append (actuals_at words s at) behind actuals_sums (globals_sums (s.k + s.k)))
