-- By the image's kind: the block of the image that the column falls into says what it becomes.
use Rattle.std.proofs.Common.{◌≡◌, refl, ap, ◌∙◌, List, ◌++◌, ℕ, ◌+◌, ◌-◌, ◌<◌, pos, length, get_or, arith}
use Rattle.std.proofs.Math.Nat.{zero-add}
use Rattle.rows.specs.Rows.{Row, constant_row}
use Rattle.rows.specs.Columns.{column, columns as block}
use Rattle.rows.proofs.Blocks.{columns_append}
use Rattle.certificates.specs.Entailments.{entry_image}
use Rattle.entailments.specs.Meaning.{procedure_columns, image_rows, actuals_at}
use Rattle.entailments.specs.Forms.{ImageForm, columns_of, width_of}
use Rattle.entailments.proofs.ImageSizes.{length_block, length_both, length_actuals}
use Rattle.entailments.specs.declared.Image.{Image}
use Rattle.images.specs.Becoming.{Becoming}
use Rattle.images.specs.declared.used_columns.Becomes.{Becomes}
use Rattle.images.specs.declared.used_columns.Becomes.TheVariants as becomes
use Rattle.images.proofs.ImageColumns.{column_there, in_front, behind, column_at, front_column, behind_column}
use Rattle.images.proofs.used_columns.image_of.Goals as goal
use Rattle.images.proofs.used_columns.image_of.Goals.{Start}

module _ (s : Start) where
  -- what is asked and what is promised, by the image's kind
  form : {image : Image} → s.args.image ≡ image → ImageForm s.args.words.now s.args.s image
  form e = rw e at s.requires.image_form

  inside : {image : Image} → s.args.image ≡ image → s.args.c < width_of s.args.s image
  inside e = rw e at s.requires.c_bound

  abbrev Promised : Image → Becomes → Type 0
  Promised image b = let a = s.args in Becoming a.words.now a.s.k (columns_of a.s image) (image_rows a.words.now a.s image) a.c b

  by_image : {image : Image} (b : Becomes) → s.args.image ≡ image → Promised image b → Promised s.args.image b
  by_image b e f = rw e f

-- ---- the start: the procedure's columns twice

pub returns-then-c-own : goal.returns-then-c-own
unfolding image_rows columns_of
returns-then-c-own c =
    let a = c.args in
    let own : List Row = block 0 (procedure_columns a.s) in
    by_image (goal.at.returns-then-c-own c).Start (becomes.Column a.c) c.in-Start.is
    (column_there a.c (front_column own own (length_block 0 (procedure_columns a.s)) a.c 0 refl c.if-c-own.true ∙ ap column (zero-add a.c)) c.if-c-own.true)

pub returns-else-c-own : goal.returns-else-c-own
unfolding image_rows columns_of width_of
returns-else-c-own c =
    let s = (goal.at.returns-else-c-own c).Start in
    let a = c.args in
    let e = c.in-Start.is in
    let n = procedure_columns a.s in
    let own : List Row = block 0 n in
    let few = inside s e in
    by_image s (becomes.Column (a.c - n)) e (column_there (a.c - n) (behind_column own own (length_block 0 n) a.c 0 n (a.c - n) refl (omega arith) (omega arith) (omega arith)) (omega arith))

-- ---- a path: each column for itself

pub returns-in-Path : goal.returns-in-Path
unfolding image_rows columns_of width_of
returns-in-Path c =
    let s = (goal.at.returns-in-Path c).Start in
    let a = c.args in
    let e = c.in-Path.is in
    let k = a.s.k in
    let whole : block 0 (k + k) ≡ block 0 k ++ block k k = rw zero-add at (columns_append 0 k k) in
    by_image s (becomes.Column a.c) e (column_there a.c (rw whole at (column_at 0 (k + k) a.c (inside s e)) ∙ ap column (zero-add a.c)) (inside s e))

-- ---- an assignment

pub assigned_column-requires-clause-i_lt_k : goal.assigned_column-requires-clause-i_lt_k
unfolding ImageForm
assigned_column-requires-clause-i_lt_k c = ((form (goal.at.assigned_column-requires-clause-i_lt_k c).Start c.in-Assign.is).0, omega (arith, c.requires.shape_form.few_columns))

pub assigned_column-requires-clause-c_bound : goal.assigned_column-requires-clause-c_bound
unfolding width_of
assigned_column-requires-clause-c_bound c = inside (goal.at.assigned_column-requires-clause-c_bound c).Start c.in-Assign.is

pub returns-in-Assign : goal.returns-in-Assign
unfolding ImageForm image_rows columns_of
returns-in-Assign c =
    let s = (goal.at.returns-in-Assign c).Start in
    let e = c.in-Assign.is in
    by_image s c.assigned_column.result e (c.assigned_column.ensures c.args.words.now (form s e).1)

-- ---- a call's entry: what the callee is entered with, twice

-- one of the two
module _ (s : Start) (place : ℕ) where
  abbrev entered : List Row
  entered = let a = s.args in block a.s.k a.s.globals ++ (actuals_at a.words.now a.s place ++ block (a.s.k + a.s.k) a.s.others)

  many : length entered ≡ procedure_columns s.args.s
  many =
      let a = s.args in
      let last = block (a.s.k + a.s.k) a.s.others in
      length_both (block a.s.k a.s.globals) (actuals_at a.words.now a.s place ++ last) (length_block a.s.k a.s.globals)
      (length_both (actuals_at a.words.now a.s place) last (length_actuals a.words.now a.s place) (length_block (a.s.k + a.s.k) a.s.others))

  in_both : {columns c d : ℕ} {b : Becomes} → get_or (entered ++ entered) c (constant_row (pos 0)) ≡ get_or entered d (constant_row (pos 0)) → Becoming s.args.words.now s.args.s.k columns entered d b
      → Becoming s.args.words.now s.args.s.k columns (entered ++ entered) c b
  in_both e b = record { is = e ∙ b.is; form = b.form }

pub entered_column-requires : goal.entered_column-requires
unfolding ImageForm width_of
entered_column-requires c =
    let s = (goal.at.entered_column-requires c).Start in
    let e = c.in-Entry.is in
    let few = inside s e in
    let p = c.requires.shape_form in
    record { shape_form = p; expressions = (form s e).1; globals_le_k = ((form s e).0, omega (arith, p.few_globals, p.few_locals)) }

pub returns-then-c-callee : goal.returns-then-c-callee
unfolding image_rows columns_of entry_image
returns-then-c-callee c =
    let s = (goal.at.returns-then-c-callee c).Start in
    let i = c.in-Entry in
    let both = entered s i.place in
    let h = c.if-c-callee.true in
    by_image s c.entered_column.result i.is (in_both s i.place (in_front both both (many s i.place) c.args.c h) (c.entered_column.ensures c.args.s.others h))

pub entered_column-requires-in-Entry : goal.entered_column-requires-in-Entry
unfolding ImageForm width_of
entered_column-requires-in-Entry c =
    let s = (goal.at.entered_column-requires-in-Entry c).Start in
    let e = c.in-Entry.is in
    let few = inside s e in
    let p = c.requires.shape_form in
    record { shape_form = p; expressions = (form s e).1; globals_le_k = ((form s e).0, omega (arith, p.few_globals, p.few_locals)) }

pub returns-else-c-callee : goal.returns-else-c-callee
unfolding image_rows columns_of width_of entry_image
returns-else-c-callee c =
    let s = (goal.at.returns-else-c-callee c).Start in
    let i = c.in-Entry in
    let both = entered s i.place in
    let few = inside s i.is in
    let r = c.entered_column-in-Entry in
    by_image s r.result i.is (in_both s i.place (behind both both (many s i.place) c.args.c (omega arith)) (r.ensures c.args.s.others (omega arith)))

-- ---- a return

pub returned_column-requires-clause-globals_le_k : goal.returned_column-requires-clause-globals_le_k
unfolding ImageForm
returned_column-requires-clause-globals_le_k c = form (goal.at.returned_column-requires-clause-globals_le_k c).Start c.in-Return.is

pub returned_column-requires-clause-c_bound : goal.returned_column-requires-clause-c_bound
unfolding width_of
returned_column-requires-clause-c_bound c = inside (goal.at.returned_column-requires-clause-c_bound c).Start c.in-Return.is

pub returns-in-Return : goal.returns-in-Return
unfolding image_rows columns_of
returns-in-Return c = by_image (goal.at.returns-in-Return c).Start c.returned_column.result c.in-Return.is (c.returned_column.ensures c.args.words.now)

-- ---- an exit: globals and parameters at entry, globals now

pub returns-then-c-entered : goal.returns-then-c-entered
unfolding image_rows columns_of ImageForm
returns-then-c-entered c =
    let s = (goal.at.returns-then-c-entered c).Start in
    let a = c.args in
    let e = c.in-Exit.is in
    let n = a.s.globals + a.s.parameters in
    let low = form s e in
    by_image s (becomes.Column a.c) e
    (column_there a.c (front_column (block 0 n) (block a.s.k a.s.globals) (length_block 0 n) a.c 0 refl c.if-c-entered.true ∙ ap column (zero-add a.c)) (omega arith))

pub overflow_add-result : goal.overflow_add-result
unfolding width_of
overflow_add-result c =
    let few = inside (goal.at.overflow_add-result c).Start c.in-Exit.is in
    let p = c.requires.shape_form in
    omega (arith, p.few_columns, p.few_globals, p.few_locals)

pub returns-else-c-entered : goal.returns-else-c-entered
unfolding image_rows columns_of width_of ImageForm
returns-else-c-entered c =
    let s = (goal.at.returns-else-c-entered c).Start in
    let a = c.args in
    let e = c.in-Exit.is in
    let n = a.s.globals + a.s.parameters in
    let low = form s e in
    let few = inside s e in
    by_image s (becomes.Column (a.s.k + (a.c - n))) e
    (column_there (a.s.k + (a.c - n)) (behind_column (block 0 n) (block a.s.k a.s.globals) (length_block 0 n) a.c a.s.k a.s.globals (a.s.k + (a.c - n)) refl (omega arith) (omega arith) refl) (omega arith))

-- ---- a call as its summary says

pub entered_column-requires-in-Called : goal.entered_column-requires-in-Called
unfolding ImageForm width_of
entered_column-requires-in-Called c =
    let s = (goal.at.entered_column-requires-in-Called c).Start in
    let e = c.in-Called.is in
    let few = inside s e in
    let p = c.requires.shape_form in
    record { shape_form = p; expressions = (form s e).1; globals_le_k = ((form s e).0, omega (arith, p.few_globals, p.few_locals)) }

pub returns-in-Called : goal.returns-in-Called
unfolding image_rows columns_of width_of
returns-in-Called c =
    let s = (goal.at.returns-in-Called c).Start in
    let e = c.in-Called.is in
    let few = inside s e in
    let r = c.entered_column-in-Called in
    by_image s r.result e (r.ensures c.args.s.globals (omega arith))
