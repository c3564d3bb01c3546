-- By the image's kind: each function writes the row with the blocks of its image put in, and where the columns stay as they are, so does the row.
use Rattle.std.proofs.Common.{◌≡◌, refl, ◌∙◌, List, ◌+◌, ℤ, drop, arith}
use Rattle.rows.specs.Rows.{substitute}
use Rattle.words.specs.RowWords.{row_of}
use Rattle.row_buffers.specs.Spread.{written}
use Rattle.row_buffers.proofs.RowsOfWords.{narrow_row}
use Rattle.row_buffers.proofs.MovedColumns.{path_row}
use Rattle.entailments.specs.Meaning.{image_rows}
use Rattle.entailments.specs.Forms.{ImageForm, ImageHere, columns_of, width_of}
use Rattle.entailments.proofs.ImageSizes.{image_length}
use Rattle.entailments.specs.declared.Image.{Image}
use Rattle.images.specs.Sums.{replaced}
use Rattle.images.proofs.SumLaws.{row_here, replaced_all}
use Rattle.images.proofs.substitution.substitute_image.Goals as goal
use Rattle.images.proofs.substitution.substitute_image.Goals.{Start}

module _ (s : Start) where
  -- what is asked, by the image's kind
  here : {image : Image} → s.args.image ≡ image → ImageHere s.args.words.now s.args.s image s.args.columns s.args.m
  here e = rw e at s.requires.image_here

  -- what is promised, by the image's kind
  abbrev Promised : Image → List ℤ → Type 0
  Promised image v = let a = s.args in v ≡ written a.columns (substitute (image_rows a.words.now a.s image) (row_of a.m (drop a.from a.rows.now))) a.target.now

  by_image : {image : Image} (v : List ℤ) → s.args.image ≡ image → Promised image v → Promised s.args.image v
  by_image v e f = rw e f

  put : {image : Image} (v : List ℤ) → s.args.image ≡ image → (let a = s.args in v ≡ replaced a.rows.now a.from a.columns (image_rows a.words.now a.s image) a.target.now) → Promised s.args.image v
  put {image} v e f =
      let a = s.args in
      by_image v e (f ∙ replaced_all a.rows.now a.from a.columns a.m (image_rows a.words.now a.s image) a.target.now (image_length (here e)))

pub put_start-requires : goal.put_start-requires
unfolding columns_of width_of
put_start-requires c =
    let h = here (goal.at.put_start-requires c).Start c.in-Start.is in
    record { shape_form = h.shape_form; s_bound = omega (arith, h.over); row_here = row_here _ h c.requires.m_in_bounds c.requires.columns_in_bounds h.wide }

pub copy_row-requires-clause-m_le_columns : goal.copy_row-requires-clause-m_le_columns
unfolding columns_of width_of
copy_row-requires-clause-m_le_columns c =
    let h = here (goal.at.copy_row-requires-clause-m_le_columns c).Start c.in-Path.is in
    (omega (arith, h.over, h.wide), c.requires.columns_in_bounds)

pub put_assigned-requires : goal.put_assigned-requires
unfolding ImageForm columns_of width_of
put_assigned-requires c =
    let h = here (goal.at.put_assigned-requires c).Start c.in-Assign.is in
    record { expression = h.image_form.1; i_lt_k = h.image_form.0; k_in_bounds = rw h.wide at c.requires.m_in_bounds; k_in_bounds_2 = omega (arith, h.over) }

pub put_entry-requires : goal.put_entry-requires
unfolding ImageForm columns_of width_of
put_entry-requires c =
    let h = here (goal.at.put_entry-requires c).Start c.in-Entry.is in
    record {
      shape_form = h.shape_form;
      expressions = h.image_form.1;
      globals_le_k = (h.image_form.0, omega (arith, h.over));
      row_here = row_here _ h c.requires.m_in_bounds c.requires.columns_in_bounds h.wide;
    }

pub put_return-requires : goal.put_return-requires
unfolding ImageForm columns_of width_of
put_return-requires c =
    let h = here (goal.at.put_return-requires c).Start c.in-Return.is in
    record { shape_form = h.shape_form; globals_le_k = (h.image_form, omega (arith, h.over)); row_here = row_here _ h c.requires.m_in_bounds c.requires.columns_in_bounds h.wide }

pub put_exit-requires : goal.put_exit-requires
unfolding ImageForm columns_of width_of
put_exit-requires c =
    let h = here (goal.at.put_exit-requires c).Start c.in-Exit.is in
    record { shape_form = h.shape_form; parameters_bound = (h.image_form, omega (arith, h.over)); row_here = row_here _ h c.requires.m_in_bounds c.requires.columns_in_bounds h.wide }

pub put_called-requires : goal.put_called-requires
unfolding ImageForm columns_of width_of
put_called-requires c =
    let h = here (goal.at.put_called-requires c).Start c.in-Called.is in
    record {
      shape_form = h.shape_form;
      expressions = h.image_form.1;
      globals_le_k = (h.image_form.0, omega (arith, h.over));
      row_here = row_here _ h c.requires.m_in_bounds c.requires.columns_in_bounds h.wide;
    }

pub returns-in-Start : goal.returns-in-Start
unfolding image_rows
returns-in-Start c = put (goal.at.returns-in-Start c).Start _ c.in-Start.is c.put_start.ensures

pub returns-in-Path : goal.returns-in-Path
unfolding image_rows columns_of width_of
returns-in-Path c =
    let s = (goal.at.returns-in-Path c).Start in
    let a = c.args in
    let e = c.in-Path.is in
    let h = here s e in
    let row = row_of (a.s.k + a.s.k) (drop a.from a.rows.now) in
    by_image s _ e (c.copy_row.ensures ∙ rw (h.over, h.wide, path_row a.s.k row (narrow_row (a.s.k + a.s.k) (drop a.from a.rows.now))) refl)

pub returns-in-Assign : goal.returns-in-Assign
unfolding image_rows columns_of width_of
returns-in-Assign c =
    let s = (goal.at.returns-in-Assign c).Start in
    let e = c.in-Assign.is in
    let h = here s e in
    by_image s _ e (rw (h.over, h.wide) c.put_assigned.ensures)

pub returns-in-Entry : goal.returns-in-Entry
unfolding image_rows
returns-in-Entry c = put (goal.at.returns-in-Entry c).Start _ c.in-Entry.is c.put_entry.ensures

pub returns-in-Return : goal.returns-in-Return
unfolding image_rows
returns-in-Return c = put (goal.at.returns-in-Return c).Start _ c.in-Return.is c.put_return.ensures

pub returns-in-Exit : goal.returns-in-Exit
unfolding image_rows
returns-in-Exit c = put (goal.at.returns-in-Exit c).Start _ c.in-Exit.is c.put_exit.ensures

pub returns-in-Called : goal.returns-in-Called
unfolding image_rows
returns-in-Called c = put (goal.at.returns-in-Called c).Start _ c.in-Called.is c.put_called.ensures
