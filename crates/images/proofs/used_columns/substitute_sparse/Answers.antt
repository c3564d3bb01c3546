-- Where the columns stay as they are, so does the row.
use Rattle.std.proofs.Common.{◌≡◌, sym, ap, ◌∙◌, ◌≤◌, drop, arith}
use Rattle.rows.specs.Rows.{Row, substitute}
use Rattle.words.specs.SparseRows.{sparse_row_of}
use Rattle.certificate_readers.specs.Disjuncts.{stands_within}
use Rattle.row_buffers.specs.Spread.{written}
use Rattle.row_buffers.proofs.MovedColumns.{path_row}
use Rattle.entailments.specs.Meaning.{image_rows}
use Rattle.entailments.specs.Forms.{ImageHere, columns_of, width_of}
use Rattle.entailments.specs.declared.Image.TheVariants.{Path}
use Rattle.images.proofs.used_columns.substitute_sparse.Goals as goal
use Rattle.images.proofs.used_columns.substitute_sparse.Goals.{Start}

module _ (s : Start) (e : s.args.image ≡ Path) where
  here : ImageHere s.args.words.now s.args.s Path s.args.columns s.args.m
  here = rw e at s.requires.image_here

  fits : s.args.m ≤ s.args.columns
  unfolding columns_of width_of
  fits = omega (arith, here.over, here.wide)

  same : let a = s.args in sparse_row_of a.m (drop a.from a.rows.now) ≡ substitute (image_rows a.words.now a.s a.image) (sparse_row_of a.m (drop a.from a.rows.now))
  unfolding image_rows width_of
  same =
      let a = s.args in
      let row = sparse_row_of a.m (drop a.from a.rows.now) in
      rw e (sym (path_row a.s.k row (omega (arith, (stands_within s.requires.row_stands).wide, here.wide))))

pub spread_row-requires-clause-m_le_columns : goal.spread_row-requires-clause-m_le_columns
spread_row-requires-clause-m_le_columns c = (fits (goal.at.spread_row-requires-clause-m_le_columns c).Start c.in-Path.is, c.requires.columns_in_bounds)

pub returns-in-Path-clause-target_after : goal.returns-in-Path-clause-target_after
returns-in-Path-clause-target_after c =
    let s = (goal.at.returns-in-Path-clause-target_after c).Start in
    c.spread_row.ensures.target_after ∙ ap (λ (row : Row). written c.args.columns row c.args.target.now) (same s c.in-Path.is)
