-- A weighted column changes one entry of the row, since its other entries are 0.
use Rattle.std.proofs.Common.{◌+◌, ◌∙◌, pos, get_or, arith, rules, SFits, w64, to_z-of_z}
use Rattle.words.specs.Words.{word}
use Rattle.numbers.specs.Magnitudes.{back64}
use Rattle.row_buffers.proofs.EntryLimits.{next_fits}
use Rattle.row_buffers.proofs.Spread.{entry_held}
use Rattle.row_buffers.proofs.OneEntry.{entry_stored}
use Rattle.row_buffers.proofs.add_column.Goals as goal

pub add_mul-requires : goal.add_mul-requires
add_mul-requires c =
    let a = c.args in
    let x = get_or a.target.now (1 + a.c) (pos 0) in
    let b = rw (entry_held a.columns (1 + a.c) a.target.now (omega arith)) at (c.requires.columns_in_bounds.1.bound (1 + a.c)) in
    let w = c.wide-weight in
    let f : SFits w64 (get_or a.target.now (1 + a.c) (pos 0)) = search rules in
    rw (to_z-of_z f, back64 w.type_inv) (omega (arith, next_fits x (pos 1) w.result b (omega arith) (omega (arith, w.ensures.small))))

pub returns : goal.returns
returns c =
    let a = c.args in
    let f : SFits w64 (get_or a.target.now (1 + a.c) (pos 0)) = search rules in
    entry_stored a.columns a.target.now c.requires.columns_in_bounds.0 a.c _ _ _ (word a.words.now a.at) c.requires.at_in_bounds.1 (back64 c.add_mul.type_inv ∙ c.add_mul.ensures)
    (to_z-of_z f) (back64 c.wide-weight.type_inv ∙ c.wide-weight.ensures.is)
