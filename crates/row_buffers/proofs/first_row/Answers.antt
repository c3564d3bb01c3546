-- The next entry of the weighted row is stored; for a weight of 0 that row is zeros.
use Rattle.std.proofs.Common.{◌≡◌, refl, ◌∙◌, ◌<◌, pos, get_or, take, arith, rules, SFits, w64, to_z, of_z, to_z-of_z, length-take, get_or-take}
use Rattle.rows.specs.Rows.{scale}
use Rattle.numbers.specs.Magnitudes.{back64}
use Rattle.row_buffers.specs.HeldRows.{stride, held_row}
use Rattle.row_buffers.proofs.Spread.{spread_none, spread_store}
use Rattle.row_buffers.proofs.Adding.{first_entry, first_fits, first_zero}
use Rattle.row_buffers.proofs.first_row.Goals as goal
use Rattle.row_buffers.proofs.first_row.Goals.{Start, In-loop-i}

-- the weight, as the code has it
weighs : (c : Start) → to_z w64 (of_z w64 c.args.weight) ≡ c.args.weight
weighs c = to_z-of_z c.ranges.weight

inside : (c : In-loop-i) → c.loop-i.i < stride c.args.columns
inside c = omega (arith, length-take (stride c.args.columns) c.args.rows.now)

pub returns-then-nothing : goal.returns-then-nothing
returns-then-nothing c =
    let a = c.args in
    c.clear_row.ensures
    ∙ first_zero a.columns a.target.now a.weight (held_row a.columns a.rows.now) (search rules)

pub loop-i-init : goal.loop-i-init
loop-i-init c =
    let a = c.args in
    spread_none (scale (to_z w64 (of_z w64 a.weight)) (held_row a.columns a.rows.now)) a.target.now

pub add_mul-requires : goal.add_mul-requires
add_mul-requires c =
    let k = inside (goal.at.add_mul-requires c).In-loop-i in
    let g : SFits w64 (get_or (take (stride c.args.columns) c.args.rows.now) c.loop-i.i (pos 0)) = search rules in
    first_fits c.args.rows.now c.args.columns (to_z w64 (of_z w64 c.args.weight)) c.loop-i.i _ _ (omega arith) refl (to_z-of_z g ∙ get_or-take (stride c.args.columns) c.args.rows.now c.loop-i.i (pos 0) k)
    (rw (weighs (goal.at.add_mul-requires c).Start) c.requires.weight_bound) c.requires.small_row

pub loop-i-preserved : goal.loop-i-preserved
loop-i-preserved c =
    let k = inside (goal.at.loop-i-preserved c).In-loop-i in
    let g : SFits w64 (get_or (take (stride c.args.columns) c.args.rows.now) c.loop-i.i (pos 0)) = search rules in
    let l = c.loop-i in
    let a = c.args in
    let w = to_z w64 (of_z w64 a.weight) in
    spread_store (scale w (held_row a.columns a.rows.now)) l.i a.target.now l.target (to_z w64 (of_z w64 c.add_mul.result)) (omega arith) l.invariant
    (back64 c.add_mul.type_inv ∙ c.add_mul.ensures ∙ first_entry a.rows.now a.columns w l.i _ _ (omega arith) refl (to_z-of_z g ∙ get_or-take (stride c.args.columns) c.args.rows.now c.loop-i.i (pos 0) k))
