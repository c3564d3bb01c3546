-- The next entry of the target is still its own, and the product is small enough to be added to it.
use Rattle.std.proofs.Common.{◌≡◌, refl, ◌∙◌, ◌+◌, ◌-◌, ◌*◌, ◌<◌, pos, get_or, take, drop, arith, rules, SFits, w64, to_z, of_z, to_z-of_z, length-take}
use Rattle.numbers.specs.Magnitudes.{back64}
use Rattle.row_buffers.specs.HeldRows.{stride}
use Rattle.row_buffers.proofs.Spread.{spread_none, spread_store}
use Rattle.row_buffers.proofs.Adding.{added, sum, entry_added, entry_fits, part_at, unweighted, unreached}
use Rattle.row_buffers.proofs.add_row.Goals as goal
use Rattle.row_buffers.proofs.add_row.Goals.{Start, In-loop-i}

-- the weight, as the code has it
weighs : (c : Start) → to_z w64 (of_z w64 c.args.weight) ≡ c.args.weight
weighs c = to_z-of_z c.ranges.weight

inside : (c : In-loop-i) → c.loop-i.i < stride c.args.columns
inside c =
    let n = stride c.args.columns in
    let from = c.args.j * n in
    omega (arith, length-take (from + n - from) (drop from c.args.rows.now))

pub returns-then-weight-eq0 : goal.returns-then-weight-eq0
returns-then-weight-eq0 c =
    let a = c.args in
    let w = a.weight in
    unweighted a.columns a.target.now w (added a.rows.now a.columns a.j w a.target.now) c.requires.columns_in_bounds.0 (search rules)

pub loop-i-init : goal.loop-i-init
loop-i-init c =
    let a = c.args in
    spread_none (sum a.rows.now a.columns a.j (to_z w64 (of_z w64 a.weight)) a.target.now) a.target.now

pub add_mul-requires : goal.add_mul-requires
add_mul-requires c =
    let i = (goal.at.add_mul-requires c).In-loop-i in
    let l = c.loop-i in
    let a = c.args in
    let p = c.requires in
    let w = to_z w64 (of_z w64 a.weight) in
    let f : SFits w64 (get_or c.loop-i.target c.loop-i.i (pos 0)) = search rules in
    let n = stride a.columns in
    let k = inside i in
    let g : SFits w64 (get_or (take (a.j * n + n - a.j * n) (drop (a.j * n) a.rows.now)) l.i (pos 0)) = search rules in
    let y = to_z-of_z g ∙ part_at a.rows.now (a.j * n) n l.i k in
    entry_fits a.rows.now a.columns a.j w a.target.now l.i _ _ _ (omega arith)
    (to_z-of_z f ∙ unreached l.i (sum a.rows.now a.columns a.j w a.target.now) a.target.now l.target l.invariant)
    refl y p.columns_in_bounds.1 (rw (weighs (goal.at.add_mul-requires c).Start) p.weight_bound) p.small_row

pub loop-i-preserved : goal.loop-i-preserved
loop-i-preserved c =
    let i = (goal.at.loop-i-preserved c).In-loop-i in
    let l = c.loop-i in
    let a = c.args in
    let w = to_z w64 (of_z w64 a.weight) in
    let r = sum a.rows.now a.columns a.j w a.target.now in
    let f : SFits w64 (get_or c.loop-i.target c.loop-i.i (pos 0)) = search rules in
    let n = stride a.columns in
    let k = inside i in
    let g : SFits w64 (get_or (take (a.j * n + n - a.j * n) (drop (a.j * n) a.rows.now)) l.i (pos 0)) = search rules in
    let y = to_z-of_z g ∙ part_at a.rows.now (a.j * n) n l.i k in
    spread_store r l.i a.target.now l.target (to_z w64 (of_z w64 c.add_mul.result)) (omega arith) l.invariant
    (back64 c.add_mul.type_inv ∙ c.add_mul.ensures
    ∙ entry_added a.rows.now a.columns a.j w a.target.now l.i _ _ _ (omega arith)
    (to_z-of_z f ∙ unreached l.i r a.target.now l.target l.invariant) refl y)
