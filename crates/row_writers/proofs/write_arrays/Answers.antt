-- `write_arrays` meets its contract: after j turns the arrays of the first j coefficients stand in the buffer. A coefficient that isn't 0 finds
-- both its places, since `used` counts it too.
use Rattle.std.proofs.Common.{◌≡◌, ◌+◌, ◌-◌, ◌<◌, List, ℤ, pos, false, get_or, length, take, drop, length-set, length-take, length-drop, arith, rules, sym, ap, ◌∙◌, w32, SFits, to_z-of_z}
use mir.Facts.{to_z_pos}
use Rattle.basics.specs.Integers.{eq_z}
use Rattle.words.specs.Words.{word}
use Rattle.words.specs.UsedColumns.{used_coefficients}
use Rattle.row_writers.specs.Arrays.{used_fewer, next_zero, count_used, tested_zero, tested_used, coefficient_at, arrays_none, arrays_kept, arrays_stored, arrays_all}
use Rattle.row_writers.proofs.write_arrays.Goals as goal
use Rattle.row_writers.proofs.write_arrays.Goals.{In-loop-j, Then-x-ne0, then-x-ne0, else-x-ne0}

pub loop-j-init : goal.loop-j-init
unfolding used_coefficients
loop-j-init c = let a = c.args in record { at = omega arith; stored = arrays_none a.rows.now a.from a.buffer.now a.first a.used }

-- the coefficient of a turn, which is there
inside : (c : In-loop-j) → c.loop-j.j < c.args.columns
inside c = omega (arith, length-take (c.args.from + c.args.columns - c.args.from) (drop c.args.from c.args.rows.now))

-- one that isn't 0 isn't counted yet, so both places are in the buffer
tested : (c : Then-x-ne0) → c.loop-j.j < c.args.columns → eq_z (word c.args.rows.now (c.args.from + c.loop-j.j)) (pos 0) ≡ false
tested c k =
    let a = c.args in
    let n = a.from + a.columns - a.from in
    ap (λ z. eq_z z (pos 0)) (sym (coefficient_at a.rows.now a.from a.columns c.loop-j.j k)) ∙ tested_used (get_or (take n (drop a.from a.rows.now)) c.loop-j.j (pos 0)) c.if-x-ne0.true

fewer : (c : Then-x-ne0) → c.loop-j.j < c.args.columns → length (used_coefficients (take c.loop-j.j (drop c.args.from c.args.rows.now))) < c.args.used
fewer c k =
    let a = c.args in
    omega (arith, count_used a.rows.now a.from c.loop-j.j (omega arith) (tested c k), used_fewer a.rows.now a.from (c.loop-j.j + 1) a.columns (omega arith), c.requires.used_value)

room : (c : Then-x-ne0) → c.loop-j.j < c.args.columns → c.loop-j.place + c.args.used < length c.args.buffer.now
room c k = omega (arith, c.loop-j.invariant.at, fewer c k)

pub overflow_add-value : goal.overflow_add-value
overflow_add-value c = let g = goal.at.overflow_add-value c in omega (arith, room g.Then-x-ne0 (inside g.In-loop-j))

pub offset_bounds-buffer-place : goal.offset_bounds-buffer-place
offset_bounds-buffer-place c = let g = goal.at.offset_bounds-buffer-place c in omega (arith, room g.Then-x-ne0 (inside g.In-loop-j))

pub bounds-buffer-place : goal.bounds-buffer-place
bounds-buffer-place c = let g = goal.at.bounds-buffer-place c in omega (arith, room g.Then-x-ne0 (inside g.In-loop-j))

pub offset_bounds-buffer-value : goal.offset_bounds-buffer-value
offset_bounds-buffer-value c = let g = goal.at.offset_bounds-buffer-value c in omega (arith, room g.Then-x-ne0 (inside g.In-loop-j))

pub bounds-buffer-value : goal.bounds-buffer-value
bounds-buffer-value c = let g = goal.at.bounds-buffer-value c in simp length-set (omega (arith, room g.Then-x-ne0 (inside g.In-loop-j)))

pub overflow_add-place : goal.overflow_add-place
overflow_add-place c = let g = goal.at.overflow_add-place c in omega (arith, room g.Then-x-ne0 (inside g.In-loop-j))

pub loop-j-preserved : goal.loop-j-preserved
loop-j-preserved c =
    let k = inside (goal.at.loop-j-preserved c).In-loop-j in
    let a = c.args in
    let l = c.loop-j in
    let n = a.from + a.columns - a.from in
    let there : a.from + l.j < length a.rows.now = omega arith in
    let x = get_or (take n (drop a.from a.rows.now)) l.j (pos 0) in
    let f : SFits w32 (get_or (take (a.from + a.columns - a.from) (drop a.from a.rows.now)) c.loop-j.j (pos 0)) = search rules in
    let e = coefficient_at a.rows.now a.from a.columns l.j k in
    let z = ap (λ z. eq_z z (pos 0)) (sym e) in
    elim c.if-x-ne0.branch [
      | then-x-ne0 w ↦
          let t = z ∙ tested_used x w.if-x-ne0.true in
          let fewer : length (used_coefficients (take l.j (drop a.from a.rows.now))) < a.used = omega (arith, count_used a.rows.now a.from l.j there t, used_fewer a.rows.now a.from (l.j + 1) a.columns (omega arith), c.requires.used_value) in
          record {
            at = w.place-is ∙ omega (arith, l.invariant.at, count_used a.rows.now a.from l.j there t);
            stored = w.buffer-is ∙ arrays_stored a.rows.now a.from a.buffer.now a.first a.used l.j there t fewer l.invariant.stored l.invariant.at (to_z_pos w32 (omega arith)) (to_z-of_z f ∙ e);
          }
      | else-x-ne0 w ↦
          let t = z ∙ tested_zero x f w.if-x-ne0.false in
          record {
            at = w.place-is ∙ (l.invariant.at ∙ ap (λ (xs : List ℤ). a.first + length xs) (sym (next_zero a.rows.now a.from l.j there t).1));
            stored = w.buffer-is ∙ (l.invariant.stored ∙ arrays_kept a.rows.now a.from a.buffer.now a.first a.used l.j there t);
          }
    ]

pub returns : goal.returns
returns c =
    let l = c.loop-j in
    let a = c.args in
    let e : l.j ≡ a.columns = omega (arith, length-take (a.from + a.columns - a.from) (drop a.from a.rows.now), length-drop a.from a.rows.now) in
    (rw e at l.invariant.stored) ∙ arrays_all a.rows.now a.from a.buffer.now a.first a.used a.columns c.requires.used_value
