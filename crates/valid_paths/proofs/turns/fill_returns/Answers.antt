-- `fill_returns` meets its contract: the entry before those that are filled is the one behind it with the turn of its step.
use Rattle.std.proofs.Common.{◌≡◌, ◌+◌, ◌-◌, ℕ, sym, subst, ap, ap₂, ◌∙◌, arith, set, length-set}
use Rattle.words.specs.Words.{word}
use Rattle.programs.specs.Decode as decode
use Rattle.programs.specs.MoveLabels.{turn_at}
use Rattle.traces.specs.TraceWords.{N}
use Rattle.traces.specs.Stretches.{with_turn, listed_at}
use Rattle.valid_paths.specs.Readings.{turn_of}
use Rattle.valid_paths.specs.TurnLaws.{turn_back, FilledFrom, last_filled, filled_at, filled_most, more_filled, all_filled}
use Rattle.valid_paths.proofs.turns.fill_returns.Goals as goal

pub loop-i-init : goal.loop-i-init
loop-i-init c =
    let p = c.args.program.now in
    let w = c.args.witness.now in
    let table = c.args.table.now in
    let e : N p w ≡ N p w - 0 = omega arith in
    let filled = subst (λ (j : ℕ). FilledFrom p w (set table (N p w) 0) j) e (last_filled p w table (omega (arith, c.requires.sized.count))) in
    record { long = rw length-set c.requires.steps_in_bounds; filled = subst (λ (k : ℕ). FilledFrom p w (set table k 0) (k - 0)) (sym c.requires.sized.count) filled }

pub with_turn-requires : goal.with_turn-requires
with_turn-requires c =
    let steps = c.args.trace.steps in
    let i = c.loop-i.i in
    filled_most c.args.program.now c.args.witness.now c.loop-i.table (steps - i) (steps - (i + 1) + 1) c.loop-i.invariant.filled (omega arith) (omega (arith, c.requires.sized.count))

pub loop-i-preserved : goal.loop-i-preserved
loop-i-preserved c =
    let p = c.args.program.now in
    let w = c.args.witness.now in
    let steps = c.args.trace.steps in
    let table = c.loop-i.table in
    let from = steps - (c.loop-i.i + 1) in
    let later : steps - c.loop-i.i ≡ from + 1 = omega arith in
    let filled = subst (λ (j : ℕ). FilledFrom p w table j) later c.loop-i.invariant.filled in
    let turn = ap turn_of c.turn_of-turn.ensures ∙ (turn_back _ ∙ ap (turn_at (decode.program p)) (c.listed_in-v.ensures ∙ ap (λ (k : ℕ). listed_at (word w (k + from))) c.requires.sized.place)) in
    let e = c.with_turn.ensures ∙ ap₂ with_turn turn (filled_at p w table (from + 1) (from + 1) filled (omega arith) (omega (arith, c.requires.sized.count))) in
    record {
      long = rw length-set c.loop-i.invariant.long;
      filled = more_filled p w table from _ (omega (arith, c.loop-i.invariant.long, c.requires.sized.count)) (omega (arith, c.requires.sized.count)) filled e;
    }

pub returns : goal.returns
returns c =
    let p = c.args.program.now in
    let w = c.args.witness.now in
    let e : c.args.trace.steps - c.loop-i.i ≡ 0 = omega arith in
    all_filled p w c.loop-i.table (omega (arith, c.loop-i.invariant.long, c.requires.sized.count)) (subst (λ (j : ℕ). FilledFrom p w c.loop-i.table j) e c.loop-i.invariant.filled)
