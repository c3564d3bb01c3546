-- `change` meets its contract: the case of the vertex's kind, and every vertex has a kind.
use Rattle.std.proofs.Common.{◌≡◌, List, ℕ, ◌-◌, ℤ, pos, length, take, drop, arith, take_all, length-drop}
use Rattle.words.specs.Limits.{value_limit}
use Rattle.run_state.specs.Frames.{small_drop}
use Rattle.run_state.specs.State.{state_at, ComesTo, Moves, progress_from}
use Rattle.run_state.specs.Statements.{kind_there}
use Rattle.run_state.specs.StepLaws.{from_zero, not_last, step_moves}
use Rattle.run_state.specs.declared.changes.Change.{Change}
use Rattle.run_state.proofs.change.Goals as goal
use Rattle.run_state.proofs.change.Goals.{After-unwrap-kind}

pub returns-then-last-listed : goal.returns-then-last-listed
returns-then-last-listed c = rw c.refused.ensures (not_last _ _ c.args.listed c.requires.proper c.args.last c.if-last-listed.true)

pub returns-then-vertex-eq0 : goal.returns-then-vertex-eq0
returns-then-vertex-eq0 c =
    rw c.refused-then-vertex-eq0.ensures
    (step_moves _ _ c.args.listed c.requires.proper c.args.last c.if-last-listed.false (from_zero _ _ c.args.listed c.requires.proper c.if-vertex-eq0.true))

pub unwrap-kind-requires : goal.unwrap-kind-requires
unwrap-kind-requires c =
    kind_there c.args.program.now c.args.here.vertex.0 c.requires.formed.form (omega (arith, c.if-vertex-eq0.false)) c.requires.proper.here.known c.kind_inside.result c.kind_inside.ensures

-- the case's move is the step
by_case : (c : After-unwrap-kind) {r : Change} → let s = state_at c.args.globals.now c.args.frames.now c.args.entries.now c.args.here in
    Moves c.args.program.now s c.args.listed r → ComesTo c.args.program.now s (progress_from c.args.program.now s c.args.last (pos c.args.listed)) r
by_case c m = step_moves _ _ c.args.listed c.requires.proper c.args.last c.if-last-listed.false m

-- the rest of the entry values, as the code passes them on
all_passed : (entries : List ℤ) (used : ℕ) → take (length entries - used) (drop used entries) ≡ drop used entries
all_passed entries used = take_all (length entries - used) (drop used entries) (omega (arith, length-drop used entries))

pub call-requires-clause-small : goal.call-requires-clause-small
call-requires-clause-small c = rw (all_passed c.args.entries.now c.args.here.used) (small_drop value_limit c.args.here.used c.args.entries.now c.requires.small_entries)

pub returns-in-Skip : goal.returns-in-Skip
returns-in-Skip c = by_case (goal.at.returns-in-Skip c).After-unwrap-kind (c.skip.ensures _)

pub returns-in-Assign : goal.returns-in-Assign
returns-in-Assign c = by_case (goal.at.returns-in-Assign c).After-unwrap-kind (c.assign.ensures _)

pub returns-in-Branch : goal.returns-in-Branch
returns-in-Branch c = by_case (goal.at.returns-in-Branch c).After-unwrap-kind (c.branch-program.ensures _)

pub returns-in-Assert : goal.returns-in-Assert
returns-in-Assert c = by_case (goal.at.returns-in-Assert c).After-unwrap-kind (c.assert.ensures _)

pub returns-in-Call : goal.returns-in-Call
returns-in-Call c = by_case (goal.at.returns-in-Call c).After-unwrap-kind (rw (all_passed c.args.entries.now c.args.here.used) at c.call.ensures)

pub returns-in-Exit : goal.returns-in-Exit
returns-in-Exit c = by_case (goal.at.returns-in-Exit c).After-unwrap-kind (c.exit.ensures _)
