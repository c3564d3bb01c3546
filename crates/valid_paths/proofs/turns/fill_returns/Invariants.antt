-- `fill_returns` meets its contract. The loop's invariant: the table is filled from the vertex that many before the last on.
use Rattle.std.proofs.Common.{◌-◌, ◌<◌, length}
use Rattle.valid_paths.specs.TurnLaws.{FilledFrom}
use Rattle.valid_paths.proofs.turns.fill_returns.Given as goal

abbrev pub invariant-loop-i : goal.invariant-loop-i
invariant-loop-i l = record {
  long : l.steps < length l.table;
  filled : FilledFrom l.program l.witness l.table (l.steps - l.i);
}
