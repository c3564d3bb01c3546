-- `with_turn` meets its contract, turn by turn.
use Rattle.std.proofs.Common.{refl}
use Rattle.traces.specs.Stretches.{with_turn}
use Rattle.valid_paths.specs.Readings.{turn_of}
use Rattle.valid_paths.proofs.turns.with_turn.Goals as goal

pub returns-then-after-eq0 : goal.returns-then-after-eq0
unfolding with_turn turn_of
returns-then-after-eq0 c = rw (c.in-Calls.is, c.if-after-eq0.true) refl

pub returns-in-Stays : goal.returns-in-Stays
unfolding with_turn turn_of
returns-in-Stays c = rw c.in-Stays.is refl

pub returns-else-after-eq0 : goal.returns-else-after-eq0
unfolding with_turn turn_of
returns-else-after-eq0 c = rw c.in-Calls.is refl

pub returns-in-Returns : goal.returns-in-Returns
unfolding with_turn turn_of
returns-in-Returns c = rw c.in-Returns.is refl
