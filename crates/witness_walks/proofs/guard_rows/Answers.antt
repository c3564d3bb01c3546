-- By the op.
use Rattle.witness_walks.specs.Counts.{guard_none, guard_two, guard_one}
use Rattle.witness_walks.proofs.guard_rows.Goals as goal

pub returns-then-op-eq0 : goal.returns-then-op-eq0
returns-then-op-eq0 c = guard_none c.args.op c.if-op-eq0.true

pub returns-then-op-eq5 : goal.returns-then-op-eq5
returns-then-op-eq5 c = guard_two c.args.op c.if-op-eq5.true

pub returns : goal.returns
returns c = guard_one c.args.op c.if-op-eq0.false c.if-op-eq5.false
