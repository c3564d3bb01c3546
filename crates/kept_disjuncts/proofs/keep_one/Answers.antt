-- `keep_one` meets its contract: a byte that isn't 1 leaves a place in the queue, since there are as many in it as bytes are 1.
use Rattle.std.proofs.Common.{arith}
use Rattle.kept_disjuncts.specs.Queue.{filled_already, a_place_left, filled_one}
use Rattle.kept_disjuncts.proofs.keep_one.Goals as goal

pub returns-then-kept-place-eq1 : goal.returns-then-kept-place-eq1
returns-then-kept-place-eq1 c = filled_already c.requires.queued c.args.place c.requires.place_lt_most_bytes c.if-kept-place-eq1.true

pub offset_bounds-queue-count : goal.offset_bounds-queue-count
offset_bounds-queue-count c = omega (arith, a_place_left c.requires.queued c.args.place c.requires.place_lt_most_bytes c.if-kept-place-eq1.false)

pub bounds-queue-count : goal.bounds-queue-count
bounds-queue-count c = omega (arith, c.requires.queued.queue_length, a_place_left c.requires.queued c.args.place c.requires.place_lt_most_bytes c.if-kept-place-eq1.false)

pub overflow_add-result : goal.overflow_add-result
overflow_add-result c = omega (arith, a_place_left c.requires.queued c.args.place c.requires.place_lt_most_bytes c.if-kept-place-eq1.false)

pub returns : goal.returns
returns c = filled_one c.requires.queued c.args.place c.requires.place_lt_most_bytes c.if-kept-place-eq1.false
