-- By what the word is as a natural number.
use Rattle.std.proofs.Common.{sym, to_z-of_z}
use Rattle.reading.proofs.Laws.{below_in, below_out}
use Rattle.sparse_rows.proofs.is_column.Goals as goal

pub returns-in-Some : goal.returns-in-Some
returns-in-Some c = sym (below_in c.args.columns c.args.x c.in-Some.m (sym (rw (to_z-of_z c.ranges.x) at c.in-Some.ensures)))

pub returns-in-None : goal.returns-in-None
returns-in-None c = sym (below_out c.args.columns c.args.x (sym (rw (to_z-of_z c.ranges.x) at c.in-None.ensures)))
