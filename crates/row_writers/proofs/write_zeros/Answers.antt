-- `write_zeros` meets its contract: a part that is filled is that many zeros.
use Rattle.std.proofs.Common.{◌+◌, ◌-◌, arith}
use Rattle.row_writers.specs.DenseRows.{zeros_stored}
use Rattle.row_writers.proofs.write_zeros.Goals as goal

pub returns : goal.returns
returns c =
    let a = c.args in
    zeros_stored a.buffer.now _ a.from a.columns (a.from + a.columns - a.from) (omega arith) c.requires (c.fill.ensures.after (λ y h. h))
