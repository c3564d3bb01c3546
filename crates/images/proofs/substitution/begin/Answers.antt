-- The constant that is stored is within its limit.
use Rattle.std.proofs.Common.{arith}
use Rattle.row_buffers.proofs.Starting.{start_small}
use Rattle.images.proofs.substitution.begin.Goals as goal

pub returns : goal.returns
returns c =
    let e = c.start_row.ensures in
    let p = c.requires in
    record {
      is = e;
      behind = c.coefficients_from.ensures;
      ready = record { narrow = p.columns_le_most_buffer_columns.0; long = omega arith; small = start_small c.args.columns _ c.args.target.now _ e p.constant_words_in_bounds.1 };
    }
