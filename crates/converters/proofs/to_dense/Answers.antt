-- `to_dense` meets its contract: it is `convert` at the form that it reads.
use Rattle.conversions.specs.Conversions.{to_dense}
use Rattle.converters.proofs.to_dense.Goals as goal

pub returns : goal.returns
unfolding to_dense
returns c = record { value = c.convert.ensures.value; buffer_after = c.convert.ensures.buffer_after }
