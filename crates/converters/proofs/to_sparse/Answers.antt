-- `to_sparse` meets its contract: it is `convert` at the form that it reads.
use Rattle.conversions.specs.Conversions.{to_sparse}
use Rattle.converters.proofs.to_sparse.Goals as goal

pub returns : goal.returns
unfolding to_sparse
returns c = record { value = c.convert.ensures.value; buffer_after = c.convert.ensures.buffer_after }
