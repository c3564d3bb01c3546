-- The premises are as many as are counted.
use Rattle.witness_walks.specs.Witnessed.{walked_from}
use Rattle.witness_walks.proofs.mark_witness.Goals as goal

pub returns : goal.returns
unfolding walked_from
returns c = rw c.premise_count-n.ensures.value at c.mark_tree.ensures
