-- One split less is left.
use Rattle.kept_witnesses.proofs.renumbering.+renumber_tree.Given as goal

abbrev pub decreases-renumber_tree : goal.decreases-renumber_tree
decreases-renumber_tree l = l.depth
