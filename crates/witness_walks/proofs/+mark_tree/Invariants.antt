-- A witness is walked with so many splits left, and the two of a split with one less.
use Rattle.witness_walks.proofs.+mark_tree.Given as goal

abbrev pub decreases-mark_tree : goal.decreases-mark_tree
decreases-mark_tree l = l.depth
