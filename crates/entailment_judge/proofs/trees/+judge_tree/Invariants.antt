-- The splits that are left.
use Rattle.entailment_judge.proofs.trees.+judge_tree.Given as goal

abbrev pub decreases-judge_tree : goal.decreases-judge_tree
decreases-judge_tree l = l.depth
