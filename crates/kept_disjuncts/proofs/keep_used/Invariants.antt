-- `keep_used` meets its contract: the start's targets are put in the queue, each turn takes the next one, and the queue has at most as many as there
-- are bytes.
use Rattle.std.proofs.Common.{◌-◌}
use Rattle.trimmed_words.specs.Trim.{listed_uses}
use Rattle.entailment_sources.specs.KeptBytes.{most_bytes}
use Rattle.kept_disjuncts.specs.Closing.{Closing}
use Rattle.kept_disjuncts.proofs.keep_used.Given as goal

abbrev pub invariant-loop-head : goal.invariant-loop-head
invariant-loop-head l = Closing (listed_uses l.program l.witness) l.sizes l.kept l.queue l.count l.head

abbrev pub decreases-loop-head : goal.decreases-loop-head
decreases-loop-head l = most_bytes - l.head
