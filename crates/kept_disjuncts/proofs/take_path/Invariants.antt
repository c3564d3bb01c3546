-- `take_path` meets its contract: before turn `case` the entailments below `case` are looked at.
use Rattle.std.proofs.Common.{List, ℕ, ℤ}
use Rattle.trimmed_words.specs.Trim.{listed_uses}
use Rattle.program_readers.specs.declared.places.Sizes.{Sizes}
use Rattle.kept_disjuncts.specs.Standing.{CaseDone, Looked}
use Rattle.kept_disjuncts.proofs.take_path.Given as goal

-- what is said of an entailment of disjunct i of a vertex
abbrev pub At : List ℤ → List ℤ → Sizes → List ℕ → ℕ → ℕ → ℕ → List ℕ → List ℕ → Type 0
At program witness sizes table v i case bytes bytes' = CaseDone program witness sizes table bytes bytes' v i case

abbrev pub invariant-loop-case : goal.invariant-loop-case
invariant-loop-case l = Looked (listed_uses l.program l.witness) l.sizes (At l.program l.witness l.sizes l.table l.leaving.vertex.0 l.i) l.fn.kept l.fn.queue l.count l.kept l.queue l.held l.case
