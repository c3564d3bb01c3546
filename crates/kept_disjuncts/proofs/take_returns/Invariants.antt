-- `take_returns` meets its contract: at a call of the procedure before turn i the entailments of the disjuncts below i are looked at.
use Rattle.std.proofs.Common.{List, ℕ, ℤ}
use Rattle.trimmed_words.specs.Trim.{listed_uses}
use Rattle.program_readers.specs.declared.places.Sizes.{Sizes}
use Rattle.kept_disjuncts.specs.Standing.{CaseDone, Looked}
use Rattle.kept_disjuncts.proofs.take_returns.Given as goal

-- what is said of disjunct i of a vertex
abbrev pub At : List ℤ → List ℤ → Sizes → List ℕ → ℕ → ℕ → ℕ → List ℕ → List ℕ → Type 0
At program witness sizes table v case i bytes bytes' = CaseDone program witness sizes table bytes bytes' v i case

abbrev pub invariant-loop-i : goal.invariant-loop-i
invariant-loop-i l = Looked (listed_uses l.program l.witness) l.sizes (At l.program l.witness l.sizes l.table l.leaving.vertex.0 l.case) l.fn.kept l.fn.queue l.count l.kept l.queue l.held l.i
