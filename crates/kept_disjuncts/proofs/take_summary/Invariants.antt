-- `take_summary` meets its contract: before turn j the vertices up to j are looked at.
use Rattle.std.proofs.Common.{List, ℕ, ◌+◌, ℤ}
use Rattle.trimmed_words.specs.Trim.{listed_uses}
use Rattle.program_readers.specs.declared.places.Sizes.{Sizes}
use Rattle.kept_disjuncts.specs.Standing.{ReturnDone, Looked}
use Rattle.kept_disjuncts.proofs.take_summary.Given as goal

-- what is said of vertex j + 1
abbrev pub At : List ℤ → List ℤ → Sizes → List ℕ → ℕ → ℕ → ℕ → List ℕ → List ℕ → Type 0
At program witness sizes table q case j bytes bytes' = (i : ℕ) → ReturnDone program witness sizes table bytes bytes' q (j + 1) i case

abbrev pub invariant-loop-j : goal.invariant-loop-j
invariant-loop-j l = Looked (listed_uses l.program l.witness) l.sizes (At l.program l.witness l.sizes l.table l.q.0 l.case) l.fn.kept l.fn.queue l.count l.kept l.queue l.held l.j
