-- Each loop keeps that all entailments so far have their bytes, and that the next one's witness stands where the pass is.
use Rattle.std.proofs.Common.{◌≡◌, List, ℕ, ◌+◌, ℤ}
use Rattle.programs.specs.ProgramWords.{k}
use Rattle.certificates.specs.CertificateWords.{stored_form, disjuncts_end}
use Rattle.used_targets.specs.Passes.{Head}
use Rattle.used_targets.proofs.table_uses.Given as goal

-- the columns of a vertex's disjuncts
abbrev pub columns_of : List ℤ → ℕ → ℕ
columns_of program v = k program v + k program v

abbrev pub invariant-loop-i : goal.invariant-loop-i
invariant-loop-i l = Head l.program l.witness (l.i + 1) 0 0 l.at l.table

abbrev pub invariant-loop-d : goal.invariant-loop-d
invariant-loop-d l = Head l.program l.witness (l.i + 1) l.d 0 l.at l.table × (l.place ≡ disjuncts_end (stored_form l.witness) l.rows (columns_of l.program (l.i + 1)) l.d l.initial.place)

abbrev pub invariant-loop-case : goal.invariant-loop-case
invariant-loop-case l = Head l.program l.witness (l.i + 1) l.d l.case l.at l.table
