-- How many entailments there are: one for the start, and from each path edge of a vertex as many as the kind of its statement has cases.
-- A call has the most, one for the entry and one for each summary edge: at most 9, where no procedure has more than 8 summary edges.
use Rattle.std.proofs.Math.Option.{Option, none, some}
use Prim.Native.Nat.{ℕ, zero, suc, ◌+◌}
use Rattle.std.proofs.Math.ListN.{length}
use Rattle.programs.specs.Program.{Comparison, less, greater, at_most, at_least, equal, different, Condition, choice, compare, Statement, skip, assign, branch, assert, call}
use Rattle.certificates.specs.Certificate.{Certificate, summary_edges}

-- the cases of both sides of a comparison
unfoldable pub cases_of_comparison : Comparison → ℕ
cases_of_comparison less = 2
cases_of_comparison greater = 2
cases_of_comparison at_most = 2
cases_of_comparison at_least = 2
cases_of_comparison equal = 3
cases_of_comparison different = 3

unfoldable pub cases_of_condition : Condition → ℕ
cases_of_condition choice = 2
cases_of_condition (compare op e) = cases_of_comparison op

-- the entailments from one path edge of a vertex, which has a statement or is an exit
unfoldable pub cases_of : Certificate → Option Statement → ℕ
cases_of c (some (skip next)) = 1
cases_of c (some (assign next i e)) = 1
cases_of c (some (branch yea nay g)) = cases_of_condition g
cases_of c (some (assert next op e)) = cases_of_comparison op
cases_of c (some (call return callee actuals)) = 1 + length (summary_edges c callee)
cases_of c none = 1

-- f 1 + f 2 + .. + f m
unfoldable pub total : (ℕ → ℕ) → ℕ → ℕ
total f zero = 0
total f (suc i) = total f i + f (i + 1)
