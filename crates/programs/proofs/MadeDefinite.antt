-- A choice made definite: one program is another with a condition in place of `?` in one branch, and nothing else differs that a run or an
-- entailment goes by.
use Rattle.std.specs.Prelude.{◌≡◌}
use Rattle.std.proofs.Math.Path.{refl, ap}
use Prim.Native.Nat.{ℕ, zero, suc}
use Rattle.std.proofs.Math.ListN.{get_or}
use Rattle.programs.specs.Program.{Condition, Program, Procedure, procedure_at, no_procedure, first_of, locals_of, parameters_of, owner}
use Rattle.programs.specs.MadeDefinite.{MadeDefinite}

module _ {p p' : Program} {v : ℕ} {g : Condition} (m : MadeDefinite p p' v g) where
  same_procedure_lem : (q : ℕ) → procedure_at p' q ≡ procedure_at p q
  unfolding procedure_at
  same_procedure_lem zero = refl
  same_procedure_lem (suc i) = ap (λ l. get_or l i no_procedure) m.procedures

  pub same_first : (q : ℕ) → first_of p' q ≡ first_of p q
  same_first q = ap (λ (x : Procedure). x.first) (same_procedure_lem q)

  pub same_locals : (q : ℕ) → locals_of p' q ≡ locals_of p q
  same_locals q = ap (λ (x : Procedure). x.locals) (same_procedure_lem q)

  pub same_parameters : (q : ℕ) → parameters_of p' q ≡ parameters_of p q
  same_parameters q = ap (λ (x : Procedure). x.parameters) (same_procedure_lem q)

  pub same_owner : (u : ℕ) → owner p' u ≡ owner p u
  unfolding owner
  same_owner u = rw (m.count, m.procedures)
