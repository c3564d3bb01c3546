-- Where the entailments of a disjunct stand: those of a statement's and of an exit's disjuncts are all in the list, which goes over every
-- vertex and every disjunct of it.
use Rattle.std.proofs.Math.Path.{◌≡◌}
use Rattle.std.proofs.Common.{sym, ap, subst}
use Prim.Native.Nat.{ℕ, zero, suc, ◌+◌, ◌-◌, ◌≤◌, ◌<◌}
use native.Mathlib.Omega.{arith}
use Rattle.std.proofs.Math.Option.{Option, some}
use mathlib.Core.List.{List, [], ◌∷◌, Memᴰ}
use Rattle.std.proofs.Math.ListN.{length, get_elem?}
use Rattle.basics.proofs.Lists.{member_flat_map, gathered_member}
use Rattle.programs.specs.Program.{Program, LinedStatement, Statement, statement_in, statement_at, exit_of, owner}
use Rattle.programs.proofs.FormLaws.{exit_no_statement, owner_exit}
use Rattle.certificates.specs.Certificate.{Disjunct, Certificate, path_edges}
use Rattle.certificates.specs.Entailments.{Entailment, from_statement, exit_entailment, from_disjunct, from_vertex, entailments}

module _ (p : Program) (c : Certificate) where
  from_vertex_lem : (v : ℕ) {d : Disjunct} (e : Entailment) → 1 ≤ v → v ≤ length p.statements + length p.procedures → Memᴰ d (path_edges c v)
      → Memᴰ e (from_disjunct p c (owner p v) (statement_at p v) d) → Memᴰ e (entailments p c)
  unfolding entailments from_vertex
  from_vertex_lem v e l h m k =
      let q : v - 1 + 1 ≡ v = omega arith in
      Memᴰ.tail (gathered_member (from_vertex p c) (length p.statements + length p.procedures) (v - 1) (omega arith)
      (subst (λ u. Memᴰ e (from_vertex p c u)) (sym q) (member_flat_map (from_disjunct p c (owner p v) (statement_at p v)) m k)))

  -- a statement stands at one of 1..n
  inside : (xs : List LinedStatement) (i : ℕ) {st : Statement} → statement_in (get_elem? xs i) ≡ some st → i < length xs
  inside [] i e = absurd (let z : ◌≡◌ {A = ℕ} 0 1 = cc in omega arith)
  inside (y ∷ xs) zero e = omega arith
  inside (y ∷ xs) (suc i) e = omega (arith, inside xs i e)

  statement_inside : (v : ℕ) {st : Statement} → statement_at p v ≡ some st → (1 ≤ v) × (v ≤ length p.statements)
  unfolding statement_at
  statement_inside zero e = absurd (let z : ◌≡◌ {A = ℕ} 0 1 = cc in omega arith)
  statement_inside (suc i) e = (omega arith, inside p.statements i e)

  pub from_statement_lem : (v : ℕ) {st : Statement} {d : Disjunct} (e : Entailment) → statement_at p v ≡ some st → Memᴰ d (path_edges c v)
      → Memᴰ e (from_statement p c (owner p v) st d) → Memᴰ e (entailments p c)
  unfolding from_disjunct
  from_statement_lem v {st} {d} e g m k =
      let i = statement_inside v g in
      from_vertex_lem v e i.0 (omega arith) m (subst (λ (o : Option Statement). Memᴰ e (from_disjunct p c (owner p v) o d)) (sym g) k)

  pub from_exit : (q : ℕ) {d : Disjunct} → 1 ≤ q → q ≤ length p.procedures → Memᴰ d (path_edges c (exit_of p q)) → Memᴰ (exit_entailment p c q d) (entailments p c)
  unfolding from_disjunct
  from_exit q {d} l h m =
      from_vertex_lem (exit_of p q) (exit_entailment p c q d) (unfold exit_of in omega arith) (unfold exit_of in omega arith) m
      (subst (λ (o : Option Statement). Memᴰ (exit_entailment p c q d) (from_disjunct p c (owner p (exit_of p q)) o d)) (sym (exit_no_statement p q l))
      (Memᴰ.head (ap (λ r. exit_entailment p c r d) (sym (owner_exit p q l)))))
