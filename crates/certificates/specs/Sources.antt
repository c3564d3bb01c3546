-- The entailments in their order, each with what it comes from and where it leads: the start's comes from nothing, a statement's and an exit's from a
-- disjunct of the vertex, and a return's from a summary's disjunct too; each leads to the disjuncts of a vertex or of a summary. They are the entailments.
use Rattle.std.specs.Prelude.{◌≡◌, ℕ, ◌+◌, true, false}
use Rattle.std.proofs.Math.Option.{Option, none, some}
use mathlib.Core.List.{List, [], ◌∷◌, ◌++◌, map}
use Rattle.std.proofs.Math.ListN.{length}
use Rattle.basics.specs.Lists.{gathered, map_from, flat_map_from}
use Rattle.rows.specs.Rows.{Row}
use Rattle.programs.specs.Program.{Statement, skip, assign, branch, assert, call, Program, statement_at, first_of, owner}
use Rattle.certificates.specs.Certificate.{Disjunct, Certificate, path_edges, summary_edges}
use Rattle.certificates.specs.Guards.{cases, opposite, condition_cases}
use Rattle.certificates.specs.Entailments.{Entailment, start_entailment, guard_entailment, assign_entailment, entry_entailment, return_entailment, exit_entailment}

-- an entry of a certificate: a vertex's, its path edges, or a procedure's, its summary edges; vertex 0 has none
pub data Entry : Type 0 where
  of_vertex : (v : ℕ) → Entry
  of_summary : (q : ℕ) → Entry

unfoldable pub edges_of : Certificate → Entry → List Disjunct
edges_of c (of_vertex v) = path_edges c v
edges_of c (of_summary q) = summary_edges c q

-- what an entailment comes from; disjuncts are counted from 0
pub data Source : Type 0 where
  from_start : Source
  from_path : (v disjunct : ℕ) → Source
  from_return : (v disjunct callee summaryDisjunct : ℕ) → Source

-- the vertex that is left; 0 for the start
unfoldable pub vertex_of : Source → ℕ
vertex_of from_start = 0
vertex_of (from_path v i) = v
vertex_of (from_return v i callee j) = v

pub record Sourced : Type 0 where
  pub source : Source
  pub leads_to : Entry
  pub entailment : Entailment

abbrev pub sourced_by : Source → Entry → Entailment → Sourced
sourced_by s t e = record { source = s; leads_to = t; entailment = e }

-- ---- the entailments of the disjunct d, which has number i, of vertex v

module _ (p : Program) (c : Certificate) (v : ℕ) where
  abbrev pub guard_from : ℕ → ℕ → Disjunct → Disjunct → Sourced
  guard_from next i d guard = sourced_by (from_path v i) (of_vertex next) (guard_entailment p c (owner p v) next d guard)

  abbrev pub return_from : ℕ → ℕ → List Row → ℕ → Disjunct → ℕ → Disjunct → Sourced
  return_from return callee actuals i d j s = sourced_by (from_return v i callee j) (of_vertex return) (return_entailment p c (owner p v) return actuals d s)

  unfoldable pub sourced_statement : Statement → ℕ → Disjunct → List Sourced
  sourced_statement (skip next) i d = guard_from next i d [] ∷ []
  sourced_statement (assign next x e) i d = sourced_by (from_path v i) (of_vertex next) (assign_entailment p c (owner p v) next x e d) ∷ []
  sourced_statement (branch yea nay g) i d = map (guard_from yea i d) (condition_cases g true) ++ map (guard_from nay i d) (condition_cases g false)
  sourced_statement (assert next op e) i d = map (guard_from next i d) (cases op e) ++ map (guard_from 0 i d) (cases (opposite op) e)
  sourced_statement (call return callee actuals) i d = sourced_by (from_path v i) (of_vertex (first_of p callee)) (entry_entailment p c (owner p v) callee actuals d)
      ∷ map_from (return_from return callee actuals i d) 0 (summary_edges c callee)

  unfoldable pub sourced_disjunct : Option Statement → ℕ → Disjunct → List Sourced
  sourced_disjunct (some st) i d = sourced_statement st i d
  sourced_disjunct none i d = sourced_by (from_path v i) (of_summary (owner p v)) (exit_entailment p c (owner p v) d) ∷ []

  unfoldable pub sourced_vertex : List Sourced
  sourced_vertex = flat_map_from (sourced_disjunct (statement_at p v)) 0 (path_edges c v)

unfoldable pub sourced : Program → Certificate → List Sourced
sourced p c = sourced_by from_start (of_vertex 1) (start_entailment p c) ∷ gathered (sourced_vertex p c) (length p.statements + length p.procedures)

-- ---- they are the entailments

abbrev pub entailments_of : List Sourced → List Entailment
entailments_of xs = map (λ (x : Sourced). x.entailment) xs

-- ---- where they come from and lead to

-- those of a vertex come from it
abbrev pub From : ℕ → Sourced → Type 0
From v x = vertex_of x.source ≡ v

-- and each leads to its targets
abbrev pub Leads : Certificate → Sourced → Type 0
Leads c x = x.entailment.targets ≡ edges_of c x.leads_to

module _ (p : Program) (c : Certificate) where
  -- both, of one of vertex v
  abbrev pub FromTo : ℕ → Sourced → Type 0
  FromTo v x = From v x × Leads c x
