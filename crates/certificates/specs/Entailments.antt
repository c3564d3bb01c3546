-- The entailments of a program and a certificate, in their order.
-- Each has columns, premises, an image and targets: where the premises hold at values of the columns, some target must hold at the values of
-- the image, which has a row for each of the target's columns. The kinds differ in these alone.
use Rattle.std.specs.Prelude.{ℕ, ◌+◌, true, false, length, set}
use Rattle.std.proofs.Math.Option.{Option, none, some}
use mathlib.Core.List.{List, [], ◌∷◌, ◌++◌, map, flat_map}
use Rattle.basics.specs.Lists.{gathered}
use Rattle.rows.specs.Rows.{Row, substitute, substitute_all}
use Rattle.rows.specs.Columns.{columns}
use Rattle.programs.specs.Program.{Statement, skip, assign, branch, assert, call, Program, statement_at, first_of, locals_of, parameters_of, others_of, width_of, owner}
use Rattle.certificates.specs.Certificate.{Disjunct, Certificate, path_edges, summary_edges}
use Rattle.certificates.specs.Guards.{cases, opposite, condition_cases}

pub record Entailment : Type 0 where
  pub columns : ℕ
  pub premises : List Row
  pub image : List Row
  pub targets : List Disjunct

-- "Start: no premises; target vertex 1, entry = now, free globals and parameters", and as document 02, CR 2, has it the other locals "become
-- free columns, equal at entry and now": main's k columns, at entry and again now
unfoldable pub start_entailment : Program → Certificate → Entailment
start_entailment p c = record { columns = width_of p 1; premises = []; image = columns 0 (width_of p 1) ++ columns 0 (width_of p 1); targets = path_edges c 1 }

-- a path's columns right after a call: "entry = now = globals, actuals", and the other locals
unfoldable pub entry_image : List Row → List Row → List Row → List Row
entry_image globals arguments others = (globals ++ (arguments ++ others)) ++ (globals ++ (arguments ++ others))

-- the columns of a path of procedure q: "k at entry, k now", and after those fresh ones: at a return "for the exit globals", at a call's entry
-- for the callee's other locals
module _ (p : Program) (q : ℕ) where
  abbrev pub at_entry : List Row
  at_entry = columns 0 (width_of p q)

  abbrev pub at_now : List Row
  at_now = columns (width_of p q) (width_of p q)

  abbrev pub globals_now : List Row
  globals_now = columns (width_of p q) p.globals

  abbrev pub locals_now : List Row
  locals_now = columns (width_of p q + p.globals) (locals_of p q)

  abbrev pub fresh_globals : List Row
  fresh_globals = columns (width_of p q + width_of p q) p.globals

  abbrev pub fresh_locals : ℕ → List Row
  fresh_locals callee = columns (width_of p q + width_of p q) (others_of p callee)

  -- the columns of the callee's summary: "globals and actuals at entry and G fresh columns for the exit globals"
  unfoldable pub summary_image : List Row → List Row
  summary_image actuals = globals_now ++ (substitute_all at_now actuals ++ fresh_globals)

-- entailments from a disjunct d of a vertex of procedure q
module _ (p : Program) (c : Certificate) (q : ℕ) where
  -- nothing changes but the vertex; "guard rows after the disjunct's"
  unfoldable pub guard_entailment : ℕ → Disjunct → Disjunct → Entailment
  guard_entailment next d guard = record { columns = width_of p q + width_of p q; premises = d ++ substitute_all (at_now p q) guard; image = at_entry p q ++ at_now p q; targets = path_edges c next }

  -- "the target's «now» replaced"
  unfoldable pub assign_entailment : ℕ → ℕ → Row → Disjunct → Entailment
  assign_entailment next i e d = record { columns = width_of p q + width_of p q; premises = d; image = at_entry p q ++ set (at_now p q) i (substitute (at_now p q) e); targets = path_edges c next }

  -- "Call: first to the callee's first vertex"; the disjunct's columns stand for themselves, so that no row of it reads a fresh column
  unfoldable pub entry_entailment : ℕ → List Row → Disjunct → Entailment
  entry_entailment callee actuals d =
      record {
        columns = width_of p q + width_of p q + others_of p callee;
        premises = substitute_all (at_entry p q ++ at_now p q) d;
        image = entry_image (globals_now p q) (substitute_all (at_now p q) actuals) (fresh_locals p q callee);
        targets = path_edges c (first_of p callee);
      }

  -- "then, for each summary disjunct, to the return point, premises the disjunct's rows and then the summary's", its columns too for themselves
  unfoldable pub return_entailment : ℕ → List Row → Disjunct → Disjunct → Entailment
  return_entailment return actuals d summary =
      record {
        columns = width_of p q + width_of p q + p.globals;
        premises = substitute_all (at_entry p q ++ at_now p q) d ++ substitute_all (summary_image p q actuals) summary;
        image = at_entry p q ++ (fresh_globals p q ++ locals_now p q);
        targets = path_edges c return;
      }

  unfoldable pub from_statement : Statement → Disjunct → List Entailment
  from_statement (skip next) d = guard_entailment next d [] ∷ []
  from_statement (assign next i e) d = assign_entailment next i e d ∷ []
  from_statement (branch yea nay g) d = map (guard_entailment yea d) (condition_cases g true) ++ map (guard_entailment nay d) (condition_cases g false)
  from_statement (assert next op e) d = map (guard_entailment next d) (cases op e) ++ map (guard_entailment 0 d) (cases (opposite op) e)
  from_statement (call return callee actuals) d = entry_entailment callee actuals d ∷ map (return_entailment return actuals d) (summary_edges c callee)

  -- "For each exit, each disjunct: to its summary", whose columns are "G and F at entry, G at exit"
  unfoldable pub exit_entailment : Disjunct → Entailment
  exit_entailment d = record { columns = width_of p q + width_of p q; premises = d; image = columns 0 (p.globals + parameters_of p q) ++ globals_now p q; targets = summary_edges c q }

  unfoldable pub from_disjunct : Option Statement → Disjunct → List Entailment
  from_disjunct (some st) d = from_statement st d
  from_disjunct none d = exit_entailment d ∷ []

-- a vertex's, for each of its disjuncts; a vertex that is no statement is an exit
unfoldable pub from_vertex : Program → Certificate → ℕ → List Entailment
from_vertex p c v = flat_map (from_disjunct p c (owner p v) (statement_at p v)) (path_edges c v)

unfoldable pub entailments : Program → Certificate → List Entailment
entailments p c = start_entailment p c ∷ gathered (from_vertex p c) (length p.statements + length p.procedures)
