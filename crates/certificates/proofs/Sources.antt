-- The entailments in their order, each with what it comes from and where it leads: the start's comes from nothing, a statement's and an exit's from a
-- disjunct of the vertex, and a return's from a summary's disjunct too; each leads to the disjuncts of a vertex or of a summary. They are the entailments.
use Rattle.std.specs.Prelude.{◌≡◌, ℕ, zero, suc, ◌+◌, true, false}
use Rattle.std.proofs.Math.Path.{refl, ap}
use Rattle.std.proofs.Common.{ap₂, ◌∙◌}
use Rattle.std.proofs.Math.Option.{Option, none, some}
use mathlib.Core.List.{List, [], ◌∷◌, ◌++◌, map, flat_map, map-append}
use Rattle.std.proofs.Math.ListN.{length}
use Rattle.basics.specs.Lists.{gathered, map_from, flat_map_from, Each}
use Rattle.basics.proofs.Lists.{each_less, each_append, each_gathered, each_map, each_map_from, each_flat_map_from}
use Rattle.programs.specs.Program.{Statement, skip, assign, branch, assert, call, Program, statement_at, owner}
use Rattle.certificates.specs.Certificate.{Disjunct, Certificate, path_edges, summary_edges}
use Rattle.certificates.specs.Guards.{cases, opposite, condition_cases}
use Rattle.certificates.specs.Entailments.{Entailment, start_entailment, guard_entailment, assign_entailment, entry_entailment, return_entailment, exit_entailment, from_statement, from_disjunct, from_vertex, entailments}
use Rattle.certificates.specs.Sources.{From, FromTo, Leads, Sourced, edges_of, entailments_of, guard_from, return_from, sourced, sourced_disjunct, sourced_statement, sourced_vertex, vertex_of}

of_maps : {A : Type 0} (f : A → Sourced) (xs : List A) → entailments_of (map f xs) ≡ map (λ (x : A). (f x).entailment) xs
of_maps f [] = refl
of_maps f (x ∷ xs) = ap (λ (l : List Entailment). (f x).entailment ∷ l) (of_maps f xs)

of_counted : {A : Type 0} (f : ℕ → A → Sourced) (g : A → Entailment) → ((i : ℕ) (x : A) → (f i x).entailment ≡ g x) → (i : ℕ) (xs : List A) → entailments_of (map_from f i xs) ≡ map g xs
unfolding map_from
of_counted f g h i [] = refl
of_counted f g h i (x ∷ xs) = ap₂ (λ (e : Entailment) (l : List Entailment). e ∷ l) (h i x) (of_counted f g h (suc i) xs)

of_flat : {A : Type 0} (f : ℕ → A → List Sourced) (g : A → List Entailment) → ((i : ℕ) (x : A) → entailments_of (f i x) ≡ g x) → (i : ℕ) (xs : List A) → entailments_of (flat_map_from f i xs) ≡ flat_map g xs
unfolding flat_map_from flat_map
of_flat f g h i [] = refl
of_flat f g h i (x ∷ xs) = map-append _ (f i x) (flat_map_from f (suc i) xs) ∙ ap₂ (λ (k l : List Entailment). k ++ l) (h i x) (of_flat f g h (suc i) xs)

of_gathered : (f : ℕ → List Sourced) (g : ℕ → List Entailment) → ((v : ℕ) → entailments_of (f v) ≡ g v) → (m : ℕ) → entailments_of (gathered f m) ≡ gathered g m
unfolding gathered
of_gathered f g h zero = refl
of_gathered f g h (suc m) = map-append _ (gathered f m) (f (m + 1)) ∙ ap₂ (λ (k l : List Entailment). k ++ l) (of_gathered f g h m) (h (m + 1))

module _ (p : Program) (c : Certificate) where
  of_sides : {A : Type 0} (f g : A → Sourced) (xs ys : List A) → entailments_of (map f xs ++ map g ys) ≡ map (λ (x : A). (f x).entailment) xs ++ map (λ (x : A). (g x).entailment) ys
  of_sides f g xs ys = map-append _ (map f xs) (map g ys) ∙ ap₂ (λ (k l : List Entailment). k ++ l) (of_maps f xs) (of_maps g ys)

  pub of_disjunct : (v : ℕ) (st : Option Statement) (i : ℕ) (d : Disjunct) → entailments_of (sourced_disjunct p c v st i d) ≡ from_disjunct p c (owner p v) st d
  unfolding sourced_disjunct sourced_statement from_disjunct from_statement
  of_disjunct v (some (skip next)) i d = refl
  of_disjunct v (some (assign next x e)) i d = refl
  of_disjunct v (some (branch yea nay g)) i d = of_sides _ _ (condition_cases g true) (condition_cases g false)
  of_disjunct v (some (assert next op e)) i d = of_sides _ _ (cases op e) (cases (opposite op) e)
  of_disjunct v (some (call return callee actuals)) i d = ap (λ (l : List Entailment). entry_entailment p c (owner p v) callee actuals d ∷ l) (of_counted _ _ (λ j s. refl) 0 (summary_edges c callee))
  of_disjunct v none i d = refl

  pub vertex_entailments : (v : ℕ) → entailments_of (sourced_vertex p c v) ≡ from_vertex p c v
  unfolding sourced_vertex from_vertex
  vertex_entailments v = of_flat (sourced_disjunct p c v (statement_at p v)) (from_disjunct p c (owner p v) (statement_at p v)) (of_disjunct v (statement_at p v)) 0 (path_edges c v)

  pub sourced_entailments : entailments_of (sourced p c) ≡ entailments p c
  unfolding sourced entailments
  sourced_entailments = ap (λ (l : List Entailment). start_entailment p c ∷ l) (of_gathered (sourced_vertex p c) (from_vertex p c) vertex_entailments (length p.statements + length p.procedures))

module _ (p : Program) (c : Certificate) where
  from_to_guards : (v yea nay i : ℕ) (d : Disjunct) (xs ys : List Disjunct) → Each ((FromTo p c) v) (map (guard_from p c v yea i d) xs ++ map (guard_from p c v nay i d) ys)
  from_to_guards v yea nay i d xs ys =
      each_append ((FromTo p c) v) (map (guard_from p c v yea i d) xs) (map (guard_from p c v nay i d) ys) (each_map ((FromTo p c) v) (guard_from p c v yea i d) xs (from_to yea)) (each_map ((FromTo p c) v) (guard_from p c v nay i d) ys (from_to nay))
    where
      from_to : (next : ℕ) (g : Disjunct) → (FromTo p c) v (guard_from p c v next i d g)
      from_to next g = unfold vertex_of edges_of guard_entailment in (refl, refl)

  from_to_disjunct : (v : ℕ) (st : Option Statement) (i : ℕ) (d : Disjunct) → Each ((FromTo p c) v) (sourced_disjunct p c v st i d)
  unfolding sourced_disjunct sourced_statement Each vertex_of edges_of guard_entailment assign_entailment entry_entailment return_entailment exit_entailment
  from_to_disjunct v (some (skip next)) i d = ((refl, refl), tt)
  from_to_disjunct v (some (assign next x e)) i d = ((refl, refl), tt)
  from_to_disjunct v (some (branch yea nay g)) i d = from_to_guards v yea nay i d (condition_cases g true) (condition_cases g false)
  from_to_disjunct v (some (assert next op e)) i d = from_to_guards v next 0 i d (cases op e) (cases (opposite op) e)
  from_to_disjunct v (some (call return callee actuals)) i d =
      ((refl, refl), each_map_from ((FromTo p c) v) (return_from p c v return callee actuals i d) 0 (summary_edges c callee) (λ j s. (refl, refl)))
  from_to_disjunct v none i d = ((refl, refl), tt)

  from_to_vertex : (v : ℕ) → Each ((FromTo p c) v) (sourced_vertex p c v)
  unfolding sourced_vertex
  from_to_vertex v = each_flat_map_from ((FromTo p c) v) (sourced_disjunct p c v (statement_at p v)) 0 (path_edges c v) (from_to_disjunct v (statement_at p v))

  pub vertex_from : (v : ℕ) → Each (From v) (sourced_vertex p c v)
  vertex_from v = each_less (λ x h. h.0) (sourced_vertex p c v) (from_to_vertex v)

  pub sourced_targets : Each (Leads c) (sourced p c)
  unfolding sourced
  sourced_targets = unfold Each in
      (unfold start_entailment edges_of in refl, each_gathered (Leads c) (sourced_vertex p c) (length p.statements + length p.procedures) (λ v. each_less (λ x h. h.1) (sourced_vertex p c v) (from_to_vertex v)))
