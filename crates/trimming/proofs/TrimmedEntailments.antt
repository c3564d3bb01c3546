-- The entailments of a trimmed certificate are those of the certificate whose sources are kept, in their order, with new numbers and toward what is left
-- of their targets: premises and image stay, since the kept disjuncts do.
use Rattle.std.specs.Prelude.{◌≡◌, Bool}
use Rattle.std.proofs.Math.Path.{refl, sym, ap, ap₂}
use Rattle.std.proofs.Common.{◌∙◌}
use Rattle.std.proofs.Math.Bool.{true, false, cond}
use Rattle.std.proofs.Math.Option.{Option, none, some}
use mathlib.Core.List.{List, [], ◌∷◌, ◌++◌, map}
use Prim.Native.Nat.{ℕ, zero, suc, ◌+◌, ◌≤◌}
use native.Mathlib.Omega.{arith}
use Rattle.std.proofs.Math.ListN.{length}
use Rattle.basics.specs.Lists.{map_from, flat_map_from, gathered}
use Rattle.rows.specs.Rows.{Row}
use Rattle.programs.specs.Program.{Statement, skip, assign, branch, assert, call, Program, statement_at, first_of, owner}
use Rattle.certificates.specs.Certificate.{Disjunct, Certificate, path_edges, summary_edges}
use Rattle.certificates.specs.Guards.{cases, opposite, condition_cases}
use Rattle.certificates.specs.Entailments.{Entailment, start_entailment, guard_entailment, assign_entailment, entry_entailment, return_entailment, exit_entailment}
use Rattle.certificates.specs.Sources.{Entry, of_vertex, of_summary, edges_of, from_start, from_path, Sourced, sourced_by, guard_from, return_from, sourced_statement, sourced_disjunct, sourced_vertex, sourced}
use Rattle.trimming.specs.Kept.{Flags, keeps}
use Rattle.trimming.specs.KeptMembers.{kept_from, new_number}
use Rattle.trimming.proofs.Trimmed.{trimmed_path, trimmed_summary}
use Rattle.trimming.specs.TrimmedEntailments.{c', f, renumbered_source, toward, trimmed_all, trimmed_one}

module _ (F : Flags) (c : Certificate) where
  trimmed_append : (xs ys : List Sourced) → (trimmed_all F c) (xs ++ ys) ≡ (trimmed_all F c) xs ++ (trimmed_all F c) ys
  unfolding trimmed_all
  trimmed_append [] ys = refl
  trimmed_append (x ∷ xs) ys = go (keeps F x.source) (trimmed_append xs ys)
    where
      go : (b : Bool) → (trimmed_all F c) (xs ++ ys) ≡ (trimmed_all F c) xs ++ (trimmed_all F c) ys
          → cond b ((trimmed_one F c) x ∷ (trimmed_all F c) (xs ++ ys)) ((trimmed_all F c) (xs ++ ys)) ≡ cond b ((trimmed_one F c) x ∷ (trimmed_all F c) xs) ((trimmed_all F c) xs) ++ (trimmed_all F c) ys
      go true e = ap (λ (l : List Sourced). (trimmed_one F c) x ∷ l) e
      go false e = e

  pub trimmed_fewer : (xs : List Sourced) → length ((trimmed_all F c) xs) ≤ length xs
  unfolding trimmed_all
  trimmed_fewer [] = omega arith
  trimmed_fewer (x ∷ xs) = go (keeps F x.source) (trimmed_fewer xs)
    where
      go : (b : Bool) → length ((trimmed_all F c) xs) ≤ length xs → length (cond b ((trimmed_one F c) x ∷ (trimmed_all F c) xs) ((trimmed_all F c) xs)) ≤ suc (length xs)
      go true h = omega arith
      go false h = omega arith

  trimmed_flat : {A : Type 0} (f : ℕ → Bool) (g g' : ℕ → A → List Sourced) → ((i : ℕ) (x : A) → f i ≡ true → g' (new_number f i) x ≡ (trimmed_all F c) (g i x)) → ((i : ℕ) (x : A) → f i ≡ false → (trimmed_all F c) (g i x) ≡ [])
      → (i : ℕ) (xs : List A) → flat_map_from g' (new_number f i) (kept_from f i xs) ≡ (trimmed_all F c) (flat_map_from g i xs)
  unfolding flat_map_from kept_from new_number
  trimmed_flat f g g' yea nay i [] = unfold trimmed_all in refl
  trimmed_flat {A} f g g' yea nay i (x ∷ xs) = go (f i) refl (trimmed_flat f g g' yea nay (suc i) xs)
    where
      go : (b : Bool) → f i ≡ b → flat_map_from g' (cond b (suc (new_number f i)) (new_number f i)) (kept_from f (suc i) xs) ≡ (trimmed_all F c) (flat_map_from g (suc i) xs)
          → flat_map_from g' (new_number f i) (cond b (x ∷ kept_from f (suc i) xs) (kept_from f (suc i) xs)) ≡ (trimmed_all F c) (g i x ++ flat_map_from g (suc i) xs)
      go true q e = ap₂ (λ (k l : List Sourced). k ++ l) (yea i x q) e ∙ sym (trimmed_append (g i x) (flat_map_from g (suc i) xs))
      go false q e = e ∙ (ap (λ (l : List Sourced). l ++ (trimmed_all F c) (flat_map_from g (suc i) xs)) (sym (nay i x q)) ∙ sym (trimmed_append (g i x) (flat_map_from g (suc i) xs)))

  trimmed_numbered : {A : Type 0} (f : ℕ → Bool) (g g' : ℕ → A → Sourced) → ((i : ℕ) (x : A) → f i ≡ true → (trimmed_all F c) (g i x ∷ []) ≡ g' (new_number f i) x ∷ []) → ((i : ℕ) (x : A) → f i ≡ false → (trimmed_all F c) (g i x ∷ []) ≡ [])
      → (i : ℕ) (xs : List A) → map_from g' (new_number f i) (kept_from f i xs) ≡ (trimmed_all F c) (map_from g i xs)
  unfolding map_from kept_from new_number
  trimmed_numbered f g g' yea nay i [] = unfold trimmed_all in refl
  trimmed_numbered {A} f g g' yea nay i (x ∷ xs) = go (f i) refl (trimmed_numbered f g g' yea nay (suc i) xs)
    where
      go : (b : Bool) → f i ≡ b → map_from g' (cond b (suc (new_number f i)) (new_number f i)) (kept_from f (suc i) xs) ≡ (trimmed_all F c) (map_from g (suc i) xs)
          → map_from g' (new_number f i) (cond b (x ∷ kept_from f (suc i) xs) (kept_from f (suc i) xs)) ≡ (trimmed_all F c) (g i x ∷ map_from g (suc i) xs)
      go true q e = ap₂ (λ (k l : List Sourced). k ++ l) (sym (yea i x q)) e ∙ sym (trimmed_append (g i x ∷ []) (map_from g (suc i) xs))
      go false q e = e ∙ (ap (λ (l : List Sourced). l ++ (trimmed_all F c) (map_from g (suc i) xs)) (sym (nay i x q)) ∙ sym (trimmed_append (g i x ∷ []) (map_from g (suc i) xs)))

  one_kept : (x : Sourced) → keeps F x.source ≡ true → (trimmed_all F c) (x ∷ []) ≡ (trimmed_one F c) x ∷ []
  unfolding trimmed_all
  one_kept x q = rw q

  one_gone : (x : Sourced) → keeps F x.source ≡ false → (trimmed_all F c) (x ∷ []) ≡ []
  unfolding trimmed_all
  one_gone x q = rw q

  module _ (p : Program) (v : ℕ) where
    -- ---- a disjunct that is kept

    module _ (i : ℕ) (q : (f F c p v) i ≡ true) where
      guards_kept : (next : ℕ) (d : Disjunct) (gs : List Disjunct) → map (guard_from p (c' F c) v next (new_number (f F c p v) i) d) gs ≡ (trimmed_all F c) (map (guard_from p c v next i d) gs)
      unfolding trimmed_all trimmed_one renumbered_source toward edges_of guard_entailment keeps
      guards_kept next d [] = refl
      guards_kept next d (g ∷ gs) = rw q (ap (λ (l : List Sourced). guard_from p (c' F c) v next (new_number (f F c p v) i) d g ∷ l) (guards_kept next d gs))

      sides_kept : (yea nay : ℕ) (d : Disjunct) (gs hs : List Disjunct)
          → map (guard_from p (c' F c) v yea (new_number (f F c p v) i) d) gs ++ map (guard_from p (c' F c) v nay (new_number (f F c p v) i) d) hs ≡ (trimmed_all F c) (map (guard_from p c v yea i d) gs ++ map (guard_from p c v nay i d) hs)
      sides_kept yea nay d gs hs =
          ap₂ (λ (k l : List Sourced). k ++ l) (guards_kept yea d gs) (guards_kept nay d hs) ∙ sym (trimmed_append (map (guard_from p c v yea i d) gs) (map (guard_from p c v nay i d) hs))

      path_kept : (t : Entry) (e : Entailment) → sourced_by (from_path v (new_number (f F c p v) i)) t (toward (edges_of (c' F c) t) e) ∷ [] ≡ (trimmed_all F c) (sourced_by (from_path v i) t e ∷ [])
      unfolding trimmed_one renumbered_source keeps
      path_kept t e = sym (one_kept (sourced_by (from_path v i) t e) q)

      entry_kept : (callee : ℕ) (actuals : List Row) (d : Disjunct)
          → sourced_by (from_path v (new_number (f F c p v) i)) (of_vertex (first_of p callee)) (entry_entailment p (c' F c) (owner p v) callee actuals d) ∷ []
          ≡ (trimmed_all F c) (sourced_by (from_path v i) (of_vertex (first_of p callee)) (entry_entailment p c (owner p v) callee actuals d) ∷ [])
      unfolding entry_entailment toward edges_of
      entry_kept callee actuals d = path_kept (of_vertex (first_of p callee)) (entry_entailment p c (owner p v) callee actuals d)

      returns_kept : (return callee : ℕ) (actuals : List Row) (d : Disjunct)
          → map_from (return_from p (c' F c) v return callee actuals (new_number (f F c p v) i) d) 0 (summary_edges (c' F c) callee) ≡ (trimmed_all F c) (map_from (return_from p c v return callee actuals i d) 0 (summary_edges c callee))
      returns_kept return callee actuals d =
          rw (trimmed_summary F c callee)
          (unfold new_number in trimmed_numbered (F (of_summary callee)) (return_from p c v return callee actuals i d) (return_from p (c' F c) v return callee actuals (new_number (f F c p v) i) d) yea nay 0 (summary_edges c callee))
        where
          yea : (l : ℕ) (s : Disjunct) → F (of_summary callee) l ≡ true → (trimmed_all F c) (return_from p c v return callee actuals i d l s ∷ []) ≡ return_from p (c' F c) v return callee actuals (new_number (f F c p v) i) d (new_number (F (of_summary callee)) l) s ∷ []
          yea l s r = one_kept (return_from p c v return callee actuals i d l s) (unfold keeps in rw (q, r)) ∙ (unfold trimmed_one renumbered_source toward edges_of return_entailment in refl)

          nay : (l : ℕ) (s : Disjunct) → F (of_summary callee) l ≡ false → (trimmed_all F c) (return_from p c v return callee actuals i d l s ∷ []) ≡ []
          nay l s r = one_gone (return_from p c v return callee actuals i d l s) (unfold keeps in rw (q, r))

      disjunct_kept : (st : Option Statement) (d : Disjunct) → sourced_disjunct p (c' F c) v st (new_number (f F c p v) i) d ≡ (trimmed_all F c) (sourced_disjunct p c v st i d)
      unfolding sourced_disjunct sourced_statement
      disjunct_kept (some (skip next)) d = guards_kept next d ([] ∷ [])
      disjunct_kept (some (assign next x e)) d = unfold assign_entailment toward edges_of in path_kept (of_vertex next) (assign_entailment p c (owner p v) next x e d)
      disjunct_kept (some (branch yea nay g)) d = sides_kept yea nay d (condition_cases g true) (condition_cases g false)
      disjunct_kept (some (assert next op e)) d = sides_kept next 0 d (cases op e) (cases (opposite op) e)
      disjunct_kept (some (call return callee actuals)) d =
          ap₂ (λ (k l : List Sourced). k ++ l) (entry_kept callee actuals d) (returns_kept return callee actuals d)
          ∙ sym (trimmed_append (sourced_by (from_path v i) (of_vertex (first_of p callee)) (entry_entailment p c (owner p v) callee actuals d) ∷ []) (map_from (return_from p c v return callee actuals i d) 0 (summary_edges c callee)))
      disjunct_kept none d = unfold exit_entailment toward edges_of in path_kept (of_summary (owner p v)) (exit_entailment p c (owner p v) d)

    -- ---- a disjunct that isn't

    module _ (i : ℕ) (q : (f F c p v) i ≡ false) where
      guards_gone : (next : ℕ) (d : Disjunct) (gs : List Disjunct) → (trimmed_all F c) (map (guard_from p c v next i d) gs) ≡ []
      unfolding trimmed_all keeps
      guards_gone next d [] = refl
      guards_gone next d (g ∷ gs) = rw q (guards_gone next d gs)

      sides_gone : (yea nay : ℕ) (d : Disjunct) (gs hs : List Disjunct) → (trimmed_all F c) (map (guard_from p c v yea i d) gs ++ map (guard_from p c v nay i d) hs) ≡ []
      sides_gone yea nay d gs hs = trimmed_append (map (guard_from p c v yea i d) gs) (map (guard_from p c v nay i d) hs) ∙ ap₂ (λ (k l : List Sourced). k ++ l) (guards_gone yea d gs) (guards_gone nay d hs)

      path_gone : (t : Entry) (e : Entailment) → (trimmed_all F c) (sourced_by (from_path v i) t e ∷ []) ≡ []
      unfolding keeps
      path_gone t e = one_gone (sourced_by (from_path v i) t e) q

      returns_gone : (return callee : ℕ) (actuals : List Row) (d : Disjunct) (l : ℕ) (ss : List Disjunct) → (trimmed_all F c) (map_from (return_from p c v return callee actuals i d) l ss) ≡ []
      unfolding trimmed_all map_from keeps
      returns_gone return callee actuals d l [] = refl
      returns_gone return callee actuals d l (s ∷ ss) = rw q (returns_gone return callee actuals d (suc l) ss)

      disjunct_gone : (st : Option Statement) (d : Disjunct) → (trimmed_all F c) (sourced_disjunct p c v st i d) ≡ []
      unfolding sourced_disjunct sourced_statement
      disjunct_gone (some (skip next)) d = guards_gone next d ([] ∷ [])
      disjunct_gone (some (assign next x e)) d = path_gone (of_vertex next) (assign_entailment p c (owner p v) next x e d)
      disjunct_gone (some (branch yea nay g)) d = sides_gone yea nay d (condition_cases g true) (condition_cases g false)
      disjunct_gone (some (assert next op e)) d = sides_gone next 0 d (cases op e) (cases (opposite op) e)
      disjunct_gone (some (call return callee actuals)) d =
          let entry = sourced_by (from_path v i) (of_vertex (first_of p callee)) (entry_entailment p c (owner p v) callee actuals d) in
          trimmed_append (entry ∷ []) (map_from (return_from p c v return callee actuals i d) 0 (summary_edges c callee))
          ∙ ap₂ (λ (k l : List Sourced). k ++ l) (path_gone (of_vertex (first_of p callee)) (entry_entailment p c (owner p v) callee actuals d)) (returns_gone return callee actuals d 0 (summary_edges c callee))
      disjunct_gone none d = path_gone (of_summary (owner p v)) (exit_entailment p c (owner p v) d)

    vertex_kept : sourced_vertex p (c' F c) v ≡ (trimmed_all F c) (sourced_vertex p c v)
    unfolding sourced_vertex
    vertex_kept =
        rw (trimmed_path F c v)
        (unfold new_number in trimmed_flat (f F c p v) (sourced_disjunct p c v (statement_at p v)) (sourced_disjunct p (c' F c) v (statement_at p v)) (λ i d q. disjunct_kept i q (statement_at p v) d) (λ i d q. disjunct_gone i q (statement_at p v) d) 0 (path_edges c v))

  gathered_kept : (g g' : ℕ → List Sourced) → ((v : ℕ) → g' v ≡ (trimmed_all F c) (g v)) → (m : ℕ) → gathered g' m ≡ (trimmed_all F c) (gathered g m)
  unfolding gathered
  gathered_kept g g' h zero = unfold trimmed_all in refl
  gathered_kept g g' h (suc m) = ap₂ (λ (k l : List Sourced). k ++ l) (gathered_kept g g' h m) (h (m + 1)) ∙ sym (trimmed_append (gathered g m) (g (m + 1)))

  pub sourced_trimmed : (p : Program) → sourced p (c' F c) ≡ (trimmed_all F c) (sourced p c)
  unfolding sourced
  sourced_trimmed p =
      let start = sourced_by from_start (of_vertex 1) (start_entailment p c) in
      let vertices = length p.statements + length p.procedures in
      ap₂ (λ (k l : List Sourced). k ++ l) (start_kept p) (gathered_kept (sourced_vertex p c) (sourced_vertex p (c' F c)) (vertex_kept p) vertices) ∙ sym (trimmed_append (start ∷ []) (gathered (sourced_vertex p c) vertices))
    where
      start_kept : (p : Program) → sourced_by from_start (of_vertex 1) (start_entailment p (c' F c)) ∷ [] ≡ (trimmed_all F c) (sourced_by from_start (of_vertex 1) (start_entailment p c) ∷ [])
      start_kept p = unfold trimmed_all trimmed_one renumbered_source toward edges_of start_entailment keeps in refl
