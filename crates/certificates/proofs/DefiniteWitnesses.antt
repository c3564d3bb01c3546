-- A choice made definite, document 02, CR 13: with a condition <, >, ≤ or ≥ for `?` in a branch, each of that branch's entailments has one premise more,
-- its guard row, right after the disjunct's rows, and no other entailment changes. So the witnesses with zeros put in for it work.
use Rattle.std.proofs.Math.Path.{◌≡◌, refl, ap, ap₂, fun_ext}
use Rattle.std.proofs.Common.{sym, ◌∙◌, subst, arith, eq-eqb, eqb→eq}
use Prim.Native.Nat.{ℕ, zero, suc, ◌+◌, ◌≤◌}
use Rattle.std.specs.Prelude.{Bool, cond, eqb, ℤ, pos}
use Rattle.std.proofs.Math.Bool.{true, false}
use Rattle.std.proofs.Math.Option.{Option, none, some}
use mathlib.Core.List.{List, [], ◌∷◌, ◌++◌, map, flat_map, append-nil}
use Rattle.std.proofs.lemmas.Bool.{eqb-false}
use Rattle.std.proofs.Math.Dec.{T}
use Rattle.std.proofs.Math.ListN.{length}
use Rattle.basics.proofs.Booleans.{and, parts, holds}
use Rattle.basics.specs.Lists.{put_in, WithCopies, flat_map_from, Each, gathered}
use Rattle.basics.proofs.Lists.{put_in_after, none_put_in, copies_append}
use Rattle.rows.specs.Rows.{Row, substitute, substitute_all}
use Rattle.programs.specs.Program.{Comparison, less, greater, at_most, at_least, equal, different, compare, Statement, skip, assign, branch, assert, call, Program, statement_at, owner}
use Rattle.programs.specs.Decode.{comparison}
use Rattle.programs.specs.MadeDefinite.{MadeDefinite}
use Rattle.programs.proofs.MadeDefinite.{same_first, same_locals, same_parameters, same_owner}
use Rattle.certificates.specs.Certificate.{Disjunct, Certificate, path_edges, summary_edges}
use Rattle.certificates.specs.Guards.{cases, opposite, condition_cases}
use Rattle.certificates.specs.Entailments.{Entailment, at_now, summary_image, start_entailment, guard_entailment, assign_entailment, entry_entailment, return_entailment, exit_entailment, from_statement, from_disjunct, from_vertex, entailments}
use Rattle.certificates.specs.Sources.{Sourced, of_vertex, from_start, vertex_of, sourced_by, sourced_disjunct, sourced_statement, sourced_vertex, sourced, entailments_of, From}
use Rattle.certificates.proofs.Sources.{sourced_entailments, vertex_from, vertex_entailments}
use Rattle.certificates.specs.Witnesses.{Witness, encode, encode_all, works_by, all_work_by}
use Rattle.certificates.specs.ZerosPutIn.{with_premise, with_zeros, lists_in}
use Rattle.certificates.proofs.ZerosPutIn.{zeros_copies, still_works}
use Rattle.certificates.specs.DefiniteWitnesses.{Guarded, definite_witness, definite_witnesses, is_inequality, leaves, more, no_more, same, zeros_in}

-- they are put in, and no other word changes
one_copies : (v : ℕ) (x : Sourced) (w : Witness) → WithCopies (pos 0) (cond (leaves v x) (lists_in w) 0) (encode w) (encode (definite_witness v x w))
unfolding definite_witness
one_copies v x w = go (leaves v x) _
  where
    go : (b : Bool) (i : ℕ) → WithCopies (pos 0) (cond b (lists_in w) 0) (encode w) (encode (cond b (with_zeros i w) w))
    go true i = zeros_copies i w
    go false i = none_put_in (encode w)

pub definite_copies : (v : ℕ) (xs : List Sourced) (ws : List Witness) → WithCopies (pos 0) (zeros_in v xs ws) (encode_all ws) (encode_all (definite_witnesses v xs ws))
unfolding definite_witnesses zeros_in encode_all
definite_copies v [] ws = none_put_in (encode_all ws)
definite_copies v (x ∷ xs) [] = none_put_in []
definite_copies v (x ∷ xs) (w ∷ ws) = copies_append (one_copies v x w) (definite_copies v xs ws)

module _ {v : ℕ} where
  guarded_append : {xs ys : List Sourced} {es fs : List Entailment} → Guarded v xs es → Guarded v ys fs → Guarded v (xs ++ ys) (es ++ fs)
  guarded_append no_more k = k
  guarded_append (same n h) k = same n (guarded_append h k)
  guarded_append (more n g e h) k = more n g e (guarded_append h k)

  guarded_others : (u : ℕ) → ¬ (u ≡ v) → (xs : List Sourced) → Each (From u) xs → Guarded v xs (entailments_of xs)
  unfolding Each
  guarded_others u n [] k = no_more
  guarded_others u n (x ∷ xs) k = same (λ e. n (sym k.0 ∙ e)) (guarded_others u n xs k.1)

  guarded_gathered : (f : ℕ → List Sourced) (f' : ℕ → List Entailment) (m : ℕ) → ((u : ℕ) → Guarded v (f u) (f' u)) → Guarded v (gathered f m) (gathered f' m)
  unfolding gathered
  guarded_gathered f f' zero h = no_more
  guarded_gathered f f' (suc m) h = guarded_append (guarded_gathered f f' m h) (h (m + 1))

  guarded_flat : {A : Type 0} (f : ℕ → A → List Sourced) (f' : A → List Entailment) → ((i : ℕ) (x : A) → Guarded v (f i x) (f' x)) → (i : ℕ) (xs : List A) → Guarded v (flat_map_from f i xs) (flat_map f' xs)
  unfolding flat_map_from flat_map
  guarded_flat f f' h i [] = no_more
  guarded_flat f f' h i (x ∷ xs) = guarded_append (h i x) (guarded_flat f f' h (suc i) xs)

  guarded_length : {xs : List Sourced} {es : List Entailment} → Guarded v xs es → length es ≡ length (entailments_of xs)
  guarded_length no_more = refl
  guarded_length (same n h) = ap suc (guarded_length h)
  guarded_length (more n g e h) = ap suc (guarded_length h)

  module _ (rule : ℕ → ℤ → ℤ → Bool) where
    pub definite_work : {xs : List Sourced} {es : List Entailment} → Guarded v xs es → (ws : List Witness) → T (all_work_by rule (entailments_of xs) ws) → T (all_work_by rule es (definite_witnesses v xs ws))
    unfolding all_work_by definite_witnesses definite_witness
    definite_work no_more ws t = t
    definite_work (same n h) [] t = absurd t
    definite_work (same {x} {xs} {es} n h) (w ∷ ws) t =
        and (works_by rule x.entailment (definite_witness v x w)) (all_work_by rule es (definite_witnesses v xs ws)) (one (leaves v x) _ refl) (definite_work h ws (search parts))
      where
        one : (b : Bool) (i : ℕ) → leaves v x ≡ b → T (works_by rule x.entailment (cond b (with_zeros i w) w))
        one true i q = absurd (n (eqb→eq (vertex_of x.source) v (holds q)))
        one false i q = search parts
    definite_work (more n g q h) [] t = absurd t
    definite_work (more {x} {e} {xs} {es} n g q h) (w ∷ ws) t =
        and (works_by rule e (definite_witness v x w)) (all_work_by rule es (definite_witnesses v xs ws))
        (rw (eq-eqb (vertex_of x.source) v n, q) (still_works (length x.entailment.premises) g rule x.entailment w (omega arith) (search parts))) (definite_work h ws (search parts))

pub inequality : (op : ℕ) → 1 ≤ op → op ≤ 4 → T (is_inequality (comparison op))
unfolding comparison is_inequality
inequality op low high = go (eqb op 1) (eqb op 2) (eqb op 3) (eqb op 4) refl refl refl refl
  where
    go : (a b c d : Bool) → eqb op 1 ≡ a → eqb op 2 ≡ b → eqb op 3 ≡ c → eqb op 4 ≡ d
        → T (is_inequality (cond a less (cond b greater (cond c at_most (cond d at_least (cond (eqb op 5) equal different))))))
    go true b c d q r s t = tt
    go false true c d q r s t = tt
    go false false true d q r s t = tt
    go false false false true q r s t = tt
    go false false false false q r s t = absurd (omega (arith, eqb-false op 1 q, eqb-false op 2 r, eqb-false op 3 s, eqb-false op 4 t))

one_case : (op : Comparison) (e : Row) → T (is_inequality op) → (side : Bool) → (r : Row) × (condition_cases (compare op e) side ≡ (r ∷ []) ∷ [])
unfolding is_inequality condition_cases cases opposite
one_case less e t true = (_, refl)
one_case less e t false = (_, refl)
one_case greater e t true = (_, refl)
one_case greater e t false = (_, refl)
one_case at_most e t true = (_, refl)
one_case at_most e t false = (_, refl)
one_case at_least e t true = (_, refl)
one_case at_least e t false = (_, refl)
one_case equal e t side = absurd t
one_case different e t side = absurd t

module _ {p p' : Program} {v : ℕ} {op : Comparison} {x : Row} (m : MadeDefinite p p' v (compare op x)) (c : Certificate) where
  same_start : start_entailment p' c ≡ start_entailment p c
  unfolding start_entailment
  same_start = rw (same_locals m 1, m.globals)

  module _ (q : ℕ) where
    same_guard : (next : ℕ) (d guard : Disjunct) → guard_entailment p' c q next d guard ≡ guard_entailment p c q next d guard
    unfolding guard_entailment
    same_guard next d guard = rw (same_locals m q, m.globals)

    same_assign : (next i : ℕ) (e : Row) (d : Disjunct) → assign_entailment p' c q next i e d ≡ assign_entailment p c q next i e d
    unfolding assign_entailment
    same_assign next i e d = rw (same_locals m q, m.globals)

    same_entry_lem : (callee : ℕ) (actuals : List Row) (d : Disjunct) → entry_entailment p' c q callee actuals d ≡ entry_entailment p c q callee actuals d
    unfolding entry_entailment
    same_entry_lem callee actuals d = rw (same_locals m q, same_locals m callee, same_parameters m callee, same_first m callee, m.globals)

    same_return : (return : ℕ) (actuals : List Row) (d s : Disjunct) → return_entailment p' c q return actuals d s ≡ return_entailment p c q return actuals d s
    unfolding return_entailment summary_image
    same_return return actuals d s = rw (same_locals m q, m.globals)

    same_exit : (d : Disjunct) → exit_entailment p' c q d ≡ exit_entailment p c q d
    unfolding exit_entailment
    same_exit d = rw (same_locals m q, same_parameters m q, m.globals)

    same_sides : (yea nay : ℕ) (d : Disjunct) (xs ys : List Disjunct)
        → map (guard_entailment p' c q yea d) xs ++ map (guard_entailment p' c q nay d) ys ≡ map (guard_entailment p c q yea d) xs ++ map (guard_entailment p c q nay d) ys
    same_sides yea nay d xs ys = ap₂ (λ (f g : Disjunct → Entailment). map f xs ++ map g ys) (fun_ext (same_guard yea d)) (fun_ext (same_guard nay d))

    same_disjunct : (st : Option Statement) (d : Disjunct) → from_disjunct p' c q st d ≡ from_disjunct p c q st d
    unfolding from_disjunct from_statement
    same_disjunct (some (skip next)) d = ap (λ (e : Entailment). e ∷ []) (same_guard next d [])
    same_disjunct (some (assign next i e)) d = ap (λ (e : Entailment). e ∷ []) (same_assign next i e d)
    same_disjunct (some (branch yea nay g)) d = same_sides yea nay d (condition_cases g true) (condition_cases g false)
    same_disjunct (some (assert next op e)) d = same_sides next 0 d (cases op e) (cases (opposite op) e)
    same_disjunct (some (call return callee actuals)) d =
        ap₂ (λ (e : Entailment) (f : Disjunct → Entailment). e ∷ map f (summary_edges c callee)) (same_entry_lem callee actuals d) (fun_ext (same_return return actuals d))
    same_disjunct none d = ap (λ (e : Entailment). e ∷ []) (same_exit d)

    -- a guard row after the disjunct's rows
    guard_more : (next : ℕ) (d : Disjunct) (r : Row)
        → guard_entailment p' c q next d (r ∷ []) ≡ with_premise (length (guard_entailment p c q next d []).premises) (substitute (at_now p q) r) (guard_entailment p c q next d [])
    guard_more next d r = same_guard next d (r ∷ []) ∙ (unfold guard_entailment with_premise substitute_all in after)
      where
        after : ◌≡◌ {A = Entailment} (record { columns = (guard_entailment p c q next d []).columns; premises = d ++ (substitute (at_now p q) r ∷ []); image = (guard_entailment p c q next d []).image; targets = path_edges c next })
            (record { columns = (guard_entailment p c q next d []).columns; premises = put_in (length (d ++ [])) (substitute (at_now p q) r) (d ++ []); image = (guard_entailment p c q next d []).image; targets = path_edges c next })
        after = rw append-nil (ap (λ (l : List Row). record { columns = (guard_entailment p c q next d []).columns; premises = l; image = (guard_entailment p c q next d []).image; targets = path_edges c next }) (sym (put_in_after (substitute (at_now p q) r) d)))

  same_vertex : (u : ℕ) → ¬ (u ≡ v) → from_vertex p' c u ≡ from_vertex p c u
  unfolding from_vertex
  same_vertex u n =
      ap (λ (f : Disjunct → List Entailment). flat_map f (path_edges c u))
      (fun_ext (λ d. ap₂ (λ (q : ℕ) (st : Option Statement). from_disjunct p' c q st d) (same_owner m u) (m.elsewhere u n) ∙ same_disjunct (owner p u) (statement_at p u) d))

  module _ (t : T (is_inequality op)) where
    guarded_disjunct : (i : ℕ) (d : Disjunct) → Guarded v (sourced_disjunct p c v (statement_at p v) i d) (from_disjunct p' c (owner p' v) (statement_at p' v) d)
    unfolding sourced_disjunct sourced_statement from_disjunct from_statement vertex_of condition_cases
    guarded_disjunct i d =
        let (r, yea) = one_case op x t true in
        let (s, nay) = one_case op x t false in
        rw (m.before, m.after, same_owner m v, yea, nay)
        (more refl (substitute (at_now p (owner p v)) r) (guard_more (owner p v) m.when_true d r) (more refl (substitute (at_now p (owner p v)) s) (guard_more (owner p v) m.when_false d s) no_more))

    guarded_vertex : (u : ℕ) → Guarded v (sourced_vertex p c u) (from_vertex p' c u)
    guarded_vertex u = go (eqb u v) refl
      where
        here : Guarded v (sourced_vertex p c v) (from_vertex p' c v)
        here = unfold sourced_vertex from_vertex in
            guarded_flat (sourced_disjunct p c v (statement_at p v)) (from_disjunct p' c (owner p' v) (statement_at p' v)) guarded_disjunct 0 (path_edges c v)

        go : (b : Bool) → eqb u v ≡ b → Guarded v (sourced_vertex p c u) (from_vertex p' c u)
        go true q = subst (λ (w : ℕ). Guarded v (sourced_vertex p c w) (from_vertex p' c w)) (sym (eqb→eq u v (holds q))) here
        go false q =
            let n : ¬ (u ≡ v) = eqb-false u v q in
            subst (Guarded v (sourced_vertex p c u)) (vertex_entailments p c u ∙ sym (same_vertex u n)) (guarded_others u n (sourced_vertex p c u) (vertex_from p c u))

    pub definite_guarded : 1 ≤ v → Guarded v (sourced p c) (entailments p' c)
    unfolding sourced entailments
    definite_guarded l =
        let vertices = ap₂ (λ (a b : ℕ). a + b) m.count (ap length m.procedures) in
        rw (same_start, vertices)
        (same {x = sourced_by from_start (of_vertex 1) (start_entailment p c)} (unfold vertex_of in omega arith) (guarded_gathered (sourced_vertex p c) (from_vertex p' c) (length p.statements + length p.procedures) guarded_vertex))

    pub definite_count : 1 ≤ v → length (entailments p' c) ≡ length (entailments p c)
    definite_count l = guarded_length (definite_guarded l) ∙ ap length (sourced_entailments p c)

    -- so the witnesses with zeros put in work for the program with the condition
    pub definite_witnesses_work : (rule : ℕ → ℤ → ℤ → Bool) (ws : List Witness) → 1 ≤ v → T (all_work_by rule (entailments p c) ws) → T (all_work_by rule (entailments p' c) (definite_witnesses v (sourced p c) ws))
    definite_witnesses_work rule ws l t = definite_work rule (definite_guarded l) ws (rw (sourced_entailments p c) t)
