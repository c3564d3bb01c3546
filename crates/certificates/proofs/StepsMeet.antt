-- Each step keeps the invariant, where each entailment of the list has a witness that works: the entailments of the disjunct that the call
-- meets at its vertex, at the values that it is judged with, give a disjunct of the vertex that the step goes to.
use Rattle.std.specs.Prelude.{◌≡◌, ℕ, ◌+◌, ◌≤◌, true, false, not, T, length, set, drop}
use Rattle.std.proofs.Math.Path.{refl, sym, ap}
use Rattle.std.proofs.Common.{◌∙◌, subst, arith, take-append-drop, take_at}
use Rattle.std.proofs.Math.Option.{some}
use mathlib.Core.List.Memᴰ
use mathlib.Core.List.{List, [], ◌∷◌, ◌++◌, append_assoc, append-nil, map, Memᴰ}
use Rattle.std.proofs.Math.ListN.{length-append, take}
use Rattle.std.proofs.Math.IntN.{ℤ}
use Rattle.basics.proofs.Booleans.{and_l, and_r}
use Rattle.rows.specs.Rows.{Row, value, values, Holds, nil, substitute_all}
use Rattle.rows.specs.Columns.{columns}
use Rattle.rows.proofs.Values.{holds_append, holds_substituted}
use Rattle.rows.proofs.Blocks.{length_values, block}
use Rattle.programs.specs.Program.{Program, Statement, skip, assign, branch, assert, call, Condition, Comparison, compares, statement_at, first_of, parameters_of, others_of, width_of, owner, same, formed, formed_statement}
use Rattle.programs.specs.Runs.{Call, Waiting, State, AtExit, entered, entry_state, move_to, values_now, store, push, pop, Step, on_skip, on_assign, on_true, on_false, on_pass, on_fail, on_call, on_exit, initial, Run, start, ◌then◌, Allows}
use Rattle.programs.proofs.RunWidths.{moved_wide, stored_wide, entered_wide}
use Rattle.programs.specs.FormLaws.{CallFormed}
use Rattle.programs.proofs.FormLaws.{formed_statement_lem, first_one, some_procedure_lem, parameters_fit, owner_first, same_owner, call_formed}
use Rattle.certificates.specs.Certificate.{Disjunct, Certificate, path_edges, summary_edges, Meets}
use Rattle.certificates.specs.Guards.{cases, opposite, condition_cases}
use Rattle.certificates.proofs.GuardLaws.{cases_iff, opposite_cases_iff, condition_iff, one_case}
use Rattle.certificates.specs.Entailments.{Entailment, entailments, start_entailment, at_entry, at_now, globals_now, fresh_locals, summary_image, guard_entailment, assign_entailment, entry_entailment, return_entailment, from_statement, exit_entailment}
use Rattle.certificates.specs.Witnesses.{Witness, all_work}
use Rattle.certificates.proofs.Entails.{all_entail}
use Rattle.certificates.proofs.Listing.{from_statement_lem, from_exit}
use Rattle.certificates.proofs.Images.{values_two, values_entry, v_now, v_globals, v_fresh, v_path, v_assign, v_actuals, v_summary, v_return, v_exit}
use Rattle.certificates.specs.Invariant.{CallMet, BelowMet, bottom, waits, StateMet}
use Rattle.certificates.specs.StepsMeet.{here}

no_fresh : (entry current : List ℤ) → entry ++ current ≡ entry ++ (current ++ [])
no_fresh entry current = ap (λ (l : List ℤ). entry ++ l) (sym (append-nil current))

module _ (p : Program) (c : Certificate) (ws : List Witness) (f : T (formed p)) (a : T (all_work (entailments p c) ws)) where
  -- ---- statements, at an open call that meets a path edge

  module _ (gs : List ℤ) (o : Call) (k : CallMet p c gs o) where
    abbrev none_fresh : (here p c ws f a gs o k) ≡ o.entry ++ ((gs ++ o.locals) ++ [])
    none_fresh = no_fresh o.entry (gs ++ o.locals)

    -- an entailment of the call's statement, from a disjunct of its vertex
    follow : {st : Statement} → statement_at p o.vertex ≡ some st → {d : Disjunct} → Memᴰ d (path_edges c o.vertex)
        → (e : Entailment) {s t : List ℤ} → Memᴰ e (from_statement p c o.procedure st d) → values e.image s ≡ t → Holds s e.premises → Meets e.targets t
    follow {st} g {d} m e i v h =
        all_entail (entailments p c) ws a e (from_statement_lem p c o.vertex e g m (subst (λ q. Memᴰ e (from_statement p c q st d)) (sym k.owned) i)) v h

    -- skip, branch and assert: some case of the guard holds
    guard_met : {st : Statement} → statement_at p o.vertex ≡ some st → (next : ℕ) (guards : List Disjunct) → Meets guards (gs ++ o.locals)
        → ((d guard : Disjunct) → Memᴰ guard guards → Memᴰ (guard_entailment p c o.procedure next d guard) (from_statement p c o.procedure st d))
        → Meets (path_edges c next) (here p c ws f a gs o k)
    unfolding Meets guard_entailment
    guard_met g next guards y place =
        let d : Disjunct = k.meets.0 in
        follow g k.meets.1 (guard_entailment p c o.procedure next d y.0) (place d y.0 y.1)
        (v_path p o.procedure o.entry gs o.locals k.wide.widths [] (here p c ws f a gs o k) none_fresh)
        (holds_append k.meets.2 (holds_substituted (at_now p o.procedure) y.0 (v_now p o.procedure o.entry gs o.locals k.wide.widths [] (here p c ws f a gs o k) none_fresh) y.2))

    skip_met : (next : ℕ) → statement_at p o.vertex ≡ some (skip next) → Meets (path_edges c next) (here p c ws f a gs o k)
    unfolding from_statement
    skip_met next g = guard_met g next ([] ∷ []) ((one_case (gs ++ o.locals) []).0 nil) (λ d guard m. Memᴰ.head (ap (guard_entailment p c o.procedure next d) (Memᴰ.eq_of_singleton m)))

    true_met : (yea nay : ℕ) (x : Condition) → statement_at p o.vertex ≡ some (branch yea nay x) → Allows x true (gs ++ o.locals) → Meets (path_edges c yea) (here p c ws f a gs o k)
    unfolding from_statement
    true_met yea nay x g t =
        guard_met g yea (condition_cases x true) ((condition_iff (gs ++ o.locals) x true).0 t) (λ d guard m. Memᴰ.append_left _ (Memᴰ.map (guard_entailment p c o.procedure yea d) m))

    false_met : (yea nay : ℕ) (x : Condition) → statement_at p o.vertex ≡ some (branch yea nay x) → Allows x false (gs ++ o.locals) → Meets (path_edges c nay) (here p c ws f a gs o k)
    unfolding from_statement
    false_met yea nay x g t =
        guard_met g nay (condition_cases x false) ((condition_iff (gs ++ o.locals) x false).0 t)
        (λ d guard m. Memᴰ.append_right (map (guard_entailment p c o.procedure yea d) (condition_cases x true)) (Memᴰ.map (guard_entailment p c o.procedure nay d) m))

    pass_met : (next : ℕ) (op : Comparison) (e : Row) → statement_at p o.vertex ≡ some (assert next op e) → T (compares op (value e (gs ++ o.locals))) → Meets (path_edges c next) (here p c ws f a gs o k)
    unfolding from_statement
    pass_met next op e g t =
        guard_met g next (cases op e) ((cases_iff (gs ++ o.locals) e op).0 t) (λ d guard m. Memᴰ.append_left _ (Memᴰ.map (guard_entailment p c o.procedure next d) m))

    fail_met : (next : ℕ) (op : Comparison) (e : Row) → statement_at p o.vertex ≡ some (assert next op e) → T (not (compares op (value e (gs ++ o.locals)))) → Meets (path_edges c 0) (here p c ws f a gs o k)
    unfolding from_statement
    fail_met next op e g t =
        guard_met g 0 (cases (opposite op) e) ((opposite_cases_iff (gs ++ o.locals) e op).0 t)
        (λ d guard m. Memᴰ.append_right (map (guard_entailment p c o.procedure next d) (cases op e)) (Memᴰ.map (guard_entailment p c o.procedure 0 d) m))

    assign_met : (next i : ℕ) (e : Row) → statement_at p o.vertex ≡ some (assign next i e) → Meets (path_edges c next) (o.entry ++ set (gs ++ o.locals) i (value e (gs ++ o.locals)))
    unfolding Meets from_statement assign_entailment
    assign_met next i e g =
        follow g k.meets.1 (assign_entailment p c o.procedure next i e k.meets.0) (Memᴰ.head refl)
        (v_assign p o.procedure o.entry gs o.locals k.wide.widths [] (here p c ws f a gs o k) none_fresh i e) k.meets.2

    -- a call's entry, with any values of the callee's other locals
    entry_met : (return q : ℕ) (actuals : List Row) (others : List ℤ) → length others ≡ others_of p q → statement_at p o.vertex ≡ some (call return q actuals)
        → Meets (path_edges c (first_of p q)) (entry_state gs (values actuals (gs ++ o.locals)) others ++ entry_state gs (values actuals (gs ++ o.locals)) others)
    unfolding Meets from_statement entry_entailment entry_state
    entry_met return q actuals others ho g =
        let at : List ℤ = o.entry ++ ((gs ++ o.locals) ++ others) in
        let d : Disjunct = k.meets.0 in
        follow g k.meets.1 (entry_entailment p c o.procedure q actuals d) (Memᴰ.head refl)
        (values_entry (globals_now p o.procedure) (substitute_all (at_now p o.procedure) actuals) (fresh_locals p o.procedure q) at
        (v_globals p o.procedure o.entry gs o.locals k.wide.widths others at refl)
        (v_actuals p o.procedure o.entry gs o.locals k.wide.widths others at refl actuals)
        (v_fresh p o.procedure o.entry gs o.locals k.wide.widths others at refl (others_of p q) ho))
        (holds_substituted (at_entry p o.procedure ++ at_now p o.procedure) d (v_path p o.procedure o.entry gs o.locals k.wide.widths others at refl) k.meets.2)

    -- a call's return, with the globals `after` that its callee left, where these meet a summary edge
    return_met : (return q : ℕ) (actuals : List Row) → statement_at p o.vertex ≡ some (call return q actuals)
        → (after : List ℤ) → length after ≡ p.globals → Meets (summary_edges c q) (gs ++ (values actuals (gs ++ o.locals) ++ after))
        → Meets (path_edges c return) (o.entry ++ (after ++ o.locals))
    unfolding Meets from_statement return_entailment
    return_met return q actuals g after hf y =
        let at : List ℤ = o.entry ++ ((gs ++ o.locals) ++ after) in
        let d : Disjunct = k.meets.0 in
        follow g k.meets.1 (return_entailment p c o.procedure return actuals d y.0) (Memᴰ.tail (Memᴰ.map (return_entailment p c o.procedure return actuals d) y.1))
        (v_return p o.procedure o.entry gs o.locals k.wide.widths after at refl hf)
        (holds_append
        (holds_substituted (at_entry p o.procedure ++ at_now p o.procedure) d (v_path p o.procedure o.entry gs o.locals k.wide.widths after at refl) k.meets.2)
        (holds_substituted (summary_image p o.procedure actuals) y.0 (v_summary p o.procedure o.entry gs o.locals k.wide.widths after at refl actuals hf) y.2))

    -- a call at its exit meets a summary edge
    pub exit_met : AtExit p o → Meets (summary_edges c o.procedure) (take (p.globals + parameters_of p o.procedure) o.entry ++ gs)
    unfolding Meets exit_entailment
    exit_met e =
        let d : Disjunct = k.meets.0 in
        all_entail (entailments p c) ws a (exit_entailment p c o.procedure d)
        (from_exit p c o.procedure k.wide.low k.wide.high (subst (λ v. Memᴰ d (path_edges c v)) e k.meets.1))
        (v_exit p o.procedure o.entry gs o.locals k.wide.widths [] (here p c ws f a gs o k) none_fresh (parameters_fit p f o.procedure k.wide.low k.wide.high)) k.meets.2

    moved_met : (v : ℕ) → T (same p o.vertex v) → Meets (path_edges c v) (here p c ws f a gs o k) → CallMet p c gs (move_to v o)
    moved_met v t m = record { wide = moved_wide p v k.wide.widths.globals_width k.wide; owned = same_owner p o.vertex v t ∙ k.owned; meets = m }

    stored_met : (next i : ℕ) (e : Row) → statement_at p o.vertex ≡ some (assign next i e) → T (same p o.vertex next) → (vs : List ℤ) → vs ≡ set (gs ++ o.locals) i (value e (gs ++ o.locals))
        → CallMet p c (take p.globals vs) (record { procedure = o.procedure; vertex = next; locals = drop p.globals vs; entry = o.entry })
    stored_met next i e g t vs ev =
        record {
          wide = rw ev (stored_wide p next i (value e (gs ++ o.locals)) k.wide);
          owned = same_owner p o.vertex next t ∙ k.owned;
          meets = rw take-append-drop (rw ev (assign_met next i e g));
        }

  -- vertex 0 has no path edges
  pub never_zero : (s : List ℤ) → Meets (path_edges c 0) s → ⊥
  unfolding Meets path_edges
  never_zero s x = Memᴰ.not-nil x.1

  -- ---- entries

  entered_met : (q v : ℕ) (gs arguments others : List ℤ) → 1 ≤ q → q ≤ length p.procedures → owner p v ≡ q → length gs ≡ p.globals → length arguments ≡ parameters_of p q → length others ≡ others_of p q
      → Meets (path_edges c v) (entry_state gs arguments others ++ entry_state gs arguments others) → CallMet p c gs (entered q v gs arguments others)
  unfolding entered entry_state
  entered_met q v gs arguments others l h e hg ha ho m = record { wide = entered_wide p f q v gs arguments others l h hg ha ho; owned = e; meets = m }

  -- main's start, with any values of its columns
  start_met : (s : List ℤ) → length s ≡ width_of p 1 → Meets (path_edges c 1) (s ++ s)
  unfolding start_entailment entailments
  start_met s h = all_entail (entailments p c) ws a (start_entailment p c) {s = s} (Memᴰ.head refl) (values_two (columns 0 (width_of p 1)) (columns 0 (width_of p 1)) s once once) nil
    where
      once : values (columns 0 (width_of p 1)) s ≡ s
      once = block [] s [] s 0 (width_of p 1) (sym (append-nil s)) refl h

  pub initial_met : (gs arguments others : List ℤ) → length gs ≡ p.globals → length arguments ≡ parameters_of p 1 → length others ≡ others_of p 1 → StateMet p c (initial gs arguments others)
  unfolding initial
  initial_met gs arguments others hg ha ho =
      record {
        top_met = entered_met 1 1 gs arguments others (omega arith) (some_procedure_lem p f)
            (subst (λ v. owner p v ≡ 1) (first_one p f) (owner_first p f 1 (omega arith) (some_procedure_lem p f))) hg ha ho
            (start_met (entry_state gs arguments others) (unfold entered in (entered_wide p f 1 1 gs arguments others (omega arith) (some_procedure_lem p f) hg ha ho).widths.entry_width));
        below_met = unfold entered in bottom;
      }

  -- ---- exits

  -- the part of the callee's entry state that a summary sees
  summary_state : (q : ℕ) (aside arguments others gs entry : List ℤ) → length aside ≡ p.globals → length arguments ≡ parameters_of p q → entry ≡ entry_state aside arguments others
      → take (p.globals + parameters_of p q) entry ++ gs ≡ aside ++ (arguments ++ gs)
  unfolding entry_state
  summary_state q aside arguments others gs entry ha hb e =
      ap (λ (l : List ℤ). take (p.globals + parameters_of p q) l ++ gs) (e ∙ sym (append_assoc aside arguments others))
      ∙ ap (λ (l : List ℤ). l ++ gs) (take_at (aside ++ arguments) others (p.globals + parameters_of p q) (simp length-append (omega arith)))
      ∙ append_assoc aside arguments gs

  leave_met : (gs : List ℤ) (o : Call) (k : CallMet p c gs o) (w : Waiting) (rest : List Waiting) {return : ℕ} {actuals : List Row} → AtExit p o
      → statement_at p w.caller.vertex ≡ some (call return o.procedure actuals) → BelowMet p c o.procedure o.entry (w ∷ rest) → StateMet p c (pop return w rest gs)
  leave_met gs o k w rest {return} ex g (waits {return = r} {actuals = acts} others g' e kw b) =
      let same_return : return ≡ r = cc in
      subst (λ v. StateMet p c (pop v w rest gs)) (sym same_return)
      (record {
        top_met = record {
          wide = moved_wide p r k.wide.widths.globals_width kw.wide;
          owned = form.back ∙ kw.owned;
          meets = return_met w.aside w.caller kw r o.procedure acts g' gs k.wide.widths.globals_width
              (subst (Meets (summary_edges c o.procedure)) (summary_state o.procedure w.aside (values acts (w.aside ++ w.caller.locals)) others gs o.entry kw.wide.widths.globals_width count e) (exit_met gs o k ex));
        };
        below_met = b;
      })
    where
      form : CallFormed p w.caller.vertex r o.procedure acts
      form = call_formed p f w.caller.vertex g'

      count : length (values acts (w.aside ++ w.caller.locals)) ≡ parameters_of p o.procedure
      count = length_values acts (w.aside ++ w.caller.locals) ∙ form.count

  -- ---- each step, and each run

  step_met : {s t : State} → Step p s t → StateMet p c s → StateMet p c t
  unfolding store push entered formed_statement
  step_met (on_skip {s} {next} g) i =
      record { top_met = moved_met s.globals s.top i.top_met next (formed_statement_lem p f s.top.vertex g) (skip_met s.globals s.top i.top_met next g); below_met = i.below_met }
  step_met (on_assign {s} {next} {i = j} {e} g) i =
      record { top_met = stored_met s.globals s.top i.top_met next j e g (formed_statement_lem p f s.top.vertex g) _ refl; below_met = i.below_met }
  step_met (on_true {s} {yea} {nay} {g = x} g t) i =
      record {
        top_met = moved_met s.globals s.top i.top_met yea (and_l (same p s.top.vertex yea) (same p s.top.vertex nay) (formed_statement_lem p f s.top.vertex g)) (true_met s.globals s.top i.top_met yea nay x g t);
        below_met = i.below_met;
      }
  step_met (on_false {s} {yea} {nay} {g = x} g t) i =
      record {
        top_met = moved_met s.globals s.top i.top_met nay (and_r (same p s.top.vertex yea) (same p s.top.vertex nay) (formed_statement_lem p f s.top.vertex g)) (false_met s.globals s.top i.top_met yea nay x g t);
        below_met = i.below_met;
      }
  step_met (on_pass {s} {next} {op} {e} g t) i =
      record { top_met = moved_met s.globals s.top i.top_met next (formed_statement_lem p f s.top.vertex g) (pass_met s.globals s.top i.top_met next op e g t); below_met = i.below_met }
  step_met (on_fail {s} {next} {op} {e} g t) i = absurd (never_zero _ (fail_met s.globals s.top i.top_met next op e g t))
  step_met (on_call {s} {return} {q} {actuals} others o g) i =
      let form : CallFormed p s.top.vertex return q actuals = call_formed p f s.top.vertex g in
      record {
        top_met = entered_met q (first_of p q) s.globals (values actuals (values_now s)) others form.low form.high (owner_first p f q form.low form.high)
            i.top_met.wide.widths.globals_width (length_values actuals (values_now s) ∙ form.count) o (entry_met s.globals s.top i.top_met return q actuals others o g);
        below_met = waits others g refl i.top_met i.below_met;
      }
  step_met (on_exit {globals} {c = o} {w} {rest} ex g) i = leave_met globals o i.top_met w rest ex g i.below_met

  pub run_met : {s : State} → Run p s → StateMet p c s
  run_met (start gs arguments others hg ha ho) = initial_met gs arguments others hg ha ho
  run_met (◌then◌ r st) = step_met st (run_met r)
