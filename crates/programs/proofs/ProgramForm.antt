-- The form of a program's words, said in inequalities over ℤ, and that it holds if and only if tests 1, 2 and 3 pass.
-- Each test is a conjunction, and what a part of it asks of a word is an inequality: `simp` rewrites the one into the other.
use Rattle.std.specs.Prelude.{◌≡◌, ◌↔◌, Bool, false, List, ℕ, suc, ◌+◌, ◌-◌, ◌≤◌, ◌<◌, eqb, ℤ}
use Rattle.std.proofs.Math.Path.{ap}
use Rattle.std.proofs.Common.{◌∙◌, arith, eqb→eq}
use Rattle.std.proofs.Math.Option.{none}
use Rattle.std.proofs.Math.Dec.{T}
use Rattle.std.proofs.Math.IntN.{pos}
use Rattle.basics.proofs.Booleans.{parts, cond_cases, both, tests}
use Rattle.basics.proofs.Integers.{ints}
use Rattle.words.specs.Limits.{most_statements, most_procedures, most_vertices, most_locals, most_pool, most_line}
use Rattle.words.specs.Words.{word, number}
use Rattle.words.specs.RowWords.{row_size}
use Rattle.words.proofs.RowForm.{row_form, rows_form}
use Rattle.words.specs.Ranges.{Between, Small}
use Rattle.words.proofs.Ranges.{within_between, below_between, all_small_lem, number_most, number_of, number_between, number_positive}
use Rattle.words.specs.Tests.{first_failure}
use Rattle.words.proofs.FirstFailure.{no_failure, pass_cons, pass_append, pass_listed}
use Rattle.programs.specs.ProgramWords.{by_kind, n, p, Q, kind_word, kind, place_word, exit_field, first, locals, procedure_of, line_word, field, vertex_field, field_words}
use Rattle.programs.specs.ProgramTests.{sizes_pass, total_passes, row_fits, rises, exit_passes, condition_passes, same_procedure, successor_passes, skip_passes, assign_passes, branch_passes, assert_passes, call_passes, statement_passes, exit_test, statement_test, program_tests}
use Rattle.programs.specs.ProgramForm.{ConditionForm, ExitForm, FieldsForm, ProgramForm, RowInPool, SizesForm, StatementForm, SuccessorForm, assert_form, assign_form, branch_form, call_form, skip_form}

-- a kind for which a test passes is one of the five, if none passes for other kinds
by_kind_lem : {X : Type 0} (kind : ℕ) (b₁ b₂ b₃ b₄ b₅ : Bool) → T (by_kind kind b₁ b₂ b₃ b₄ b₅ false)
    → (kind ≡ 1 → X) → (kind ≡ 2 → X) → (kind ≡ 3 → X) → (kind ≡ 4 → X) → (kind ≡ 5 → X) → X
unfolding by_kind
by_kind_lem kind b₁ b₂ b₃ b₄ b₅ t f₁ f₂ f₃ f₄ f₅ =
    cond_cases (eqb kind 1) b₁ _ t (λ e. f₁ (eqb→eq kind 1 e)) λ t.
    cond_cases (eqb kind 2) b₂ _ t (λ e. f₂ (eqb→eq kind 2 e)) λ t.
    cond_cases (eqb kind 3) b₃ _ t (λ e. f₃ (eqb→eq kind 3 e)) λ t.
    cond_cases (eqb kind 4) b₄ _ t (λ e. f₄ (eqb→eq kind 4 e)) λ t.
    cond_cases (eqb kind 5) b₅ _ t (λ e. f₅ (eqb→eq kind 5 e)) λ t. absurd t

module _ (words : List ℤ) where
  -- ---- rows and their parts

  pub row_in_pool : (v size : ℕ) → T (row_fits words v size) ↔ (RowInPool words) v size
  unfolding row_fits
  row_in_pool v size = (there, back)
    where
      there : T (row_fits words v size) → (RowInPool words) v size
      there t =
          let (range, inside) = simp (tests, within_between) at t in
          record {
            place = number most_pool (place_word words v);
            stands = number_between 0 (Q words) most_pool (place_word words v) (number_most most_pool (word words 3)) range;
            inside = inside;
          }

      back : (RowInPool words) v size → T (row_fits words v size)
      back r =
          let e : number most_pool (pos r.place) ≡ r.place = number_of most_pool r.place (omega (arith, number_most most_pool (word words 3))) in
          simp (tests, within_between, r.stands, e) (omega (arith, ints), r.inside)

  condition_form : (low at columns : ℕ) → T (condition_passes words low at columns) ↔ (ConditionForm words) low at columns
  unfolding condition_passes
  condition_form low at columns = (there, back)
    where
      there : T (condition_passes words low at columns) → (ConditionForm words) low at columns
      there t =
          let (op, (expression, small)) = simp (tests, within_between, row_form, all_small_lem) at t in
          record {
            op = op;
            expression = expression;
            choice = λ e i h. let z = small (λ l. omega (arith, ap (number 6) e, number_of 6 0 (omega arith))) i h in omega (arith, ints);
          }

      back : (ConditionForm words) low at columns → T (condition_passes words low at columns)
      back c = simp (tests, within_between, row_form, all_small_lem) (c.op, (c.expression, small))
        where
          small : (1 ≤ number 6 (word words at) → ⊥) → (i : ℕ) → i < row_size columns → Small 0 (word words (at + 1 + i))
          small l i h =
              let e : word words at ≡ pos 0 = omega (arith, ints, number_between low 6 6 (word words at) (omega arith) c.op) in
              omega (arith, ints, c.choice e i h)

  pub successor_form : (v i : ℕ) → T (successor_passes words v i) ↔ (SuccessorForm words) v i
  unfolding successor_passes same_procedure
  successor_form v i = (there, back)
    where
      there : T (successor_passes words v i) → (SuccessorForm words) v i
      there t =
          let (low, (high, same)) = simp tests at t in
          record { target = vertex_field words v i; stands = number_positive most_vertices (field words v i) low; low = low; high = high; same = same }

      back : (SuccessorForm words) v i → T (successor_passes words v i)
      back s =
          let h : s.target ≤ most_vertices = omega (arith, number_most most_statements (word words 0), number_most most_procedures (word words 1)) in
          simp (tests, s.stands, number_of most_vertices s.target h) search

  pub successor_range : (v i : ℕ) → (SuccessorForm words) v i
      → (1 ≤ vertex_field words v i) × ((vertex_field words v i ≤ n words + p words) × (procedure_of words (vertex_field words v i) ≡ procedure_of words v))
  unfolding successor_passes same_procedure
  successor_range v i s = simp tests at ((successor_form v i).1 s)

  -- ---- exits

  rises_form : (q : ℕ) → 1 ≤ q → T (rises words q) ↔ ((q ≡ 1 → first words q ≡ 1) × (1 < q → first words (q - 1) < first words q))
  unfolding rises
  rises_form q l = simp tests (λ x. (x.0, λ h. x.1 (λ e. omega arith)), λ x. (x.0, λ d. x.1 (omega arith)))

  pub locals_is : (q : ℕ) → Between (pos 0) (pos most_locals) (exit_field words q 1) → exit_field words q 1 ≡ pos (locals words q)
  unfolding locals
  locals_is q = number_between 0 most_locals most_locals (exit_field words q 1) (omega arith)

  pub first_is : (q : ℕ) → Between (pos 1) (pos (n words)) (exit_field words q 0) → exit_field words q 0 ≡ pos (first words q)
  unfolding first
  first_is q = number_between 1 (n words) most_statements (exit_field words q 0) (number_most most_statements (word words 0))

  pub exit_form : (q : ℕ) → 1 ≤ q → T (exit_passes words q) ↔ (ExitForm words) q
  unfolding exit_passes
  exit_form q l = (there, back)
    where
      there : T (exit_passes words q) → (ExitForm words) q
      there t =
          let (six, (in_pool, (locals_range, (fewer, (first_range, (one, rises)))))) = simp (tests, within_between, row_in_pool, rises_form) at t in
          record {
            kind = omega (arith, ints);
            in_pool = in_pool;
            locals_range = locals_range;
            parameters_range = rw (locals_is q locals_range) fewer;
            first_range = first_range;
            main = λ e. first_is q first_range ∙ ap pos (one e);
            rises = rises;
          }

      back : (ExitForm words) q → T (exit_passes words q)
      back f =
          let six : Between (pos 6) (pos 6) (kind_word words (n words + q)) = omega (arith, ints) in
          let fewer = rw (locals_is q f.locals_range) at f.parameters_range in
          let one : q ≡ 1 → first words q ≡ 1 = λ e. omega (arith, ints, first_is q f.first_range, f.main e) in
          simp (tests, within_between, row_in_pool, rises_form) search

  -- ---- statements

  kind_is : (v : ℕ) {j : ℕ} → kind words v ≡ suc j → kind_word words v ≡ pos (suc j)
  kind_is v e = number_positive 6 (kind_word words v) (omega arith) ∙ ap pos e

  ruleset forms = (both, within_between, below_between, row_in_pool, successor_form, row_form, rows_form, condition_form)

  fields_of : (v : ℕ) → T (statement_passes words v) → (FieldsForm words) v
  unfolding statement_passes field_words by_kind skip_passes assign_passes branch_passes assert_passes call_passes
  fields_of v t =
      by_kind_lem (kind words v) (skip_passes words v) (assign_passes words v) (branch_passes words v) (assert_passes words v) (call_passes words v) (search parts)
      (λ e. let (r, (l, s)) = simp (e, forms) at t in skip_form (kind_is v e) r s)
      (λ e. let (r, (l, (s, (c, x)))) = simp (e, forms) at t in assign_form (kind_is v e) r s c x)
      (λ e. let (r, (l, (s, (u, c)))) = simp (e, forms) at t in branch_form (kind_is v e) r s u c)
      (λ e. let (r, (l, (s, c))) = simp (e, forms) at t in assert_form (kind_is v e) r s c)
      (λ e. let (r, (l, (s, (q, x)))) = simp (e, forms) at t in call_form (kind_is v e) r s q x)

  line_of : (v : ℕ) → T (statement_passes words v) → Between (pos 0) (pos most_line) (line_word words v)
  unfolding statement_passes
  line_of v t = (within_between 0 most_line (line_word words v)).0 (search parts)

  of_statement : (v : ℕ) → Between (pos 0) (pos most_line) (line_word words v) → (FieldsForm words) v → T (statement_passes words v)
  unfolding statement_passes field_words by_kind skip_passes assign_passes branch_passes assert_passes call_passes number
  of_statement v l (skip_form e r s) = simp (e, forms) (r, (l, s))
  of_statement v l (assign_form e r s c x) = simp (e, forms) (r, (l, (s, (c, x))))
  of_statement v l (branch_form e r s u c) = simp (e, forms) (r, (l, (s, (u, c))))
  of_statement v l (assert_form e r s c) = simp (e, forms) (r, (l, (s, c)))
  of_statement v l (call_form e r s q x) = simp (e, forms) (r, (l, (s, (q, x))))

  pub statement_form : (v : ℕ) → T (statement_passes words v) ↔ (StatementForm words) v
  statement_form v = (λ t. record { line_range = line_of v t; fields_form = fields_of v t }, λ f. of_statement v f.line_range f.fields_form)

  -- ---- the program

  pub sizes_form : (T (sizes_pass words) × T (total_passes words)) ↔ (SizesForm words)
  unfolding sizes_pass total_passes
  sizes_form = (λ x. let t = simp (tests, within_between) at x in search, λ f. simp (tests, within_between) search)

  ruleset all_tests = (no_failure, pass_cons, pass_append, pass_listed, tests, within_between, exit_form, statement_form)

  pub program_form_lem : (first_failure (program_tests words) ≡ none) ↔ (ProgramForm words)
  unfolding program_tests exit_test statement_test sizes_pass total_passes
  program_form_lem = (there, back)
    where
      there : first_failure (program_tests words) ≡ none → (ProgramForm words)
      there e = let x = simp all_tests at e in search

      back : (ProgramForm words) → first_failure (program_tests words) ≡ none
      back f = simp all_tests search
