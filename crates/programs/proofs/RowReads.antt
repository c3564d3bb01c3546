-- What of a program is read from which words: sizes, kinds and places from the front, a procedure from its exit row, a statement from its own row.
-- So where two lists of words are the same but in one statement's row, they have the same procedures and the same other statements, and the form
-- of all but that one is the same.
use Rattle.std.specs.Prelude.{◌≡◌, List, leb, ℤ, pos, drop}
use Rattle.std.proofs.Math.Path.{refl, ap, ap₂}
use Rattle.std.proofs.Common.{sym, ◌∙◌, add-zero}
use Rattle.std.proofs.Math.Bool.{cond}
use Prim.Native.Nat.{ℕ, zero, suc, ◌+◌, ◌*◌, ◌-◌, ◌≤◌, ◌<◌}
use native.Mathlib.Omega.{arith}
use Rattle.words.specs.Limits.{most_statements, most_procedures, most_globals, most_locals, most_pool}
use Rattle.words.specs.Words.{word, number}
use Rattle.words.specs.RowWords.{row_size, row_of}
use Rattle.words.specs.RowForm.{RowForm}
use Rattle.words.specs.Ranges.{Between}
use Rattle.words.specs.SameWords.{Same}
use Rattle.words.proofs.SameWords.{same_part, same_row_form, same_rows_form, same_row, same_rows}
use Rattle.programs.specs.ProgramWords.{by_kind, n, p, G, Q, kind_place, kind_word, kind, place_word, row, exit_field, exit_words, first, locals, parameters, begun, procedure_of, k, line_words, line_word, fields, field, procedure_field, field_words, statement_words}
use Rattle.programs.specs.ProgramForm.{ProgramForm, SizesForm, ExitForm, RowInPool, SuccessorForm, ConditionForm, FieldsForm, skip_form, assign_form, branch_form, assert_form, call_form, StatementForm}
use Rattle.programs.proofs.DecodedNumbers.{procedure_range}
use Rattle.programs.proofs.Formed.{callee_range}
use Rattle.programs.specs.Decode.{fields_of, expression, meaning, statement, procedure}
use Rattle.programs.specs.RowReads.{SameBut, actuals_size}

-- ---- how many words a row takes, by its kind

module _ (words : List ℤ) (u : ℕ) where
  skip_size : kind_word words u ≡ pos 1 → statement_words words u ≡ line_words + 1
  unfolding field_words by_kind number
  skip_size e = rw e

  assign_size : kind_word words u ≡ pos 2 → statement_words words u ≡ line_words + (2 + row_size (k words u))
  unfolding field_words by_kind number
  assign_size e = rw e

  pub branch_size : kind_word words u ≡ pos 3 → statement_words words u ≡ line_words + (3 + row_size (k words u))
  unfolding field_words by_kind number
  branch_size e = rw e

  assert_size : kind_word words u ≡ pos 4 → statement_words words u ≡ line_words + (2 + row_size (k words u))
  unfolding field_words by_kind number
  assert_size e = rw e

  call_size : kind_word words u ≡ pos 5 → statement_words words u ≡ line_words + (2 + parameters words (procedure_field words u 1) * row_size (k words u))
  unfolding field_words by_kind number
  call_size e = rw e

module _ {words' words : List ℤ} {v : ℕ} (s : SameBut words' words v) where
  -- ---- sizes

  pub same_n : n words' ≡ n words
  same_n = ap (number most_statements) (s.front 0 (omega arith))

  pub same_p : p words' ≡ p words
  same_p = ap (number most_procedures) (s.front 1 (omega arith))

  pub same_G : G words' ≡ G words
  same_G = ap (number most_globals) (s.front 2 (omega arith))

  pub same_Q : Q words' ≡ Q words
  same_Q = ap (number most_pool) (s.front 3 (omega arith))

  same_vertices : n words' + p words' ≡ n words + p words
  same_vertices = ap₂ (λ (x y : ℕ). x + y) same_n same_p

  -- ---- kinds and places

  module _ (u : ℕ) (h : u ≤ n words + p words) where
    pub same_kind : kind_word words' u ≡ kind_word words u
    same_kind = s.front (kind_place u) (omega arith)

    same_place : place_word words' u ≡ place_word words u
    same_place = ap (λ (m : ℕ). word words' (3 + m + u)) same_vertices ∙ s.front (3 + (n words + p words) + u) (omega arith)

    pub same_row_place : row words' u ≡ row words u
    unfolding row
    same_row_place = ap₂ (λ (m : ℕ) (z : ℤ). 4 + m + m + number most_pool z) same_vertices same_place

    pub same_fields_place : fields words' u ≡ fields words u
    unfolding fields
    same_fields_place = ap (λ (m : ℕ). m + line_words) same_row_place

    pub same_in_pool : (size : ℕ) → RowInPool words u size → RowInPool words' u size
    same_in_pool size r = record { place = r.place; stands = same_place ∙ r.stands; inside = rw same_Q r.inside }

  -- ---- procedures

  module _ (q : ℕ) (l : 1 ≤ q) (h : q ≤ p words) where
    same_exit_field : (i : ℕ) → i < exit_words → exit_field words' q i ≡ exit_field words q i
    same_exit_field i b = ap (λ (m : ℕ). word words' (m + i)) (ap (λ (m : ℕ). row words' (m + q)) same_n ∙ same_row_place (n words + q) (omega arith)) ∙ s.exits q l h i b

    pub same_first : first words' q ≡ first words q
    unfolding first
    same_first = ap (number most_statements) (same_exit_field 0 (omega arith))

    pub same_locals : locals words' q ≡ locals words q
    unfolding locals
    same_locals = ap (number most_locals) (same_exit_field 1 (omega arith))

    pub same_parameters : parameters words' q ≡ parameters words q
    unfolding parameters
    same_parameters = ap (number most_locals) (same_exit_field 2 (omega arith))

    pub same_procedure_lem : procedure words' q ≡ procedure words q
    unfolding procedure
    same_procedure_lem = λ i. record { first = same_first i; locals = same_locals i; parameters = same_parameters i }

  same_begun : (u i : ℕ) → i ≤ p words → begun words' u i ≡ begun words u i
  unfolding begun
  same_begun u zero h = refl
  same_begun u (suc i) h = ap₂ (λ (m b : ℕ). cond (leb m u) (suc b) b) (same_first (i + 1) (omega arith) (omega arith)) (same_begun u i (omega arith))

  pub same_owner : (u : ℕ) → procedure_of words' u ≡ procedure_of words u
  unfolding procedure_of
  same_owner u = rw (same_n, same_p, same_begun u (p words) (omega arith))

  module _ (f : ProgramForm words) where
    pub same_k : (u : ℕ) → 1 ≤ u → u ≤ n words + p words → k words' u ≡ k words u
    unfolding k
    same_k u l h =
        let (low, high) = procedure_range words f u l h in
        ap₂ (λ (x y : ℕ). x + y) same_G (ap (locals words') (same_owner u) ∙ same_locals (procedure_of words u) low high)

    -- ---- the form

    pub same_sizes_form : SizesForm words'
    same_sizes_form =
        record {
          header = rw s.long f.sizes.header;
          statements_range = rw (s.front 0 (omega arith)) f.sizes.statements_range;
          procedures_range = rw (s.front 1 (omega arith)) f.sizes.procedures_range;
          globals_range = rw (s.front 2 (omega arith)) f.sizes.globals_range;
          pool_range = rw (s.front 3 (omega arith)) f.sizes.pool_range;
          total = omega (arith, s.long, f.sizes.total, same_vertices, same_Q);
        }

    pub same_exit_form : (q : ℕ) → 1 ≤ q → q ≤ p words → ExitForm words' q
    same_exit_form q l h =
        let x : ExitForm words q = f.exits q l h in
        record {
          kind = ap (λ (m : ℕ). kind_word words' (m + q)) same_n ∙ (same_kind (n words + q) (omega arith) ∙ x.kind);
          in_pool = rw same_n (same_in_pool (n words + q) (omega arith) exit_words x.in_pool);
          locals_range = rw (same_exit_field q l h 1 (omega arith)) x.locals_range;
          parameters_range = rw (same_exit_field q l h 1 (omega arith), same_exit_field q l h 2 (omega arith)) x.parameters_range;
          first_range = rw (same_exit_field q l h 0 (omega arith), same_n) x.first_range;
          main = λ e. same_exit_field q l h 0 (omega arith) ∙ x.main e;
          rises = λ b. rw (same_first (q - 1) (omega arith) (omega arith), same_first q l h) (x.rises b);
        }

    -- ---- a row of which so many words are the same

    module _ (u : ℕ) (l : 1 ≤ u) (h : u ≤ n words + p words) (size : ℕ) (z : Same words' words (row words u) size) where
      pub same_line_word : 1 ≤ size → line_word words' u ≡ line_word words u
      same_line_word b = ap (word words') (same_row_place u h) ∙ rw add-zero at (z 0 b)

      same_from : (i m : ℕ) → line_words + (i + m) ≤ size → Same words' words (fields words u + i) m
      unfolding fields
      same_from i m b = let e : row words u + (line_words + i) ≡ row words u + line_words + i = omega arith in rw e at (same_part words' words (row words u) size (line_words + i) m (omega arith) z)

      pub same_field : (i : ℕ) → line_words + (i + 1) ≤ size → field words' u i ≡ field words u i
      same_field i b = ap (λ (m : ℕ). word words' (m + i)) (same_fields_place u h) ∙ rw add-zero at (same_from i 1 b 0 (omega arith))

      pub same_successor : (i : ℕ) → line_words + (i + 1) ≤ size → SuccessorForm words u i → SuccessorForm words' u i
      same_successor i b x =
          record {
            target = x.target;
            stands = same_field i b ∙ x.stands;
            low = x.low;
            high = rw same_vertices x.high;
            same = same_owner x.target ∙ (x.same ∙ sym (same_owner u));
          }

      same_expression_form : (i columns : ℕ) → line_words + (i + row_size columns) ≤ size → RowForm words (fields words u + i) columns → RowForm words' (fields words' u + i) columns
      same_expression_form i columns b x = rw (same_fields_place u h) (same_row_form words' words (fields words u + i) columns (same_from i (row_size columns) b) x)

      same_expression : (i columns : ℕ) → line_words + (i + row_size columns) ≤ size → row_of columns (drop (fields words' u + i) words') ≡ row_of columns (drop (fields words u + i) words)
      same_expression i columns b = rw (same_fields_place u h) (same_row words' words s.long (fields words u + i) columns (same_from i (row_size columns) b))

      same_condition : (low i columns : ℕ) → line_words + (i + (1 + row_size columns)) ≤ size → ConditionForm words low (fields words u + i) columns → ConditionForm words' low (fields words' u + i) columns
      same_condition low i columns b x =
          let here : Same words' words (fields words u + i) (1 + row_size columns) = same_from i (1 + row_size columns) b in
          let opword : word words' (fields words u + i) ≡ word words (fields words u + i) = rw add-zero at (here 0 (omega arith)) in
          let rest : Same words' words (fields words u + i + 1) (row_size columns) = same_part words' words (fields words u + i) (1 + row_size columns) 1 (row_size columns) (omega arith) here in
          rw (same_fields_place u h)
          (record {
            op = rw opword x.op;
            expression = same_row_form words' words (fields words u + i + 1) columns rest x.expression;
            choice = λ e j g. rest j g ∙ x.choice (sym opword ∙ e) j g;
          })

    -- ---- a statement's row, all of whose words are the same

    module _ (u : ℕ) (l : 1 ≤ u) (h : u ≤ n words) (other : ¬ (u ≡ v)) where
      inside : u ≤ n words + p words
      inside = omega arith

      columns_same : k words' u ≡ k words u
      columns_same = same_k u l (omega arith)

      -- the words of the row, by the kind
      sized : {size : ℕ} → statement_words words u ≡ size → Same words' words (row words u) size
      sized e i b = s.statements u l h other i (omega (arith, e))

      module _ (e : kind_word words u ≡ pos 5) (q : Between (pos 1) (pos (p words)) (field words u 1)) where
        same_callee : procedure_field words' u 1 ≡ procedure_field words u 1
        same_callee = ap (number most_procedures) (same_field u l inside (line_words + (2 + (actuals_size s f u l h other e q))) (sized (call_size words u e)) 1 (omega arith))

        same_actuals_count : parameters words' (procedure_field words' u 1) ≡ parameters words (procedure_field words u 1)
        same_actuals_count = let (low, high) = callee_range words u q in ap (parameters words') same_callee ∙ same_parameters (procedure_field words u 1) low high

        actuals_same : Same words' words (fields words u + 2) (actuals_size s f u l h other e q)
        actuals_same = same_from u l inside (line_words + (2 + (actuals_size s f u l h other e q))) (sized (call_size words u e)) 2 (actuals_size s f u l h other e q) (omega arith)

      same_fields_form : FieldsForm words u → FieldsForm words' u
      same_fields_form (skip_form e r x) =
          skip_form (same_kind u inside ∙ e) (same_in_pool u inside (line_words + 1) r) (same_successor u l inside (line_words + 1) (sized (skip_size words u e)) 0 (omega arith) x)
      same_fields_form (assign_form e r x c y) =
          let size : ℕ = line_words + (2 + row_size (k words u)) in
          let z : Same words' words (row words u) size = sized (assign_size words u e) in
          assign_form (same_kind u inside ∙ e) (rw columns_same (same_in_pool u inside size r)) (same_successor u l inside size z 0 (omega arith) x)
          (rw (columns_same, same_field u l inside size z 1 (omega arith)) c) (rw columns_same (same_expression_form u l inside size z 2 (k words u) (omega arith) y))
      same_fields_form (branch_form e r x y c) =
          let size : ℕ = line_words + (3 + row_size (k words u)) in
          let z : Same words' words (row words u) size = sized (branch_size words u e) in
          branch_form (same_kind u inside ∙ e) (rw columns_same (same_in_pool u inside size r)) (same_successor u l inside size z 0 (omega arith) x) (same_successor u l inside size z 1 (omega arith) y)
          (rw columns_same (same_condition u l inside size z 0 2 (k words u) (omega arith) c))
      same_fields_form (assert_form e r x c) =
          let size : ℕ = line_words + (2 + row_size (k words u)) in
          let z : Same words' words (row words u) size = sized (assert_size words u e) in
          assert_form (same_kind u inside ∙ e) (rw columns_same (same_in_pool u inside size r)) (same_successor u l inside size z 0 (omega arith) x)
          (rw columns_same (same_condition u l inside size z 1 1 (k words u) (omega arith) c))
      same_fields_form (call_form e r x q y) =
          let size : ℕ = line_words + (2 + (actuals_size s f u l h other) e q) in
          let z : Same words' words (row words u) size = sized (call_size words u e) in
          call_form (same_kind u inside ∙ e) (rw (columns_same, same_actuals_count e q) (same_in_pool u inside size r)) (same_successor u l inside size z 0 (omega arith) x)
          (rw (same_p, same_field u l inside size z 1 (omega arith)) q)
          (rw (same_actuals_count e q, columns_same, same_fields_place u inside) (same_rows_form words' words (fields words u + 2) (k words u) (parameters words (procedure_field words u 1)) (actuals_same e q) y))

      pub same_statement_form : StatementForm words u → StatementForm words' u
      same_statement_form x =
          record { line_range = rw (same_line_word u l inside (statement_words words u) (sized refl) (omega arith)) x.line_range; fields_form = same_fields_form x.fields_form }

      -- ---- what it is

      same_meaning : FieldsForm words u → statement words' u ≡ statement words u
      unfolding statement fields_of meaning expression by_kind number
      same_meaning (skip_form e r x) = rw (same_kind u inside, e, same_field u l inside (line_words + 1) (sized (skip_size words u e)) 0 (omega arith))
      same_meaning (assign_form e r x c y) =
          let size : ℕ = line_words + (2 + row_size (k words u)) in
          let z : Same words' words (row words u) size = sized (assign_size words u e) in
          rw (same_kind u inside, e, same_field u l inside size z 0 (omega arith), same_field u l inside size z 1 (omega arith), columns_same, same_expression u l inside size z 2 (k words u) (omega arith))
      same_meaning (branch_form e r x y c) =
          let size : ℕ = line_words + (3 + row_size (k words u)) in
          let z : Same words' words (row words u) size = sized (branch_size words u e) in
          rw (
            same_kind u inside,
            e,
            same_field u l inside size z 0 (omega arith),
            same_field u l inside size z 1 (omega arith),
            same_field u l inside size z 2 (omega arith),
            columns_same,
            same_expression u l inside size z 3 (k words u) (omega arith),
          )
      same_meaning (assert_form e r x c) =
          let size : ℕ = line_words + (2 + row_size (k words u)) in
          let z : Same words' words (row words u) size = sized (assert_size words u e) in
          rw (same_kind u inside, e, same_field u l inside size z 0 (omega arith), same_field u l inside size z 1 (omega arith), columns_same, same_expression u l inside size z 2 (k words u) (omega arith))
      same_meaning (call_form e r x q y) =
          let size : ℕ = line_words + (2 + (actuals_size s f u l h other) e q) in
          let z : Same words' words (row words u) size = sized (call_size words u e) in
          rw (
            same_kind u inside,
            e,
            same_actuals_count e q,
            same_callee e q,
            same_field u l inside size z 0 (omega arith),
            columns_same,
            same_fields_place u inside,
            same_rows words' words s.long (k words u) (parameters words (procedure_field words u 1)) (fields words u + 2) (actuals_same e q),
          )

      pub same_statement : statement words' u ≡ statement words u
      same_statement = same_meaning (f.statements u l h).fields_form
