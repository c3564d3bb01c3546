-- A choice made definite, in the program's words, document 02, CR 13: "one `?` branch whose row shares no words gets a condition with <, >, ≤ or ≥ inside
-- the limits". Operator and expression take the place of those of the branch. The words keep their form, and the program that they are has the condition
-- there and differs in nothing else, since no other row has a word that changed.
use Rattle.std.specs.Prelude.{◌≡◌, Bool, List, ◌++◌, ℕ, ◌+◌, ◌≤◌, ◌<◌, leb, eqb, ℤ, pos, length, drop}
use Rattle.std.proofs.Math.Path.{refl, sym, ap}
use Rattle.std.proofs.Common.{◌∙◌, subst, add-zero, arith, eqb→eq, get_or-drop, drop-drop}
use Rattle.std.proofs.Math.Bool.{true, false}
use Rattle.std.proofs.Math.Option.{some}
use borrow.Author.Tests.{leb-true, leb-false, ltb-true, ltb-false, eqb-true, eqb-false}
use Rattle.std.proofs.Math.Dec.{ltb, not_T}
use Rattle.std.proofs.Math.Seq.{length-sets}
use Rattle.basics.proofs.Booleans.{cond_no}
use Rattle.basics.proofs.Integers.{ints}
use Rattle.basics.proofs.Lists.{listed_same}
use Rattle.basics.proofs.Stores.{sets_before, sets_behind, sets_here}
use Rattle.rows.specs.Rows.{Row}
use Rattle.words.specs.declared.StoredForm.TheVariants.{Dense}
use Rattle.words.specs.Words.{word, number}
use Rattle.words.specs.RowWords.{row_size, row_of}
use Rattle.words.proofs.Ranges.{number_of}
use Rattle.words.specs.RowCode.{row_code}
use Rattle.words.proofs.RowCode.{length_coded}
use Rattle.words.proofs.CodedRows.{row_read, row_form_in}
use Rattle.words.specs.SameWords.{Same}
use Rattle.programs.specs.Program.{branch, choice, compare, statement_at}
use Rattle.programs.specs.ProgramWords.{by_kind, n, p, row, k, line_words, fields, field, vertex_field, statement_words}
use Rattle.programs.specs.ProgramForm.{ProgramForm, RowInPool, SuccessorForm, ConditionForm, FieldsForm, skip_form, assign_form, branch_form, assert_form, call_form, StatementForm}
use Rattle.programs.proofs.LookUps.{row_inside}
use Rattle.programs.specs.Decode.{comparison, condition, fields_of, expression, meaning, statement, procedure, program}
use Rattle.programs.proofs.Formed.{statement_is, no_statement, length_statements}
use Rattle.programs.specs.MadeDefinite.{MadeDefinite}
use Rattle.programs.specs.RowReads as reads
use Rattle.programs.proofs.RowReads as reads_laws
use Rattle.programs.specs.DefiniteWords.{GetsCondition, at, condition_words, definite_program, vertex, words'}

-- ---- op as a comparison

compares : (op : ℕ) (e : Row) → 1 ≤ op → condition op e ≡ compare (comparison op) e
unfolding condition
compares op e least = cond_no (eqb op 0) choice (compare (comparison op) e) (not_T (eqb op 0) (λ t. omega (arith, eqb→eq op 0 t)))

module _ (words : List ℤ) (v op : ℕ) (e : Row) (f : ProgramForm words) (g : GetsCondition words v op e) where
  -- ---- which words change

  branch_size : statement_words words v ≡ line_words + (3 + row_size (k words v))
  branch_size = reads_laws.branch_size words v g.is_choice.branches

  size_now : length (condition_words op e) ≡ 1 + row_size (k words v)
  size_now = omega (arith, length_coded (k words v) e g.within.wide)

  -- what the form says of the row
  form_here : FieldsForm words v → RowInPool words v (line_words + (3 + row_size (k words v))) × (SuccessorForm words v 0 × SuccessorForm words v 1)
  form_here (branch_form e r s u c) = (r, (s, u))
  form_here (skip_form e r s) = absurd (let z : pos 1 ≡ pos 3 = sym e ∙ g.is_choice.branches in omega (arith, ints))
  form_here (assign_form e r s u y) = absurd (let z : pos 2 ≡ pos 3 = sym e ∙ g.is_choice.branches in omega (arith, ints))
  form_here (assert_form e r s u) = absurd (let z : pos 4 ≡ pos 3 = sym e ∙ g.is_choice.branches in omega (arith, ints))
  form_here (call_form e r s q y) = absurd (let z : pos 5 ≡ pos 3 = sym e ∙ g.is_choice.branches in omega (arith, ints))

  row_form_here : RowInPool words v (line_words + (3 + row_size (k words v))) × (SuccessorForm words v 0 × SuccessorForm words v 1)
  row_form_here = form_here (f.statements v g.is_choice.low g.is_choice.high).fields_form

  stays_inside : (at words v op e f g) + length (condition_words op e) ≤ length words
  unfolding fields
  stays_inside = omega (arith, size_now, row_inside words f v (line_words + (3 + row_size (k words v))) row_form_here.0)

  -- all words but those of operator and expression stay
  pub definite_length : length (words' words v op e f g) ≡ length words
  unfolding definite_program
  definite_length = length-sets words (at words v op e f g) (condition_words op e)

  pub definite_before : (i : ℕ) → i < (at words v op e f g) → word (words' words v op e f g) i ≡ word words i
  unfolding definite_program
  definite_before i h = sets_before (condition_words op e) words (at words v op e f g) i (pos 0) h

  pub definite_behind : (i : ℕ) → (at words v op e f g) + (1 + row_size (k words v)) ≤ i → word (words' words v op e f g) i ≡ word words i
  unfolding definite_program
  definite_behind i h = sets_behind (condition_words op e) words (at words v op e f g) i (pos 0) (omega (arith, size_now))

  -- so those outside the row do
  outside : (i : ℕ) → (row words v ≤ i → i < row words v + statement_words words v → ⊥) → word (words' words v op e f g) i ≡ word words i
  unfolding fields
  outside i h = go (ltb i (at words v op e f g)) (ltb i (row words v + statement_words words v)) refl refl
    where
      go : (b c : Bool) → ltb i (at words v op e f g) ≡ b → ltb i (row words v + statement_words words v) ≡ c → word (words' words v op e f g) i ≡ word words i
      go true c q r = definite_before i (ltb-true i (at words v op e f g) q)
      go false true q r = absurd (h (omega (arith, ltb-false i (at words v op e f g) q)) (ltb-true i (row words v + statement_words words v) r))
      go false false q r = definite_behind i (omega (arith, ltb-false i (row words v + statement_words words v) r, branch_size))

  pub definite_same : reads.SameBut (words' words v op e f g) words v
  definite_same =
      record {
        long = definite_length;
        front = λ i h. definite_before i (unfold fields row in omega arith);
        exits = λ q l h i b. outside (row words (n words + q) + i) (λ y z. g.unshared.from_exits q l h (row words (n words + q) + i) y z (omega arith) (omega arith));
        statements = λ u l h o i b. outside (row words u + i) (λ y z. g.unshared.from_statements u l h o (row words u + i) y z (omega arith) (omega arith));
      }

  line_and_successors : Same (words' words v op e f g) words (row words v) 3
  line_and_successors i b = definite_before (row words v + i) (unfold fields in omega arith)

  condition_here : drop (at words v op e f g) (words' words v op e f g) ≡ condition_words op e ++ drop ((at words v op e f g) + length (condition_words op e)) words
  unfolding definite_program
  condition_here = sets_here (condition_words op e) words (at words v op e f g) stays_inside

  op_word : word (words' words v op e f g) (at words v op e f g) ≡ pos op
  op_word = sym (rw add-zero at (get_or-drop (at words v op e f g) (words' words v op e f g) 0 (pos 0))) ∙ ap (λ (l : List ℤ). word l 0) condition_here

  expression_words : drop ((at words v op e f g) + 1) (words' words v op e f g) ≡ row_code e ++ drop ((at words v op e f g) + length (condition_words op e)) words
  expression_words = sym (drop-drop 1 (at words v op e f g) (words' words v op e f g)) ∙ ap (drop 1) condition_here

  condition_form : ConditionForm (words' words v op e f g) 0 (at words v op e f g) (k words v)
  condition_form =
      record {
        op = rw op_word (record { least = omega (arith, ints); most = omega (arith, ints, g.most) });
        expression = row_form_in (k words v) e g.within (words' words v op e f g) ((at words v op e f g) + 1) (drop ((at words v op e f g) + length (condition_words op e)) words) Dense expression_words;
        choice = λ z i h. absurd (let w : pos op ≡ pos 0 = sym op_word ∙ z in omega (arith, ints, g.least));
      }

  same_columns : k (words' words v op e f g) v ≡ k words v
  same_columns = reads_laws.same_k definite_same f v g.is_choice.low (vertex words v op e f g)

  statement_form : StatementForm (words' words v op e f g) v
  statement_form =
      record {
        line_range = rw (reads_laws.same_line_word definite_same f v g.is_choice.low (vertex words v op e f g) 3 line_and_successors (omega arith)) (f.statements v g.is_choice.low g.is_choice.high).line_range;
        fields_form =
            branch_form (reads_laws.same_kind definite_same v (vertex words v op e f g) ∙ g.is_choice.branches) (rw same_columns (reads_laws.same_in_pool definite_same v (vertex words v op e f g) (line_words + (3 + row_size (k words v))) row_form_here.0))
            (reads_laws.same_successor definite_same f v g.is_choice.low (vertex words v op e f g) 3 line_and_successors 0 (omega arith) row_form_here.1.0)
            (reads_laws.same_successor definite_same f v g.is_choice.low (vertex words v op e f g) 3 line_and_successors 1 (omega arith) row_form_here.1.1)
            (rw (reads_laws.same_fields_place definite_same v (vertex words v op e f g), same_columns) condition_form);
      }

  pub definite_form : ProgramForm (words' words v op e f g)
  definite_form =
      record {
        sizes = reads_laws.same_sizes_form definite_same f;
        exits = λ q l h. reads_laws.same_exit_form definite_same f q l (rw (reads_laws.same_p definite_same) at h);
        statements = λ u l h. each u l (rw (reads_laws.same_n definite_same) at h) (eqb u v) refl;
      }
    where
      each : (u : ℕ) → 1 ≤ u → u ≤ n words → (b : Bool) → eqb u v ≡ b → StatementForm (words' words v op e f g) u
      each u l h true q = subst (StatementForm (words' words v op e f g)) (sym (eqb-true u v q)) statement_form
      each u l h false q = reads_laws.same_statement_form definite_same f u l h (eqb-false u v q) (f.statements u l h)

  -- ---- the program

  op_here : number 6 (field (words' words v op e f g) v 2) ≡ op
  op_here = rw (reads_laws.same_fields_place definite_same v (vertex words v op e f g), op_word) (number_of 6 op g.most)

  decoded_expression : row_of (k (words' words v op e f g) v) (drop (fields (words' words v op e f g) v + 3) (words' words v op e f g)) ≡ e
  decoded_expression =
      let q : fields words v + 3 ≡ (at words v op e f g) + 1 = omega arith in
      rw (same_columns, reads_laws.same_fields_place definite_same v (vertex words v op e f g), q)
      (ap (row_of (k words v)) expression_words ∙ row_read (k words v) e g.within Dense (drop ((at words v op e f g) + length (condition_words op e)) words))

  statement_after : statement (words' words v op e f g) v ≡ branch (vertex_field words v 0) (vertex_field words v 1) (condition op e)
  unfolding statement fields_of meaning expression by_kind number
  statement_after =
      rw (
        reads_laws.same_kind definite_same v (vertex words v op e f g),
        g.is_choice.branches,
        decoded_expression,
        op_here,
        reads_laws.same_field definite_same f v g.is_choice.low (vertex words v op e f g) 3 line_and_successors 0 (omega arith),
        reads_laws.same_field definite_same f v g.is_choice.low (vertex words v op e f g) 3 line_and_successors 1 (omega arith),
      )

  statement_before : statement words v ≡ branch (vertex_field words v 0) (vertex_field words v 1) choice
  unfolding statement fields_of meaning by_kind number condition
  statement_before = rw (g.is_choice.branches, g.is_choice.undecided)

  -- ---- the two programs

  pub made_definite : MadeDefinite (program words) (program (words' words v op e f g)) v (compare (comparison op) e)
  made_definite =
      record {
        globals = unfold program in reads_laws.same_G definite_same;
        procedures = unfold program in (rw (reads_laws.same_p definite_same) (listed_same (procedure (words' words v op e f g)) (procedure words) (p words) (λ q l h. reads_laws.same_procedure_lem definite_same q l h)));
        count = length_statements (words' words v op e f g) ∙ (reads_laws.same_n definite_same ∙ sym (length_statements words));
        elsewhere = elsewhere;
        when_true = vertex_field words v 0;
        when_false = vertex_field words v 1;
        before = statement_is words v g.is_choice.low g.is_choice.high ∙ ap some statement_before;
        after = statement_is (words' words v op e f g) v g.is_choice.low (rw (reads_laws.same_n definite_same) g.is_choice.high)
            ∙ ap some (statement_after ∙ ap (branch (vertex_field words v 0) (vertex_field words v 1)) (compares op e g.least));
      }
    where
      elsewhere : (u : ℕ) → ¬ (u ≡ v) → statement_at (program (words' words v op e f g)) u ≡ statement_at (program words) u
      elsewhere u o = go (leb 1 u) (leb u (n words)) refl refl
        where
          nowhere : (1 ≤ u → n words < u) → statement_at (program (words' words v op e f g)) u ≡ statement_at (program words) u
          nowhere h = no_statement (words' words v op e f g) u (λ l. omega (arith, h l, reads_laws.same_n definite_same)) ∙ sym (no_statement words u h)

          go : (a b : Bool) → leb 1 u ≡ a → leb u (n words) ≡ b → statement_at (program (words' words v op e f g)) u ≡ statement_at (program words) u
          go true true q r =
              let l = leb-true 1 u q in
              let h = leb-true u (n words) r in
              statement_is (words' words v op e f g) u l (rw (reads_laws.same_n definite_same) h) ∙ (ap some (reads_laws.same_statement definite_same f u l h o) ∙ sym (statement_is words u l h))
          go true false q r = nowhere (λ l. leb-false u (n words) r)
          go false b q r = nowhere (λ l. absurd (omega (arith, leb-false 1 u q)))
