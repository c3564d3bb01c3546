-- The program that the words are has the form that its runs rest on. Look-ups in the program are look-ups in the words, so each part of
-- `formed` is a test of the words or follows from the ranges that the tests give. Hence a procedure's first statement is the procedure's.
use Rattle.std.specs.Prelude.{◌≡◌, Bool, true, false, List, [], ◌∷◌, ◌++◌, T, leb, ℤ, pos, length}
use Rattle.std.proofs.Math.Path.{refl, sym, ap}
use Rattle.std.proofs.Common.{◌∙◌, subst}
use Rattle.std.proofs.Math.Bool.{cond}
use Rattle.std.proofs.Math.Option.{none, some}
use Prim.Native.Nat.{ℕ, zero, suc, ◌+◌, ◌-◌, ◌≤◌, ◌<◌}
use Rattle.std.proofs.Math.Numerals.{add-one}
use native.Mathlib.Omega.{arith}
use Rattle.std.proofs.Math.ListN.{get_elem?}
use Rattle.basics.proofs.Booleans.{both, tests}
use Rattle.basics.specs.Lists.{listed, listed_from}
use Rattle.basics.proofs.Lists.{listed_from_lem, length_listed, get_elem_listed}
use Rattle.words.specs.Limits.{most_procedures}
use Rattle.words.specs.Words.{word, number}
use Rattle.words.proofs.RowLaws.{length_rows}
use Rattle.words.specs.Ranges.{Between}
use Rattle.words.proofs.Ranges.{number_most, number_range}
use Rattle.programs.specs.Program.{Procedure, LinedStatement, statement_in, statement_at, line_in, line_at, begun as begunIn, owner, same, formed, formed_statement, formed_statements, formed_procedures}
use Rattle.programs.proofs.FormLaws.{owner_first}
use Rattle.programs.specs.ProgramWords.{by_kind, n, p, G, k, line, first, locals, begun, procedure_of, field, vertex_field, procedure_field}
use Rattle.programs.specs.ProgramTests.{same_procedure, successor_passes}
use Rattle.programs.specs.Decode.{fields_of, meaning, statement, lined_statement, procedure, program}
use Rattle.programs.specs.ProgramForm.{ProgramForm, SuccessorForm, FieldsForm, skip_form, assign_form, branch_form, assert_form, call_form}
use Rattle.programs.proofs.ProgramForm.{successor_form}
use Rattle.programs.proofs.DecodedNumbers.{first_of_lem, parameters_of_lem, some_procedure_lem, first_range, parameters_most, main_first}

-- ---- look-ups in the program

begun_more : (v : ℕ) (y : Procedure) (xs : List Procedure) → begunIn v (xs ++ (y ∷ [])) ≡ cond (leb y.first v) (suc (begunIn v xs)) (begunIn v xs)
unfolding begunIn
begun_more v y [] = refl
begun_more v y (x ∷ xs) = go (leb x.first v) (leb y.first v) (begun_more v y xs)
  where
    go : (a b : Bool) → begunIn v (xs ++ (y ∷ [])) ≡ cond b (suc (begunIn v xs)) (begunIn v xs)
        → cond a (suc (begunIn v (xs ++ (y ∷ [])))) (begunIn v (xs ++ (y ∷ [])))
        ≡ cond b (suc (cond a (suc (begunIn v xs)) (begunIn v xs))) (cond a (suc (begunIn v xs)) (begunIn v xs))
    go true true e = ap suc e
    go true false e = ap suc e
    go false true e = e
    go false false e = e

past_end : {A : Type 0} (xs : List A) (i : ℕ) → length xs ≤ i → get_elem? xs i ≡ none
past_end [] i h = refl
past_end (x ∷ xs) zero h = absurd (omega arith)
past_end (x ∷ xs) (suc i) h = past_end xs i (omega arith)

module _ (words : List ℤ) where
  pub length_statements : length (program words).statements ≡ n words
  unfolding program
  length_statements = length_listed (lined_statement words) (n words)

  pub length_procedures : length (program words).procedures ≡ p words
  unfolding program
  length_procedures = length_listed (procedure words) (p words)

  statements_are : (program words).statements ≡ listed_from (lined_statement words) 1 (n words)
  unfolding program
  statements_are = listed_from_lem (lined_statement words) (n words)

  procedures_are : (program words).procedures ≡ listed_from (procedure words) 1 (p words)
  unfolding program
  procedures_are = listed_from_lem (procedure words) (p words)

  -- a statement's place in the list
  lined_is : (i : ℕ) → i < n words → get_elem? (program words).statements i ≡ some (lined_statement words (suc i))
  unfolding program
  lined_is i h = rw add-one at (get_elem_listed (lined_statement words) (n words) i h)

  pub statement_is : (v : ℕ) → 1 ≤ v → v ≤ n words → statement_at (program words) v ≡ some (statement words v)
  unfolding statement_at lined_statement
  statement_is zero l h = absurd (omega arith)
  statement_is (suc i) l h = ap statement_in (lined_is i h)

  -- any other number is no statement's
  pub no_statement : (v : ℕ) → (1 ≤ v → n words < v) → statement_at (program words) v ≡ none
  unfolding statement_at
  no_statement zero h = refl
  no_statement (suc i) h = ap statement_in (past_end (program words).statements i (rw length_statements (omega (arith, h (omega arith)))))

  -- the line that a refusal has: that of the words, "if a statement; else 0"
  pub line_is : (v : ℕ) → 1 ≤ v → v ≤ n words → line_at (program words) v ≡ line words v
  unfolding line_at lined_statement
  line_is zero l h = absurd (omega arith)
  line_is (suc i) l h = ap line_in (lined_is i h)

  pub no_line : (v : ℕ) → (1 ≤ v → n words < v) → line_at (program words) v ≡ 0
  unfolding line_at
  no_line zero h = refl
  no_line (suc i) h = ap line_in (past_end (program words).statements i (rw length_statements (omega (arith, h (omega arith)))))

  begun_is : (v m : ℕ) → begunIn v (listed (procedure words) m) ≡ begun words v m
  unfolding listed begun begunIn procedure
  begun_is v zero = refl
  begun_is v (suc m) = begun_more v (procedure words (m + 1)) (listed (procedure words) m) ∙ ap (λ b. cond (leb (first words (m + 1)) v) (suc b) b) (begun_is v m)

  pub owner_is : (v : ℕ) → owner (program words) v ≡ procedure_of words v
  unfolding owner procedure_of
  owner_is v = rw length_statements (unfold program in rw begun_is)

  same_is : (v w : ℕ) → same (program words) v w ≡ same_procedure words v w
  unfolding same same_procedure
  same_is v w = simp (owner_is, length_statements, length_procedures)

  -- ---- the form

  goes : (v i : ℕ) → SuccessorForm words v i → T (same (program words) v (vertex_field words v i))
  unfolding successor_passes
  goes v i s = rw same_is ((successor_form words v i).1 s)

  pub callee_range : (v : ℕ) → Between (pos 1) (pos (p words)) (field words v 1) → (1 ≤ procedure_field words v 1) × (procedure_field words v 1 ≤ p words)
  callee_range v b = number_range 1 (p words) most_procedures (field words v 1) (number_most most_procedures (word words 1)) b

  statement_formed : (v : ℕ) → FieldsForm words v → T (formed_statement (program words) v (statement words v))
  unfolding statement fields_of meaning by_kind formed_statement number
  statement_formed v (skip_form e r s) = rw e (goes v 0 s)
  statement_formed v (assign_form e r s c x) = rw e (goes v 0 s)
  statement_formed v (branch_form e r s u c) = simp (e, tests) (goes v 0 s, goes v 1 u)
  statement_formed v (assert_form e r s c) = rw e (goes v 0 s)
  statement_formed v (call_form e r s q x) =
      let c = callee_range v q in
      simp (e, tests, length_rows, length_procedures) (goes v 0 s, (c.0, (c.1, sym (parameters_of_lem words (procedure_field words v 1) c.0 c.1))))

  module _ (f : ProgramForm words) where
    statements_formed : (m v : ℕ) → 1 ≤ v → v + m ≤ n words + 1 → T (formed_statements (program words) v (listed_from (lined_statement words) v m))
    unfolding formed_statements listed_from lined_statement
    statements_formed zero v l h = tt
    statements_formed (suc m) v l h = simp both (statement_formed v (f.statements v l (omega arith)).fields_form, statements_formed m (suc v) (omega arith) (omega arith))

    procedures_formed : (m q last : ℕ) → 1 ≤ q → q + m ≤ p words + 1 → (1 ≤ m → last < first words q) → T (formed_procedures (n words) last (listed_from (procedure words) q m))
    unfolding formed_procedures listed_from procedure
    procedures_formed zero q last l h b = tt
    procedures_formed (suc m) q last l h b =
        let e : suc q - 1 ≡ q = omega arith in
        let more = procedures_formed m (suc q) (first words q) (omega arith) (omega arith) (λ r. rw e at ((f.exits (suc q) (omega arith) (omega arith)).rises (omega arith))) in
        simp tests (b (omega arith), ((first_range words f q l (omega arith)).1, (parameters_most words f q l (omega arith), more)))

    -- `rw` would take the statements inside the program too
    all_statements_formed : T (formed_statements (program words) 1 (program words).statements)
    all_statements_formed =
        subst (λ (l : List LinedStatement). T (formed_statements (program words) 1 l)) (sym statements_are) (statements_formed (n words) 1 (omega arith) (omega arith))

    all_procedures_formed : T (formed_procedures (n words) 0 (program words).procedures)
    all_procedures_formed = rw procedures_are (procedures_formed (p words) 1 0 (omega arith) (omega arith) (λ l. (first_range words f 1 (omega arith) l).0))

    pub program_formed : T (formed (program words))
    unfolding formed
    program_formed = simp (tests, length_statements) (first_of_lem words 1 (omega arith) (some_procedure_lem words f) ∙ main_first words f, (all_procedures_formed, all_statements_formed))

    -- ---- a procedure's first statement is the procedure's

    module _ (q : ℕ) (l : 1 ≤ q) (h : q ≤ p words) where
      pub first_owned : procedure_of words (first words q) ≡ q
      first_owned =
          sym (owner_is (first words q)) ∙ ap (owner (program words)) (sym (first_of_lem words q l h)) ∙ owner_first (program words) program_formed q l (rw length_procedures h)

      pub first_columns : k words (first words q) ≡ G words + locals words q
      unfolding k
      first_columns = ap (λ (i : ℕ). G words + locals words i) first_owned

    pub main_owned : procedure_of words 1 ≡ 1
    main_owned = rw (main_first words f) at (first_owned 1 (omega arith) (some_procedure_lem words f))
