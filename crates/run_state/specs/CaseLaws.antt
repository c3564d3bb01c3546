-- The cases that change no value, each way that the code can end: skip, which goes to its successor, and branch and assert, which go by the
-- outcome of a condition to one of two vertices, so that one law serves both.
use Rattle.std.specs.Prelude.{◌≡◌, refl, Bool, false, not, cond, ◌&&◌, ◌||◌, List, ℕ, ◌+◌, eqb, ℤ}
use Rattle.std.proofs.Common.{sym, ap, ◌∙◌, arith, eqb-true}
use Rattle.std.proofs.Math.Bool.{true}
use Rattle.std.proofs.Math.Option.{Option, none, some}
use Rattle.rows.specs.Rows.{Row, value}
use Rattle.programs.specs.Program.{compares, choice, compare}
use Rattle.programs.specs.ProgramWords.{k, fields, vertex_field, op_field}
use Rattle.programs.specs.Decode.{comparison, condition, expression}
use Rattle.programs.specs.StatementRows.{ConditionHere}
use Rattle.programs.specs.Moves.{Configuration, current, moved, allows, goes_to, move_by, needed_by}
use Rattle.answers.specs.declared.Reason.TheVariants.{ListedVertex}
use Rattle.program_readers.specs.declared.kinds.Kind.{Kind}
use Rattle.program_readers.specs.declared.kinds.Kind.TheVariants.{Skip, Branch, Assert}
use Rattle.program_readers.specs.declared.places.Sizes.{Sizes}
use Rattle.program_readers.specs.declared.places.Vertex.{Vertex}
use Rattle.run_state.specs.Changes.{moved_to}
use Rattle.run_state.specs.State.{RunState, procedure_now, configuration_of, MayBe, refused_for, Moves, AtKind, need_of, move_of}
use Rattle.run_state.specs.StateLaws.{goes_nowhere, other_vertex, that_vertex}
use Rattle.run_state.specs.Statements.{skips, branches, asserts, is_skip, is_branch, is_assert}
use Rattle.run_state.specs.StatementLaws.{next_may_be, steps_on, formed_as, moves_by, needs_by}
use Rattle.run_state.specs.declared.changes.Stored.TheVariants.{Nothing}

-- ---- going to a listed vertex

one_way : (listed v : ℕ) (a : Bool) (c : Configuration) (other : Option Configuration) → goes_to listed v a (moved v c) other ≡ cond (eqb listed v && a) (some (moved listed c)) other
one_way listed v a c other = go (eqb listed v) refl
  where
    go : (b : Bool) → eqb listed v ≡ b → cond (b && a) (some (moved v c)) other ≡ cond (b && a) (some (moved listed c)) other
    go true e = ap (λ w. cond (true && a) (some (moved w c)) other) (sym (eqb-true listed v e))
    go false e = refl

either_way : (a b : Bool) (m : Option Configuration) → cond a m (cond b m none) ≡ cond (a || b) m none
either_way true b m = refl
either_way false b m = refl

two_ways : (listed u w : ℕ) (a b : Bool) (c : Configuration)
    → goes_to listed u a (moved u c) (goes_to listed w b (moved w c) none) ≡ cond ((eqb listed u && a) || (eqb listed w && b)) (some (moved listed c)) none
two_ways listed u w a b c = rw (one_way listed u a c _, one_way listed w b c none) (either_way (eqb listed u && a) (eqb listed w && b) (some (moved listed c)))

-- a vertex that one of two ways leads to is one of their two
one_of_two : (X : ℕ → Type 0) (listed u w : ℕ) (a b : Bool) → ((eqb listed u && a) || (eqb listed w && b)) ≡ true → X u → X w → X listed
one_of_two X listed u w a b t x y = go (eqb listed u) (eqb listed w) refl refl t
  where
    go : (c d : Bool) → eqb listed u ≡ c → eqb listed w ≡ d → ((c && a) || (d && b)) ≡ true → X listed
    go true d e f t = rw (eqb-true listed u e) x
    go false true e f t = rw (eqb-true listed w f) y
    go false false e f t = absurd (let z : ◌≡◌ {A = ℕ} 0 1 = cc in omega arith)

-- a condition on a side, as the code tests it
allowed : (op : ℕ) (e : Row) (s : List ℤ) (side : Bool) → let holds = compares (comparison op) (value e s) in allows (condition op e) side s ≡ eqb op 0 || cond side holds (not holds)
unfolding allows condition
allowed op e s side = go (eqb op 0) side
  where
    go : (b side : Bool) → let holds = compares (comparison op) (value e s) in allows (cond b choice (compare (comparison op) e)) side s ≡ b || cond side holds (not holds)
    go true side = refl
    go false true = refl
    go false false = refl

-- ---- the cases

-- the top call's statement goes to one vertex where its condition may hold, to the other where it may fail
pub record Decided (words : List ℤ) (s : RunState) (listed yes no : ℕ) (may mayNot : Bool) : Type 0 where
  pub is : move_of words s listed ≡ goes_to listed yes may (moved yes (configuration_of words s)) (goes_to listed no mayNot (moved no (configuration_of words s)) none)
  pub needs : need_of words s ≡ 0
  pub when_true : MayBe words (procedure_now s) yes
  pub when_false : MayBe words (procedure_now s) no

module _ (words : List ℤ) (sizes : Sizes) (s : RunState) (listed : ℕ) where
  -- ---- skip

  module _ (a : AtKind words sizes s Skip) where
    abbrev next : ℕ
    next = vertex_field words s.vertex.0 0

    skip_move : move_of words s listed ≡ goes_to listed next true (moved next (configuration_of words s)) none
    unfolding move_by
    skip_move = moves_by words sizes s Skip a (omega arith) (is_skip words s.vertex.0) listed

    skip_needs : need_of words s ≡ 0
    unfolding needed_by
    skip_needs = needs_by words sizes s Skip a (omega arith) (is_skip words s.vertex.0)

    pub skip_refused : (listed ≡ next → ⊥) → Moves words s listed (refused_for ListedVertex s)
    skip_refused d = other_vertex words s a.proper listed next (moved next (configuration_of words s)) skip_move d

    pub skip_moved : (v : Vertex) → v.0 ≡ next → listed ≡ next → Moves words s listed (moved_to v s.depth Nothing)
    skip_moved v q d =
        steps_on words sizes s _ a listed v skip_needs (rw q (next_may_be words sizes s Skip a (formed_as words sizes s Skip a (omega arith) (skips words s.vertex.0))))
        (that_vertex words s listed next (moved next (configuration_of words s)) skip_move d ∙ ap (λ u. some (moved u (configuration_of words s))) (sym q))

  -- ---- branch and assert

  -- by the test that the code makes
  module _ {its : Kind} (a : AtKind words sizes s its) {yes no : ℕ} {may mayNot : Bool} (d : Decided words s listed yes no may mayNot) where
    pub decided_refused : ((eqb listed yes && may) || (eqb listed no && mayNot)) ≡ false → Moves words s listed (refused_for ListedVertex s)
    decided_refused t = goes_nowhere words s a.proper listed (d.is ∙ (two_ways listed yes no may mayNot (configuration_of words s) ∙ rw t refl))

    pub decided_moved : ((eqb listed yes && may) || (eqb listed no && mayNot)) ≡ true → (v : Vertex) → v.0 ≡ listed → Moves words s listed (moved_to v s.depth Nothing)
    decided_moved t v q =
        steps_on words sizes s _ a listed v d.needs (rw q (one_of_two (MayBe words (procedure_now s)) listed yes no may mayNot t d.when_true d.when_false))
        (d.is ∙ (two_ways listed yes no may mayNot (configuration_of words s) ∙ rw (t, q) refl))

  module _ (a : AtKind words sizes s Branch) where
    pub branch_form_lem : ConditionHere words s.vertex.0 (vertex_field words s.vertex.0 0) (vertex_field words s.vertex.0 1) (op_field words s.vertex.0 2) (fields words s.vertex.0 + 3)
    branch_form_lem = formed_as words sizes s Branch a (omega arith) (branches words s.vertex.0)

    pub branch_decided : let op = op_field words s.vertex.0 2 in
        let holds = compares (comparison op) (value (expression words (k words s.vertex.0) (fields words s.vertex.0 + 3)) (current (configuration_of words s))) in
        Decided words s listed (vertex_field words s.vertex.0 0) (vertex_field words s.vertex.0 1) (eqb op 0 || holds) (eqb op 0 || not holds)
    unfolding move_by needed_by
    branch_decided =
        let allow = allowed (op_field words s.vertex.0 2) (expression words (k words s.vertex.0) (fields words s.vertex.0 + 3)) (current (configuration_of words s)) in
        record {
          is = moves_by words sizes s Branch a (omega arith) (is_branch words s.vertex.0) listed ∙ rw (allow true, allow false) refl;
          needs = needs_by words sizes s Branch a (omega arith) (is_branch words s.vertex.0);
          when_true = next_may_be words sizes s Branch a branch_form_lem.when_true;
          when_false = next_may_be words sizes s Branch a branch_form_lem.when_false;
        }

  module _ (a : AtKind words sizes s Assert) where
    pub assert_form_lem : ConditionHere words s.vertex.0 (vertex_field words s.vertex.0 0) 0 (op_field words s.vertex.0 1) (fields words s.vertex.0 + 2)
    assert_form_lem = formed_as words sizes s Assert a (omega arith) (asserts words s.vertex.0)

    pub assert_decided : let holds = compares (comparison (op_field words s.vertex.0 1)) (value (expression words (k words s.vertex.0) (fields words s.vertex.0 + 2)) (current (configuration_of words s))) in
        Decided words s listed (vertex_field words s.vertex.0 0) 0 holds (not holds)
    unfolding move_by needed_by
    assert_decided =
        record {
          is = moves_by words sizes s Assert a (omega arith) (is_assert words s.vertex.0) listed;
          needs = needs_by words sizes s Assert a (omega arith) (is_assert words s.vertex.0);
          when_true = next_may_be words sizes s Assert a assert_form_lem.when_true;
          when_false = next_may_be words sizes s Assert a assert_form_lem.when_false;
        }
