-- Runs that there are, so that no kind of step is empty: through a call, an assign, an exit and an assertion that fails; through a skip, both
-- sides of a comparison and an assertion that passes; through both sides of `?`; through a call that exchanges its parameters; through calls
-- of a procedure whose other local holds what it comes to hold; and the run of plan B, from its words.
use Rattle.std.specs.Prelude.{ℕ, List, [], ◌∷◌, ℤ, pos, negsuc}
use Rattle.basics.specs.Lists.{listed}
use Rattle.rows.specs.Rows.{Row, dot, value, values}
use Rattle.words.specs.Words.{number}
use Rattle.words.specs.RowWords.{constant_of, constant_at, row_of}
use Rattle.programs.specs.Program.{Program, unlined, skip, assign, branch, assert, call, choice, compare, less, at_most, equal, compares, statement_at, procedure_at, exit_of}
use Rattle.programs.specs.Runs.{Call, Waiting, State, Allows, initial, entered, entry_state, push, store, visited, entered_with, entry_values}
use Rattle.programs.specs.ProgramWords as words
use Rattle.programs.specs.Decode as decode

abbrev row : ℤ → List ℤ → Row
row constant coefficients = record { constant = constant; coefficients = coefficients }

-- main alone, with one global, at vertex v: x at the entry, y now
abbrev pub main : ℕ → ℤ → ℤ → State
main v x y = record { globals = y ∷ []; top = record { procedure = 1; vertex = v; locals = []; entry = x ∷ [] }; below = [] }

-- to unfold this is to unfold what a run computes with
unfoldable pub steps : ℕ
unfolding dot value values compares statement_at procedure_at exit_of Allows initial entered entry_state push store visited entered_with entry_values listed number constant_of constant_at row_of words.by_kind words.row words.first words.locals words.parameters words.begun words.procedure_of words.k words.line words.fields decode.comparison decode.condition decode.fields_of decode.expression decode.meaning decode.statement decode.lined_statement decode.procedure decode.program
steps = 0

-- ---- one global g; main: 1 call f(3), 2 assert g − 2 ≤ 0; f(x): 3 g = x. Exits: 4 of main, 5 of f.

abbrev pub calls : Program
calls = record {
  globals = 1;
  statements = unlined (call 2 2 (row (pos 3) (pos 0 ∷ []) ∷ [])) ∷ unlined (assert 4 at_most (row (negsuc 1) (pos 1 ∷ []))) ∷ unlined (assign 5 0 (row (pos 0) (pos 0 ∷ pos 1 ∷ []))) ∷ [];
  procedures = record { first = 1; locals = 0; parameters = 0 } ∷ record { first = 3; locals = 1; parameters = 1 } ∷ [];
}

-- ---- one global g; 1 skip, 2 branch on g − 2 < 0 to 3 or 4, 3 g = g + 1 and on to 2, 4 assert g − 2 = 0. Exit: 5.

abbrev pub counts : Program
counts = record {
  globals = 1;
  statements = unlined (skip 2) ∷ unlined (branch 3 4 (compare less (row (negsuc 1) (pos 1 ∷ [])))) ∷ unlined (assign 2 0 (row (pos 1) (pos 1 ∷ []))) ∷ unlined (assert 5 equal (row (negsuc 1) (pos 1 ∷ []))) ∷ [];
  procedures = record { first = 1; locals = 0; parameters = 0 } ∷ [];
}

-- ---- 1 branch on `?` to 1 or to the exit 2

abbrev pub choices : Program
choices = record { globals = 0; statements = unlined (branch 1 2 choice) ∷ []; procedures = record { first = 1; locals = 0; parameters = 0 } ∷ [] }

abbrev pub chosen : ℕ → State
chosen v = record { globals = []; top = record { procedure = 1; vertex = v; locals = []; entry = [] }; below = [] }

-- ---- main: 1 call f(1, 2); f(a, b): 2 call f(b, a). Exits: 3 of main, 4 of f.

abbrev pub exchange : Program
exchange = record {
  globals = 0;
  statements = unlined (call 3 2 (row (pos 1) [] ∷ row (pos 2) [] ∷ [])) ∷ unlined (call 4 2 (row (pos 0) (pos 0 ∷ pos 1 ∷ []) ∷ row (pos 0) (pos 1 ∷ pos 0 ∷ []) ∷ [])) ∷ [];
  procedures = record { first = 1; locals = 0; parameters = 0 } ∷ record { first = 2; locals = 2; parameters = 2 } ∷ [];
}

abbrev pub frame_of : ℕ → ℤ → ℤ → Call
frame_of v a b = record { procedure = 2; vertex = v; locals = a ∷ b ∷ []; entry = a ∷ b ∷ [] }

abbrev pub main_waits : Waiting
main_waits = record { caller = record { procedure = 1; vertex = 1; locals = []; entry = [] }; aside = [] }

-- ---- main has one other local; it is called again: 1 call main. Exit: 2.

abbrev pub again : Program
again = record { globals = 0; statements = unlined (call 2 1 []) ∷ []; procedures = record { first = 1; locals = 1; parameters = 0 } ∷ [] }

abbrev pub holding : ℤ → Call
holding x = record { procedure = 1; vertex = 1; locals = x ∷ []; entry = x ∷ [] }

abbrev pub waiting_with : ℤ → Waiting
waiting_with x = record { caller = holding x; aside = [] }

-- ---- plan B, from its words: 1 x = 660, 2 assert x − 600 < 0

abbrev pub plan_b : Program
plan_b = decode.program (pos 2 ∷ pos 1 ∷ pos 1 ∷ pos 15 ∷ pos 2 ∷ pos 4 ∷ pos 6 ∷ pos 0 ∷ pos 6 ∷ pos 12
    ∷ pos 0 ∷ pos 2 ∷ pos 0 ∷ pos 0 ∷ pos 660 ∷ pos 0 ∷ pos 0 ∷ pos 3 ∷ pos 1 ∷ negsuc 0 ∷ pos 999400 ∷ pos 1 ∷ pos 1 ∷ pos 0 ∷ pos 0 ∷ [])
