-- The replay of a trace: "vertex by vertex 10, 12, 11; 13 last", with 14 for "a missing entry value .. at the vertex arrived at, after 12 and
-- before 11; and a left-over one .. at its word, before 13".
use Rattle.std.specs.Prelude.{ℕ, zero, suc, ◌+◌, ◌-◌, Bool, true, cond, ◌&&◌, List, [], ◌∷◌, ◌++◌, leb, eqb, ℤ, pos, negsuc, length, take, drop}
use Rattle.std.proofs.Math.Option.{Option, none, some}
use Rattle.basics.specs.Integers.{eq_z}
use Rattle.words.specs.Limits.{most_calls, value_limit}
use Rattle.words.specs.Words.{small}
use Rattle.words.specs.Tests.{Refusal, Test, test, test_on, first_failure, refusal_at, refusal_on}
use Rattle.words.specs.Answer.{Answer, trace, refused, answer_after}
use Rattle.programs.specs.Program.{Program, line_at}
use Rattle.programs.specs.Moves.{Configuration, current, move, needed}
use Rattle.programs.specs.Decode as decode
use Rattle.traces.specs.TraceWords.{N, start_globals, start_arguments, start_others, vertex_place, vertex_word, listed_entry_values}
use Rattle.traces.specs.TraceTests.{trace_tests}

-- how far a replay has come, with the entry values that no call has used yet, or the refusal that ended it
pub data Progress : Type 0 where
  at : Configuration → List ℤ → Progress
  ended : Refusal → Progress

-- ---- one vertex. 10, 11 and 12 have the line of "the vertex being left, if a statement; else 0, as in all other answers".

unfoldable pub all_values : ℕ → List ℤ → Bool
all_values limit [] = true
all_values limit (x ∷ xs) = small limit x && all_values limit xs

-- "at most 64 open calls, main's counted"; a step that enters a procedure needs so many of the entry values left; "Values after each step lie
-- within ±1,000,000,000,000"
unfoldable pub arrival_tests : ℕ → ℕ → ℕ → List ℤ → Configuration → List Test
arrival_tests place line need left c =
    test_on 12 place line (leb (1 + length c.below) most_calls) ∷ test 14 place (leb need (length left)) ∷ test_on 11 place line (all_values value_limit (current c)) ∷ []

unfoldable pub arrived : Configuration → List ℤ → Option Refusal → Progress
arrived c left none = at c left
arrived c left (some r) = ended r

-- 10: "vertex not allowed by the rules"
unfoldable pub arrival : ℕ → ℕ → ℕ → List ℤ → Option Configuration → Progress
arrival place line need left none = ended (refusal_on 10 place line)
arrival place line need left (some c) = arrived c (drop need left) (first_failure (arrival_tests place line need left c))

-- the step to the vertex that a word lists, a procedure entered with these values; the last vertex must be 0
unfoldable pub listed_move : Program → Bool → Configuration → List ℤ → ℤ → Option Configuration
listed_move p last c others (pos v) = cond last (cond (eqb v 0) (move p c others v) none) (move p c others v)
listed_move p last c others (negsuc v) = none

-- ---- all of them

unfoldable pub replay_next : Program → Bool → ℕ → ℤ → Progress → Progress
replay_next p last place z (at c left) = arrival place (line_at p c.top.vertex) (needed p c) left (listed_move p last c (take (needed p c) left) z)
replay_next p last place z (ended r) = ended r

-- "At the start main's call is alone, at vertex 1"
unfoldable pub initial_configuration : List ℤ → List ℤ → List ℤ → Configuration
initial_configuration globals arguments others = record { globals = globals; top = record { procedure = 1; vertex = 1; locals = arguments ++ others }; below = [] }

module _ (program witness : List ℤ) where
  -- after i steps
  unfoldable pub replayed_to : ℕ → Progress
  replayed_to zero =
      cond (eq_z (vertex_word program witness 0) (pos 1))
      (at (initial_configuration (start_globals program witness) (start_arguments program witness) (start_others program witness)) (listed_entry_values program witness))
      (ended (refusal_at 10 (vertex_place program witness 0)))
  replayed_to (suc i) = replay_next (decode.program program) (eqb (i + 1) (N program witness)) (vertex_place program witness (i + 1)) (vertex_word program witness (i + 1)) (replayed_to i)

-- ---- the answer, with a result buffer of so many numbers

-- 14: an entry value is left over, at its word; they stand last in the trace, which ends at `end`
unfoldable pub left_test : ℕ → List ℤ → Test
left_test end left = test 14 (end - length left) (eqb (length left) 0)

-- 13: "room shorter than k", the returned place k
unfoldable pub buffer_test : ℕ → Configuration → Test
buffer_test buffer c = test 13 (length (current c)) (leb (length (current c)) buffer)

unfoldable pub replay_answer : ℕ → ℕ → ℕ → Progress → Answer
replay_answer steps end buffer (ended r) = refused r
replay_answer steps end buffer (at c left) = answer_after (first_failure (left_test end left ∷ buffer_test buffer c ∷ [])) (trace steps)

-- "the k values at the failed assertion"
unfoldable pub last_values : Progress → List ℤ
last_values (at c left) = current c
last_values (ended r) = []

module _ (program witness : List ℤ) where
  unfoldable pub final_values : List ℤ
  final_values = last_values (replayed_to program witness (N program witness))

  -- the answer to a trace of a program that has the form
  unfoldable pub trace_answer : ℕ → Answer
  trace_answer buffer = answer_after (first_failure (trace_tests program witness)) (replay_answer (N program witness) (length witness) buffer (replayed_to program witness (N program witness)))
