-- A trace's words, by document 02, CR 2: "kind 3, N, E (0..32,768), all start values (G + L of main), vertices, then E values used up by the
-- calls in order". Document 01 has N in 1..4,096 and "N+1 vertices, first 1, last 0".
use Rattle.std.specs.Prelude.{ℕ, ◌+◌, ◌-◌, List, ℤ, take, drop}
use Rattle.words.specs.Limits.{most_steps, most_entry_values}
use Rattle.words.specs.Words.{word, number}
use Rattle.programs.specs.ProgramWords.{G, locals, parameters}

-- the mark of a trace, its first word: the documents' "kind" of a witness sheet
abbrev pub trace_mark : ℕ
trace_mark = 3

-- where the start values begin: after mark, N and E
abbrev pub starts_from : ℕ
starts_from = 3

-- where the i-th start value stands, from 1
abbrev pub start_place : ℕ → ℕ
start_place i = 2 + i

module _ (program witness : List ℤ) where
  abbrev pub N : ℕ
  N = number most_steps (word witness 1)

  abbrev pub E : ℕ
  E = number most_entry_values (word witness 2)

  -- how many start values there are: main's G and L
  abbrev pub starts : ℕ
  starts = G program + locals program 1

  unfoldable pub start_globals : List ℤ
  start_globals = take (G program) (drop starts_from witness)

  unfoldable pub start_arguments : List ℤ
  start_arguments = take (parameters program 1) (drop (starts_from + G program) witness)

  unfoldable pub start_others : List ℤ
  start_others = take (locals program 1 - parameters program 1) (drop (starts_from + G program + parameters program 1) witness)

  -- where the vertex after i steps stands
  abbrev pub vertex_place : ℕ → ℕ
  vertex_place i = starts_from + starts + i

  abbrev pub vertex_word : ℕ → ℤ
  vertex_word i = word witness (vertex_place i)

  -- where the entry values begin: after the vertices
  abbrev pub entry_values_from : ℕ
  entry_values_from = starts_from + starts + (N + 1)

  -- where the i-th entry value stands, from 1
  abbrev pub entry_value_place : ℕ → ℕ
  entry_value_place i = starts_from + starts + N + i

  -- the values that the calls' other locals hold, to the trace's end
  unfoldable pub listed_entry_values : List ℤ
  listed_entry_values = drop entry_values_from witness
