-- A program's words: "n, p, G, Q; then two parallel arrays of n+p words, kind and row place; then Q pool words".
use Rattle.std.specs.Prelude.{ℕ, zero, suc, ◌+◌, ◌*◌, ◌-◌, cond, List, leb, eqb, ℤ}
use Rattle.words.specs.Limits.{most_statements, most_procedures, most_vertices, most_globals, most_locals, most_pool, most_line}
use Rattle.words.specs.Words.{word, number}
use Rattle.words.specs.RowWords.{row_size}

-- the choice by a statement's kind: 1 skip, 2 assign, 3 branch, 4 assert, 5 call; the last is for any other kind
unfoldable pub by_kind : {A : Type 0} → ℕ → A → A → A → A → A → A → A
by_kind kind skip assign branch assert call other =
    cond (eqb kind 1) skip (cond (eqb kind 2) assign (cond (eqb kind 3) branch (cond (eqb kind 4) assert (cond (eqb kind 5) call other))))

-- where the kind word of a vertex stands: the kinds begin after the four sizes
abbrev pub kind_place : ℕ → ℕ
kind_place v = 3 + v

-- how many words the line takes that a statement's row begins with
abbrev pub line_words : ℕ
line_words = 1

-- how many words an exit row takes
abbrev pub exit_words : ℕ
exit_words = 3

module _ (words : List ℤ) where
  -- ---- sizes

  abbrev pub n : ℕ
  n = number most_statements (word words 0)

  abbrev pub p : ℕ
  p = number most_procedures (word words 1)

  abbrev pub G : ℕ
  G = number most_globals (word words 2)

  abbrev pub Q : ℕ
  Q = number most_pool (word words 3)

  -- ---- kind and row place of the vertices 1..n+p

  abbrev pub kind_word : ℕ → ℤ
  kind_word v = word words (kind_place v)

  abbrev pub kind : ℕ → ℕ
  kind v = number 6 (kind_word v)

  abbrev pub place_word : ℕ → ℤ
  place_word v = word words (3 + (n + p) + v)

  -- where the row of a vertex begins
  unfoldable pub row : ℕ → ℕ
  row v = 4 + (n + p) + (n + p) + number most_pool (place_word v)

  -- ---- exit rows: first statement, L, F

  abbrev pub exit_field : ℕ → ℕ → ℤ
  exit_field q i = word words (row (n + q) + i)

  unfoldable pub first : ℕ → ℕ
  first q = number most_statements (exit_field q 0)

  unfoldable pub locals : ℕ → ℕ
  locals q = number most_locals (exit_field q 1)

  unfoldable pub parameters : ℕ → ℕ
  parameters q = number most_locals (exit_field q 2)

  -- how many of the procedures 1..i begin at the vertex or before it
  unfoldable pub begun : ℕ → ℕ → ℕ
  begun v zero = 0
  begun v (suc i) = cond (leb (first (i + 1)) v) (suc (begun v i)) (begun v i)

  -- the procedure of a vertex
  unfoldable pub procedure_of : ℕ → ℕ
  procedure_of v = cond (leb v n) (begun v p) (v - n)

  -- k of a vertex: the globals and its procedure's locals
  unfoldable pub k : ℕ → ℕ
  k v = G + locals (procedure_of v)

  -- ---- statement rows: "Each statement row begins with a line, 0..1,000,000, 0 meaning none"

  abbrev pub line_word : ℕ → ℤ
  line_word v = word words (row v)

  unfoldable pub line : ℕ → ℕ
  line v = number most_line (line_word v)

  -- where the fields of a statement's row begin
  unfoldable pub fields : ℕ → ℕ
  fields v = row v + line_words

  abbrev pub field : ℕ → ℕ → ℤ
  field v i = word words (fields v + i)

  -- a field as a vertex, a column, an op or a procedure
  abbrev pub vertex_field : ℕ → ℕ → ℕ
  vertex_field v i = number most_vertices (field v i)

  abbrev pub column_field : ℕ → ℕ → ℕ
  column_field v i = number (most_globals + most_locals) (field v i)

  abbrev pub op_field : ℕ → ℕ → ℕ
  op_field v i = number 6 (field v i)

  abbrev pub procedure_field : ℕ → ℕ → ℕ
  procedure_field v i = number most_procedures (field v i)

  -- how many words the fields of a statement's row take
  unfoldable pub field_words : ℕ → ℕ
  field_words v = by_kind (kind v) 1 (2 + row_size (k v)) (3 + row_size (k v)) (2 + row_size (k v)) (2 + parameters (procedure_field v 1) * row_size (k v)) 0

  -- how many words a statement's row takes
  abbrev pub statement_words : ℕ → ℕ
  statement_words v = line_words + field_words v
