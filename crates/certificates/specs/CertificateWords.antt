-- A certificate's words: "1, R, W; two parallel arrays of n+2p words, disjunct count (0..8) and place, for vertices 1..n+p and then the p
-- summaries; R row words; W witness words". Document 02, CR 9: of the sparse form "Its kind is 4, else it is as kind 1", with sparse rows. What
-- looks into the rows of an entry takes the form.
use Rattle.std.specs.Prelude.{ℕ, zero, suc, ◌+◌, ◌*◌, ◌-◌, cond, List, [], ◌∷◌, leb, ℤ, pos, take, drop}
use Rattle.basics.specs.Lists.{listed}
use Rattle.basics.specs.Integers.{eq_z}
use Rattle.words.specs.declared.StoredForm.{StoredForm}
use Rattle.words.specs.declared.StoredForm.TheVariants.{Dense, Sparse}
use Rattle.words.specs.Limits.{most_words, most_disjuncts, most_rows}
use Rattle.words.specs.Words.{word, number}
use Rattle.words.specs.StoredRows.{rows_in, rows_take}
use Rattle.programs.specs.ProgramWords.{n, p, G, k, parameters}
use Rattle.certificates.specs.Certificate.{Disjunct, Certificate}

-- ---- disjuncts: "each disjunct is a row count (0..32) and rows of constant and coefficients"

-- the row count at a place
abbrev pub row_count : List ℤ → ℕ → ℕ
row_count words at = number most_rows (word words at)

module _ (form : StoredForm) where
  -- how many words the disjunct at a place takes
  abbrev pub disjunct_words : ℕ → List ℤ → ℕ → ℕ
  disjunct_words columns words at = 1 + rows_take form columns (row_count words at) (drop (at + 1) words)

  -- so many disjuncts, one after the other, at the head of the words
  unfoldable pub disjuncts_of : ℕ → ℕ → List ℤ → List Disjunct
  disjuncts_of columns zero words = []
  disjuncts_of columns (suc i) words = rows_in form columns (row_count words 0) (drop 1 words) ∷ disjuncts_of columns i (drop (disjunct_words columns words 0) words)

  -- the place after so many disjuncts from a place on
  unfoldable pub disjuncts_end : List ℤ → ℕ → ℕ → ℕ → ℕ
  disjuncts_end words columns zero at = at
  disjuncts_end words columns (suc i) at = disjuncts_end words columns i (at + disjunct_words columns words at)

-- the mark of a certificate, its first word: document 01's "kind" of a witness sheet
abbrev pub certificate_mark : ℕ
certificate_mark = 1

-- that of a sparse one
abbrev pub sparse_mark : ℕ
sparse_mark = 4

abbrev pub mark_of : StoredForm → ℕ
mark_of Dense = certificate_mark
mark_of Sparse = sparse_mark

-- which form the words are read in: the sparse one by its kind, 4, and document 01's by any other
abbrev pub stored_form : List ℤ → StoredForm
stored_form witness = cond (eq_z (word witness 0) (pos sparse_mark)) Sparse Dense

-- where the count word of an entry stands: the counts begin after mark, R and W
abbrev pub count_place : ℕ → ℕ
count_place i = 2 + i

-- how many disjuncts an entry has
abbrev pub count_of : List ℤ → ℕ → ℕ
count_of witness i = number most_disjuncts (word witness (count_place i))

-- the place word of an entry, where there are so many entries, and where its disjuncts begin in the row words
abbrev pub place_word : List ℤ → ℕ → ℕ → ℤ
place_word witness entries i = word witness (2 + entries + i)

abbrev pub place_of : List ℤ → ℕ → ℕ → ℕ
place_of witness entries i = number most_words (place_word witness entries i)

-- where the row words begin
abbrev pub start_of : ℕ → ℕ
start_of entries = 3 + entries + entries

module _ (program witness : List ℤ) where
  abbrev pub R : ℕ
  R = number most_words (word witness 1)

  abbrev pub W : ℕ
  W = number most_words (word witness 2)

  -- the vertices' entries, and all of them
  abbrev pub vertex_entries : ℕ
  vertex_entries = n program + p program

  abbrev pub entries : ℕ
  entries = vertex_entries + p program

  abbrev pub count_word : ℕ → ℤ
  count_word i = word witness (count_place i)

  abbrev pub entry_place_word : ℕ → ℤ
  entry_place_word i = place_word witness entries i

  abbrev pub rows_start : ℕ
  rows_start = start_of entries

  -- the row words
  unfoldable pub row_words : List ℤ
  row_words = take R (drop rows_start witness)

  unfoldable pub witness_words : List ℤ
  witness_words = drop (rows_start + R) witness

  -- "Path columns: k at entry, k now. Summary columns: G and F at entry, G at exit."
  unfoldable pub edge_columns : ℕ → ℕ
  edge_columns i = cond (leb i vertex_entries) (k program i + k program i) (G program + parameters program (i - vertex_entries) + G program)

  unfoldable pub entry_count : ℕ → ℕ
  entry_count i = count_of witness i

  unfoldable pub entry_place : ℕ → ℕ
  entry_place i = place_of witness entries i

  module _ (form : StoredForm) where
    unfoldable pub entry : ℕ → List Disjunct
    entry i = disjuncts_of form (edge_columns i) (entry_count i) (drop (entry_place i) row_words)

    unfoldable pub summary_entry : ℕ → List Disjunct
    summary_entry q = entry (vertex_entries + q)

    unfoldable pub certificate_in : Certificate
    certificate_in = record { paths = listed entry vertex_entries; summaries = listed summary_entry (p program) }

    -- where the words of the first i entries end, if each begins where those before it end: document 02, CR 9, "the next free one"
    unfoldable pub next_free : ℕ → ℕ
    next_free zero = 0
    next_free (suc i) = disjuncts_end form row_words (edge_columns (i + 1)) (entry_count (i + 1)) (next_free i)

  -- the certificate that the words are
  abbrev pub certificate : Certificate
  certificate = certificate_in (stored_form witness)
