-- What a buffer holds once the premises of an entailment are filled in, and how long it must be for that.
use Rattle.std.specs.Prelude.{List, ℕ, ◌+◌, ◌*◌, ◌≤◌, ℤ, length}
use Rattle.words.specs.Limits.{most_globals, most_locals, most_rows, most_splits}
use Rattle.row_buffers.specs.HeldRows.{stride}
use Rattle.row_buffers.specs.FlatRows.{Buffered}
use Rattle.entailments.specs.declared.Entailment.{Entailment}
use Rattle.entailments.specs.Meaning.{meaning_of}

-- the columns of an entailment: a path's, and the globals that a call returns with; its callee's other locals are no more
abbrev pub most_columns : ℕ
most_columns = most_globals + most_locals + (most_globals + most_locals) + most_globals

-- its premises: two disjuncts' rows
abbrev pub most_premises : ℕ
most_premises = most_rows + most_rows

-- with those that splits add, on any way to a leaf
abbrev pub most_split_premises : ℕ
most_split_premises = most_premises + most_splits

-- a buffer that any entailment's premises go into, with those of its splits
abbrev pub LongBuffer : List ℤ → Type 0
LongBuffer premises = most_split_premises * stride most_columns ≤ length premises

-- the entailment's premises are the first n rows of the buffer
abbrev pub Filled : List ℤ → List ℤ → Entailment → ℕ → List ℤ → Type 0
Filled words rows e n buffer = Buffered e.columns (meaning_of words rows e).premises n buffer
