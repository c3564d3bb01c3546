-- A set of disjuncts as bytes: 1 for one that is kept. Each entry of the certificate has 8 of them in a row, one for each disjunct that it may have;
-- the entries stand in the certificate's order.
use Rattle.std.specs.Prelude.{Bool, ◌&&◌, List, ℕ, ◌+◌, ◌*◌, ◌-◌, leb, ltb, eqb, get_or}
use Rattle.words.specs.Limits.{most_vertices, most_procedures, most_disjuncts}
use Rattle.certificates.specs.Sources.{Entry, of_vertex, of_summary}
use Rattle.trimming.specs.Kept.{Flags}
use Rattle.program_readers.specs.declared.places.Sizes.{Sizes}

-- the number of an entry: the summaries follow the vertices
unfoldable pub entry_number : Sizes → Entry → ℕ
entry_number sizes (of_vertex v) = v
entry_number sizes (of_summary q) = sizes.statements + sizes.procedures + q

-- the place of disjunct j, from 0, of an entry, from 1
abbrev pub byte_of : ℕ → ℕ → ℕ
byte_of entry j = (entry - 1) * most_disjuncts + j

-- how many entries there are at most, and bytes for them
abbrev pub most_entries : ℕ
most_entries = most_vertices + most_procedures

abbrev pub most_bytes : ℕ
most_bytes = most_entries * most_disjuncts

-- the program has the vertex or the procedure
unfoldable pub has_entry : Sizes → Entry → Bool
has_entry sizes (of_vertex v) = leb 1 v && leb v (sizes.statements + sizes.procedures)
has_entry sizes (of_summary q) = leb 1 q && leb q sizes.procedures

-- the byte of disjunct j of an entry is 1
abbrev pub byte_is_one : List ℕ → ℕ → ℕ → Bool
byte_is_one kept entry j = eqb (get_or kept (byte_of entry j) 0) 1

-- the set that the bytes are
unfoldable pub flags_in : Sizes → List ℕ → Flags
flags_in sizes kept t j = has_entry sizes t && (ltb j most_disjuncts && byte_is_one kept (entry_number sizes t) j)
