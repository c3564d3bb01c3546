-- What a value says of the vertex that it leaves: which row its statement has, or whose exit it is, and the shape of its entailments.
use Rattle.std.specs.Prelude.{◌≡◌, List, ℕ, ◌+◌, ◌≤◌, ◌<◌, ℤ}
use Rattle.words.specs.Limits.{most_vertices, most_procedures}
use Rattle.programs.specs.ProgramWords.{n, procedure_of, k}
use Rattle.programs.specs.Decode.{Fields, skip_row, assign_row, branch_row, assert_row, call_row, fields_of}
use Rattle.program_readers.specs.declared.places.Sizes.{Sizes}
use Rattle.program_readers.specs.Kinds.{op_number}
use Rattle.entailments.specs.declared.Shape.{Shape}
use Rattle.vertex_entailments.specs.declared.leaving.Way.{Way}
use Rattle.vertex_entailments.specs.declared.leaving.Way.TheVariants.{Skip, Assign, Branch, Assert, Call, Exit}
use Rattle.vertex_entailments.specs.declared.leaving.Leaving.{Leaving}
use Rattle.vertex_entailments.specs.Values.{shape_of, path_shape}

module _ (program : List ℤ) (sizes : Sizes) (v : ℕ) (shape : Shape) where
  -- v is a statement with this row, and the shape is the one wanted
  pub record HasRow (row : Fields) (wanted : Shape) : Type 0 where
    pub inside : v ≤ n program
    pub is : fields_of program v ≡ row
    pub shaped : shape ≡ wanted

  -- v is the exit of q
  pub record IsExit (q : ℕ) : Type 0 where
    pub past : n program < v
    pub ends : q ≡ procedure_of program v
    pub shaped : shape ≡ shape_of program sizes (k program v) q

  abbrev path : Shape
  path = path_shape (k program v) sizes.globals

  -- what the way says of v
  unfoldable pub Says : Way → Type 0
  Says (Skip r) = HasRow (skip_row r.next.0) path
  Says (Assign r) = HasRow (assign_row r.next.0 r.column r.at) path
  Says (Branch r) = HasRow (branch_row r.yea.0 r.nay.0 (op_number r.op) r.at) path
  Says (Assert r) = HasRow (assert_row r.next.0 (op_number r.op) r.at) path
  Says (Call r) = HasRow (call_row r.back.0 r.callee.0 r.at) (shape_of program sizes (k program v) r.callee.0)
  Says (Exit q) = IsExit q.0

-- the value says what leaves its vertex
pub record Leaves (program : List ℤ) (sizes : Sizes) (l : Leaving) : Type 0 where
  pub low : 1 ≤ l.vertex.0
  pub high : l.vertex.0 ≤ sizes.statements + sizes.procedures
  pub says : Says program sizes l.vertex.0 l.shape l.way

-- the numbers of a way are within their limits
unfoldable pub WayForm : Way → Type 0
WayForm (Skip r) = r.next.0 ≤ most_vertices
WayForm (Assign r) = r.next.0 ≤ most_vertices
WayForm (Branch r) = (r.yea.0 ≤ most_vertices) × (r.nay.0 ≤ most_vertices)
WayForm (Assert r) = r.next.0 ≤ most_vertices
WayForm (Call r) = (r.back.0 ≤ most_vertices) × (r.callee.0 ≤ most_procedures)
WayForm (Exit q) = q.0 ≤ most_procedures
