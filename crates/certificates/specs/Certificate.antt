-- Certificates: path edges and summary edges.
use Rattle.std.specs.Prelude.{ℕ, zero, suc, Bool, true, not, ◌&&◌, get_or, ℤ}
use mathlib.Core.List.{List, [], ◌∷◌, Memᴰ}
use Rattle.rows.specs.Rows.{Row, Holds, all_zero}

-- an edge: rows that hold together, each meaning "sum ≤ 0"; "No rows means true"
abbrev pub Disjunct : Type 0
Disjunct = List Row

-- the disjuncts of the vertices 1, 2, .., n+p, and those of the summaries of the procedures 1, 2, .., p
pub record Certificate : Type 0 where
  pub paths : List (List Disjunct)
  pub summaries : List (List Disjunct)

-- "A place's path edges are the disjuncts that the certificate has for that vertex"; "Vertex 0 has none"
unfoldable pub path_edges : Certificate → ℕ → List Disjunct
path_edges c zero = []
path_edges c (suc i) = get_or c.paths i []

-- "a call's summary edges are those of its procedure's summary"
unfoldable pub summary_edges : Certificate → ℕ → List Disjunct
summary_edges c zero = []
summary_edges c (suc i) = get_or c.summaries i []

-- some disjunct holds at the values of the columns; "no disjuncts means never reached"
unfoldable pub Meets : List Disjunct → List ℤ → Type 0
Meets ds s = (d : Disjunct) × Memᴰ d ds × Holds s d

-- ---- rows that vary with the columns: not constant, as "rows whose coefficients are all 0" are

unfoldable pub varies : Row → Bool
varies r = not (all_zero r.coefficients)

unfoldable pub rows_vary : Disjunct → Bool
rows_vary [] = true
rows_vary (r ∷ rs) = varies r && rows_vary rs

unfoldable pub edges_vary : List Disjunct → Bool
edges_vary [] = true
edges_vary (d ∷ ds) = rows_vary d && edges_vary ds
