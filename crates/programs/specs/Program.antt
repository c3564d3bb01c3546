-- Linear Programs: "A program has n statements, vertices 1..n, and p procedures, exits n+1..n+p."
-- Columns, from 0, are the globals and then the locals of the procedure; an expression is a row over them.
use Rattle.std.specs.Prelude.{ℕ, zero, suc, ◌+◌, ◌-◌, Bool, true, not, cond, ◌&&◌, List, [], ◌∷◌, leb, ltb, eqb, length, get_or, ℤ, pos}
use Rattle.std.proofs.Math.Option.{Option, none, some}
use Rattle.std.proofs.Math.ListN.{get_elem?}
use Rattle.std.specs.Int.Signed.{le_z, lt_z}
use Rattle.basics.specs.Integers.{eq_z}
use Rattle.rows.specs.Rows.{Row}

-- op: <, >, ≤, ≥, =, ≠
pub data Comparison : Type 0 where
  less greater at_most at_least equal different : Comparison

-- `x op 0`
unfoldable pub compares : Comparison → ℤ → Bool
compares less x = lt_z x (pos 0)
compares greater x = lt_z (pos 0) x
compares at_most x = le_z x (pos 0)
compares at_least x = le_z (pos 0) x
compares equal x = eq_z x (pos 0)
compares different x = not (eq_z x (pos 0))

-- a branch's condition: `?`, or `e op 0`
pub data Condition : Type 0 where
  choice : Condition
  compare : Comparison → Row → Condition

pub data Statement : Type 0 where
  skip : (next : ℕ) → Statement
  assign : (next column : ℕ) (e : Row) → Statement
  branch : (when_true when_false : ℕ) → Condition → Statement
  assert : (next : ℕ) → Comparison → (e : Row) → Statement
  call : (return callee : ℕ) (actuals : List Row) → Statement

-- a statement with the line of its author's text, 0 meaning none: "the statement record and every place that hands it on carries it"
pub record LinedStatement : Type 0 where
  pub line : ℕ
  pub statement : Statement

-- a statement without a line
abbrev pub unlined : Statement → LinedStatement
unlined st = record { line = 0; statement = st }

-- "A procedure has L locals, the first F of them parameters."
pub record Procedure : Type 0 where
  pub first : ℕ
  pub locals : ℕ
  pub parameters : ℕ

pub record Program : Type 0 where
  pub globals : ℕ
  pub statements : List LinedStatement
  pub procedures : List Procedure

-- ---- look-ups; statements and procedures are counted from 1, and apart

abbrev pub no_procedure : Procedure
no_procedure = record { first = 0; locals = 0; parameters = 0 }

abbrev pub statement_in : Option LinedStatement → Option Statement
statement_in none = none
statement_in (some x) = some x.statement

unfoldable pub statement_at : Program → ℕ → Option Statement
statement_at p zero = none
statement_at p (suc i) = statement_in (get_elem? p.statements i)

abbrev pub line_in : Option LinedStatement → ℕ
line_in none = 0
line_in (some x) = x.line

-- the line of a vertex, "if a statement; else 0"
unfoldable pub line_at : Program → ℕ → ℕ
line_at p zero = 0
line_at p (suc i) = line_in (get_elem? p.statements i)

unfoldable pub procedure_at : Program → ℕ → Procedure
procedure_at p zero = no_procedure
procedure_at p (suc i) = get_or p.procedures i no_procedure

-- the exit of a procedure
unfoldable pub exit_of : Program → ℕ → ℕ
exit_of p q = length p.statements + q

abbrev pub first_of : Program → ℕ → ℕ
first_of p q = (procedure_at p q).first

abbrev pub locals_of : Program → ℕ → ℕ
locals_of p q = (procedure_at p q).locals

abbrev pub parameters_of : Program → ℕ → ℕ
parameters_of p q = (procedure_at p q).parameters

-- the locals that aren't parameters
abbrev pub others_of : Program → ℕ → ℕ
others_of p q = locals_of p q - parameters_of p q

-- "With G globals, k = G + L"
abbrev pub width_of : Program → ℕ → ℕ
width_of p q = p.globals + locals_of p q

-- ---- "a procedure's statements run up to the next first"

-- how many procedures begin at the vertex or before it
unfoldable pub begun : ℕ → List Procedure → ℕ
begun v [] = 0
begun v (q ∷ qs) = cond (leb q.first v) (suc (begun v qs)) (begun v qs)

-- the procedure of a vertex
unfoldable pub owner : Program → ℕ → ℕ
owner p v = cond (leb v (length p.statements)) (begun v p.procedures) (v - length p.statements)

-- ---- the part of a program's form that its runs rest on

-- w is a vertex of the same procedure as v, "its exit included"
unfoldable pub same : Program → ℕ → ℕ → Bool
same p v w = leb 1 w && (leb w (length p.statements + length p.procedures) && eqb (owner p w) (owner p v))

-- "Successors and return points lie in the same procedure"; a call names a procedure and has an actual for each of its parameters
unfoldable pub formed_statement : Program → ℕ → Statement → Bool
formed_statement p v (skip next) = same p v next
formed_statement p v (assign next i e) = same p v next
formed_statement p v (branch yea nay g) = same p v yea && same p v nay
formed_statement p v (assert next op e) = same p v next
formed_statement p v (call return q actuals) = same p v return && (leb 1 q && (leb q (length p.procedures) && eqb (length actuals) (parameters_of p q)))

unfoldable pub formed_statements : Program → ℕ → List LinedStatement → Bool
formed_statements p v [] = true
formed_statements p v (x ∷ xs) = formed_statement p v x.statement && formed_statements p (suc v) xs

-- "First statements rise strictly from 1 and stay within 1..n"; F is 0..L
unfoldable pub formed_procedures : ℕ → ℕ → List Procedure → Bool
formed_procedures n last [] = true
formed_procedures n last (q ∷ qs) = ltb last q.first && (leb q.first n && (leb q.parameters q.locals && formed_procedures n q.first qs))

unfoldable pub formed : Program → Bool
formed p = eqb (first_of p 1) 1 && (formed_procedures (length p.statements) 0 p.procedures && formed_statements p 1 p.statements)
