-- A choice made definite: one program is another with a condition in place of `?` in one branch, and nothing else differs that a run or an
-- entailment goes by.
use Rattle.std.specs.Prelude.{◌≡◌, length}
use Prim.Native.Nat.{ℕ}
use Rattle.std.proofs.Math.Option.{some}
use Rattle.programs.specs.Program.{Condition, choice, branch, Program, statement_at}

pub record MadeDefinite (p p' : Program) (v : ℕ) (g : Condition) : Type 0 where
  pub globals : p'.globals ≡ p.globals
  pub procedures : p'.procedures ≡ p.procedures
  pub count : length p'.statements ≡ length p.statements
  pub elsewhere : (u : ℕ) → ¬ (u ≡ v) → statement_at p' u ≡ statement_at p u
  pub when_true : ℕ
  pub when_false : ℕ
  pub before : statement_at p v ≡ some (branch when_true when_false choice)
  pub after : statement_at p' v ≡ some (branch when_true when_false g)
