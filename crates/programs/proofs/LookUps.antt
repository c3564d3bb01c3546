-- Every word that decoding reads is a word of the program: the sizes, the kind and the row place of each vertex, and each row whole,
-- its expressions included. The total is exact, so the two arrays are all there; a row's place and length stay within the pool's Q words.
use Rattle.std.specs.Prelude.{ℕ, ◌+◌, ◌≤◌, List, ℤ, length}
use native.Mathlib.Omega.{arith}
use Rattle.basics.proofs.Booleans.{parts, tests}
use Rattle.programs.specs.ProgramWords.{n, row, exit_words, line_words, fields, statement_words}
use Rattle.programs.specs.ProgramTests.{row_fits, statement_passes}
use Rattle.programs.specs.ProgramForm.{ProgramForm, RowInPool}
use Rattle.programs.proofs.ProgramForm.{row_in_pool, statement_form}
use Rattle.programs.specs.LookUps.{LookUps}

module _ (words : List ℤ) (f : ProgramForm words) where
  pub row_inside : (v size : ℕ) → RowInPool words v size → row words v + size ≤ length words
  unfolding row_fits row
  row_inside v size r = let x = simp tests at ((row_in_pool words v size).1 r) in omega arith

  -- the fields of a row stand behind its line
  pub fields_inside : (v size : ℕ) → RowInPool words v (line_words + size) → fields words v + size ≤ length words
  unfolding fields
  fields_inside v size r = omega (arith, row_inside v (line_words + size) r)

  statement_fits : (v : ℕ) → 1 ≤ v → v ≤ n words → RowInPool words v (statement_words words v)
  unfolding statement_passes
  statement_fits v l h = let t = (statement_form words v).1 (f.statements v l h) in (row_in_pool words v (statement_words words v)).0 (search parts)

  pub look_ups : LookUps words
  look_ups =
      record {
        sizes = f.sizes.header;
        kinds = omega arith;
        places = omega arith;
        exit_rows = λ q l h. row_inside (n words + q) exit_words (f.exits q l h).in_pool;
        statement_rows = λ v l h. row_inside v (statement_words words v) (statement_fits v l h);
      }
