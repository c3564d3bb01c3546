-- The sizes that pass their test are within their limits: each number is capped, and the test says that there is a statement and a procedure.
use Rattle.std.specs.Prelude.{refl, List, T, ℤ, pos}
use Rattle.std.proofs.Common.{arith}
use Rattle.basics.proofs.Booleans.{tests}
use Rattle.basics.proofs.Integers.{ints}
use Rattle.words.specs.Limits.{most_statements, most_procedures, most_globals, most_pool}
use Rattle.words.specs.Words.{word}
use Rattle.words.specs.Ranges.{Between}
use Rattle.words.proofs.Ranges.{within_between, number_most, number_between}
use Rattle.programs.specs.ProgramTests.{sizes_pass}
use Rattle.programs.specs.ProgramForm.{ProgramForm}
use Rattle.program_readers.specs.Sizes.{sizes_of, Header}

module _ (words : List ℤ) where
  header_between : Between (pos 1) (pos most_statements) (word words 0) → Between (pos 1) (pos most_procedures) (word words 1) → Header words (sizes_of words)
  unfolding sizes_of
  header_between s q =
      record {
        statements = refl;
        procedures = refl;
        globals = refl;
        pool = refl;
        some_statement = omega (arith, ints, number_between 1 most_statements most_statements (word words 0) (omega arith) s);
        some_procedure = omega (arith, ints, number_between 1 most_procedures most_procedures (word words 1) (omega arith) q);
        few_statements = number_most most_statements (word words 0);
        few_procedures = number_most most_procedures (word words 1);
        few_globals = number_most most_globals (word words 2);
        small_pool = number_most most_pool (word words 3);
      }

  -- once the sizes have passed their test
  pub header_passed : T (sizes_pass words) → Header words (sizes_of words)
  unfolding sizes_pass
  header_passed t = let (length, (s, (q, rest))) = simp (tests, within_between) at t in header_between s q

  -- once the form is known
  pub header_formed : ProgramForm words → Header words (sizes_of words)
  header_formed f = header_between f.sizes.statements_range f.sizes.procedures_range
