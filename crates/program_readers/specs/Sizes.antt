-- The sizes of a program, as the code carries them beside its words.
use Rattle.std.specs.Prelude.{◌≡◌, List, ◌≤◌, ℤ}
use Rattle.words.specs.Limits.{most_statements, most_procedures, most_globals, most_pool}
use Rattle.programs.specs.ProgramWords.{n, p, G, Q}
use Rattle.program_readers.specs.declared.places.Sizes.{Sizes}

unfoldable pub sizes_of : List ℤ → Sizes
sizes_of words = record { statements = n words; procedures = p words; globals = G words; pool = Q words }

-- the sizes are those of the words, and within their limits
pub record Header (words : List ℤ) (sizes : Sizes) : Type 0 where
  pub statements : sizes.statements ≡ n words
  pub procedures : sizes.procedures ≡ p words
  pub globals : sizes.globals ≡ G words
  pub pool : sizes.pool ≡ Q words
  pub some_statement : 1 ≤ sizes.statements
  pub some_procedure : 1 ≤ sizes.procedures
  pub few_statements : sizes.statements ≤ most_statements
  pub few_procedures : sizes.procedures ≤ most_procedures
  pub few_globals : sizes.globals ≤ most_globals
  pub small_pool : sizes.pool ≤ most_pool
