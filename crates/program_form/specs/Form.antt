-- What the code answers for the form of a program.
use Rattle.std.specs.Prelude.{List, ℤ, Result, Ok, Err}
use Rattle.std.proofs.Math.Option.{Option, none, some}
use Rattle.words.specs.Tests as tests
use Rattle.programs.specs.ProgramTests.{program_tests}
use Rattle.program_readers.specs.Sizes.{sizes_of}
use Rattle.program_readers.specs.declared.places.Sizes.{Sizes}

unfoldable pub form_after : List ℤ → Option tests.Refusal → Result Sizes tests.Refusal
form_after words none = Ok (sizes_of words)
form_after words (some r) = Err r

unfoldable pub program_form : List ℤ → Result Sizes tests.Refusal
program_form words = form_after words (tests.first_failure (program_tests words))
