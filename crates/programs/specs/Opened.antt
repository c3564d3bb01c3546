-- All that a program's words are tested, decoded, run, labelled and made definite with, under one name, for examples by computation.
use Rattle.std.specs.Prelude.{ℕ}
use Rattle.words.specs.Opened.{words_open}
use Rattle.programs.specs.Program as program
use Rattle.programs.specs.Moves as moves
use Rattle.programs.specs.MoveLabels as moveLabels
use Rattle.programs.specs.ProgramWords as programWords
use Rattle.programs.specs.ProgramTests as program_tests
use Rattle.programs.specs.Decode as decode
use Rattle.programs.specs.UnsharedRows as unsharedRows
use Rattle.programs.specs.DefiniteWords as definiteWords

unfoldable pub programs_open : ℕ
unfolding
    words_open
    program.compares program.statement_at program.line_at program.procedure_at program.exit_of program.begun program.owner
    moves.stored moves.called moves.allows moves.move_by moves.return_by moves.leave moves.move_from moves.move moves.needed_by moves.needed
    moveLabels.turn_of moveLabels.return_label moveLabels.leave_label moveLabels.label_by
    programWords.by_kind programWords.row programWords.first programWords.locals programWords.parameters programWords.begun
    programWords.procedure_of programWords.k programWords.line programWords.fields programWords.field_words
    program_tests.sizes_pass program_tests.total_passes program_tests.row_fits program_tests.rises program_tests.exit_passes
    program_tests.condition_passes program_tests.same_procedure program_tests.successor_passes program_tests.skip_passes
    program_tests.assign_passes program_tests.branch_passes program_tests.assert_passes program_tests.call_passes program_tests.statement_passes
    program_tests.row_line
    program_tests.exit_test program_tests.statement_test program_tests.program_tests
    decode.comparison decode.condition decode.fields_of decode.expression decode.meaning decode.statement decode.lined_statement decode.procedure
    decode.program
    unsharedRows.is_apart unsharedRows.exits_apart unsharedRows.statements_apart unsharedRows.is_unshared definiteWords.definite_program
programs_open = 0
