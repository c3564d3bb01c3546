-- All that words are read, tested and written with, under one name, for examples by computation.
use Rattle.std.specs.Prelude.{ℕ}
use Rattle.basics.specs.Lists as lists
use Rattle.rows.specs.Opened.{rows_open}
use Rattle.words.specs.Words as words
use Rattle.words.specs.RowWords as row_size
use Rattle.words.specs.ConstantCode as constant_code
use Rattle.words.specs.RowCode as row_code
use Rattle.words.specs.SparseRows as sparseRows
use Rattle.words.specs.UsedColumns as used
use Rattle.words.specs.SparseCode as sparse_code
use Rattle.words.specs.CodedRows as codedRows
use Rattle.words.specs.Writing as writing
use Rattle.words.specs.Tests as tests
use Rattle.words.specs.Answer as answer

unfoldable pub words_open : ℕ
unfolding
    rows_open
    lists.put_in lists.map_from lists.flat_map_from lists.listed lists.listed_from lists.gathered
    words.within words.below words.small words.all_small words.number
    row_size.constant_of row_size.is_constant row_size.constant_at row_size.row_of row_size.rows_by row_size.rows_of row_size.constant_passes row_size.row_passes row_size.rows_pass
    sparseRows.used_of sparseRows.column_words sparseRows.columns_of sparseRows.coefficients_of sparseRows.scatter sparseRows.sparse_row_of sparseRows.sparse_rows_of
    sparseRows.sparse_words sparseRows.all_below sparseRows.sparse_passes sparseRows.rises_from sparseRows.none_zero sparseRows.sparse_strict sparseRows.each_sparse
    sparseRows.sparse_rows_pass sparseRows.sparse_rows_strict
    constant_code.high_of constant_code.low_of row_code.constant_code row_code.row_code
    used.used_columns used.used_coefficients sparse_code.sparse_code codedRows.rows_code
    writing.writing_after writing.word_count writing.buffer_after writing.fits_buffer
    tests.first_failure
    answer.answer_after
words_open = 0
