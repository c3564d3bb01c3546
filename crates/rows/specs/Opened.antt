-- All that rows compute with, under one name: to unfold it is to unfold each definition that it names, as an example by computation wants.
use Rattle.std.specs.Prelude.{ℕ}
use Rattle.rows.specs.Rows as rows
use Rattle.rows.specs.Columns as columns

unfoldable pub rows_open : ℕ
unfolding
    rows.dot rows.value rows.values rows.plus rows.scaled rows.constant_row rows.add rows.scale rows.combine rows.substitute
    rows.substitute_all rows.all_zero rows.agree rows.fits_constant rows.refutes rows.yields_by
    columns.unit columns.column columns.columns columns.zeros
rows_open = 0
