-- Three blocks of rows: the globals now, the actuals, and columns behind the path's.
use Rattle.std.proofs.Common.{◌+◌, ◌*◌, ◌-◌, arith}
use Rattle.words.specs.RowForm.{Expression}
use Rattle.images.proofs.ImageColumns.{column_there, expression_there, entered_global, entered_actual, entered_fresh}
use Rattle.images.proofs.used_columns.entered_column.Goals as goal

pub returns-then-c-s : goal.returns-then-c-s
returns-then-c-s c =
    λ fresh h.
    let a = c.args in
    column_there (a.s.k + a.c) (entered_global a.words.now a.s a.place fresh a.c c.if-c-s.true) (omega arith)

pub returns-then-actual-s : goal.returns-then-actual-s
returns-then-actual-s c =
    λ fresh h.
    let a = c.args in
    let actual = a.c - a.s.globals in
    let here : Expression a.words.now (a.place + actual * c.row_words.result) a.s.k = rw c.row_words.ensures (c.requires.expressions.each actual (omega arith)) in
    expression_there (a.place + actual * c.row_words.result)
    (rw c.row_words.ensures (entered_actual a.words.now a.s a.place fresh a.c (omega arith) c.if-actual-s.true)) here

pub returns : goal.returns
returns c =
    λ fresh h.
    let a = c.args in
    column_there (a.s.k + a.s.k + (a.c - a.s.globals - a.s.parameters)) (entered_fresh a.words.now a.s a.place fresh a.c (omega arith) (omega arith) h) (omega arith)
