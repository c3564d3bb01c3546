-- Where the column is the one that is assigned, the expression stands for it; any other stays.
use Rattle.std.proofs.Common.{drop}
use Rattle.rows.specs.Rows.{substitute}
use Rattle.rows.specs.Columns.{columns as block}
use Rattle.words.specs.RowWords.{row_of}
use Rattle.images.proofs.ImageColumns.{column_there, expression_there, assigned_here, assigned_other}
use Rattle.images.proofs.used_columns.assigned_column.Goals as goal

pub returns-then-c-k : goal.returns-then-c-k
returns-then-c-k c =
    λ words x.
    let a = c.args in
    expression_there a.place (assigned_here a.k a.i a.c (substitute (block a.k a.k) (row_of a.k (drop a.place words))) c.requires.i_lt_k.0 c.if-c-k.true) x

pub returns : goal.returns
returns c =
    λ words x.
    let a = c.args in
    column_there a.c (assigned_other a.k a.i a.c (substitute (block a.k a.k) (row_of a.k (drop a.place words))) c.requires.c_bound c.if-c-k.false) c.requires.c_bound
