-- The row is added as what it is: a column, or an expression.
use Rattle.images.specs.Becoming.{becomes_row, BecomesForm}
use Rattle.images.proofs.used_columns.add_used.Goals as goal

pub add_column-requires-clause-at_in_bounds : goal.add_column-requires-clause-at_in_bounds
unfolding BecomesForm
add_column-requires-clause-at_in_bounds c = (c.requires.at_in_bounds.0, rw c.in-Column.is at c.requires.becomes_form)

pub add_expression-requires-clause-expression : goal.add_expression-requires-clause-expression
unfolding BecomesForm
add_expression-requires-clause-expression c = rw c.in-Expression.is at c.requires.becomes_form

pub returns-in-Column : goal.returns-in-Column
unfolding becomes_row
returns-in-Column c = rw c.in-Column.is c.add_column.ensures

pub returns-in-Expression : goal.returns-in-Expression
unfolding becomes_row
returns-in-Expression c = rw c.in-Expression.is c.add_expression.ensures
