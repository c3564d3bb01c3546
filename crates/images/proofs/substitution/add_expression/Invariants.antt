-- After the constant and i coefficients the target has the sum's entries up to there; those that were passed over are its own.
use Rattle.std.proofs.Common.{◌≡◌, ◌+◌}
use Rattle.words.specs.Words.{word}
use Rattle.images.proofs.ExpressionEntries.{reached}
use Rattle.images.proofs.substitution.add_expression.Given as goal

abbrev pub invariant-loop-i : goal.invariant-loop-i
invariant-loop-i l = l.target ≡ reached l.words l.place l.k l.columns (word l.rows l.at) l.fn.target (1 + l.k + l.i)
