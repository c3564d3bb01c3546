-- After i turns i coefficients are 0; one that isn't decides.
use Rattle.std.proofs.Common.{◌≡◌, ◌+◌, true}
use Rattle.words.specs.Words.{all_small}
use Rattle.words.specs.RowWords.{constant_words}
use Rattle.certificate_form.proofs.entries.row_varies.Given as goal

abbrev pub invariant-loop-i : goal.invariant-loop-i
invariant-loop-i l = all_small l.rows 0 (l.at + constant_words) l.i ≡ true
