-- After i turns the loop knows whether i rows vary.
use Rattle.std.proofs.Common.{◌≡◌, ◌+◌, drop}
use Rattle.words.specs.RowWords.{rows_of}
use Rattle.certificates.specs.Certificate.{rows_vary}
use Rattle.certificate_form.proofs.entries.disjunct_varies.Given as goal

abbrev pub invariant-loop-i : goal.invariant-loop-i
invariant-loop-i l = l.all ≡ rows_vary (rows_of l.columns l.i (drop (l.at + 1) l.rows))
