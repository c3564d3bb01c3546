-- By whether there are targets: an entry that has some has its 8 bytes.
use Rattle.kept_witnesses.specs.KeptWords.{first_none, first_some}
use Rattle.kept_witnesses.proofs.first_byte.Goals as goal

pub returns-then-e-eq0-clause-value : goal.returns-then-e-eq0-clause-value
returns-then-e-eq0-clause-value c = first_none c.args.e.count c.args.entry c.if-e-eq0.true

pub returns-clause-value : goal.returns-clause-value
returns-clause-value c = first_some c.args.e.count c.args.entry c.if-e-eq0.false
