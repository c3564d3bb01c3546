-- Globals and actuals, and a block of columns behind them.
use Rattle.images.proofs.SumLaws.{put_in}
use Rattle.images.proofs.substitution.put_called.Goals as goal

pub returns : goal.returns
returns c = put_in c.begin-at.ensures c.add_entered.ensures
