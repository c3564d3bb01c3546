-- The entry is tested as its form asks.
use Rattle.certificate_form.specs.FreePlaces.{free_after}
use Rattle.certificate_form.proofs.entry_tested.Goals as goal

pub returns-in-Dense : goal.returns-in-Dense
unfolding free_after
returns-in-Dense c = rw c.in-Dense.is c.dense_tested.ensures
