-- `certificate_form::disjunct_varies` meets its contract. After i turns the loop knows whether i rows vary.
use Rattle.std.proofs.Common.{◌+◌, sym}
use Rattle.words.specs.declared.StoredForm.TheVariants.{Dense}
use Rattle.certificate_form.specs.VaryingLaws.{rows_vary_none, rows_vary_next}
use Rattle.certificate_form.proofs.entries.disjunct_varies.Goals as goal

pub loop-i-init : goal.loop-i-init
loop-i-init c = sym (rows_vary_none Dense c.args.rows.now c.args.columns (c.args.at + 1))

pub loop-i-preserved : goal.loop-i-preserved
loop-i-preserved c = rw (rows_vary_next Dense) (cc)
