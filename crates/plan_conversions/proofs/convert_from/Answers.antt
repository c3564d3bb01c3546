-- Each form has its converter.
use Rattle.std.proofs.Common.{length, subst, sym}
use Rattle.words.specs.declared.StoredForm.{StoredForm}
use Rattle.answers.specs.Written.{Wrote}
use Rattle.conversions.specs.Conversions.{converted, to_sparse, to_dense}
use Rattle.plan_conversions.proofs.convert_from.Goals as goal

pub returns-in-Dense : goal.returns-in-Dense
unfolding to_sparse
returns-in-Dense c =
    let r = c.to_sparse in
    let s = c.args in
    subst (λ (form : StoredForm). Wrote (converted s.program.now s.certificate.now form (length s.buffer.now)) s.buffer.now r.result r.new.buffer) (sym c.in-Dense.is)
    (record { answer = r.ensures.value; result = r.ensures.buffer_after })

pub returns-in-Sparse : goal.returns-in-Sparse
unfolding to_dense
returns-in-Sparse c =
    let r = c.to_dense in
    let s = c.args in
    subst (λ (form : StoredForm). Wrote (converted s.program.now s.certificate.now form (length s.buffer.now)) s.buffer.now r.result r.new.buffer) (sym c.in-Sparse.is)
    (record { answer = r.ensures.value; result = r.ensures.buffer_after })
