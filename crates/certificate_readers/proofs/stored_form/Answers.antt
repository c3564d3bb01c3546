-- The kind is 4 or not: the test of the range from 4 to 4 is that of the one number.
use Rattle.std.proofs.Common.{◌≡◌, sym, ap, ◌∙◌, Bool, cond}
use Rattle.words.specs.Words.{word}
use Rattle.words.proofs.Ranges.{exact_word}
use Rattle.words.specs.declared.StoredForm.TheVariants.{Dense, Sparse}
use Rattle.certificates.specs.CertificateWords.{sparse_mark, stored_form}
use Rattle.certificate_readers.proofs.stored_form.Goals as goal
use Rattle.certificate_readers.proofs.stored_form.Goals.{After-word_within-sparse}

-- the form, by the test
tested : (c : After-word_within-sparse) → cond c.word_within-sparse.result Sparse Dense ≡ stored_form c.args.witness.now
tested c = ap (λ (b : Bool). cond b Sparse Dense) (c.word_within-sparse.ensures ∙ exact_word sparse_mark (word c.args.witness.now 0))

pub returns-then-sparse : goal.returns-then-sparse
returns-then-sparse c = sym (ap (λ (b : Bool). cond b Sparse Dense) c.if-sparse.true) ∙ tested (goal.at.returns-then-sparse c).After-word_within-sparse

pub returns : goal.returns
returns c = sym (ap (λ (b : Bool). cond b Sparse Dense) c.if-sparse.false) ∙ tested (goal.at.returns c).After-word_within-sparse
