-- What each refusal says, for all words and every buffer: it is "the refusal, number and place, of the first of the papers' tests, in their
-- order, that fails". Each is answered if and only if what is tested before has the form and this is the first failure. A refusal comes from
-- one part of the check, and only after the parts before it passed: the program's tests (1 to 3), a certificate's tests (4, 5, 25, 15), its
-- judgement (6 to 8), a trace's tests (4, 9), its replay (10 to 14). So the number tells the part, and at 4 the mark of the witness does.
use Rattle.std.specs.Prelude.{◌≡◌, ◌⊎◌, List, ℤ, pos}
use Rattle.words.specs.Words.{word}
use Rattle.programs.specs.ProgramForm.{ProgramForm}
use Rattle.certificates.specs.CertificateForm.{CertificateHeader}
use Rattle.certificates.specs.CertificateRefusals as certificates
use Rattle.traces.specs.TraceWords.{trace_mark}
use Rattle.traces.specs.TraceForm.{TraceHeader}
use Rattle.traces.specs.TraceRefusals as traces

module _ (program witness : List ℤ) where
  -- "witness sheet: kind, sizes or total wrong": a trace's, or a certificate's, as which any other mark is tested
  pub record HeaderFails : Type 0 where
    pub program_form : ProgramForm program
    pub wrong : ((word witness 0 ≡ pos trace_mark) × ¬ TraceHeader program witness) ⊎ (¬ (word witness 0 ≡ pos trace_mark) × ¬ CertificateHeader program witness)
