-- The line of a refusal, from the words: "for 3 its row's first word, whatever the kind, if there and in range; for the others", 10 to 12, "that
-- of the vertex being left, if a statement; else 0, as in all other answers". A line comes with the test that fails: those of statements have
-- one, and those of a vertex arrived at; what a replay stands at, and so leaves, is what its run stands at.
use Rattle.std.specs.Prelude.{◌≡◌, refl, List, ℕ, ◌+◌, ◌≤◌, ℤ, length}
use Rattle.std.proofs.Common.{sym, ap, subst, ◌∙◌, arith}
use Rattle.words.specs.Tests.{Refusal, first_failure, refusal_on}
use Rattle.words.specs.Answer.{refused}
use Rattle.programs.specs.ProgramWords.{n}
use Rattle.programs.specs.ProgramForm.{ProgramForm}
use Rattle.programs.specs.Lines.{RowLine, VertexLine}
use Rattle.programs.proofs.Lines.{row_line_lem, vertex_line}
use Rattle.certificates.specs.CertificateWords.{stored_form, witness_words}
use Rattle.certificates.specs.CertificateTests.{answer_in, certificate_tests, certificate_answer}
use Rattle.certificates.proofs.Conclusions.{refusals}
use Rattle.traces.specs.TraceTests.{trace_tests}
use Rattle.traces.specs.TracedRuns.{Traced}
use Rattle.traces.specs.Replay.{trace_answer}
use Rattle.traces.specs.ReplayRefusals.{Ends, line_left, first_not_one, not_allowed, too_deep, missing, too_large}
use Rattle.checker.specs.Demand2.{listed_entailments}
use Rattle.checker.proofs.RefusedTraces.{replayed_number, replayed_line}
use Rattle.checker.proofs.EachRefusal.{refused_after, each_of_check, each_of_certificate, each_of_trace}
use Rattle.checker.proofs.Refusals.{refused_three, refused_replay}
use Rattle.checker.specs.Check.{check}
use Rattle.checker.specs.Lines.{LineLeft, NoLine, at_first, at_later}

module _ (program witness : List ℤ) where
  certificate_line : (r : Refusal) → certificate_answer program witness ≡ refused r → NoLine r
  unfolding answer_in
  certificate_line r =
      refused_after r (first_failure (certificate_tests program witness)) _
      (each_of_certificate NoLine program witness (λ three later. refl) (stored_form witness) (λ place three later. refl) (λ place three later. refl) (λ place three later. refl) r)
      (λ q e three later. (refusals (listed_entailments program witness) (witness_words program witness) (length witness) r e).1)

  module _ (buffer : ℕ) (r : Refusal) where
    trace_line : ProgramForm program → trace_answer program witness buffer ≡ refused r → NoLine r
    unfolding trace_answer
    trace_line f =
        refused_after r (first_failure (trace_tests program witness)) _ (each_of_trace NoLine program witness (λ three later. refl) (λ place three later. refl) r)
        (λ q e three later. replayed_line program witness buffer f r q e (later (replayed_number program witness buffer f r q e).0))

    -- "else 0, as in all other answers"
    pub line_none : check program witness buffer ≡ refused r → NoLine r
    line_none =
        each_of_check NoLine program (λ three later. refl) (λ place three later. refl) (λ place line three later. absurd (three refl)) witness buffer r trace_line
        (certificate_line r)

    -- ---- 3

    -- "for 3 its row's first word, whatever the kind, if there and in range; .. else 0"; the place is that of the statement's kind word
    pub line_three : check program witness buffer ≡ refused r → r.number ≡ 3 → (v : ℕ) × (1 ≤ v) × (v ≤ n program) × (r.place ≡ 3 + v) × RowLine program v r.line
    line_three e q =
        let whole : r ≡ refusal_on 3 r.place r.line = λ i. refusal_on (q i) r.place r.line in
        let x = ((refused_three program witness buffer r.place r.line).0 (e ∙ ap refused whole)).first in
        (x.index, x.low, x.high, x.wrong.0, subst (RowLine program x.index) (sym x.wrong.1) (row_line_lem program x.index))

    -- "for the others that of the vertex being left, if a statement; else 0"
    pub line_left_lem : check program witness buffer ≡ refused r → 10 ≤ r.number → r.number ≤ 12 → (LineLeft program witness buffer r)
    line_left_lem e l h = let (f, x) = (refused_replay program witness buffer r l h).0 e in go f.program_form x h refl
      where
        left : ProgramForm program → (i : ℕ) (x : Traced program witness i) → r.line ≡ line_left program witness x → VertexLine program x.state.top.vertex r.line
        left f i x e = subst (VertexLine program x.state.top.vertex) (sym e) (vertex_line program x.state.top.vertex f)

        go : ProgramForm program → {q : Refusal} → Ends program witness q → q.number ≤ 12 → r ≡ q → (LineLeft program witness buffer r)
        go f (first_not_one h) m e = at_first (ap (λ (q : Refusal). q.place) e) (ap (λ (q : Refusal). q.line) e)
        go f (not_allowed i l x h) m e = at_later i x (ap (λ (q : Refusal). q.place) e) (left f i x (ap (λ (q : Refusal). q.line) e))
        go f (too_deep i l x t k h) m e = at_later i x (ap (λ (q : Refusal). q.place) e) (left f i x (ap (λ (q : Refusal). q.line) e))
        go f (missing i l x t k h z) m e = absurd (omega arith)
        go f (too_large i l x t k after u h v) m e = at_later i x (ap (λ (q : Refusal). q.place) e) (left f i x (ap (λ (q : Refusal). q.line) e))
