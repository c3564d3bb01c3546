-- What the replay by the grammar promises (document 02, CR 10), and what is promised of the report's valid paths. `replay_by_grammar`, which reads a
-- trace by the nonterminals V and M, and `replay` have one contract, `Replays`, and nothing else is used of them; of `check` it is `Checked`. Runs are
-- the report's valid paths (programs/ReportPaths: `runs_are_valid_paths`): so after trace the error vertex is reachable in the report's own sense, and
-- after safe it isn't.
use Rattle.std.specs.Prelude.{◌≡◌, ◌↔◌, ◌≢◌, List, ◌++◌, ℕ, ℤ, pos, T, length, take, drop}
use Rattle.std.proofs.Math.Path.{refl, sym, ap}
use Rattle.std.proofs.Common.{ap₂, ◌∙◌, subst, arith, length-append, length-take, length-drop, take-append-drop}
use Rattle.basics.proofs.Booleans.{is_true}
use Rattle.basics.specs.Integers.{eq_z}
use Rattle.basics.proofs.Integers.{eq→eqZ}
use Rattle.words.specs.Words.{word}
use Rattle.words.specs.Tests.{first_failure, refusal_at}
use Rattle.words.specs.Answer as answers
use Rattle.words.specs.AnswerLaws.{is_trace}
use Rattle.words.proofs.AnswerLaws.{accepted_after}
use Rattle.programs.specs.Program.{Program, locals_of, parameters_of, formed}
use Rattle.programs.specs.ProgramTests.{program_tests}
use Rattle.programs.specs.ProgramForm.{ProgramForm}
use Rattle.programs.proofs.ProgramForm.{program_form_lem}
use Rattle.programs.proofs.FormLaws.{some_procedure_lem, parameters_fit}
use Rattle.programs.proofs.DecodedNumbers as numbers
use Rattle.programs.proofs.Formed.{program_formed}
use Rattle.programs.specs.Decode as decode
use Rattle.programs.specs.Runs.{State, entered, Run, initial}
use Rattle.programs.specs.ValidPaths.{Label, labels, Valid}
use Rattle.programs.specs.ReportPaths.{ReportState, report_state, ReportPath, RunAs}
use Rattle.programs.proofs.ReportPaths.{runs_are_valid_paths}
use Rattle.certificates.specs.Claim.{error_vertex}
use Rattle.traces.specs.TraceWords.{trace_mark, N, start_globals, start_arguments, start_others}
use Rattle.traces.specs.TraceTests.{trace_tests}
use Rattle.traces.proofs.TraceForm.{trace_form_lem}
use Rattle.traces.proofs.TraceRefusals.{first_four}
use Rattle.traces.specs.Replay.{replay_answer, replayed_to, trace_answer}
use Rattle.traces.proofs.StartValues.{globals_length_lem, arguments_length, others_length}
use Rattle.traces.specs.TracedRuns.{listed_start, TracedRun}
use Rattle.traces.proofs.TracedLabels.{traced_labels}
use Rattle.traces.specs.Stretches.{labels_to}
use Rattle.checker.specs.Check.{check, replayed, buffer_after, checked_buffer}
use Rattle.checker.specs.Demand2Traces as traces
use Rattle.answers.specs.Answers.{answer_of}
use Rattle.answers.specs.declared.Answer.{Answer}
use Rattle.answers.specs.declared.Answer.TheVariants.{Safe, Trace}
use Rattle.leukarion.specs.Promises.{answered, same_answer, refuse, Checked, answers_as, safe_answered, trace_answered, safe_reach}

-- ---- the contract of both replays

-- what `replay` and `replay_by_grammar` in replay/src/lib.rt promise of the answer r and of the buffer afterwards
pub record Replays (program witness buffer : List ℤ) (r : Answer) (after : List ℤ) : Type 0 where
  pub answer : answer_of r ≡ replayed program witness (length buffer)
  pub result : after ≡ buffer_after program witness (answer_of r) buffer

-- "For every program, sheet and room it must return the first replay's answer, refusals, places and room."
pub same_replays : {program witness buffer after after' : List ℤ} {r r' : Answer} → Replays program witness buffer r after → Replays program witness buffer r' after' → (r ≡ r') × (after ≡ after')
same_replays {program} {witness} {buffer} {r = r} {r' = r'} c d = (
  sym (same_answer r) ∙ (ap answered (c.answer ∙ sym d.answer) ∙ same_answer r'),
  c.result ∙ (ap (λ (a : answers.Answer). buffer_after program witness a buffer) (c.answer ∙ sym d.answer) ∙ sym d.result),
)

-- ---- against `check`

module _ (program witness : List ℤ) where
  trace_checked : (buffer : ℕ) → word witness 0 ≡ pos trace_mark → check program witness buffer ≡ replayed program witness buffer
  unfolding check
  trace_checked buffer k = rw (is_true (eq_z (word witness 0) (pos trace_mark)) (eq→eqZ k)) refl

  -- trace is answered to traces alone
  is_trace_lem : (buffer steps : ℕ) → replayed program witness buffer ≡ answers.trace steps → word witness 0 ≡ pos trace_mark
  unfolding replayed trace_answer
  is_trace_lem buffer steps e =
      let x = (accepted_after (first_failure (program_tests program)) (trace_answer program witness buffer) (is_trace {steps = steps})).0 e in
      let y = (accepted_after (first_failure (trace_tests program witness)) (replay_answer (N program witness) (length witness) buffer (replayed_to program witness (N program witness))) (is_trace {steps = steps})).0 x.1 in
      ((trace_form_lem program witness).0 y.0).header.mark

  other_refused : (buffer : ℕ) → ProgramForm program → ¬ (word witness 0 ≡ pos trace_mark) → replayed program witness buffer ≡ answers.refused (refusal_at 4 0)
  unfolding replayed trace_answer answers.answer_after
  other_refused buffer f other = rw ((program_form_lem program).1 f, (first_four program witness 0).1 (refl, λ h. other h.mark)) refl

module _ {program witness buffer after : List ℤ} {r : Answer} (c : Replays program witness buffer r after) where
  -- to a trace a replay answers as `check` does, so that all that is promised of `check` holds
  pub replay_checked : word witness 0 ≡ pos trace_mark → Checked program witness buffer r after
  unfolding checked_buffer
  replay_checked k =
      let e = c.answer ∙ sym (trace_checked program witness (length buffer) k) in
      record { answer = e; result = c.result ∙ ap (λ (a : answers.Answer). buffer_after program witness a buffer) e }

  pub same_check : word witness 0 ≡ pos trace_mark → {r' : Answer} {after' : List ℤ} → Checked program witness buffer r' after' → (r ≡ r') × (after ≡ after')
  same_check k {r'} d = let e = replay_checked k in ((answers_as e r').1 (sym d.answer), e.result ∙ sym d.result)

  -- a certificate, and whatever is no trace, is refused with 4 at 0, if the program has the form
  pub replay_other : ProgramForm program → ¬ (word witness 0 ≡ pos trace_mark) → r ≡ refuse 4 0
  replay_other f other = sym (same_answer r) ∙ ap answered (c.answer ∙ other_refused program witness (length buffer) f other)

  -- Demand 2 for a replay
  pub replay_answered : (steps : ℕ) → (r ≡ Trace steps) ↔ traces.Replays program witness (length buffer) steps
  replay_answered steps = (
    λ e. (trace_answered (replay_checked (is_trace_lem program witness (length buffer) steps (sym c.answer ∙ ap answer_of e))) steps).0 e,
    λ x. (trace_answered (replay_checked x.forms.trace_form.header.mark) steps).1 x,
  )

-- ---- the report's valid paths

-- an initial state: main's first vertex, any globals and any locals of main
pub record InitialState (p : Program) (x : ReportState) : Type 0 where
  pub at_first : x.vertex ≡ 1
  pub globals_width : length x.globals ≡ p.globals
  pub locals_width : length x.locals ≡ locals_of p 1

-- "A state ⟨i, ω⟩ is reachable iff there exists a valid path from some initial state to ⟨i, ω⟩."
pub record Reachable (p : Program) (y : ReportState) : Type 0 where
  pub first : ReportState
  pub begins : InitialState p first
  pub string : List Label
  pub path : ReportPath p first string y
  pub valid : Valid string

-- by a run, and no other states are
reached_run : (p : Program) → T (formed p) → (y : ReportState) → Reachable p y → (s : State) × Run p s × (report_state s ≡ y)
unfolding initial entered
reached_run p f y x =
    let globals = x.first.globals in
    let arguments = take (parameters_of p 1) x.first.locals in
    let others = drop (parameters_of p 1) x.first.locals in
    let fit = parameters_fit p f 1 (omega arith) (some_procedure_lem p f) in
    let all : arguments ++ others ≡ x.first.locals = take-append-drop (parameters_of p 1) x.first.locals in
    let is : x.first ≡ report_state (initial globals arguments others) = ap₂ (λ (v : ℕ) (l : List ℤ). record { vertex = v; globals = globals; locals = l }) x.begins.at_first (sym all) in
    let r = (runs_are_valid_paths p f globals arguments others x.begins.globals_width (simp length-take (omega (arith, x.begins.locals_width))) (simp length-drop (omega (arith, x.begins.locals_width))) x.string y).0
    (subst (λ (z : ReportState). ReportPath p z x.string y) is x.path, x.valid) in
    (r.state, r.run, r.stands)

-- the run of an accepted trace: a path of the report from the listed start, whose labels are a string of V and the ones that are read in the replay
pub record ValidTrace (program witness : List ℤ) (x : TracedRun program witness) : Type 0 where
  pub begins : InitialState (decode.program program) (report_state (listed_start program witness))
  pub path : ReportPath (decode.program program) (report_state (listed_start program witness)) (labels x.failing.traced.run) (report_state x.failing.traced.state)
  pub valid : Valid (labels x.failing.traced.run)
  pub read : labels x.failing.traced.run ≡ labels_to program witness 0 (N program witness)

valid_trace : (program witness : List ℤ) → traces.TraceForms program witness → (x : TracedRun program witness) → ValidTrace program witness x
unfolding listed_start decode.program initial entered
valid_trace program witness forms x =
    let f = forms.program_form in
    let g = forms.trace_form in
    let t = x.failing.traced in
    let some = numbers.some_procedure_lem program f in
    let fit = parameters_fit (decode.program program) (program_formed program f) 1 (omega arith) (some_procedure_lem (decode.program program) (program_formed program f)) in
    let arguments = arguments_length program witness f g ∙ sym (numbers.parameters_of_lem program 1 (omega arith) some) in
    let others = others_length program witness f g ∙ sym (numbers.others_of_lem program 1 (omega arith) some) in
    let taken : RunAs (decode.program program) (listed_start program witness) (labels t.run) (report_state t.state) = record { state = t.state; run = t.run; begins = t.begins; labelled = refl; stands = refl } in
    let y = (runs_are_valid_paths (decode.program program) (program_formed program f) (start_globals program witness) (start_arguments program witness) (start_others program witness) (globals_length_lem program witness f g) arguments others _ _).1 taken in
    record {
      begins = record { at_first = refl; globals_width = globals_length_lem program witness f g; locals_width = simp length-append (omega arith) };
      path = y.0;
      valid = y.1;
      read = traced_labels program witness f g (N program witness) t (omega arith);
    }

-- by either replay
pub replay_valid : {program witness buffer after : List ℤ} {r : Answer} (c : Replays program witness buffer r after) (steps : ℕ) (e : r ≡ Trace steps) → ValidTrace program witness ((replay_answered c steps).0 e).run
replay_valid {program} {witness} c steps e = let x = (replay_answered c steps).0 e in valid_trace program witness x.forms x.run

module _ {program witness buffer after : List ℤ} {r : Answer} (c : Checked program witness buffer r after) where
  -- "Runs are 000's valid paths, generated from V"
  pub trace_valid : (steps : ℕ) (e : r ≡ Trace steps) → ValidTrace program witness ((trace_answered c steps).0 e).run
  trace_valid steps e = let x = (trace_answered c steps).0 e in valid_trace program witness x.forms x.run

  -- "A vertex is reachable iff there exists a valuation ω such that ⟨i, ω⟩ is reachable": after trace the error vertex is
  pub trace_reaches : (steps : ℕ) → r ≡ Trace steps → (y : ReportState) × Reachable (decode.program program) y × (y.vertex ≡ error_vertex)
  trace_reaches steps e =
      let x = ((trace_answered c steps).0 e).run in
      let v = trace_valid steps e in
      (report_state x.failing.traced.state, record { first = report_state (listed_start program witness); begins = v.begins; string = labels x.failing.traced.run; path = v.path; valid = v.valid }, x.failing.fails)

  -- and after safe it isn't
  pub safe_unreachable : (count : ℕ) → r ≡ Safe count → (y : ReportState) → Reachable (decode.program program) y → y.vertex ≢ error_vertex
  safe_unreachable count e y x q =
      let (s, run, stands) = reached_run (decode.program program) (program_formed program ((safe_answered c count).0 e).forms.program_form) y x in
      (safe_reach c count e run).no_error (ap (λ (y : ReportState). y.vertex) stands ∙ q)
