-- What the answers of `check` promise: demands 1 to 3, in the words of the demands. `r` is what the function gives back for a program, a
-- witness (a certificate or a trace) and a result buffer, and `after` the buffer then; all that is used of them is the contract of `check` in
-- src/lib.rt. The claims hold for every three slices, and are the theorems of `checker`: Demand2 (safe), Demand2Traces (trace), Refusals, Lines,
-- RefusalNumbers, Entailed, Demand3, Consistency; the buffer is as the contract says. That `check` ends and leaves its two inputs alone needs no
-- claim: each function is proved to end, and these slices are only read.
use Rattle.std.specs.Prelude.{◌≡◌, refl, ◌↔◌, ◌⊎◌, ℕ, ◌+◌, ◌*◌, ◌≤◌, ◌<◌, ℤ, length, drop}
use Rattle.std.proofs.Common.{sym, ap, ◌∙◌}
use Rattle.std.proofs.Math.Logic.Iff.{trans as iff_trans}
use mathlib.Core.List.{List, ◌++◌, Memᴰ}
use Rattle.rows.specs.Rows.{values, Holds}
use Rattle.rows.specs.Rounding.{not_below}
use Rattle.words.specs.Tests.{refusal_at}
use Rattle.words.specs.Answer as answers
use Rattle.programs.specs.ProgramForm.{SizesForm, ProgramForm}
use Rattle.programs.specs.ProgramRefusals.{ExitFails, StatementFails}
use Rattle.programs.specs.Program.{width_of}
use Rattle.programs.specs.ProgramWords.{n}
use Rattle.programs.specs.Lines.{RowLine}
use Rattle.programs.specs.Decode as decode
use Rattle.programs.specs.Runs.{State, Run, values_now, entry_values}
use Rattle.certificates.specs.Certificate.{path_edges, summary_edges, Meets}
use Rattle.certificates.specs.Entailments.{Entailment}
use Rattle.certificates.specs.CertificateWords.{stored_form, certificate}
use Rattle.certificates.specs.CertificateForm.{CertificateHeader}
use Rattle.certificates.specs.CertificateRefusals.{EntryFails, EntryLoose, EntryConstant, RowsLeft}
use Rattle.certificates.specs.ConstantRows.{HasConstant}
use Rattle.certificates.specs.Claim.{Within}
use Rattle.traces.specs.TraceWords.{entry_values_from, listed_entry_values}
use Rattle.traces.specs.TraceRefusals.{ValueFails}
use Rattle.traces.specs.ReplayRefusals.{Ends}
use Rattle.checker.specs.Check.{check, buffer_after, checked_buffer}
use Rattle.checker.specs.CountBound as bound
use Rattle.checker.proofs.CountBound as bound_laws
use Rattle.checker.specs.RefusalNumbers.{CheckNumber}
use Rattle.checker.proofs.RefusalNumbers.{refusal_number}
use Rattle.checker.specs.Refusals as refusals
use Rattle.checker.proofs.Refusals as refusals_laws
use Rattle.checker.specs.Lines as lines
use Rattle.checker.proofs.Lines as lines_laws
use Rattle.checker.specs.RefusedTraces.{TooShort, LeftUnused}
use Rattle.checker.specs.Demand2 as certificates
use Rattle.checker.proofs.Demand2 as certificates_laws
use Rattle.checker.proofs.Rounding as rounding
use Rattle.checker.specs.Demand2Traces as traces
use Rattle.checker.proofs.Demand2Traces as traces_laws
use Rattle.checker.proofs.Entailed.{accepted_entails}
use Rattle.checker.proofs.Demand3 as reach
use Rattle.checker.proofs.Consistency as consistency
use Rattle.checker.proofs.ConstantRows as constantRows
use Rattle.answers.specs.Answers.{answer_of, refusal_of}
use Rattle.answers.specs.declared.Answer.{Answer}
use Rattle.answers.specs.declared.Answer.TheVariants.{Safe, Trace, Refused}
use Rattle.answers.specs.declared.Refusal.{Refusal}

-- ---- the answer of the code, and that of the definition

abbrev pub answered : answers.Answer → Answer
answered (answers.safe count) = Safe count
answered (answers.trace steps) = Trace steps
answered (answers.refused q) = Refused (record { number = q.number; place = q.place; line = q.line })

pub same_answer : (r : Answer) → answered (answer_of r) ≡ r
same_answer (Safe count) = refl
same_answer (Trace steps) = refl
same_answer (Refused q) = refl

-- a refusal, by its number, its place and its line; most have none
abbrev pub refuse_on : ℕ → ℕ → ℕ → Answer
refuse_on number place line = Refused (record { number = number; place = place; line = line })

abbrev pub refuse : ℕ → ℕ → Answer
refuse number place = refuse_on number place 0

-- ---- the contract of `check`

-- what `check` in src/lib.rt promises of its answer r and of the buffer afterwards: its `ensures` is this record
pub record Checked (program witness buffer : List ℤ) (r : Answer) (after : List ℤ) : Type 0 where
  pub answer : answer_of r ≡ check program witness (length buffer)
  pub result : after ≡ checked_buffer program witness buffer

-- ---- the promises

module _ {program witness buffer after : List ℤ} {r : Answer} (c : Checked program witness buffer r after) where
  -- an answer of the code, as one of the definition
  pub answers_as : (a : Answer) → (r ≡ a) ↔ (check program witness (length buffer) ≡ answer_of a)
  answers_as a = (λ e. sym c.answer ∙ ap answer_of e, λ e. sym (same_answer r) ∙ (ap answered (c.answer ∙ e) ∙ same_answer a))

  -- Demand 2: "Safe, with the number of entailments, is answered if and only if both sheets have the form and every entailment listed in
  -- document 01 has a witness there that works, in its turn, with no word left."
  pub safe_answered : (count : ℕ) → (r ≡ Safe count) ↔ certificates.Witnessed program witness count
  safe_answered count = iff_trans (answers_as (Safe count)) (certificates_laws.safe_answered program witness (length buffer) count)

  -- "All that was accepted is accepted still": by witnesses that work without rounding
  pub safe_still : (count : ℕ) → certificates.WitnessedBy program witness not_below count → r ≡ Safe count
  safe_still count a = (answers_as (Safe count)).1 (rounding.accepted_still program witness (length buffer) count a)

  -- "The answer safe carries the entailment count, at most 1 + 9 × (path disjuncts)."
  pub safe_count : (count : ℕ) → r ≡ Safe count → count ≤ 1 + 9 * bound.path_disjuncts program witness
  safe_count count e = bound_laws.safe_count program witness (length buffer) count ((answers_as (Safe count)).0 e)

  -- Demand 2: "Trace is answered if and only if both have the form, the room suffices and the listed vertices are a run by the Linear
  -- Programs report, as document 01 condenses it, from the listed start to the error vertex, inside the stated depth and value limits."
  pub trace_answered : (steps : ℕ) → (r ≡ Trace steps) ↔ traces.Replays program witness (length buffer) steps
  trace_answered steps = iff_trans (answers_as (Trace steps)) (traces_laws.trace_answered program witness (length buffer) steps)

  -- the values that its calls are entered with are the listed entry values, no more and no fewer
  pub trace_entries : (steps : ℕ) (e : r ≡ Trace steps) → entry_values ((trace_answered steps).0 e).run.failing.traced.run ≡ listed_entry_values program witness
  trace_entries steps e = traces_laws.entered_with_lem program witness ((trace_answered steps).0 e).run

  -- Demand 1: "after safe or a refusal the result room is as it came"
  pub safe_buffer : (count : ℕ) → r ≡ Safe count → after ≡ buffer
  unfolding checked_buffer buffer_after
  safe_buffer count e = rw ((answers_as (Safe count)).0 e) at c.result

  pub refused_buffer : (q : Refusal) → r ≡ Refused q → after ≡ buffer
  unfolding checked_buffer buffer_after
  refused_buffer q e = rw ((answers_as (Refused q)).0 e) at c.result

  -- Demand 1: "after trace its front holds the last values and the rest is as it came": those of the state that the run ends in
  pub trace_buffer : (steps : ℕ) (e : r ≡ Trace steps) → let s = ((trace_answered steps).0 e).run.failing.traced.state in after ≡ values_now s ++ drop (length (values_now s)) buffer
  trace_buffer steps e = c.result ∙ traces_laws.trace_buffer program witness buffer steps ((trace_answered steps).0 e)

  -- which are "the k values at the failed assertion", with the k of the procedure that it stands in
  pub trace_width : (steps : ℕ) (e : r ≡ Trace steps) → let s = ((trace_answered steps).0 e).run.failing.traced.state in length (values_now s) ≡ width_of (decode.program program) s.top.procedure
  trace_width steps e = let t = (trace_answered steps).0 e in traces_laws.trace_width program witness t.forms.program_form t.run

  -- Demand 1: "the refusal, number and place, of the first of the papers' tests, in their order, that fails", by the table "Why a sheet is
  -- turned down", which has no other numbers
  pub refused_number : (q : Refusal) → r ≡ Refused q → CheckNumber (refusal_of q)
  refused_number q e = refusal_number program witness (length buffer) (refusal_of q) ((answers_as (Refused q)).0 e)

  -- "program under 4 words, a size beyond its limit, or wrong total"
  pub refused_one : (place : ℕ) → (r ≡ refuse 1 place) ↔ ((place ≡ 0) × ¬ SizesForm program)
  refused_one place = iff_trans (answers_as (refuse 1 place)) (refusals_laws.refused_one program witness (length buffer) place)

  -- "exit: kind, row past pool, L, F or first wrong"
  pub refused_two : (place : ℕ) → (r ≡ refuse 2 place) ↔ ExitFails program place
  refused_two place = iff_trans (answers_as (refuse 2 place)) (refusals_laws.refused_two program witness (length buffer) place)

  -- "statement: kind, row past pool, or any field wrong"
  pub refused_three : (place line : ℕ) → (r ≡ refuse_on 3 place line) ↔ StatementFails program place line
  refused_three place line = iff_trans (answers_as (refuse_on 3 place line)) (refusals_laws.refused_three program witness (length buffer) place line)

  -- "witness sheet: kind, sizes or total wrong"
  pub refused_four : (place : ℕ) → (r ≡ refuse 4 place) ↔ ((place ≡ 0) × refusals.HeaderFails program witness)
  refused_four place = iff_trans (answers_as (refuse 4 place)) (refusals_laws.refused_four program witness (length buffer) place)

  -- "path or summary entry: count, words past the rows, row count, coefficient or constant"
  pub refused_five : (place : ℕ) → (r ≡ refuse 5 place) ↔ (ProgramForm program × CertificateHeader program witness × EntryFails program witness (stored_form witness) place)
  refused_five place = iff_trans (answers_as (refuse 5 place)) (refusals_laws.refused_five program witness (length buffer) place)

  -- "It refuses such a row with 15 at the entry's count word, after that entry's own tests for 5 and before the next entry."
  pub refused_fifteen : (place : ℕ) → (r ≡ refuse 15 place) ↔ (ProgramForm program × CertificateHeader program witness × EntryConstant program witness (stored_form witness) place)
  refused_fifteen place = iff_trans (answers_as (refuse 15 place)) (refusals_laws.refused_fifteen program witness (length buffer) place)

  -- "a falling or repeated column, a zero coefficient or a place, even an empty entry's, that isn't the next free one with 25 at the entry's count word,
  -- between its 5 and 15; a row word left with 25 at 1, before 6"
  pub refused_twenty_five : (place : ℕ) → (r ≡ refuse 25 place)
      ↔ (ProgramForm program × CertificateHeader program witness × (EntryLoose program witness (stored_form witness) place ⊎ RowsLeft program witness (stored_form witness) place))
  refused_twenty_five place = iff_trans (answers_as (refuse 25 place)) (refusals_laws.refused_twenty_five program witness (length buffer) place)

  -- "The entries of accepted certificates contain none from now on."
  pub safe_paths_vary : (count : ℕ) → r ≡ Safe count → (v : ℕ) → ¬ HasConstant (path_edges (certificate program witness) v)
  safe_paths_vary count e = constantRows.accepted_paths_vary program witness (length buffer) count ((answers_as (Safe count)).0 e)

  pub safe_summaries_vary : (count : ℕ) → r ≡ Safe count → (q : ℕ) → ¬ HasConstant (summary_edges (certificate program witness) q)
  safe_summaries_vary count e = constantRows.accepted_summaries_vary program witness (length buffer) count ((answers_as (Safe count)).0 e)

  -- "witness word missing or beyond its range"
  pub refused_six : (place : ℕ) → (r ≡ refuse 6 place) ↔ (certificates.Forms program witness × certificates.UnreadAt program witness place)
  refused_six place = iff_trans (answers_as (refuse 6 place)) (refusals_laws.refused_six program witness (length buffer) place)

  -- "weighted sum doesn't fit"
  pub refused_seven : (place : ℕ) → (r ≡ refuse 7 place) ↔ (certificates.Forms program witness × certificates.MisfitAt program witness place)
  refused_seven place = iff_trans (answers_as (refuse 7 place)) (refusals_laws.refused_seven program witness (length buffer) place)

  -- "words left after the last entailment"
  pub refused_eight : (place : ℕ) → (r ≡ refuse 8 place) ↔ (certificates.Forms program witness × certificates.LeftAt program witness place)
  refused_eight place = iff_trans (answers_as (refuse 8 place)) (refusals_laws.refused_eight program witness (length buffer) place)

  -- "start value beyond its limit", and "a value beyond ±1,000,000,000 .. as start values are" among the entry values
  pub refused_nine : (place : ℕ) → (r ≡ refuse 9 place) ↔ (ProgramForm program × ValueFails program witness place)
  refused_nine place = iff_trans (answers_as (refuse 9 place)) (refusals_laws.refused_nine program witness (length buffer) place)

  -- 10, 11, 12: "vertex not allowed by the rules, first not 1, last not 0"; "value beyond its limit"; "a 65th open call"
  pub refused_replay : (q : Refusal) → 10 ≤ q.number → q.number ≤ 12 → (r ≡ Refused q) ↔ (traces.TraceForms program witness × Ends program witness (refusal_of q))
  refused_replay q l h = iff_trans (answers_as (Refused q)) (refusals_laws.refused_replay program witness (length buffer) (refusal_of q) l h)

  -- "room shorter than k"
  pub refused_thirteen : (place : ℕ) → (r ≡ refuse 13 place) ↔ (traces.TraceForms program witness × TooShort program witness (length buffer) place)
  refused_thirteen place = iff_trans (answers_as (refuse 13 place)) (refusals_laws.refused_thirteen program witness (length buffer) place)

  -- "a missing entry value with 14 at the vertex arrived at, after 12 and before 11; and a left-over one with 14 at its word, before 13"
  pub refused_fourteen : (place : ℕ) → (r ≡ refuse 14 place) ↔ (traces.TraceForms program witness × (Ends program witness (refusal_at 14 place) ⊎ LeftUnused program witness place))
  refused_fourteen place = iff_trans (answers_as (refuse 14 place)) (refusals_laws.refused_fourteen program witness (length buffer) place)

  -- each of the two by itself: what is missing is refused at a vertex, what is left over behind them
  pub refused_missing : (place : ℕ) → place < entry_values_from program witness → (r ≡ refuse 14 place) ↔ (traces.TraceForms program witness × Ends program witness (refusal_at 14 place))
  refused_missing place h = iff_trans (answers_as (refuse 14 place)) (refusals_laws.refused_missing program witness (length buffer) place h)

  pub refused_left : (place : ℕ) → entry_values_from program witness ≤ place → (r ≡ refuse 14 place) ↔ (traces.TraceForms program witness × LeftUnused program witness place)
  refused_left place h = iff_trans (answers_as (refuse 14 place)) (refusals_laws.refused_left program witness (length buffer) place h)

  -- By document 02, CR 7, "Refusals 3 and 10 to 12 return the line beside the place: for 3 its row's first word, whatever the kind, if there and
  -- in range"
  pub line_three : (q : Refusal) → r ≡ Refused q → q.number ≡ 3 → (v : ℕ) × (1 ≤ v) × (v ≤ n program) × (q.place ≡ 3 + v) × RowLine program v q.line
  line_three q e = lines_laws.line_three program witness (length buffer) (refusal_of q) ((answers_as (Refused q)).0 e)

  -- "for the others that of the vertex being left, if a statement"
  pub line_left_lem : (q : Refusal) → r ≡ Refused q → 10 ≤ q.number → q.number ≤ 12 → lines.LineLeft program witness (length buffer) (refusal_of q)
  line_left_lem q e = lines_laws.line_left_lem program witness (length buffer) (refusal_of q) ((answers_as (Refused q)).0 e)

  -- "else 0, as in all other answers"
  pub line_none : (q : Refusal) → r ≡ Refused q → (q.number ≡ 3 → ⊥) → (10 ≤ q.number → 13 ≤ q.number) → q.line ≡ 0
  line_none q e = lines_laws.line_none program witness (length buffer) (refusal_of q) ((answers_as (Refused q)).0 e)

  -- By document 02, CR 5, "an accepted tree means that every whole-number state meeting the premises meets some disjunct of the target": so of
  -- each listed entailment, whose image gives the values of the target's columns
  pub safe_entails : (count : ℕ) → r ≡ Safe count → (e : Entailment) → Memᴰ e (certificates.listed_entailments program witness)
      → (s : List ℤ) → Holds s e.premises → Meets e.targets (values e.image s)
  safe_entails count e = accepted_entails program witness (length buffer) count ((answers_as (Safe count)).0 e)

  -- Demand 3: "Let a program and a certificate be accepted as safe. Take any globals and parameters of main to start from, either side at each
  -- `?`, and any list of steps (skip, assign, branch, assert, call, exit) that document 01's rules then allow, over unbounded whole numbers, to
  -- any length and depth of calls. After that list the run doesn't stand at the error vertex; each open call, taken where it stands or where
  -- it made its pending call, meets with its entry state one of its place's path edges; and each call that got to its exit met there one of
  -- its summary edges." By document 02, CR 2, it "covers every such run .. whatever the plain locals hold at main's start and at each call's
  -- entry".
  pub safe_reach : (count : ℕ) → r ≡ Safe count → {s : State} (run : Run (decode.program program) s) → Within (decode.program program) (certificate program witness) run
  safe_reach count e run = reach.demand_3 program witness (length buffer) count ((answers_as (Safe count)).0 e) run

-- Hence no program is answered safe with one witness and trace with another.
pub never_both : {program certificate witness buffer after buffer' after' : List ℤ} {r r' : Answer} {count steps : ℕ}
    → Checked program certificate buffer r after → r ≡ Safe count
    → Checked program witness buffer' r' after' → r' ≡ Trace steps → ⊥
never_both {program} {certificate} {witness} {buffer} {buffer' = buffer'} {count = count} {steps} c e c' e' =
    consistency.never_both program certificate witness (length buffer) count (length buffer') steps ((answers_as c (Safe count)).0 e) ((answers_as c' (Trace steps)).0 e')
