-- What the printed line promises: demands 2 and 3 for the bytes of two files. All that is used of `plan_line` is its contract, by which it makes
-- `plan_line` of these bytes. The answer can be read back from its line (plan_text/LineLaws), so the claims are the theorems of `checker` for the
-- words that the bytes spell, with a result buffer of 16 numbers.
use Rattle.std.specs.Prelude.{◌≡◌, ◌↔◌, List, ◌++◌, ℕ, ℤ}
use Rattle.std.proofs.Math.Path.{sym, ap}
use Rattle.std.proofs.Common.{◌∙◌}
use Rattle.std.proofs.Math.Logic.Iff.{trans as iff_trans}
use Rattle.words.specs.Answer.{Answer, safe, trace}
use Rattle.programs.specs.Decode as decode
use Rattle.programs.specs.Runs.{State, Run, values_now}
use Rattle.certificates.specs.CertificateWords.{certificate}
use Rattle.certificates.specs.Claim.{Within}
use Rattle.traces.specs.Replay.{final_values}
use Rattle.checker.specs.Check.{check}
use Rattle.checker.specs.Demand2.{Witnessed}
use Rattle.checker.proofs.Demand2.{safe_answered}
use Rattle.checker.specs.Demand2Traces.{Replays}
use Rattle.checker.proofs.Demand2Traces.{trace_answered, final_values_lem}
use Rattle.checker.proofs.Demand3.{demand_3}
use Rattle.checker.proofs.Consistency as consistency
use Rattle.plan_text.specs.ByteWords.{file_words}
use Rattle.plan_text.specs.Lines.{number, values_in, safe_word, trace_word, line_end, line_of}
use Rattle.plan_text.proofs.LineLaws.{same_answer, same_trace, begins_safe, begins_trace}
use Rattle.plan_files.specs.PlanLines.{check_line, plan_line}

-- the bytes of two files
module _ (program witness : List ℕ) where
  abbrev answer : Answer
  answer = check (file_words program) (file_words witness) 16

  abbrev final : List ℤ
  final = final_values (file_words program) (file_words witness)

  printed_as : (a : Answer) → (plan_line program witness ≡ line_of a final) ↔ (answer ≡ a)
  unfolding plan_line check_line
  printed_as a = (same_answer answer final a final, ap (λ (x : Answer). line_of x final))

  -- only an answer of safe prints a line that begins with `safe`, and only one of trace one that begins with `trace`
  printed_safe : {rest : List ℕ} → plan_line program witness ≡ safe_word ++ rest → (count : ℕ) × (answer ≡ safe count)
  unfolding plan_line check_line
  printed_safe = begins_safe answer final

  printed_trace : {rest : List ℕ} → plan_line program witness ≡ trace_word ++ rest → (steps : ℕ) × (answer ≡ trace steps)
  unfolding plan_line check_line
  printed_trace = begins_trace answer final

  -- Demand 2: "Safe, with the number of entailments, is answered if and only if both sheets have the form and every entailment listed in
  -- document 01 has a witness there that works, in its turn, with no word left."
  pub safe_line : (count : ℕ) → (plan_line program witness ≡ safe_word ++ number count ++ line_end) ↔ Witnessed (file_words program) (file_words witness) count
  unfolding line_of
  safe_line count = iff_trans (printed_as (safe count)) (safe_answered (file_words program) (file_words witness) 16 count)

  -- Demand 2: "Trace is answered if and only if both have the form, the room suffices and the listed vertices are a run by the Linear
  -- Programs report, as document 01 condenses it, from the listed start to the error vertex, inside the stated depth and value limits." The
  -- values in the line are those of the state that the run ends in.
  pub trace_line : (steps : ℕ) (values : List ℤ) → (plan_line program witness ≡ trace_word ++ number steps ++ values_in values ++ line_end)
      ↔ ((r : Replays (file_words program) (file_words witness) 16 steps) × (values ≡ values_now r.run.failing.traced.state))
  unfolding plan_line check_line line_of
  trace_line steps values = (
    λ e.
        let x = same_trace answer final steps values e in
        let r = (trace_answered (file_words program) (file_words witness) 16 steps).0 x.0 in
        (r, sym x.1 ∙ final_values_lem (file_words program) (file_words witness) r.forms r.run),
    λ x.
        let r = x.0 in
        (printed_as (trace steps)).1 ((trace_answered (file_words program) (file_words witness) 16 steps).1 r)
        ∙ ap (line_of (trace steps)) (final_values_lem (file_words program) (file_words witness) r.forms r.run ∙ sym x.1),
  )

  -- a line that begins with `trace` is one of those
  pub trace_first : {rest : List ℕ} → plan_line program witness ≡ trace_word ++ rest → (steps : ℕ) × Replays (file_words program) (file_words witness) 16 steps
  trace_first e = let x = printed_trace e in (x.0, (trace_answered (file_words program) (file_words witness) 16 x.0).0 x.1)

  -- Demand 3: "Let a program and a certificate be accepted as safe .. After that list the run doesn't stand at the error vertex; each open call,
  -- taken where it stands or where it made its pending call, meets with its entry state one of its place's path edges; and each call that got
  -- to its exit met there one of its summary edges." That the line begins with `safe` is enough.
  pub safe_reach : {rest : List ℕ} → plan_line program witness ≡ safe_word ++ rest
      → {s : State} (run : Run (decode.program (file_words program)) s) → Within (decode.program (file_words program)) (certificate (file_words program) (file_words witness)) run
  safe_reach e = let x = printed_safe e in demand_3 (file_words program) (file_words witness) 16 x.0 x.1

-- Hence no program's line begins with `safe` for one witness and with `trace` for another.
pub never_both : (program certificate witness : List ℕ) {rest rest' : List ℕ} → plan_line program certificate ≡ safe_word ++ rest → plan_line program witness ≡ trace_word ++ rest' → ⊥
never_both program certificate witness e e' =
    let x = printed_safe program certificate e in
    let y = printed_trace program witness e' in
    consistency.never_both (file_words program) (file_words certificate) (file_words witness) 16 x.0 16 y.0 x.1 y.1
