-- What the struct that `leukarion_replay_by_grammar` gives back promises, `told`, and `after`, the buffer then: to a trace it is that of `leukarion_check`, so that all holds that
-- outcomes/OutcomePromises says of that, and whatever is no trace is refused with 4 at 0. All that is used of them is the contract, `ReplayTold`.
use Rattle.std.specs.Prelude.{◌≡◌, List, ℤ, pos}
use Rattle.std.proofs.Common.{sym, ap, ◌∙◌}
use Rattle.words.specs.Tests.{refusal_at}
use Rattle.words.specs.Words.{word}
use Rattle.programs.specs.ProgramForm.{ProgramForm}
use Rattle.traces.specs.TraceWords.{trace_mark}
use Rattle.answers.specs.Answers.{answer_of}
use Rattle.answers.specs.declared.Answer.{Answer}
use Rattle.leukarion.specs.GrammarPromises.{Replays, replay_checked, replay_other}
use Rattle.outcomes.specs.declared.Outcome.{Outcome}
use Rattle.outcomes.specs.Outcomes.{refused_outcome, outcome_of, Told, outcome_is}

-- what `leukarion_replay_by_grammar_0_8` in src/lib.rt promises: an answer of which all holds that leukarion/GrammarPromises says, told as C gets it
pub record ReplayTold (program witness buffer : List ℤ) (told : Outcome) (after : List ℤ) : Type 0 where
  pub answer : Answer
  pub tells : told ≡ outcome_of (answer_of answer)
  pub replays : Replays program witness buffer answer after

module _ {program witness buffer after : List ℤ} {told : Outcome} (t : ReplayTold program witness buffer told after) where
  -- to a trace it is an answer of the check
  pub replay_told : word witness 0 ≡ pos trace_mark → Told program witness buffer told after
  replay_told k = record { answer = t.answer; tells = t.tells; checked = replay_checked t.replays k }

  -- "For every program, sheet and room it must return the first replay's answer, refusals, places and room."
  pub same_told : {told' : Outcome} {after' : List ℤ} → word witness 0 ≡ pos trace_mark → Told program witness buffer told' after' → (told ≡ told') × (after ≡ after')
  same_told k c =
      let d = replay_told k in
      (outcome_is d ∙ sym (outcome_is c), d.checked.result ∙ sym c.checked.result)

  -- a certificate, and whatever is no trace, is refused with 4 at 0, if the program has the form
  pub other_told : ProgramForm program → ¬ (word witness 0 ≡ pos trace_mark) → told ≡ refused_outcome (refusal_at 4 0)
  other_told f other = t.tells ∙ ap (λ (a : Answer). outcome_of (answer_of a)) (replay_other t.replays f other)
