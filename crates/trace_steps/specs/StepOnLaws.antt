-- A step of a replay to the vertex listed next, by what the step of the run state promises: it is made, or refused, or no vertex is listed; and
-- where the replay then stands.
use Rattle.std.specs.Prelude.{◌≡◌, refl, Bool, List, ℕ, ◌+◌, ◌≤◌, eqb, ℤ, Some, None, Result, Ok, Err}
use Rattle.std.proofs.Math.Path.{sym}
use Rattle.std.proofs.Common.{ap, subst, ◌∙◌, arith}
use Rattle.words.specs.Limits.{most_globals, most_steps}
use Rattle.words.specs.Words.{word}
use Rattle.words.proofs.Ranges.{number_most}
use Rattle.programs.proofs.DecodedNumbers.{locals_most}
use Rattle.traces.specs.TraceWords.{starts_from, starts, N}
use Rattle.traces.specs.Replay.{replayed_to}
use Rattle.traces.proofs.ReplayRefusals.{stays_ended}
use Rattle.reading.specs.Reading.{natural}
use Rattle.answers.specs.Answers.{refusal_of}
use Rattle.answers.specs.declared.Reason.TheVariants.{ListedVertex}
use Rattle.answers.specs.Tested.{refusal_at}
use Rattle.answers.specs.declared.Refusal.{Refusal}
use Rattle.program_readers.specs.declared.places.Sizes.{Sizes}
use Rattle.run_state.specs.State as states
use Rattle.run_state.specs.State.{RunState, state_at, configuration_of, line_from, Gives, Steps, standing_of, progress_from}
use Rattle.run_state.specs.declared.changes.Standing.{Standing}
use Rattle.run_state.specs.declared.changes.Stepped.{Stepped}
use Rattle.trace_steps.specs.Runs.{progress_by, standing_at, at_start, trace_sizes, passed_at, lined, failed_at, Starting, Here, Came}
use Rattle.trace_steps.specs.RunLaws.{listed_steps, not_listed, next_progress, ended_at, ended_refused}
use Rattle.trace_steps.specs.declared.steps.Ran.{Ran}
use Rattle.trace_steps.specs.declared.steps.TraceSizes.{TraceSizes}

module _ (program witness entries : List ℤ) (trace : TraceSizes) (i : ℕ) (globals frames : List ℤ) (here : Standing) (h : Here program witness entries trace i globals frames here) where
  abbrev state : RunState
  state = state_at globals frames entries here

  abbrev last : Bool
  last = eqb (i + 1) trace.steps

  abbrev listed : ℤ
  listed = word witness (trace.first + (i + 1))

  pub progresses : {o : Result Unit ℕ} {after : RunState} → Gives program state (progress_from program state last listed) o after → replayed_to program witness (i + 1) ≡ states.progress_by program (trace.first + (i + 1)) o after
  progresses {o} {after} x = next_progress program witness trace.first trace.steps h.sized.place h.sized.count i state o after h.came x

  -- a step that is made, or refused
  module _ (v : ℕ) (r : Stepped) (globals' frames' : List ℤ) (q : natural listed ≡ Some v) (s : Steps program globals frames entries here last v r globals' frames') where
    given : Gives program state (progress_from program state last listed) r.outcome (state_at globals' frames' entries (standing_of r))
    given = listed_steps program state last listed q s.gives

    by_outcome : {o : Result Unit ℕ} → r.outcome ≡ o → states.progress_by program (trace.first + (i + 1)) o (state_at globals' frames' entries (standing_of r)) ≡ replayed_to program witness (i + 1)
    by_outcome e = sym (progresses given ∙ ap (λ (o : Result Unit ℕ). states.progress_by program (trace.first + (i + 1)) o (state_at globals' frames' entries (standing_of r))) e)

    pub came_on : r.outcome ≡ Ok tt → Came program witness entries (i + 1) globals' frames' (passed_at (standing_of r))
    unfolding progress_by states.progress_by
    came_on e = record { progress = by_outcome e; proper = s.gives.proper; few_used = s.few_used }

    pub refused_on : (number : ℕ) → r.outcome ≡ Err number → Came program witness entries (i + 1) globals' frames' (failed_at (standing_of r) (lined program (record { number = number; place = trace.first + (i + 1); line = 0 }) r.vertex.0))
    unfolding progress_by states.progress_by configuration_of
    refused_on number e = record { progress = by_outcome e; proper = s.gives.proper; few_used = s.few_used }

  pub out_on : natural listed ≡ None → Came program witness entries (i + 1) globals frames (failed_at here (lined program (refusal_at ListedVertex (trace.first + (i + 1))) here.vertex.0))
  unfolding progress_by states.progress_by configuration_of
  out_on q = record { progress = sym (progresses (not_listed program state last listed q h.proper)); proper = h.proper; few_used = h.few_used }

  -- where a replay that passed then stands
  pub here_after : (j : ℕ) (globals' frames' : List ℤ) (r : Ran) → Came program witness entries j globals' frames' r → r.end ≡ Ok tt → j ≤ N program witness → Here program witness entries trace j globals' frames' (standing_at r)
  here_after j globals' frames' r c e l =
      record { sized = h.sized; known = l; proper = c.proper; came = ended_at program r.end (state_at globals' frames' entries (standing_at r)) c.progress e; small_entries = h.small_entries; few_used = c.few_used }

-- where a replay stands before its first step
pub here_first : (program : List ℤ) (sizes : Sizes) (witness entries : List ℤ) (steps : ℕ) (globals frames : List ℤ) (trace : TraceSizes) → trace ≡ trace_sizes sizes (starts_from + starts program witness) steps
    → Starting program sizes witness entries steps globals frames → Here program witness entries trace 0 globals frames at_start
here_first program sizes witness entries steps globals frames trace e s =
    subst (λ (t : TraceSizes). Here program witness entries t 0 globals frames at_start) (sym e)
    (record {
      sized =
          record {
            formed = s.formed;
            form = s.form;
            place = refl;
            near = omega (arith, number_most most_globals (word program 2), locals_most program 1);
            count = s.count;
            few = omega (arith, s.count, number_most most_steps (word witness 1));
          };
      known = omega arith;
      proper = s.proper;
      came = s.first;
      small_entries = s.small_entries;
      few_used = omega arith;
    })

-- a refusal stays
pub failed_stays : (program witness entries : List ℤ) (i j : ℕ) (globals frames : List ℤ) (r : Ran) (q : Refusal) → i ≤ j → Came program witness entries i globals frames r → r.end ≡ Err q → Came program witness entries j globals frames r
unfolding progress_by
failed_stays program witness entries i j globals frames r q h c e =
    let state = state_at globals frames entries (standing_at r) in
    record {
      progress = ap (λ (t : Result Unit Refusal). progress_by program t state) e ∙ sym (stays_ended program witness i j (refusal_of q) h (ended_refused program r.end state c.progress e));
      proper = c.proper;
      few_used = c.few_used;
    }
