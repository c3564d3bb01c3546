-- `run` meets its contract in both readings: a first vertex other than 1 ends the replay before any step, and else the steps go on from the start
-- state, with the words behind the vertices as entry values.
use Rattle.std.proofs.Common.{◌≡◌, List, ℕ, ◌+◌, ◌-◌, ℤ, length, take, drop, sym, ap, subst, ◌∙◌, arith, take_all, length-drop}
use Rattle.words.specs.Limits.{value_limit}
use Rattle.traces.specs.TraceWords.{listed_entry_values}
use Rattle.traces.proofs.StartValues.{entries_within}
use Rattle.run_state.specs.State.{configuration_of}
use Rattle.run_state.specs.ValueLaws.{values_small}
use Rattle.trace_steps.specs.Runs.{progress_by, at_start, state_of, Starting, Came}
use Rattle.trace_steps.specs.RunLaws.{first_refused, first_passed}
use Rattle.replay.proofs.runs.run.Goals as goal
use Rattle.replay.proofs.runs.run.Goals.{After-entries_from-from}

pub returns-then-not-word_within : goal.returns-then-not-word_within
unfolding progress_by
returns-then-not-word_within c =
    rw (c.failed.ensures, c.standing-start.ensures, c.at.ensures)
    (record {
      progress = sym (first_refused c.args.program.now c.args.witness.now (3 + c.starts_of-place.result) c.args.steps (ap (λ (m : ℕ). 3 + m) c.starts_of-place.ensures.value) c.requires.steps_value (sym c.word_within.ensures ∙ c.if-not-word_within.true));
      proper = c.start_state.ensures.proper;
      few_used = omega arith;
    })

-- the entry values, as the code passes them on
listed : (c : After-entries_from-from)
    → take (length c.args.witness.now - c.entries_from-from.result) (drop c.entries_from-from.result c.args.witness.now) ≡ listed_entry_values c.args.program.now c.args.witness.now
unfolding listed_entry_values
listed c =
    let w = c.args.witness.now in
    let from = c.entries_from-from.result in
    take_all (length w - from) (drop from w) (rw length-drop (omega arith)) ∙ ap (λ (m : ℕ). drop m w) c.entries_from-from.ensures.value

-- what both readings start from
starting : (c : After-entries_from-from)
    → Starting c.args.program.now c.args.sizes c.args.witness.now (take (length c.args.witness.now - c.entries_from-from.result) (drop c.entries_from-from.result c.args.witness.now)) c.args.steps c.start_state.new.globals c.start_state.new.frames
starting c =
    let p = c.args.program.now in
    let w = c.args.witness.now in
    let globals = c.start_state.new.globals in
    let frames = c.start_state.new.frames in
    subst (λ (l : List ℤ). Starting p c.args.sizes w l c.args.steps globals frames) (sym (listed c))
    (record {
      formed = c.requires.formed;
      form = c.requires.trace_form;
      count = c.requires.steps_value;
      proper = c.start_state.ensures.proper;
      first =
          first_passed p w (3 + c.starts_of-place.result) c.args.steps (ap (λ (m : ℕ). 3 + m) c.starts_of-place.ensures.value) c.requires.steps_value (configuration_of p (state_of p w globals frames at_start)) c.start_state.ensures.configured
          (sym c.word_within.ensures ∙ c.if-not-word_within.false);
      small_entries = values_small value_limit _ (entries_within p w c.requires.trace_form);
    })

pub whole_path-requires : goal.whole_path-requires
whole_path-requires c = starting (goal.at.whole_path-requires c).After-entries_from-from

pub returns-then-by_grammar : goal.returns-then-by_grammar
returns-then-by_grammar c =
    subst (λ (l : List ℤ). Came c.args.program.now c.args.witness.now l c.args.steps c.whole_path.new.globals c.whole_path.new.frames c.whole_path.result) (listed (goal.at.returns-then-by_grammar c).After-entries_from-from)
    c.whole_path.ensures

pub all_steps-requires : goal.all_steps-requires
all_steps-requires c = starting (goal.at.all_steps-requires c).After-entries_from-from

pub returns : goal.returns
returns c =
    subst (λ (l : List ℤ). Came c.args.program.now c.args.witness.now l c.args.steps c.all_steps.new.globals c.all_steps.new.frames c.all_steps.result) (listed (goal.at.returns c).After-entries_from-from) c.all_steps.ensures
