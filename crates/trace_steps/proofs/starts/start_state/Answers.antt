-- `start_state` meets its contract: the start values stand from place 3 on, first main's G and then its L, and the code puts them into the globals
-- and into main's frame.
use Rattle.std.proofs.Common.{◌≡◌, List, ◌∷◌, ℕ, ◌+◌, ℤ, pos, length, take, drop, sym, ap, ap₂, ◌∙◌}
use Rattle.std.proofs.Math.Seq.{paste}
use Rattle.programs.specs.ProgramWords.{G, locals}
use Rattle.run_state.specs.Frames.{frame_size, padded}
use Rattle.trace_steps.specs.StartLaws.{main_frame, own_length, start_there}
use Rattle.trace_steps.proofs.starts.start_state.Goals as goal
use Rattle.trace_steps.proofs.starts.start_state.Goals.{After-put_words-2}

-- main's frame, with main's locals in the trace
framed : (c : After-put_words-2) → c.put_words-2.new.values ≡ padded frame_size (pos 1 ∷ pos 0 ∷ take (locals c.args.program.now 1) (drop (3 + G c.args.program.now) c.args.witness.now))
framed c =
    let w = c.args.witness.now in
    let count = c.locals_of-count.result in
    let there = drop (3 + c.args.sizes.globals) w in
    let long = own_length c.args.program.now w c.args.sizes c.requires.formed c.requires.trace_form c.args.globals.now c.args.frames.now c.requires.blank in
    let same = ap₂ (λ (m j : ℕ). take m (drop (3 + j) w)) c.locals_of-count.ensures.value c.requires.formed.header.globals in
    c.put_words-2.ensures
    ∙ (main_frame there count c.locals_of-count.ensures.upper_bound (ap length same ∙ (long ∙ sym c.locals_of-count.ensures.value)) ∙ ap (λ (l : List ℤ). padded frame_size (pos 1 ∷ pos 0 ∷ l)) same)

pub returns : goal.returns
returns c =
    let w = c.args.witness.now in
    let g = c.put_words.ensures ∙ ap (λ (m : ℕ). paste c.args.globals.now 0 (drop 3 w) m) c.requires.formed.header.globals in
    let l = c.put_frame.ensures ∙ ap (λ (own : List ℤ). paste c.args.frames.now 0 own frame_size) (framed (goal.at.returns c).After-put_words-2) in
    start_there c.args.program.now w c.args.sizes c.requires.formed c.requires.trace_form c.args.globals.now c.args.frames.now c.requires.blank g l
