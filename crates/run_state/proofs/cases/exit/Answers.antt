-- `exit` meets its contract: with one call open there is no step, and else the vertex that it reads is the return point of the call below.
use Rattle.std.proofs.Common.{◌≡◌, ◌-◌, refl, sym, ◌∙◌}
use Rattle.programs.specs.ProgramWords.{vertex_field}
use Rattle.run_state.specs.Frames.{caller_in}
use Rattle.run_state.specs.StateLaws.{with_left}
use Rattle.run_state.specs.ExitLaws.{exit_alone, waiting_asked, exit_refused, exit_moved}
use Rattle.run_state.proofs.cases.exit.Goals as goal
use Rattle.run_state.proofs.cases.exit.Goals.{After-call_row-row}

-- the return point
back : (c : After-call_row-row) → c.call_row-row.result.back.0 ≡ vertex_field c.args.program.now (caller_in c.args.frames.now (c.args.depth - 1)) 0
back c = rw (c.call_row-row.ensures.value, c.caller_in-waiting.ensures) refl

pub returns-then-depth-eq1 : goal.returns-then-depth-eq1
returns-then-depth-eq1 c left = rw c.refused.ensures (exit_alone _ c.args.sizes _ c.args.listed (with_left _ c.requires left) c.if-depth-eq1.true)

pub call_row-row-requires : goal.call_row-row-requires
call_row-row-requires c = rw c.caller_in-waiting.ensures (waiting_asked _ c.args.sizes _ c.args.listed c.requires c.if-depth-eq1.false)

pub returns-then-listed-row : goal.returns-then-listed-row
returns-then-listed-row c left =
    let q = back (goal.at.returns-then-listed-row c).After-call_row-row in
    rw c.refused-then-listed-row.ensures (exit_refused _ c.args.sizes _ c.args.listed (with_left _ c.requires left) c.if-depth-eq1.false (λ e. c.if-listed-row.true (e ∙ sym q)))

pub returns : goal.returns
returns c left =
    let q = back (goal.at.returns c).After-call_row-row in
    rw c.moved.ensures (exit_moved _ c.args.sizes _ c.args.listed (with_left _ c.requires left) c.if-depth-eq1.false c.call_row-row.result.back q (c.if-listed-row.false ∙ q))
