-- `skip` meets its contract: the vertex that it reads is the statement's successor, the only one that the move may go to.
use Rattle.std.proofs.Common.{◌≡◌, sym, ap, ◌∙◌, arith}
use Rattle.programs.specs.ProgramWords.{vertex_field}
use Rattle.program_readers.specs.declared.kinds.Kind.TheVariants.{Skip}
use Rattle.program_readers.specs.declared.statements.SkipRow.{SkipRow}
use Rattle.run_state.specs.StateLaws.{with_left}
use Rattle.run_state.specs.StatementLaws.{row_asked}
use Rattle.run_state.specs.CaseLaws.{skip_refused, skip_moved}
use Rattle.run_state.proofs.cases.skip.Goals as goal
use Rattle.run_state.proofs.cases.skip.Goals.{After-skip_row-row}

-- the successor
next : (c : After-skip_row-row) → c.skip_row-row.result.next.0 ≡ vertex_field c.args.program.now c.args.vertex.0 0
next c = ap (λ (r : SkipRow). r.next.0) c.skip_row-row.ensures

pub skip_row-row-requires : goal.skip_row-row-requires
skip_row-row-requires c = row_asked _ c.args.sizes _ Skip c.requires (omega arith)

pub returns-then-listed-row : goal.returns-then-listed-row
returns-then-listed-row c left =
    rw c.refused.ensures
    (skip_refused _ c.args.sizes _ c.args.listed (with_left _ c.requires left) (λ e. c.if-listed-row.true (e ∙ sym (next (goal.at.returns-then-listed-row c).After-skip_row-row))))

pub returns : goal.returns
returns c left =
    let q = next (goal.at.returns c).After-skip_row-row in
    rw c.moved.ensures (skip_moved _ c.args.sizes _ c.args.listed (with_left _ c.requires left) c.skip_row-row.result.next q (c.if-listed-row.false ∙ q))
