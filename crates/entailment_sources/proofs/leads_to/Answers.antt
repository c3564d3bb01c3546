-- `leads_to` meets its contract, by the way that leaves the vertex: the numbers of its row, or of the callee's and the procedure's entries.
use Rattle.std.proofs.Common.{refl, arith}
use Rattle.programs.proofs.DecodedNumbers.{procedure_range}
use Rattle.programs.proofs.StatementRows.{called}
use Rattle.vertex_entailments.specs.Leaving.{Says}
use Rattle.vertex_entailments.specs.LeavingLaws.{told, is_call}
use Rattle.entailment_sources.specs.KeptBytes.{entry_number}
use Rattle.entailment_sources.specs.WayLaws.{way_entry, leads_by}
use Rattle.entailment_sources.proofs.leads_to.Goals as goal

-- ---- a call, an exit

pub call_entry-requires-clause-callee_le_most_procedures : goal.call_entry-requires-clause-callee_le_most_procedures
unfolding Says
call_entry-requires-clause-callee_le_most_procedures c =
    let x = told c.requires.leaves c.in-Call.is in
    let h = called c.args.program.now c.args.leaving.vertex.0 c.requires.header.1 (is_call c.requires.leaves.low x) in
    omega (arith, h.callee_high, c.requires.header.0.procedures, c.requires.header.0.few_procedures)

pub summary_entry-requires-clause-q_le_most_procedures : goal.summary_entry-requires-clause-q_le_most_procedures
unfolding Says
summary_entry-requires-clause-q_le_most_procedures c =
    let header = c.requires.header.0 in
    let x = told c.requires.leaves c.in-Exit.is in
    let range = procedure_range c.args.program.now c.requires.header.1 c.args.leaving.vertex.0 c.requires.leaves.low (omega (arith, c.requires.leaves.high, header.statements, header.procedures)) in
    omega (arith, x.ends, range.1, header.procedures, header.few_procedures)

-- ---- the number

pub returns-in-Skip : goal.returns-in-Skip
unfolding way_entry entry_number
returns-in-Skip c = leads_by c.requires.header.1 c.requires.leaves c.in-Skip.is refl

pub returns-in-Assign : goal.returns-in-Assign
unfolding way_entry entry_number
returns-in-Assign c = leads_by c.requires.header.1 c.requires.leaves c.in-Assign.is refl

pub returns-in-Branch : goal.returns-in-Branch
unfolding way_entry entry_number
returns-in-Branch c = leads_by c.requires.header.1 c.requires.leaves c.in-Branch.is c.side_entry.ensures

pub returns-in-Assert : goal.returns-in-Assert
unfolding way_entry entry_number
returns-in-Assert c = leads_by c.requires.header.1 c.requires.leaves c.in-Assert.is c.side_entry-in-Assert.ensures

pub returns-in-Call : goal.returns-in-Call
unfolding way_entry entry_number
returns-in-Call c = leads_by c.requires.header.1 c.requires.leaves c.in-Call.is c.call_entry.ensures

pub returns-in-Exit : goal.returns-in-Exit
unfolding way_entry entry_number
returns-in-Exit c = leads_by c.requires.header.1 c.requires.leaves c.in-Exit.is c.summary_entry.ensures
