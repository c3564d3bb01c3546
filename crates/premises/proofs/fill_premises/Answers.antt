-- By cases of what is added: the disjunct's first rows are copied, and what is added stands behind them.
use Rattle.std.proofs.Common.{arith}
use Rattle.row_buffers.proofs.RowsOfWords.{form_constant}
use Rattle.entailments.proofs.ImageSizes.{columns_most, path_inside}
use Rattle.premises.specs.FilledPremises.{capacity, guard_form, guard_few, summary_here, image_here_lem, first_here, nothing_filled, guard_filled, summary_filled}
use Rattle.premises.proofs.fill_premises.Goals as goal

pub copy_rows-requires : goal.copy_rows-requires
copy_rows-requires c =
    let p = c.requires in
    let f = p.entailment_form in
    let d = first_here f _ p.n_le_n in
    record { disjunct_here = d; m_le_columns = path_inside f.image_here; capacity = capacity (columns_most f.image_here) (omega (arith, d.stand.few)) p.long_buffer }

pub push_case-guards-requires : goal.push_case-guards-requires
push_case-guards-requires c =
    let p = c.requires in
    let i = p.entailment_form.image_here in
    let f = guard_form p.entailment_form _ _ _ c.in-Guard.is in
    record {
      k_in_bounds = (f.1.1.inside, form_constant f.1.1.form);
      k_bound = path_inside i;
      capacity = capacity (columns_most i) (omega (arith, p.entailment_form.disjunct_here.stand.few)) (omega (arith, p.long_buffer));
      case_bound = rw c.op_of-op.ensures f.1.0;
    }

pub overflow_add-result : goal.overflow_add-result
overflow_add-result c =
    let p = c.requires in
    omega (arith, p.entailment_form.disjunct_here.stand.few, guard_few p.entailment_form _ _ _ c.in-Guard.is (rw c.op_of-op.ensures at c.push_case-guards.ensures.count))

pub push_summary-requires : goal.push_summary-requires
push_summary-requires c =
    let p = c.requires in
    let q = c.in-Summary.is in
    let i = image_here_lem p.entailment_form _ _ _ q in
    let d = summary_here p.entailment_form _ _ _ q in
    record { image_here = i; disjunct_here = d; capacity = capacity (columns_most i) (omega (arith, p.entailment_form.disjunct_here.stand.few, d.stand.few)) (omega (arith, p.long_buffer)) }

pub overflow_add-result-in-Summary : goal.overflow_add-result-in-Summary
overflow_add-result-in-Summary c =
    let f = c.requires.entailment_form in
    omega (arith, f.disjunct_here.stand.few, (summary_here f _ _ _ c.in-Summary.is).stand.few)

pub returns-in-Nothing : goal.returns-in-Nothing
returns-in-Nothing c = nothing_filled c.requires.entailment_form _ c.requires.n_le_n _ _ c.copy_rows.ensures c.in-Nothing.is

pub returns-in-Guard : goal.returns-in-Guard
returns-in-Guard c =
    let g = c.push_case-guards.ensures in
    guard_filled c.requires.entailment_form _ c.requires.n_le_n _ _ c.copy_rows.ensures _ _ _ c.in-Guard.is (rw c.op_of-op.ensures at g.rows) (rw c.op_of-op.ensures at g.count)

pub returns-in-Summary : goal.returns-in-Summary
returns-in-Summary c = summary_filled c.requires.entailment_form _ c.requires.n_le_n _ _ c.copy_rows.ensures _ _ _ c.in-Summary.is c.push_summary.ensures
