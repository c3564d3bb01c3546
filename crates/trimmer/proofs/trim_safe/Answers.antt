-- `trim_safe` meets its contract: an accepted certificate has its form, so the slices are its row words and its witness words.
use Rattle.std.proofs.Common.{◌+◌, ◌≤◌, length, arith}
use Rattle.certificate_form.specs.PlainLaws.{slice_is}
use Rattle.certificate_form.specs.EdgeColumns.{entries_is}
use Rattle.judge.specs.SliceLaws.{end_inside, rest_is}
use Rattle.trimmer.specs.Selected.{certificate_formed, known}
use Rattle.trimmer.proofs.trim_safe.Goals as goal
use Rattle.trimmer.proofs.trim_safe.Goals.{After-number_at}

inside : (c : After-number_at) → c.rows_start-start.result + c.number_at.result ≤ length c.args.certificate.now
inside c =
    let a = c.args in
    end_inside a.program.now a.certificate.now (certificate_formed c.requires.accepts) (entries_is a.program.now a.certificate.now a.sizes c.requires.header) c.rows_start-start.ensures c.number_at.ensures.value

pub slice_bounds-trim_accepted-end : goal.slice_bounds-trim_accepted-end
slice_bounds-trim_accepted-end c = omega (arith, inside (goal.at.slice_bounds-trim_accepted-end c).After-number_at)

pub slice_bounds-trim_accepted-count-2 : goal.slice_bounds-trim_accepted-count-2
slice_bounds-trim_accepted-count-2 c = inside (goal.at.slice_bounds-trim_accepted-count-2 c).After-number_at

pub slice_bounds-trim_accepted-start-2 : goal.slice_bounds-trim_accepted-start-2
slice_bounds-trim_accepted-start-2 c = omega (arith, inside (goal.at.slice_bounds-trim_accepted-start-2 c).After-number_at)

pub trim_accepted-requires-clause-known : goal.trim_accepted-requires-clause-known
trim_accepted-requires-clause-known c =
    let a = c.args in
    let same = entries_is a.program.now a.certificate.now a.sizes c.requires.header in
    let start = c.rows_start-start.ensures in
    let size = c.number_at.ensures.value in
    known c.requires.accepts c.requires.header (slice_is a.program.now a.certificate.now same start size) (rest_is a.program.now a.certificate.now (certificate_formed c.requires.accepts) same start size)
