-- A leaf's words end after its multipliers, or after as many shares as the disjunct that it names has rows.
use Rattle.std.proofs.Common.{◌≡◌, ◌+◌, ◌-◌, ◌≤◌, length, sym, ap, ◌∙◌, arith}
use Rattle.std.proofs.Math.Nat.{mul-le-mul_right}
use Rattle.words.specs.Limits.{most_rows}
use Rattle.words.proofs.Ranges.{number_most}
use Rattle.certificates.specs.CertificateWords.{row_count}
use Rattle.certificate_readers.specs.Disjuncts.{first_formed}
use Rattle.witness_walks.specs.Marks.{targets_of}
use Rattle.witness_walks.specs.WalkSteps.{leaf_none, leaf_far, leaf_target, targets_count, target_here}
use Rattle.witness_walks.proofs.mark_leaf.Goals as goal

pub returns-then-j-eq0 : goal.returns-then-j-eq0
returns-then-j-eq0 c =
    let a = c.args in
    leaf_none a.w.now a.at a.n (targets_of a.rows.now a.e) a.named.now c.requires.at_in_bounds.0 a.j c.past.result c.if-j-eq0.true c.past.ensures.0 c.past.ensures.1

pub returns-then-count-j : goal.returns-then-count-j
returns-then-count-j c =
    let a = c.args in
    let p = c.requires.at_in_bounds in
    leaf_far a.w.now a.at a.n (targets_of a.rows.now a.e) a.named.now p.0 a.j p.1 (rw (targets_count a.rows.now a.e) c.if-count-j.true)

pub disjunct_place-p-requires-clause-disjuncts_form : goal.disjunct_place-p-requires-clause-disjuncts_form
disjunct_place-p-requires-clause-disjuncts_form c =
    let last : c.args.j - 1 ≤ c.args.e.count = omega (arith, c.if-count-j.false) in
    first_formed _ _ _ (c.args.j - 1) last c.requires.walkable.0.targets_form

pub overflow_mul-m : goal.overflow_mul-m
overflow_mul-m c =
    let few : c.row_count-m.result ≤ most_rows = rw c.row_count-m.ensures (number_most most_rows _) in
    omega (arith, mul-le-mul_right (1 + c.args.n) few, c.requires.n_bound)

pub returns : goal.returns
returns c =
    let a = c.args in
    let one : 1 ≤ a.j = omega (arith, c.if-j-eq0.false) in
    let last : a.j ≤ a.e.count = omega (arith, c.if-count-j.false) in
    let (d, g, e) = target_here a.rows.now a.e (a.j - 1) c.requires.walkable.0 (omega arith) in
    let m : c.row_count-m.result ≡ length d = c.row_count-m.ensures ∙ (ap (row_count a.rows.now) c.disjunct_place-p.ensures ∙ sym e) in
    leaf_target a.w.now a.at a.n (targets_of a.rows.now a.e) a.named.now c.requires.at_in_bounds.0 a.j c.past-2.result one g (rw m at c.past-2.ensures.0) c.past-2.ensures.1
