-- `?` has no row, = has two, and any other op one.
use Rattle.std.proofs.Common.{◌≡◌, sym, rules, true≢false}
use Rattle.std.specs.Prelude.{drop}
use Rattle.rows.specs.Rows.{Row}
use Rattle.words.specs.RowWords.{row_of}
use Rattle.program_readers.specs.declared.kinds.Op.TheVariants.{Choice, Equal}
use Rattle.premises.proofs.PushedCases.{no_row, one_row, two_rows_lem}
use Rattle.premises.proofs.push_case.Goals as goal
use Rattle.premises.proofs.push_case.Goals.{Start}

abbrev expression : Start → Row
expression s = row_of s.args.k (drop s.args.place s.args.words.now)

pub returns-then-eq : goal.returns-then-eq
returns-then-eq c =
    let a = c.args in
    let is : a.op ≡ Choice = search rules in
    let put = no_row a.columns a.n a.k (expression (goal.at.returns-then-eq c).Start) a.op a.case a.premises.now c.requires.case_bound is in
    record { rows = put.0; count = put.1 }

pub returns-then-eq-2 : goal.returns-then-eq-2
returns-then-eq-2 c =
    let a = c.args in
    let is : a.op ≡ Equal = search rules in
    let v = c.first_variant-first.ensures in
    let put = two_rows_lem a.columns a.n a.k (expression (goal.at.returns-then-eq-2 c).Start) a.op a.case a.premises.now c.requires.case_bound _ _ is (rw (v.negative, v.plus) at c.push_row.ensures) c.push_row-then-eq-2.ensures in
    record { rows = put.0; count = put.1 }

pub returns : goal.returns
returns c =
    let a = c.args in
    let v = c.first_variant-first.ensures in
    let choice : a.op ≡ Choice → ⊥ = λ z. true≢false (sym (rw z at c.if-eq.ensures)) in
    let equal : a.op ≡ Equal → ⊥ = λ z. true≢false (sym (rw z at c.if-eq-2.ensures)) in
    let put = one_row a.columns a.n a.k (expression (goal.at.returns c).Start) a.op a.case a.premises.now c.requires.case_bound _ choice equal (rw (v.negative, v.plus) at c.push_row.ensures) in
    record { rows = put.0; count = put.1 }
