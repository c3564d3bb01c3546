-- Test by test, at the places where the code reads.
use Rattle.std.proofs.Common.{refl, sym}
use Rattle.std.proofs.Math.Bool.{and-false, and-true}
use Rattle.sparse_rows.specs.SparseLoops.{passes_at, strict_at}
use Rattle.sparse_rows.specs.Walks.{none_failed, some_passed}
use Rattle.sparse_rows.proofs.row_tested.Goals as goal

pub returns-in_err-strict : goal.returns-in_err-strict
returns-in_err-strict c =
    let a = c.args in
    let e = passes_at a.columns a.at a.words.now c.coefficients_from-counted.ensures c.requires.used_value c.constant_passes-constant.ensures c.word_within-count.ensures refl in
    let p = none_failed _ _ (sym (c.in_err-strict.ensures)) in
    rw (c.from_residual.ensures, ← e, p, and-false, and-false) refl

pub returns : goal.returns
returns c =
    let a = c.args in
    let e = passes_at a.columns a.at a.words.now c.coefficients_from-counted.ensures c.requires.used_value c.constant_passes-constant.ensures c.word_within-count.ensures refl in
    let (p, s) = some_passed _ _ _ (sym c.in_ok-strict.ensures) in
    rw (c.then_some.ensures, ← e, p, and-true, s, strict_at a.columns a.at a.words.now c.coefficients_from-counted.ensures c.requires.used_value) refl
