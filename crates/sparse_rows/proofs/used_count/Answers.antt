-- The count stands behind the constant.
use Rattle.std.proofs.Common.{ℕ, sym, ap, ◌∙◌}
use Rattle.words.specs.Words.{word, number}
use Rattle.sparse_rows.specs.SparsePlaces.{used_at}
use Rattle.sparse_rows.proofs.used_count.Goals as goal

pub returns-clause-value : goal.returns-clause-value
returns-clause-value c =
    let a = c.args in
    c.number_at.ensures.value ∙ (ap (λ (p : ℕ). number a.columns (word a.words.now p)) c.coefficients_from.ensures ∙ sym (used_at a.columns a.words.now a.at))
