-- The count's word is the count, since it is in its range.
use Rattle.std.proofs.Common.{◌≡◌, pos, drop, sym, ap, ◌∙◌, arith, get_or-drop}
use Rattle.basics.proofs.Integers.{ints}
use Rattle.words.specs.Words.{word}
use Rattle.words.specs.RowWords.{constant_words}
use Rattle.words.specs.SparseRows.{used_of}
use Rattle.words.proofs.SparseForm.{count_word_lem}
use Rattle.sparse_rows.proofs.used_inside.Goals as goal
use Rattle.sparse_rows.proofs.used_inside.Goals.{After-coefficients_from}

-- where it stands
counts : (c : After-coefficients_from) → let a = c.args in word a.words.now c.coefficients_from.result ≡ pos (used_of a.columns (drop a.at a.words.now))
counts c =
    let a = c.args in
    ap (word a.words.now) c.coefficients_from.ensures ∙ (sym (get_or-drop a.at a.words.now constant_words (pos 0)) ∙ count_word_lem a.columns (drop a.at a.words.now) c.requires.sparse_row_form)

pub natural_inside-requires : goal.natural_inside-requires
natural_inside-requires c = (omega (arith, c.coefficients_from.ensures, c.requires.words_in_bounds), omega (arith, ints, counts c))

pub returns : goal.returns
returns c = omega (arith, ints, c.natural_inside.ensures, counts (goal.at.returns c).After-coefficients_from)
