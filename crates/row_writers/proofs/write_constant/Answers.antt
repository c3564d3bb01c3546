-- `write_constant` meets its contract: two words with the low one in its range are the words of the constant that they spell.
use Rattle.std.proofs.Common.{◌≡◌, ◌+◌, ◌-◌, ◌≤◌, List, [], ◌∷◌, ℤ, pos, ℕ, suc, length, take, drop, add-one, arith, refl, sym, ap, ◌∙◌}
use Rattle.std.proofs.Math.Seq.{drop-cons}
use Rattle.words.specs.Limits.{most_low}
use Rattle.words.specs.Words.{word}
use Rattle.words.specs.Ranges.{Between}
use Rattle.words.specs.RowWords.{constant_at}
use Rattle.words.specs.RowCode.{constant_code}
use Rattle.words.proofs.RowCode.{constant_own}
use Rattle.row_writers.specs.DenseRows.{part_stored_lem}
use Rattle.row_writers.proofs.write_constant.Goals as goal

own : (rows : List ℤ) (at : ℕ) → at + 2 ≤ length rows → Between (pos 0) (pos most_low) (word rows (at + 1)) → take 2 (drop at rows) ≡ constant_code (constant_at rows at)
unfolding constant_at
own rows at h b =
    let e : word rows at ∷ word rows (at + 1) ∷ [] ≡ constant_code (constant_at rows at) = constant_own (word rows at ∷ word rows (at + 1) ∷ []) (omega arith) b in
    let p : take 2 (drop at rows) ≡ word rows at ∷ word rows (suc at) ∷ [] = rw (drop-cons rows at (pos 0) (omega arith), drop-cons rows (suc at) (pos 0) (omega arith)) refl in
    p ∙ ap (λ (k : ℕ). word rows at ∷ word rows k ∷ []) (sym (add-one at)) ∙ e

pub returns : goal.returns
unfolding constant_code
returns c =
    let a = c.args in
    let n : a.at + 2 - a.at ≡ 2 = omega arith in
    part_stored_lem a.buffer.now _ (constant_code (constant_at a.rows.now a.at)) a.to 2 (a.to + 2 - a.to) (c.copy_from_slice.ensures.after ∙ ap (λ (k : ℕ). take k (drop a.at a.rows.now)) n ∙ own a.rows.now a.at (omega arith) c.requires.between)
    (omega arith) refl (omega arith)
