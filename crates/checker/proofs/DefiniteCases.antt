-- A choice made definite, by computation, with a dense and with a sparse certificate: what is put in place of `?`; where zeros are put in, on both sides, in
-- each list, in leaves below one split and below two, and in a contradiction; that both are accepted with the same count; and rows that share words.
use Rattle.std.specs.Prelude.{◌≡◌, refl, true, false, []}
use Rattle.words.specs.Answer.{safe}
use Rattle.words.specs.Literals.{◌·◌}
use Rattle.programs.specs.UnsharedRows.{is_unshared}
use Rattle.programs.specs.DefiniteWords.{definite_program}
use Rattle.certificates.specs.Opened.{certificates_open}
use Rattle.traces.specs.Opened.{traces_open}
use Rattle.checker.specs.Check.{judged, replayed, check}
use Rattle.checker.specs.ChoiceMadeDefinite.{definite_certificate, zeros_put_in}
use Rattle.checker.specs.DefiniteCases.{after, before, condition, decided, dense, sparse, undecided}

pub decided_words : definite_program undecided 1 1 condition ≡ decided
unfolding certificates_open
decided_words = refl

-- the branch's row shares no words; its line may be the exit's F, and two branches may have one row
pub rows_shared : (is_unshared undecided 1 ≡ true)
    × (is_unshared (1 · 1 · 1 · 9 · 3 · 6 · 2 · 0 · 1 · 0 · 0 · 2 · 2 · 0 · 0 · 0 · 0 · []) 1 ≡ false)
    × (is_unshared (2 · 1 · 1 · 10 · 3 · 3 · 6 · 0 · 0 · 7 · 0 · 3 · 3 · 0 · 0 · 0 · 0 · 1 · 0 · 0 · []) 1 ≡ false)
unfolding certificates_open
rows_shared = (refl, refl, refl)

pub dense_words : (definite_certificate undecided (dense 47 before) 1 ≡ dense 54 after) × (zeros_put_in undecided (dense 47 before) 1 ≡ 7)
unfolding certificates_open definite_certificate zeros_put_in
dense_words = (refl, refl)

pub sparse_words_lem : (definite_certificate undecided (sparse 47 before) 1 ≡ sparse 54 after) × (zeros_put_in undecided (sparse 47 before) 1 ≡ 7)
unfolding certificates_open definite_certificate zeros_put_in
sparse_words_lem = (refl, refl)

pub dense_checked : (check undecided (dense 47 before) 0 ≡ safe 5) × (check decided (dense 54 after) 0 ≡ safe 5)
unfolding certificates_open traces_open judged replayed check
dense_checked = (refl, refl)

pub sparse_checked : (check undecided (sparse 47 before) 0 ≡ safe 5) × (check decided (sparse 54 after) 0 ≡ safe 5)
unfolding certificates_open traces_open judged replayed check
sparse_checked = (refl, refl)
