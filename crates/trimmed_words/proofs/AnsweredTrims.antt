-- A certificate trimmed, by computation, dense and sparse, with a split and a return: of vertex 2's three disjuncts the middle one goes, which only the
-- return from the callee's first summary disjunct names, that no exit names, so that it goes with its return; so the split's second leaf names
-- disjunct 2 and not 3. All of vertex 3 goes, which no step reaches, and its entry is left empty at the next free place. Main's summary, which
-- main's exit names and no call uses, stays. What is written is accepted, and trimmed again it stays.
use Rattle.std.specs.Prelude.{◌≡◌, refl, []}
use Rattle.words.specs.Literals.{◌·◌}
use Rattle.words.specs.Tests.{refusal_at}
use Rattle.words.specs.Answer.{safe, refuse}
use Rattle.words.specs.Writing.{written, unwritten}
use Rattle.checker.specs.Check.{check}
use Rattle.trimmed_words.specs.Trim.{trim}
use Rattle.trimmed_words.specs.AnsweredTrims.{dense, left, plan, sparse, trims_open}

pub checked : (check plan (dense 2) 0 ≡ safe 12) × (check plan (sparse 2) 0 ≡ safe 12) × (check plan left 0 ≡ safe 8)
unfolding trims_open
checked = (refl, refl, refl)

pub dense_trimmed : trim plan (dense 2) 54 ≡ written left
unfolding trims_open
dense_trimmed = refl

pub sparse_trimmed : trim plan (sparse 2) 54 ≡ written left
unfolding trims_open
sparse_trimmed = refl

pub trimmed_again : trim plan left 54 ≡ written left
unfolding trims_open
trimmed_again = refl

-- a buffer one word short; a program that is refused; a kind that is no certificate's; and a last witness that names a disjunct which isn't there, as the
-- judge refuses it, with as short a buffer
pub refused : (trim plan (dense 2) 53 ≡ unwritten (refusal_at 26 0)) × (trim [] (dense 2) 53 ≡ unwritten (refusal_at 1 0)) × (trim plan (3 · []) 53 ≡ unwritten (refusal_at 4 0))
    × (trim plan (dense 3) 53 ≡ unwritten (refusal_at 6 65)) × (check plan (dense 3) 0 ≡ refuse 6 65)
unfolding trims_open
refused = (refl, refl, refl, refl, refl)
