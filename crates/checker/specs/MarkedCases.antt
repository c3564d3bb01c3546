-- The worked cases that document 01 marks, its trace as document 02, CR 2, has it, by one theorem that ranges over a list of them: the answer and the result buffer afterwards of
-- each, by computation. The buffers have marked numbers, so that "as it came" shows.
use Rattle.std.specs.Prelude.{◌≡◌, List, [], ◌∷◌, ◌++◌, ℤ, pos, negsuc, length}
use Rattle.words.specs.Answer.{Answer, safe, trace, refuse}
use Rattle.certificates.specs.Opened.{certificates_open}
use Rattle.traces.specs.Opened.{traces_open}
use Rattle.checker.specs.Check.{judged, replayed, check, buffer_after, checked_buffer}

pub record Case : Type 0 where
  pub program : List ℤ
  pub witness : List ℤ
  pub buffer : List ℤ
  pub answer : Answer
  pub after : List ℤ

-- what the check gives; to unfold this is to unfold every definition that it rests on
unfoldable pub given : Case → Answer × List ℤ
unfolding certificates_open traces_open judged replayed check buffer_after checked_buffer
given x = (check x.program x.witness (length x.buffer), checked_buffer x.program x.witness x.buffer)

unfoldable pub AllGiven : List Case → Type 0
AllGiven [] = Unit
AllGiven (x ∷ xs) = (given x ≡ (x.answer, x.after)) × AllGiven xs

-- ---- the words

-- x = 540; assert x − 600 < 0, with another value of x
abbrev pub plan_a : ℤ → List ℤ
plan_a x = pos 2 ∷ pos 1 ∷ pos 1 ∷ pos 15 ∷ pos 2 ∷ pos 4 ∷ pos 6 ∷ pos 0 ∷ pos 6 ∷ pos 12
    ∷ pos 0 ∷ pos 2 ∷ pos 0 ∷ pos 0 ∷ x ∷ pos 0 ∷ pos 0 ∷ pos 3 ∷ pos 1 ∷ negsuc 0 ∷ pos 999400 ∷ pos 1 ∷ pos 1 ∷ pos 0 ∷ pos 0 ∷ []

-- its certificate, x and a constant from −1 to −1,000,000 as the path row: the constant's low word, W and witness words
abbrev pub certificate_a : ℤ → ℤ → List ℤ → List ℤ
certificate_a low W witness = pos 1 ∷ pos 6 ∷ W ∷ pos 1 ∷ pos 1 ∷ pos 1 ∷ pos 1 ∷ pos 0 ∷ pos 1 ∷ pos 0 ∷ pos 0 ∷ pos 0 ∷ pos 1 ∷ negsuc 0 ∷ low ∷ pos 0 ∷ pos 1 ∷ witness

abbrev pub witness_a : List ℤ
witness_a = pos 1 ∷ pos 1 ∷ pos 1 ∷ pos 1 ∷ pos 0 ∷ pos 1 ∷ pos 1 ∷ pos 1 ∷ []

abbrev pub trace_b : List ℤ
trace_b = pos 3 ∷ pos 2 ∷ pos 0 ∷ pos 0 ∷ pos 1 ∷ pos 2 ∷ pos 0 ∷ []

-- ---- the cases; the buffer has two marked numbers

abbrev marked : List ℤ
marked = pos 7 ∷ pos 8 ∷ []

-- a certificate leaves the buffer as it came
abbrev certified : List ℤ → Answer → Case
certified witness answer = record { program = plan_a (pos 540); witness = witness; buffer = marked; answer = answer; after = marked }

abbrev traced : ℤ → List ℤ → Answer → List ℤ → Case
traced x buffer answer after = record { program = plan_a x; witness = trace_b; buffer = buffer; answer = answer; after = after }

abbrev pub marked_cases : List Case
marked_cases = certified (certificate_a (pos 999460) (pos 8) witness_a) (safe 5)
    ∷ certified (certificate_a (pos 999401) (pos 8) witness_a) (safe 5)
    ∷ certified (certificate_a (pos 999400) (pos 8) witness_a) (refuse 7 21)
    ∷ certified (certificate_a (pos 999461) (pos 8) witness_a) (refuse 7 18)
    ∷ certified (certificate_a (pos 999460) (pos 8) (pos 1 ∷ pos 1 ∷ pos 1 ∷ pos 1 ∷ pos 0 ∷ pos 1 ∷ pos 0 ∷ pos 1 ∷ [])) (refuse 7 21)
    ∷ certified (certificate_a (pos 999460) (pos 9) (witness_a ++ (pos 0 ∷ []))) (refuse 8 25)
    ∷ certified (certificate_a (pos 999460) (pos 8) (witness_a ++ (pos 0 ∷ []))) (refuse 4 0)
    ∷ traced (pos 660) marked (trace 2) (pos 660 ∷ pos 8 ∷ [])
    ∷ traced (pos 600) marked (trace 2) (pos 600 ∷ pos 8 ∷ [])
    ∷ traced (pos 599) marked (refuse 10 6) marked
    ∷ traced (pos 660) [] (refuse 13 1) []
    ∷ []
