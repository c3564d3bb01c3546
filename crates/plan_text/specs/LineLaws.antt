-- The answer can be read back from its line: a line's first byte tells which kind of answer it is of, and each number ends at a blank or at
-- the line's end. So two answers with the same line are one, and if it is a trace's they have the same values. The reader is here for this
-- alone. So it is with a writer's answer.
use Rattle.std.specs.Prelude.{Bool, true, false, cond, List, [], ◌∷◌, eqb, ℤ, pos, neg_ℤ, nat_abs, get_or, Result, Ok, Err}
use Prim.Native.Nat.{ℕ, ◌+◌, ◌-◌, ◌*◌}
use Rattle.words.specs.Tests.{refusal_on}
use Rattle.words.specs.Answer.{Answer, safe, trace, refused}
use Rattle.answers.specs.declared.Refusal.{Refusal}

-- ---- numbers

abbrev pub signed_by : Bool → ℕ → ℤ
signed_by minus n = cond minus (neg_ℤ (pos n)) (pos n)

-- the numbers that bytes spell, where a minus or none and the digits of n went before
unfoldable pub numbers : Bool → ℕ → List ℕ → List ℤ
numbers minus n [] = []
numbers minus n (b ∷ bytes) =
    cond (eqb b 10) (signed_by minus n ∷ [])
    (cond (eqb b 32) (signed_by minus n ∷ numbers false 0 bytes)
    (cond (eqb b 45) (numbers true 0 bytes) (numbers minus (n * 10 + (b - 48)) bytes)))

-- ---- the line

unfoldable pub after_blank : List ℕ → List ℕ
after_blank [] = []
after_blank (b ∷ bytes) = cond (eqb b 32) bytes (after_blank bytes)

unfoldable pub numbers_in : List ℕ → List ℤ
numbers_in line = numbers false 0 (after_blank line)

-- those in the line of an answer
abbrev pub told : Answer → List ℤ → List ℤ
told (safe count) values = pos count ∷ []
told (trace steps) values = pos steps ∷ values
told (refused r) values = pos r.number ∷ pos r.place ∷ pos r.line ∷ []

-- the answer of a line with this first byte and these numbers
unfoldable pub answer_by : ℕ → List ℤ → Answer
answer_by first ns =
    let n : ℕ → ℕ = λ i. nat_abs (get_or ns i (pos 0)) in
    cond (eqb first 115) (safe (n 0)) (cond (eqb first 116) (trace (n 0)) (refused (refusal_on (n 0) (n 1) (n 2))))

unfoldable pub answer_in : List ℕ → Answer
answer_in line = answer_by (get_or line 0 0) (numbers_in line)

-- ---- a writer's answer

unfoldable pub writing_by : ℕ → List ℤ → Result ℕ Refusal
writing_by first ns =
    let n : ℕ → ℕ = λ i. nat_abs (get_or ns i (pos 0)) in
    cond (eqb first 119) (Ok (n 0)) (Err (record { number = n 0; place = n 1; line = n 2 }))

unfoldable pub writing_in : List ℕ → Result ℕ Refusal
writing_in line = writing_by (get_or line 0 0) (numbers_in line)
