-- The answer can be read back from its line: a line's first byte tells which kind of answer it is of, and each number ends at a blank or at
-- the line's end. So two answers with the same line are one, and if it is a trace's they have the same values. The reader is here for this
-- alone. So it is with a writer's answer.
use Rattle.std.specs.Prelude.{◌≡◌, Bool, true, false, List, [], ◌∷◌, ◌++◌, ℤ, pos, negsuc, drop, Result, Ok, Err}
use Rattle.std.proofs.Math.Path.{refl, sym, ap}
use Rattle.std.proofs.Common.{◌∙◌, append_assoc, append-nil, arith}
use Prim.Native.Nat.{ℕ, zero, suc, ◌+◌, ◌/◌, ◌%◌, ◌≤◌}
use borrow.Author.Tests.{ne_eqb}
use Rattle.words.specs.Tests as tests
use Rattle.words.specs.Answer.{Answer, safe, trace, refused}
use Rattle.answers.specs.Answers.{refusal_of}
use Rattle.answers.specs.declared.Refusal.{Refusal}
use Rattle.plan_text.specs.Lines.{digit, digits_within, digits, signed, number, value, values_in, safe_word, trace_word, written_word, line_end, line_of, writing_line}
use Rattle.plan_text.specs.LineLaws.{after_blank, answer_by, answer_in, numbers, numbers_in, signed_by, told, writing_by, writing_in}

module _ (minus : Bool) where
  one_digit : (n : ℕ) (rest : List ℕ) → numbers minus (n / 10) (digit (n % 10) ∷ rest) ≡ numbers minus n rest
  unfolding numbers digit
  one_digit n rest =
      rw (ne_eqb (48 + n % 10) 10 (λ e. omega arith), ne_eqb (48 + n % 10) 32 (λ e. omega arith), ne_eqb (48 + n % 10) 45 (λ e. omega arith))
      (ap (λ (m : ℕ). numbers minus m rest) (omega arith))

  last_digit : (k n : ℕ) (rest : List ℕ) → numbers minus 0 (digits_within k (n / 10) ++ (digit (n % 10) ∷ rest)) ≡ numbers minus (n / 10) (digit (n % 10) ∷ rest)
      → numbers minus 0 (digits_within k (n / 10) ++ (digit (n % 10) ∷ []) ++ rest) ≡ numbers minus n rest
  last_digit k n rest e = ap (numbers minus 0) (append_assoc (digits_within k (n / 10)) (digit (n % 10) ∷ []) rest) ∙ (e ∙ one_digit n rest)

  within_read : (k n : ℕ) (rest : List ℕ) → n ≤ k → numbers minus 0 (digits_within k n ++ rest) ≡ numbers minus n rest
  unfolding digits_within
  within_read zero n rest h = ap (λ (m : ℕ). numbers minus m rest) (omega arith)
  within_read (suc k) zero rest h = refl
  within_read (suc k) (suc n) rest h = last_digit k (suc n) rest (within_read k (suc n / 10) (digit (suc n % 10) ∷ rest) (omega arith))

  digits_read : (n : ℕ) (rest : List ℕ) → numbers minus 0 (digits n ++ rest) ≡ numbers minus n rest
  unfolding digits
  digits_read n rest = last_digit n n rest (within_read n (n / 10) (digit (n % 10) ∷ rest) (omega arith))

  -- a number's digits, the values behind it and the line's end
  number_read : (n : ℕ) (xs : List ℤ) {read : List ℤ} → numbers minus n (values_in xs ++ line_end) ≡ read → numbers minus 0 (digits n ++ values_in xs ++ line_end) ≡ read
  number_read n xs e = ap (numbers minus 0) (append_assoc (digits n) (values_in xs) line_end) ∙ (digits_read n (values_in xs ++ line_end) ∙ e)

values_read : (minus : Bool) (n : ℕ) (xs : List ℤ) → numbers minus n (values_in xs ++ line_end) ≡ signed_by minus n ∷ xs
unfolding numbers values_in value signed
values_read minus n [] = refl
values_read minus n (pos m ∷ xs) = ap (λ (l : List ℤ). signed_by minus n ∷ l) (number_read false m xs (values_read false m xs))
values_read minus n (negsuc m ∷ xs) = ap (λ (l : List ℤ). signed_by minus n ∷ l) (number_read true (suc m) xs (values_read true (suc m) xs))

refused_values : (r : tests.Refusal) → digits r.number ++ number r.place ++ number r.line ≡ digits r.number ++ values_in (pos r.place ∷ pos r.line ∷ [])
unfolding number values_in value signed
refused_values r = simp (append_assoc, append-nil)

numbers_told : (a : Answer) (values : List ℤ) → numbers_in (line_of a values) ≡ told a values
unfolding numbers_in after_blank line_of number
numbers_told (safe count) values = digits_read false count line_end ∙ unfold numbers in refl
numbers_told (trace steps) values = number_read false steps values (values_read false steps values)
numbers_told (refused r) values =
    let behind = pos r.place ∷ pos r.line ∷ [] in
    ap (λ (l : List ℕ). numbers false 0 (l ++ line_end)) (refused_values r) ∙ number_read false r.number behind (values_read false r.number behind)

answer_told : (a : Answer) (values : List ℤ) → answer_in (line_of a values) ≡ a
unfolding answer_in answer_by line_of
answer_told (safe count) values = ap (answer_by 115) (numbers_told (safe count) values)
answer_told (trace steps) values = ap (answer_by 116) (numbers_told (trace steps) values)
answer_told (refused r) values = ap (answer_by 114) (numbers_told (refused r) values)

-- ---- what a line tells

module _ (a : Answer) (values : List ℤ) where
  read_back : {line : List ℕ} → line_of a values ≡ line → a ≡ answer_in line
  read_back e = sym (answer_told a values) ∙ ap answer_in e

  pub same_answer : (b : Answer) (others : List ℤ) → line_of a values ≡ line_of b others → a ≡ b
  same_answer b others e = read_back e ∙ answer_told b others

  pub same_trace : (steps : ℕ) (others : List ℤ) → line_of a values ≡ line_of (trace steps) others → (a ≡ trace steps) × (values ≡ others)
  same_trace steps others e =
      let q : a ≡ trace steps = same_answer (trace steps) others e in
      let alike : told a values ≡ told (trace steps) others = sym (numbers_told a values) ∙ (ap numbers_in e ∙ numbers_told (trace steps) others) in
      (q, ap (drop 1) (sym (ap (λ (x : Answer). told x values) q) ∙ alike))

  -- only a safe answer's line begins with `safe`, and only a trace's with `trace`
  pub begins_safe : {rest : List ℕ} → line_of a values ≡ safe_word ++ rest → (count : ℕ) × (a ≡ safe count)
  unfolding answer_in answer_by
  begins_safe e = (_, read_back e)

  pub begins_trace : {rest : List ℕ} → line_of a values ≡ trace_word ++ rest → (steps : ℕ) × (a ≡ trace steps)
  unfolding answer_in answer_by
  begins_trace e = (_, read_back e)

count_told : (count : ℕ) → numbers_in (writing_line (Ok count)) ≡ pos count ∷ []
unfolding numbers_in after_blank writing_line number
count_told count = digits_read false count line_end ∙ unfold numbers in refl

writing_told : (w : Result ℕ Refusal) → writing_in (writing_line w) ≡ w
unfolding writing_in writing_by writing_line line_of
writing_told (Ok count) = ap (writing_by 119) (count_told count)
writing_told (Err r) = ap (writing_by 114) (numbers_told (refused (refusal_of r)) [])

module _ (w : Result ℕ Refusal) where
  pub same_writing : (v : Result ℕ Refusal) → writing_line w ≡ writing_line v → w ≡ v
  same_writing v e = sym (writing_told w) ∙ (ap writing_in e ∙ writing_told v)

  -- only the line of words that are written begins with `written`
  pub begins_written : {rest : List ℕ} → writing_line w ≡ written_word ++ rest → (count : ℕ) × (w ≡ Ok count)
  unfolding writing_in writing_by
  begins_written e = (_, sym (writing_told w) ∙ ap writing_in e)
