-- Bytes put into a line from an index on, the rest as it was: what is put behind other bytes is put as one with them. So a line is made
-- part by part, and the values one by one.
use Rattle.std.specs.Prelude.{◌≡◌, refl, ℕ, suc, ◌+◌, ◌^◌, ◌≤◌, ◌<◌, ℤ, pos, negsuc, nat_abs, get_or, ◌<ℤ◌, ◌≤ℤ◌}
use Rattle.std.proofs.Common.{sym, subst, ◌∙◌, add-zero, not-suc-le-zero, add-one, arith, ltb→lt, drop-drop, length-take-le, take_at, take-suc}
use Rattle.std.proofs.Math.Path.{ap}
use mathlib.Core.List.{List, [], ◌∷◌, ◌++◌, append_assoc, append-nil}
use Rattle.std.proofs.Math.ListN.{length, take, drop, length-append}
use Rattle.std.proofs.Math.Seq.{paste, paste-zero, take-length, drop-append-add}
use Rattle.plan_text.specs.Lines.{digits, signed, value, values_in}
use Rattle.plan_text.proofs.DigitLaws.{length_digits}
use Rattle.plan_text.specs.PushLaws.{Pushed, put}

module _ (line : List ℕ) (at : ℕ) (a : List ℕ) (h : at ≤ length line) where
  front : length (take at line ++ a) ≡ at + length a
  front = length-append (take at line) a ∙ ap (λ (k : ℕ). k + length a) (length-take-le at line h)

  rest : (b : List ℕ) → drop (at + length a + length b) (put line at a) ≡ drop (at + length (a ++ b)) line
  unfolding put
  rest b =
      let p = take at line ++ a in
      let e : at + length a + length b ≡ at + length (a ++ b) = omega (arith, length-append a b) in
      ap (λ (k : ℕ). drop (k + length b) (put line at a)) (sym front)
      ∙ (drop-append-add p (drop (at + length a) line) (length b) ∙ (drop-drop (length b) (at + length a) line ∙ ap (λ (k : ℕ). drop k line) e))

  put_behind : (b : List ℕ) → put (put line at a) (at + length a) b ≡ put line at (a ++ b)
  unfolding put
  put_behind b =
      let p = take at line ++ a in
      ap (λ (l : List ℕ). l ++ b ++ drop (at + length a + length b) (put line at a)) (take_at p (drop (at + length a) line) (at + length a) front)
      ∙ (ap (λ (l : List ℕ). p ++ b ++ l) (rest b) ∙ ap (λ (l : List ℕ). l ++ drop (at + length (a ++ b)) line) (append_assoc (take at line) a b))

  pub behind : {b : List ℕ} {m n : ℕ} {first second : List ℕ} → Pushed line at a m first → Pushed first m b n second → Pushed line at (a ++ b) n second
  behind {b} {m} {n} {first} {second} p q =
      record {
        ends = omega (arith, p.ends, q.ends, length-append a b);
        holds = q.holds ∙ (ap (λ (l : List ℕ). put l m b) p.holds ∙ (ap (λ (k : ℕ). put (put line at a) k b) p.ends ∙ put_behind b));
      }

-- nothing is put
pub put_none : (line : List ℕ) (at : ℕ) → Pushed line at [] at line
unfolding put
put_none line at = record { ends = sym (add-zero at); holds = paste-zero line at [] }

-- a copy of all of bytes
pub put_all : (line : List ℕ) (at : ℕ) (bytes : List ℕ) → paste line at bytes (length bytes) ≡ put line at bytes
unfolding put
put_all line at bytes = ap (λ (l : List ℕ). take at line ++ l ++ drop (at + length bytes) line) (take-length bytes)

-- from the line's start on
pub put_first : (line bytes : List ℕ) {end : ℕ} {after : List ℕ} → Pushed line 0 bytes end after → (end ≡ length bytes) × (after ≡ bytes ++ drop end line)
unfolding put
put_first line bytes {end} {after} p = (omega (arith, p.ends), p.holds ∙ ap (λ (k : ℕ). bytes ++ drop k line) (sym p.ends))

-- ---- a number below 10^(k + 1), behind a mark

pub marked : (line : List ℕ) (at : ℕ) (mark : List ℕ) (k n : ℕ) {text : List ℕ} {m r : ℕ} {first second : List ℕ} → at ≤ length line → n < 10 ^ suc k
    → text ≡ mark ++ digits n → Pushed line at mark m first → Pushed first m (digits n) r second → Pushed line at text r second × r ≤ at + (length mark + suc k)
marked line at mark k n {text} {m} {r} {first} {second} h l e p q =
    (subst (λ (t : List ℕ). Pushed line at t r second) (sym e) (behind line at mark h p q), omega (arith, p.ends, q.ends, length_digits k n l))

pub negative_value : (x : ℤ) → x <ℤ pos 0 → value x ≡ (32 ∷ 45 ∷ []) ++ digits (nat_abs x)
unfolding value signed
negative_value (pos n) h = absurd (not-suc-le-zero (ltb→lt n 0 h.lt))
negative_value (negsuc n) h = refl

pub other_value : (x : ℤ) → pos 0 ≤ℤ x → value x ≡ (32 ∷ []) ++ digits (nat_abs x)
unfolding value signed
other_value (pos n) h = refl
other_value (negsuc n) h = absurd h.le

-- ---- values, one more

values_append : (xs ys : List ℤ) → values_in (xs ++ ys) ≡ values_in xs ++ values_in ys
unfolding values_in
values_append [] ys = refl
values_append (x ∷ xs) ys = ap (λ (l : List ℕ). value x ++ l) (values_append xs ys) ∙ sym (append_assoc (value x) (values_in xs) (values_in ys))

pub values_next : (xs : List ℤ) (i : ℕ) → i < length xs → values_in (take (i + 1) xs) ≡ values_in (take i xs) ++ value (get_or xs i (pos 0))
unfolding values_in
values_next xs i h =
    let x = get_or xs i (pos 0) in
    rw (add-one i) (ap values_in (take-suc xs i (pos 0) h) ∙ (values_append (take i xs) (x ∷ []) ∙ ap (λ (l : List ℕ). values_in (take i xs) ++ l) (append-nil (value x))))
