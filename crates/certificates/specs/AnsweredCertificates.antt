-- Certificates whose answers pin the definitions, by computation over one list: the entailments of each step and op in document 01's order,
-- with witnesses that fit in that order alone; for each limit that a short input shows, what is at the limit and what is beyond it; and
-- where an entry is refused.
use Rattle.std.specs.Prelude.{◌≡◌, List, [], ◌∷◌, ◌++◌, ℕ, ◌-◌, zero, suc, ℤ, pos}
use Rattle.words.specs.Answer.{Answer, safe, refuse}
use Rattle.words.specs.Literals.{◌·◌, −◌, times}
use Rattle.certificates.specs.CertificateTests.{certificate_answer}

-- a program, a certificate and the answer
pub record Case : Type 0 where
  pub program : List ℤ
  pub certificate : List ℤ
  pub answer : Answer

unfoldable pub AllAnswered : List Case → Type 0
AllAnswered [] = Unit
AllAnswered (c ∷ cs) = (certificate_answer c.program c.certificate ≡ c.answer) × AllAnswered cs

-- ---- the order of entailments, cases and rows

-- main calls f(5) and asserts g = 5; f(a) sets g = a, then a = 0: a call's entry before its return, and the true case of `=` before the false
abbrev calls : Case
calls =
    record {
      program = 4 · 2 · 1 · 32 · 5 · 4 · 2 · 2 · 6 · 6 · 0 · 6 · 12 · 19 · 26 · 29 · 0 · 2 · 2 · 0 · 5 · 0 · 0 · 5 · 5 · − 1 ∷ 999995 · 1 · 0 · 4 · 0 · 0 · 0 · 0 · 1 · 0 · 6 · 1 · 0 · 0 · 0 · 0 · 1 · 0 · 0 · 3 · 1 · 1 · [];
      certificate = 1 · 47 · 42 · 1 · 1 · 1 · 1 · 1 · 1 · 1 · 1 · 0 · 1 · 10 · 23 · 0 · 23 · 0 · 36 · 0 · 2 · − 1 ∷ 999995 · 0 · 1 · 0 · 5 · 0 · − 1 ∷ 2 · 0 · 0 · 0 · − 1 ∷ 0 · 1 · 0 · 0 · 0 · 1 · 0 · − 1 ∷ 2 · 0 · 0 · 0 · − 1 ∷ 1 · 0 · 0 · 0 · 0 · 1 · − 1 ∷ 0 · 2 · 0 · 0 · 0 · − 1 ∷ 1 · 0 · 0 · 0 · 1 · − 1 ∷ 1 · 1 · 1 · 1 · 1 · 1 · 1 · 0 · 1 · 0 · 1 · 1 · 0 · 0 · 1 · 1 · 0 · 1 · 0 · 1 · 1 · 1 · 1 · 0 · 1 · 0 · 1 · 1 · 1 · 1 · 0 · 1 · 0 · 1 · 1 · 1 · 1 · 1 · 0 · 1 · 0 · 1 · [];
      answer = safe 10;
    }

-- g0 ≤ g before a call and 2 g ≤ 2 g' by its summary give 2 g0 ≤ 2 g' after it: the disjunct's row twice, then the summary's once
abbrev returns : Case
returns =
    record {
      program = 2 · 2 · 1 · 11 · 5 · 1 · 6 · 6 · 0 · 3 · 5 · 8 · 0 · 3 · 2 · 0 · 4 · 1 · 0 · 0 · 2 · 0 · 0 · [];
      certificate = 1 · 11 · 16 · 1 · 1 · 1 · 1 · 1 · 1 · 0 · 5 · 5 · 5 · 10 · 5 · 1 · 0 · 0 · 1 · − 1 ∷ 1 · 0 · 0 · 2 · − 2 ∷ 0 · 1 · 1 · 1 · 1 · 0 · 1 · 1 · 2 · 1 · 1 · 1 · 1 · 1 · 1 · 1 · 1 · [];
      answer = safe 6;
    }

-- plan A: x = 540; assert x − 600 < 0
abbrev pub plan_a : List ℤ → Answer → Case
plan_a certificate answer = record { program = 2 · 1 · 1 · 15 · 2 · 4 · 6 · 0 · 6 · 12 · 0 · 2 · 0 · 0 · 540 · 0 · 0 · 3 · 1 · − 1 ∷ 999400 · 1 · 1 · 0 · 0 · []; certificate = certificate; answer = answer }

-- its certificate with another row at vertex 2, a constant and a coefficient of x now, and other witness words
abbrev row_a : ℤ → ℕ → ℕ → List ℤ → Answer → Case
row_a high low coefficient witness = plan_a (1 · 6 · 8 · 1 · 1 · 1 · 1 · 0 · 1 · 0 · 0 · 0 · 1 · high ∷ low · 0 · coefficient · witness)

-- 2 x − 1,080 ≤ 0 and the guard −x + 600 ≤ 0 contradict: the disjunct's row once, then the guard's twice
abbrev guards : List Case
guards = row_a (− 1) 998920 2 (1 · 1 · 1 · 1 · 0 · 1 · 2 · 1 · []) (safe 5)
    ∷ row_a (− 1) 998920 2 (1 · 1 · 1 · 1 · 0 · 2 · 1 · 1 · []) (refuse 7 21)
    ∷ []

-- a branch on x op 0, both sides to the exit, whose disjuncts are what the true cases give and then what the false ones do: case i is witnessed
-- by disjunct i, row by row
abbrev by_op : ℕ → List ℤ → Answer → Case
by_op op certificate answer = record { program = 1 · 1 · 1 · 10 · 3 · 6 · 0 · 7 · 0 · 2 · 2 · op · 0 · 0 · 1 · 1 · 0 · 0 · []; certificate = certificate; answer = answer }

abbrev ops : List Case
ops = by_op 1 (1 · 11 · 9 · 1 · 2 · 1 · 0 · 1 · 0 · 0 · 1 · 0 · 1 · 0 · 1 · 1 · 0 · 0 · 0 · − 1 ∷ 1 · 1 · 1 · 1 · 2 · 1 · 1 · 1 · 1 · []) (safe 5)
    ∷ by_op 2 (1 · 11 · 9 · 1 · 2 · 1 · 0 · 1 · 0 · 0 · 1 · 0 · 1 · 0 · − 1 ∷ 1 · 0 · 0 · 0 · 1 · 1 · 1 · 1 · 1 · 2 · 1 · 1 · 1 · 1 · []) (safe 5)
    ∷ by_op 3 (1 · 11 · 9 · 1 · 2 · 1 · 0 · 1 · 0 · 0 · 1 · 0 · 0 · 0 · 1 · 1 · 0 · 1 · 0 · − 1 ∷ 1 · 1 · 1 · 1 · 2 · 1 · 1 · 1 · 1 · []) (safe 5)
    ∷ by_op 4 (1 · 11 · 9 · 1 · 2 · 1 · 0 · 1 · 0 · 0 · 1 · 0 · 0 · 0 · − 1 ∷ 1 · 0 · 1 · 0 · 1 · 1 · 1 · 1 · 1 · 2 · 1 · 1 · 1 · 1 · []) (safe 5)
    ∷ by_op 5 (1 · 20 · 17 · 1 · 3 · 1 · 0 · 1 · 0 · 0 · 2 · 0 · 0 · 0 · 1 · 0 · 0 · 0 · − 1 ∷ 1 · 0 · 1 · 0 · 1 · 1 · 0 · 1 · 0 · − 1 ∷ 1 · 1 · 1 · 1 · 0 · 1 · 0 · 1 · 2 · 1 · 1 · 3 · 1 · 1 · 1 · 1 · 1 · []) (safe 7)
    ∷ by_op 6 (1 · 20 · 17 · 1 · 3 · 1 · 0 · 1 · 0 · 0 · 1 · 0 · 1 · 0 · 1 · 1 · 0 · 1 · 0 · − 1 ∷ 2 · 0 · 0 · 0 · 1 · 0 · 0 · 0 · − 1 ∷ 1 · 1 · 1 · 1 · 2 · 1 · 1 · 3 · 1 · 1 · 0 · 1 · 0 · 1 · 1 · 1 · 1 · []) (safe 7)
    ∷ []

-- ---- limits

-- with a second row there, x and another constant
abbrev constant_a : ℤ → ℤ → Answer → Case
constant_a high low = plan_a (1 · 10 · 10 · 1 · 1 · 1 · 1 · 0 · 1 · 0 · 0 · 0 · 2 · − 1 ∷ 999460 · 0 · 1 · high ∷ low ∷ 0 · 1 · 1 · 1 · 1 · 1 · 1 · 0 · 1 · 0 · 1 · 1 · [])

-- a coefficient, and a multiplier, of 1,000 and of 1,001; constants of −4,000,000,000 and 4,000,000,000, and one beyond; low words of 1,000,000 and
-- −1; a divisor of 1,000 and of 1,001
abbrev numbers : List Case
numbers = row_a (− 1) 460000 1000 (1 · 1 · 1 · 1 · 0 · 1 · 1000 · 1 · []) (safe 5)
    ∷ row_a (− 1) 459460 1001 (1 · 1 · 1 · 1 · 0 · 1 · 1000 · 1 · []) (refuse 5 4)
    ∷ row_a (− 1) 460000 1000 (1 · 1 · 1 · 1 · 0 · 1 · 1001 · 1 · []) (refuse 6 21)
    ∷ constant_a (− 4000) (pos 0) (safe 5)
    ∷ constant_a (− 4001) (pos 999999) (refuse 5 4)
    ∷ constant_a (pos 4000) (pos 0) (refuse 7 22)
    ∷ constant_a (pos 4000) (pos 1) (refuse 5 4)
    ∷ constant_a (− 2) (pos 1000000) (refuse 5 4)
    ∷ constant_a (pos 0) (− 1) (refuse 5 4)
    ∷ row_a (− 1) 999460 1 (1 · 1 · 1000 · 1 · 0 · 1 · 1 · 1 · []) (safe 5)
    ∷ row_a (− 1) 999460 1 (1 · 1 · 1001 · 1 · 0 · 1 · 1 · 1 · []) (refuse 6 18)
    ∷ []

-- so many rows, each x − 540 ≤ 0, at vertex 2
abbrev rows_a : ℕ → ℕ → ℕ → Answer → Case
rows_a m R W =
    plan_a (1 · R · W · 1 · 1 · 1 · 1 · 0 · 1 · 0 · 0 · 0 · m · times m (− 1 ∷ 999460 · 0 · 1 · []) (1 · 1 · times m (1 · []) (1 · 0 · 1 · times (m - 1) (0 · []) (1 · 1 · []))))

-- so many summary disjuncts of a procedure that calls itself
abbrev disjuncts : ℕ → ℕ → Answer → Case
disjuncts m W answer = record { program = 1 · 1 · 0 · 5 · 5 · 6 · 0 · 2 · 0 · 1 · 1 · 0 · 0 · []; certificate = 1 · m · W · 1 · 0 · m · 0 · 0 · 0 · times m (0 · []) (times W (1 · []) []); answer = answer }

abbrev sizes : List Case
sizes = rows_a 32 130 70 (safe 5) ∷ rows_a 33 134 72 (refuse 5 4) ∷ disjuncts 8 10 (safe 10) ∷ disjuncts 9 11 (refuse 5 5) ∷ []

-- ---- entries refused: a row of 0s at vertex 2; one at vertex 1, and at vertex 2 too many disjuncts; one at vertex 2, and no words after it

abbrev refusals : List Case
refusals = row_a (− 1) 999460 0 (1 · 1 · 1 · 1 · 0 · 1 · 1 · 1 · []) (refuse 15 4)
    ∷ plan_a (1 · 6 · 8 · 1 · 9 · 1 · 1 · 1 · 0 · 0 · 0 · 0 · 1 · − 1 ∷ 999460 · 0 · 0 · 1 · 1 · 1 · 1 · 0 · 1 · 1 · 1 · []) (refuse 15 3)
    ∷ plan_a (1 · 6 · 8 · 1 · 2 · 1 · 1 · 0 · 1 · 0 · 0 · 0 · 1 · − 1 ∷ 999460 · 0 · 0 · 1 · 1 · 1 · 1 · 0 · 1 · 1 · 1 · []) (refuse 5 4)
    ∷ []

-- ---- splits: a skip to the exit, whose two disjuncts are x ≤ 0 and −x + 1 ≤ 0; no one of them follows, and a split on x gives one a side

abbrev skips : ℕ → List ℤ → Answer → Case
skips W witness answer =
    record {
      program = 1 · 1 · 1 · 5 · 1 · 6 · 0 · 2 · 0 · 2 · 1 · 0 · 0 · [];
      certificate = 1 · 11 · W · 1 · 2 · 1 · 0 · 1 · 0 · 0 · 1 · 0 · 0 · 0 · 1 · 1 · 0 · 1 · 0 · − 1 ∷ 1 · witness;
      answer = answer;
    }

-- the first word, the split's row, two leaves
abbrev on_x : ℤ → ℤ → ℤ → ℕ → List ℤ → List ℤ → Answer → Case
on_x first high low coefficient below above = skips 14 (first ∷ high ∷ low ∷ 0 · coefficient · below ++ above ++ 1 · 1 · [])

-- the witnesses on the other sides of so many splits on 0 ≤ 0, from the last split up: each refutes 1 ≤ 0
unfoldable pub beyond : ℕ → List ℤ → List ℤ
beyond zero rest = rest
beyond (suc j) rest = 0 · times j (0 · []) (1 · beyond j rest)

-- a split on x below so many
abbrev comb : ℕ → ℕ → Answer → Case
comb m W =
    skips W (times m (− 1 ∷ 0 · 0 · 0 · 0 · []) (− 1 ∷ 0 · 0 · 0 · 1 · 1 · 1 · times m (0 · []) (1 · 2 · 1 · times m (0 · []) (1 · beyond m (1 · 1 · [])))))

abbrev splits : List Case
splits = on_x (− 1) (pos 0) (pos 0) 1 (1 · 1 · 1 · []) (2 · 1 · 1 · []) (safe 4)
    ∷ on_x (− 2) (pos 0) (pos 0) 1 (1 · 1 · 1 · []) (2 · 1 · 1 · []) (refuse 6 21)
    ∷ on_x (− 1) (pos 0) (pos 0) 1 (2 · 1 · 1 · []) (1 · 1 · 1 · []) (refuse 7 21)
    ∷ on_x (− 1) (pos 0) (pos 0) 1 (1 · 1 · 1 · []) (1 · 1 · 1 · []) (refuse 7 21)
    ∷ on_x (− 1) (pos 0) (pos 0) 1 (2 · 1 · 1 · []) (2 · 0 · 1 · []) (refuse 6 21)
    ∷ on_x (− 1) (pos 4000) (pos 0) 1 (1 · 1 · 1 · []) (2 · 1 · 1 · []) (refuse 7 21)
    ∷ on_x (− 1) (pos 4000) (pos 1) 1 (1 · 1 · 1 · []) (2 · 1 · 1 · []) (refuse 6 21)
    ∷ on_x (− 1) (− 4000) (pos 0) 1 (1 · 1 · 1 · []) (2 · 1 · 1 · []) (refuse 7 21)
    ∷ on_x (− 1) (− 4001) (pos 999999) 1 (1 · 1 · 1 · []) (2 · 1 · 1 · []) (refuse 6 21)
    ∷ on_x (− 1) (pos 0) (pos 1000000) 1 (1 · 1 · 1 · []) (2 · 1 · 1 · []) (refuse 6 21)
    ∷ on_x (− 1) (pos 1) (− 1) 1 (1 · 1 · 1 · []) (2 · 1 · 1 · []) (refuse 6 21)
    ∷ on_x (− 1) (pos 0) (pos 0) 1001 (1 · 1 · 1 · []) (2 · 1 · 1 · []) (refuse 6 21)
    ∷ comb 7 98 (safe 4)
    ∷ comb 8 114 (refuse 6 21)
    ∷ []

-- ---- all of them

abbrev pub cases : List Case
cases = calls ∷ returns ∷ guards ++ ops ++ numbers ++ sizes ++ refusals ++ splits
