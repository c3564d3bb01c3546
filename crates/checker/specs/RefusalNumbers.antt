-- Which numbers are answered: 1 to 3 for a program, 4 to 8, 15 and 25 for a certificate, 4 and 9 to 14 for a trace, and so 1 to 15 and 25 alone. A
-- failing test's number is that of one of the tests, and what is answered after the tests is numbered by the definitions of the answers.
use Rattle.std.specs.Prelude.{ℕ, suc, ◌≤◌}
use Rattle.words.specs.Tests.{Refusal}

-- a refusal whose number is 4 or one of 9..=high
abbrev pub FourOrNine : ℕ → Refusal → Type 0
FourOrNine high r = (4 ≤ r.number) × (r.number ≤ high) × (5 ≤ r.number → 9 ≤ r.number)

-- a refusal whose number is one of 4..=high, 15 or 25
abbrev pub CertificateNumber : ℕ → Refusal → Type 0
CertificateNumber high r = (4 ≤ r.number) × (r.number ≤ 25) × (suc high ≤ r.number → 15 ≤ r.number) × (16 ≤ r.number → 25 ≤ r.number)

-- a number of the check: 1..=15 or 25
abbrev pub CheckNumber : Refusal → Type 0
CheckNumber r = (1 ≤ r.number) × (r.number ≤ 25) × (16 ≤ r.number → 25 ≤ r.number)

-- a number of the judge: 1..=8, 15 or 25
abbrev pub JudgeNumber : Refusal → Type 0
JudgeNumber r = (1 ≤ r.number) × (r.number ≤ 25) × (9 ≤ r.number → 15 ≤ r.number) × (16 ≤ r.number → 25 ≤ r.number)
