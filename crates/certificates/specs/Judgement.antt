-- The judgement of witness words: "entailment by entailment, 6 before 7; 8 last".
-- An entailment's words are all read, with their ranges (6), before its sums are looked at (7).
use Rattle.std.specs.Prelude.{ℕ, zero, suc, ◌-◌, Bool, true, false, cond, ◌&&◌, List, [], ◌∷◌, leb, length, ℤ, pos, negsuc}
use Rattle.std.proofs.Math.Option.{Option, none, some}
use Rattle.std.proofs.Math.ListN.{get_elem?}
use Rattle.rows.specs.Rows.{Row}
use Rattle.words.specs.Limits.{coefficient_limit, most_multiplier, most_divisor, most_splits}
use Rattle.words.specs.Words.{small}
use Rattle.words.specs.RowWords.{constant_of, is_constant}
use Rattle.words.specs.Answer.{Answer, safe, refuse}
use Rattle.certificates.specs.Certificate.{Disjunct}
use Rattle.certificates.specs.Entailments.{Entailment}
use Rattle.certificates.specs.Witnesses.{Share, Witness, contradiction, target, split, under, other_side, fits}

-- ---- reading

-- a value and the words left; or a "witness word missing or beyond its range"
pub data Read (A : Type 0) : Type 0 where
  got : A → List ℤ → Read A
  missing : Read A

unfoldable pub and_then : {A B : Type 0} → Read A → (A → List ℤ → Read B) → Read B
and_then (got a ws) f = f a ws
and_then missing f = missing

unfoldable pub read_within : ℕ → ℕ → List ℤ → Read ℕ
read_within low high [] = missing
read_within low high (pos n ∷ ws) = cond (leb low n && leb n high) (got n ws) missing
read_within low high (negsuc n ∷ ws) = missing

unfoldable pub read_multipliers : ℕ → List ℤ → Read (List ℕ)
read_multipliers zero ws = got [] ws
read_multipliers (suc n) ws = and_then (read_within 0 most_multiplier ws) (λ m rest. and_then (read_multipliers n rest) (λ ms left. got (m ∷ ms) left))

-- a divisor and n multipliers for each row
unfoldable pub read_shares : ℕ → List Row → List ℤ → Read (List Share)
read_shares n [] ws = got [] ws
read_shares n (r ∷ rs) ws =
    and_then (read_within 1 most_divisor ws) (λ d rest. and_then (read_multipliers n rest) (λ ms left. and_then (read_shares n rs left) (λ xs last. got (record { divisor = d; multipliers = ms } ∷ xs) last)))

unfoldable pub read_target : ℕ → ℕ → Option Disjunct → List ℤ → Read Witness
read_target n j none ws = missing
read_target n j (some d) ws = and_then (read_shares n d ws) (λ xs rest. got (target j xs) rest)

unfoldable pub read_chosen : Entailment → ℕ → List ℤ → Read Witness
read_chosen e zero ws = and_then (read_multipliers (length e.premises) ws) (λ ms rest. got (contradiction ms) rest)
read_chosen e (suc j) ws = read_target (length e.premises) j (get_elem? e.targets j) ws

unfoldable pub read_leaf : Entailment → List ℤ → Read Witness
read_leaf e ws = and_then (read_within 0 (length e.targets) ws) (read_chosen e)

-- ---- splits: "−1, then a row over that entailment's columns", then a witness under each side

-- its constant's two words
unfoldable pub read_constant : List ℤ → Read ℤ
read_constant [] = missing
read_constant (high ∷ []) = missing
read_constant (high ∷ (low ∷ ws)) = cond (is_constant high low) (got (constant_of high low) ws) missing

unfoldable pub read_coefficient : List ℤ → Read ℤ
read_coefficient [] = missing
read_coefficient (z ∷ ws) = cond (small coefficient_limit z) (got z ws) missing

unfoldable pub read_coefficients : ℕ → List ℤ → Read (List ℤ)
read_coefficients zero ws = got [] ws
read_coefficients (suc n) ws = and_then (read_coefficient ws) (λ c rest. and_then (read_coefficients n rest) (λ cs left. got (c ∷ cs) left))

unfoldable pub read_row : ℕ → List ℤ → Read Row
read_row columns ws = and_then (read_constant ws) (λ c rest. and_then (read_coefficients columns rest) (λ cs left. got (record { constant = c; coefficients = cs }) left))

unfoldable pub read_split : (Entailment → List ℤ → Read Witness) → Entailment → List ℤ → Read Witness
read_split below e ws =
    and_then (read_row e.columns ws) (λ r rest. and_then (below (under r e) rest) (λ w left. and_then (below (under (other_side r) e) left) (λ v last. got (split r w v) last)))

-- with so many splits left
unfoldable pub read_tree : ℕ → Entailment → List ℤ → Read Witness
read_tree zero e ws = read_leaf e ws
read_tree (suc d) e [] = read_leaf e []
read_tree (suc d) e (pos n ∷ ws) = read_leaf e (pos n ∷ ws)
read_tree (suc d) e (negsuc zero ∷ ws) = read_split (read_tree d) e ws
read_tree (suc d) e (negsuc (suc n) ∷ ws) = read_leaf e (negsuc (suc n) ∷ ws)

unfoldable pub read_witness : Entailment → List ℤ → Read Witness
read_witness e ws = read_tree most_splits e ws

-- ---- judging

-- how far a judgement has come: the words left and the entailments that held;
-- or the number of the refusal that ended it, and the words from its entailment's first on
pub data Progress : Type 0 where
  running : List ℤ → ℕ → Progress
  ended : ℕ → List ℤ → Progress

unfoldable pub judge_read : Entailment → List ℤ → ℕ → Read Witness → Progress
judge_read e ws n missing = ended 6 ws
judge_read e ws n (got w rest) = cond (fits e w) (running rest (suc n)) (ended 7 ws)

unfoldable pub judge_one : Entailment → Progress → Progress
judge_one e (running ws n) = judge_read e ws n (read_witness e ws)
judge_one e (ended number ws) = ended number ws

unfoldable pub judge : List Entailment → Progress → Progress
judge [] s = s
judge (e ∷ es) s = judge es (judge_one e s)

-- the answer, where the witness has so many words in all
unfoldable pub judgement_answer : ℕ → Progress → Answer
judgement_answer total (running [] n) = safe n
judgement_answer total (running (w ∷ ws) n) = refuse 8 (total - length (w ∷ ws))
judgement_answer total (ended number ws) = refuse number (total - length ws)
