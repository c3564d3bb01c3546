-- "All that was accepted is accepted still": where both have the form and each entailment has a witness that works by document 01's rule,
-- which doesn't round, in its turn, with no word left, safe is answered, with the number of entailments. Rounding lets in every constant that
-- is not below divisor times the row's, and the rule for a contradiction is the same.
use Rattle.std.specs.Prelude.{List, ℕ, ℤ}
use Rattle.rows.specs.Rows.{fits_constant}
use Rattle.rows.specs.Rounding.{not_below}
use Rattle.rows.proofs.Rounding.{fits_still}
use Rattle.certificates.proofs.Rules.{all_work_more}
use Rattle.checker.specs.Demand2.{WitnessedBy, Witnessed, Accepted, listed_entailments}
use Rattle.checker.proofs.Demand2.{safe_answered}

module _ (program witness : List ℤ) where
  witnessed_still : (count : ℕ) → WitnessedBy program witness not_below count → Witnessed program witness count
  witnessed_still count a =
      record {
        forms = a.forms;
        counted = a.counted;
        witnesses = a.witnesses;
        work = all_work_more not_below fits_constant fits_still (listed_entailments program witness) a.witnesses a.work;
        spelled = a.spelled;
      }

  pub accepted_still : (buffer count : ℕ) → WitnessedBy program witness not_below count → Accepted program witness buffer count
  accepted_still buffer count a = (safe_answered program witness buffer count).1 (witnessed_still count a)
