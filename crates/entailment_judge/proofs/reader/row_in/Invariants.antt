-- The place after the coefficients that are left is the place after the row.
use Rattle.std.proofs.Common.{◌≡◌, ◌-◌, ◌≤◌, length, drop}
use Rattle.certificates.specs.Judgement.{read_coefficients, read_row}
use Rattle.entailment_judge.specs.Answers.{after_of}
use Rattle.entailment_judge.proofs.reader.row_in.Given as goal

abbrev pub invariant-loop-i : goal.invariant-loop-i
invariant-loop-i l =
    (l.next ≤ length l.w) × (after_of l.w (read_coefficients (l.columns - l.i) (drop l.next l.w)) ≡ after_of l.w (read_row l.columns (drop l.at l.w)))
