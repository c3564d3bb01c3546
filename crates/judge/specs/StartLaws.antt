-- The start is judged first, and after it come the entailments of the vertices: what its step says of all entailments, because a judgement of two
-- lists is that of the second after the first.
use Rattle.std.specs.Prelude.{◌≡◌, List, ℕ, ◌+◌, ◌≤◌, ℤ, length, drop, Result, Ok, Err}
use Rattle.std.proofs.Math.Path.{sym, ap}
use Rattle.std.proofs.Common.{subst, ◌∙◌, arith}
use Rattle.basics.specs.Lists.{gathered}
use Rattle.programs.specs.Program.{Program}
use Rattle.programs.proofs.Formed.{length_statements, length_procedures}
use Rattle.programs.specs.Decode as decode
use Rattle.certificates.specs.Certificate.{Certificate}
use Rattle.certificates.specs.CertificateWords.{certificate}
use Rattle.certificates.specs.Entailments.{Entailment, start_entailment, from_vertex, entailments}
use Rattle.certificates.specs.Judgement.{Progress, running, ended, judge_one, judge}
use Rattle.certificates.proofs.Judged.{judge_ended}
use Rattle.program_readers.specs.declared.places.Sizes.{Sizes}
use Rattle.answers.specs.declared.Reason.{Reason}
use Rattle.answers.specs.Answers.{number_of}
use Rattle.entailment_judge.specs.Answers.{verdict_of}
use Rattle.entailment_judge.specs.Judging.{judged_witness}
use Rattle.entailment_judge.specs.Verdicts.{progress_of, Inside, judged_verdict}
use Rattle.vertex_entailments.specs.Given.{Given}
use Rattle.judge.specs.CountSoFar.{count_or, count_so_far, count_ended}

module _ {program witness : List ℤ} {sizes : Sizes} {rows : List ℤ} (g : Given program witness sizes rows) where
  abbrev P : Program
  P = decode.program program

  abbrev C : Certificate
  C = certificate program witness

  abbrev pub start : Entailment
  start = start_entailment P C

  -- the start, and then the vertices
  all_judged : (s : Progress) → judge (entailments P C) s
      ≡ judge (gathered (from_vertex P C) (sizes.statements + sizes.procedures)) (judge_one start s)
  unfolding entailments judge
  all_judged s = rw (length_statements program, length_procedures program, g.header.statements, g.header.procedures)

  all_counted : (s : Progress) (n : ℕ) → count_so_far (entailments P C) s n
      ≡ count_so_far (gathered (from_vertex P C) (sizes.statements + sizes.procedures)) (judge_one start s) (count_or n (judge_one start s))
  unfolding entailments count_so_far
  all_counted s n = rw (length_statements program, length_procedures program, g.header.statements, g.header.procedures)

  -- what the step at the start says of all entailments
  module _ (w : List ℤ) (r : Result ℕ Reason) (q : r ≡ verdict_of w (judged_witness start w)) where
    stepped : (judge_one start (running w 0) ≡ progress_of w 0 0 r) × Inside w r
    stepped = judged_verdict start w 0 (omega arith) 0 r q

    pub start_ended : (reason : Reason) → r ≡ Err reason → ended (number_of reason) w ≡ judge (entailments P C) (running w 0)
    start_ended reason e =
        let f : judge_one start (running w 0) ≡ ended (number_of reason) w = stepped.0 ∙ ap (progress_of w 0 0) e in
        sym (all_judged (running w 0) ∙ ap (judge (gathered (from_vertex P C) (sizes.statements + sizes.procedures))) f ∙ judge_ended (gathered (from_vertex P C) (sizes.statements + sizes.procedures)) (number_of reason) w)

    -- and none has held
    pub start_refused : (reason : Reason) → r ≡ Err reason → 0 ≡ count_so_far (entailments P C) (running w 0) 0
    unfolding count_or
    start_refused reason e =
        let f : judge_one start (running w 0) ≡ ended (number_of reason) w = stepped.0 ∙ ap (progress_of w 0 0) e in
        sym (rw (all_counted (running w 0) 0, f) (count_ended (gathered (from_vertex P C) (sizes.statements + sizes.procedures)) (number_of reason) w 0))

    pub start_inside : (at : ℕ) → r ≡ Ok at → at ≤ length w
    start_inside at e = subst (Inside w) e stepped.1

    pub start_next : (at : ℕ) → r ≡ Ok at
        → judge (gathered (from_vertex P C) (sizes.statements + sizes.procedures)) (running (drop at w) 1) ≡ judge (entailments P C) (running w 0)
    start_next at e =
        let f : judge_one start (running w 0) ≡ running (drop at w) 1 = stepped.0 ∙ ap (progress_of w 0 0) e in
        sym (all_judged (running w 0) ∙ ap (judge (gathered (from_vertex P C) (sizes.statements + sizes.procedures))) f)

    pub start_counted : (at : ℕ) → r ≡ Ok at
        → count_so_far (gathered (from_vertex P C) (sizes.statements + sizes.procedures)) (running (drop at w) 1) 1 ≡ count_so_far (entailments P C) (running w 0) 0
    unfolding count_or
    start_counted at e =
        let f : judge_one start (running w 0) ≡ running (drop at w) 1 = stepped.0 ∙ ap (progress_of w 0 0) e in
        sym (rw (all_counted (running w 0) 0, f))
