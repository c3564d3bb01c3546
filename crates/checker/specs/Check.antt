-- The check: "For all sheets and every result room, the checker ends; it answers safe, trace or the refusal, number and place, of the first
-- of the papers' tests, in their order, that fails".
use Rattle.std.specs.Prelude.{ℕ, cond, ◌&&◌, ◌||◌, List, ◌++◌, leb, eqb, ℤ, pos, length, drop}
use Rattle.basics.specs.Integers.{eq_z}
use Rattle.words.specs.Words.{word}
use Rattle.words.specs.Tests.{Refusal, first_failure}
use Rattle.words.specs.Answer.{Answer, safe, trace, refused, answer_after}
use Rattle.programs.specs.ProgramTests.{program_tests}
use Rattle.certificates.specs.CertificateTests.{certificate_answer}
use Rattle.traces.specs.TraceWords.{trace_mark}
use Rattle.traces.specs.Replay.{trace_answer, final_values}

-- the answer to a certificate, and the answer to a trace, which are refused with 4 where the other is given
unfoldable pub judged : List ℤ → List ℤ → Answer
judged program witness = answer_after (first_failure (program_tests program)) (certificate_answer program witness)

unfoldable pub replayed : List ℤ → List ℤ → ℕ → Answer
replayed program witness buffer = answer_after (first_failure (program_tests program)) (trace_answer program witness buffer)

-- the answer to a program and a certificate or a trace, with a result buffer of so many numbers
unfoldable pub check : List ℤ → List ℤ → ℕ → Answer
check program witness buffer = cond (eq_z (word witness 0) (pos trace_mark)) (replayed program witness buffer) (judged program witness)

-- ---- the result buffer afterwards

-- "after safe or a refusal the result room is as it came; after trace its front holds the last values and the rest is as it came"
unfoldable pub buffer_after : List ℤ → List ℤ → Answer → List ℤ → List ℤ
buffer_after program witness (safe count) buffer = buffer
buffer_after program witness (trace steps) buffer = final_values program witness ++ drop (length (final_values program witness)) buffer
buffer_after program witness (refused r) buffer = buffer

unfoldable pub checked_buffer : List ℤ → List ℤ → List ℤ → List ℤ
checked_buffer program witness buffer = buffer_after program witness (check program witness (length buffer)) buffer

-- ---- diagnosis

-- the input that a refusal is about
pub data Part : Type 0 where
  of_program : Part
  of_witness : Part
  of_neither : Part

-- "the sheet concerned (program for 1 to 3, witness for 4 to 12)", and the witness for 14, 15 and 25
unfoldable pub part_of : ℕ → Part
part_of number = cond (leb 1 number && leb number 3) of_program (cond ((leb 4 number && leb number 12) || (leb 14 number && leb number 15) || eqb number 25) of_witness of_neither)

-- one of three, by the part
abbrev pub by_part : {A : Type 0} → Part → A → A → A → A
by_part of_program x y z = x
by_part of_witness x y z = y
by_part of_neither x y z = z

-- "from the place on to its end .. For 13, safe and trace it is the empty end of the witness sheet."
unfoldable pub diagnosis_of : List ℤ → List ℤ → Refusal → List ℤ
diagnosis_of program witness r = by_part (part_of r.number) (drop r.place program) (drop r.place witness) (drop (length witness) witness)

unfoldable pub diagnosis : List ℤ → List ℤ → Answer → List ℤ
diagnosis program witness (safe count) = drop (length witness) witness
diagnosis program witness (trace steps) = drop (length witness) witness
diagnosis program witness (refused r) = diagnosis_of program witness r
