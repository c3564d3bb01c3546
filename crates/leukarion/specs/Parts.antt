-- Where the part that an answer speaks of begins in memory: "that part itself and no copy". Its words are `checker/Check`: `diagnosis`, and
-- the start and the number of words fix the memory.
use Rattle.std.specs.Prelude.{◌≡◌, refl, ℕ, ◌+◌, ◌*◌, min, List, ℤ, length}
use Rattle.std.specs.Borrow.{Bor}
use Rattle.words.specs.Tests.{Refusal}
use Rattle.words.specs.Answer.{Answer, safe, trace, refused}
use Rattle.checker.specs.Check as check
use Rattle.checker.specs.Check.{part_of, by_part}
use Rattle.leukarion.specs.declared.parts.Part.{Part}
use Rattle.leukarion.specs.declared.parts.Part.TheVariants.{Program, Witness, Neither}

-- a part, as the code gives it
abbrev pub part_for : check.Part → Part
part_for part = by_part part Program Witness Neither

-- what it means
abbrev pub meaning_of : Part → check.Part
meaning_of Program = check.of_program
meaning_of Witness = check.of_witness
meaning_of Neither = check.of_neither

pub part_meant : (part : check.Part) → meaning_of (part_for part) ≡ part
part_meant check.of_program = refl
part_meant check.of_witness = refl
part_meant check.of_neither = refl

-- block and byte of the word at a place, four bytes a word; past the end it is the end
abbrev pub start_of : Bor (List ℤ) → ℕ → ℕ × ℕ
start_of words place = (words.ref_ptr.0, words.ref_ptr.1 + 4 * min place (length words.now))

-- the end
abbrev pub end_of : Bor (List ℤ) → ℕ × ℕ
end_of words = start_of words (length words.now)

unfoldable pub part_start : Bor (List ℤ) → Bor (List ℤ) → Refusal → ℕ × ℕ
part_start program witness r =
    by_part (part_of r.number) (start_of program r.place) (start_of witness r.place) (end_of witness)

unfoldable pub diagnosis_start : Bor (List ℤ) → Bor (List ℤ) → Answer → ℕ × ℕ
diagnosis_start program witness (safe count) = end_of witness
diagnosis_start program witness (trace steps) = end_of witness
diagnosis_start program witness (refused r) = part_start program witness r
