-- The definition of the diagnosis says what document 01 does: "the sheet concerned (program for 1 to 3, witness for 4 to 12) from the place on
-- to its end, that part itself and no copy; empty if the place is past the end. For 13, safe and trace it is the empty end of the witness
-- sheet." The number chooses words and start alike; and what is left of a list after a place ends where the list ends.
use Rattle.std.specs.Prelude.{◌≡◌, refl, ◌↔◌, List, [], ◌++◌, ℕ, ◌+◌, ◌*◌, ◌≤◌, ℤ, length, take, drop}
use Rattle.std.proofs.Common.{sym, ap, subst₂, arith, length-drop, drop_of_length-le, take-append-drop}
use Rattle.std.specs.Borrow.{Bor}
use Rattle.words.specs.Tests.{Refusal}
use Rattle.words.specs.Answer.{Answer, safe, trace, refused}
use Rattle.checker.specs.Check.{Part, of_program, of_witness, of_neither, part_of, by_part, diagnosis, diagnosis_of}
use Rattle.leukarion.specs.Parts.{start_of, part_start, diagnosis_start}
use Rattle.leukarion.specs.PartLaws.{one_to_three, four_to_twelve, fourteen_fifteen, thirteen, twenty_five_lem}

-- these words, in the memory that begins there, are the part of the input from the place on to its end
pub record PartFrom (input : Bor (List ℤ)) (place : ℕ) (words : List ℤ) (start : ℕ × ℕ) : Type 0 where
  pub rest : take place input.now ++ words ≡ input.now
  pub empty : (words ≡ []) ↔ (length input.now ≤ place)
  pub block : start.0 ≡ input.ref_ptr.0
  pub begins : place ≤ length input.now → start.1 ≡ input.ref_ptr.1 + 4 * place
  pub ends : start.1 + 4 * length words ≡ input.ref_ptr.1 + 4 * length input.now

part_from : (input : Bor (List ℤ)) (place : ℕ) → PartFrom input place (drop place input.now) (start_of input place)
part_from input place =
    let size = length-drop place input.now in
    record {
      rest = take-append-drop place input.now;
      empty = (λ e. let none = ap length e in omega arith, drop_of_length-le input.now);
      block = refl;
      begins = λ h. omega arith;
      ends = omega arith;
    }

module _ (program witness : Bor (List ℤ)) where
  -- the diagnosis of an answer is this part
  abbrev Diagnosed : Answer → Bor (List ℤ) → ℕ → Type 0
  Diagnosed answer input place = PartFrom input place (diagnosis program.now witness.now answer) (diagnosis_start program witness answer)

  diagnosed : (answer : Answer) (input : Bor (List ℤ)) (place : ℕ) → diagnosis program.now witness.now answer ≡ drop place input.now
      → diagnosis_start program witness answer ≡ start_of input place → Diagnosed answer input place
  diagnosed answer input place e f = subst₂ (PartFrom input place) (sym e) (sym f) (part_from input place)

  -- the witness's empty end
  abbrev Ends : Answer → Type 0
  Ends answer = Diagnosed answer witness (length witness.now)

  module _ (r : Refusal) where
    by_part_lem : {part : Part} → part_of r.number ≡ part
        → PartFrom (by_part part program witness witness) (by_part part r.place r.place (length witness.now)) (diagnosis program.now witness.now (refused r)) (diagnosis_start program witness (refused r))
    unfolding diagnosis diagnosis_of diagnosis_start part_start
    by_part_lem {part = of_program} e = diagnosed (refused r) program r.place (rw e refl) (rw e refl)
    by_part_lem {part = of_witness} e = diagnosed (refused r) witness r.place (rw e refl) (rw e refl)
    by_part_lem {part = of_neither} e = diagnosed (refused r) witness (length witness.now) (rw e refl) (rw e refl)

    pub program_part : 1 ≤ r.number → r.number ≤ 3 → Diagnosed (refused r) program r.place
    program_part l h = by_part_lem (one_to_three r.number l h)

    pub witness_part : 4 ≤ r.number → r.number ≤ 12 → Diagnosed (refused r) witness r.place
    witness_part l h = by_part_lem (four_to_twelve r.number l h)

    pub later_part : 14 ≤ r.number → r.number ≤ 15 → Diagnosed (refused r) witness r.place
    later_part l h = by_part_lem (fourteen_fifteen r.number l h)

    pub twenty_five_part : r.number ≡ 25 → Diagnosed (refused r) witness r.place
    twenty_five_part e = by_part_lem (twenty_five_lem r.number e)

    pub thirteen_end : r.number ≡ 13 → Ends (refused r)
    thirteen_end e = by_part_lem (thirteen r.number e)

  pub safe_end : (count : ℕ) → Ends (safe count)
  unfolding diagnosis diagnosis_start
  safe_end count = part_from witness (length witness.now)

  pub trace_end : (steps : ℕ) → Ends (trace steps)
  unfolding diagnosis diagnosis_start
  trace_end steps = part_from witness (length witness.now)
