-- A pass that fills the table: at the head of each of its loops all entailments before the next one have their bytes, and the next one's witness begins
-- at the place reached. One entailment more sets its byte and no other's, because a disjunct has at most 9 entailments and a vertex at most 8
-- disjuncts, so that each entailment has a slot of its own; and after all vertices the table is the uses.
use Rattle.std.specs.Prelude.{◌≡◌, ◌↔◌, ℕ, ◌<◌, T, ℤ, drop}
use mathlib.Core.List.{List, Memᴰ}
use Rattle.std.proofs.Math.ListN.{length, get_or}
use Rattle.programs.specs.Program.{Program}
use Rattle.programs.specs.Decode as decode
use Rattle.certificates.specs.Certificate.{Certificate}
use Rattle.certificates.specs.CertificateWords.{certificate}
use Rattle.certificates.specs.Witnesses.{Witness}
use Rattle.trimming.specs.Kept.{leaf_targets}
use Rattle.trimming.specs.Passed.{no_witness, start_of, passed}
use Rattle.program_readers.specs.declared.places.Sizes.{Sizes}
use Rattle.vertex_entailments.specs.Given.{Given}
use Rattle.checker.specs.ListedWitnesses.{listed_witnesses, AllListed}
use Rattle.entailments.specs.declared.Entailment.{Entailment}
use Rattle.witness_walks.specs.Marks.{MarkedBy}
use Rattle.witness_walks.specs.Witnessed.{walked_from}
use Rattle.used_targets.specs.declared.Used.{Used}
use Rattle.used_targets.specs.Packed.{packed_of, no_flags}
use Rattle.used_targets.specs.UseTable.{names, slot_of, Listed}

-- the bits of the byte are the targets that the witness names
pub record ByteOf (x : Witness) (byte : ℕ) : Type 0 where
  pub exactly : (j : ℕ) → T (names byte j) ↔ Memᴰ j (leaf_targets x)

-- ---- one witness

-- what was read of the witness at a place: where the next one begins, and the flags that were set, packed
pub record UsedAt (w rows : List ℤ) (e : Entailment) (at : ℕ) (r : Used) : Type 0 where
  pub flags : List ℕ
  pub walked : MarkedBy w (walked_from rows e (drop at w)) r.next no_flags flags
  pub packs : r.byte ≡ packed_of flags

-- ---- all of them

module _ (program witness : List ℤ) where
  -- how many stand before entailment `case` of disjunct i of vertex v, and its witness
  abbrev pub before : ℕ → ℕ → ℕ → ℕ
  before v i case = length (passed (decode.program program) (certificate program witness) v i case)

  abbrev pub witness_for : ℕ → ℕ → ℕ → Witness
  witness_for v i case = get_or (listed_witnesses program witness) (before v i case) no_witness

  -- a pass that comes to it, at a place of the witness words
  pub record Head (v i case at : ℕ) (table : List ℕ) : Type 0 where
    pub place : at ≡ start_of (listed_witnesses program witness) (before v i case)
    pub filled : (u j other : ℕ) → Listed program witness u j other → slot_of u j other < slot_of v i case → ByteOf (witness_for u j other) (get_or table (slot_of u j other) 0)

module _ {program witness : List ℤ} {sizes : Sizes} {rows : List ℤ} (given : Given program witness sizes rows) (all : AllListed program witness) where
  abbrev pub decoded : Program
  decoded = decode.program program

  abbrev pub certified : Certificate
  certified = certificate program witness

  abbrev pub ws : List Witness
  ws = listed_witnesses program witness
