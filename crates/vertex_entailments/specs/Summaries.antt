-- The table of the places of a summary's disjuncts: what is asked of the summary, what the table holds where a call leaves the vertex, and that
-- it is filled disjunct by disjunct.
use Rattle.std.specs.Prelude.{◌≡◌, Bool, List, ℕ, ◌+◌, ◌≤◌, ◌<◌, ℤ, length, set}
use Rattle.std.proofs.Math.Path.{refl}
use Rattle.std.proofs.Common.{subst, arith, get_or-set_same}
use Rattle.std.proofs.Math.Bool.{true, false}
use borrow.Author.Tests.{eqb-true, eqb-false}
use Rattle.std.proofs.Math.Dec.{eqb}
use Rattle.std.proofs.Math.ListN.{get_or}
use Rattle.std.proofs.Math.Seq.{get_or-set_other}
use Rattle.words.specs.declared.StoredForm.{StoredForm}
use Rattle.words.specs.Limits.{most_disjuncts}
use Rattle.certificates.specs.CertificateWords.{disjuncts_end}
use Rattle.certificates.specs.CertificateForm.{DisjunctsForm}
use Rattle.program_readers.specs.declared.places.Sizes.{Sizes}
use Rattle.program_readers.specs.declared.statements.CallRow.{CallRow}
use Rattle.entailments.specs.declared.Shape.{Shape}
use Rattle.vertex_entailments.specs.declared.leaving.Way.{Way}
use Rattle.vertex_entailments.specs.declared.leaving.Way.TheVariants.{Skip, Assign, Branch, Assert, Call, Exit}
use Rattle.vertex_entailments.specs.declared.leaving.Leaving.{Leaving}
use Rattle.vertex_entailments.specs.declared.targets.Target.{Target}
use Rattle.vertex_entailments.specs.Targets.{summary_target}
use Rattle.vertex_entailments.specs.Values.{summary_columns}

-- ---- what is asked of the summary

module _ (witness : List ℤ) (sizes : Sizes) (rows : List ℤ) (shape : Shape) where
  -- the disjuncts of a procedure's summary have their form
  abbrev pub SummaryFormed : ℕ → Type 0
  SummaryFormed q = let t : Target = summary_target sizes witness q in DisjunctsForm t.form rows (summary_columns shape) t.count t.place

  -- those of the callee's summary, where a call leaves
  unfoldable pub FormedBy : Way → Type 0
  FormedBy (Skip r) = Unit {0}
  FormedBy (Assign r) = Unit {0}
  FormedBy (Branch r) = Unit {0}
  FormedBy (Assert r) = Unit {0}
  FormedBy (Call r) = SummaryFormed r.callee.0
  FormedBy (Exit q) = Unit {0}

-- ---- what the table holds

-- first the places of so many disjuncts of m columns, from a place on
unfoldable pub PlacesAt : StoredForm → List ℤ → ℕ → ℕ → ℕ → List ℕ → Type 0
PlacesAt form rows m count place table = (j : ℕ) → j < count → get_or table j 0 ≡ disjuncts_end form rows m j place

module _ (witness : List ℤ) (sizes : Sizes) (rows : List ℤ) where
  module _ (shape : Shape) where
    -- those of a procedure's summary
    abbrev pub SummaryAt : ℕ → List ℕ → Type 0
    SummaryAt q table = let t : Target = summary_target sizes witness q in PlacesAt t.form rows (summary_columns shape) t.count t.place table

    -- those of the callee's summary, where a call leaves
    unfoldable pub SummaryBy : Way → List ℕ → Type 0
    SummaryBy (Skip r) table = Unit {0}
    SummaryBy (Assign r) table = Unit {0}
    SummaryBy (Branch r) table = Unit {0}
    SummaryBy (Assert r) table = Unit {0}
    SummaryBy (Call r) table = SummaryAt r.callee.0 table
    SummaryBy (Exit q) table = Unit {0}

  -- the table is the one for what leaves
  pub record SummariesAt (l : Leaving) (table : List ℕ) : Type 0 where
    pub long : most_disjuncts ≤ length table
    pub places : SummaryBy l.shape l.way table

-- what it holds, where the way is known as a call
pub held_for_call : {witness : List ℤ} {sizes : Sizes} {rows : List ℤ} {l : Leaving} {table : List ℕ} {row : CallRow} → SummariesAt witness sizes rows l table → l.way ≡ Call row
    → SummaryAt witness sizes rows l.shape row.callee.0 table
unfolding SummaryBy
held_for_call {witness} {sizes} {rows} {l} {table} x e = subst (λ (way : Way). SummaryBy witness sizes rows l.shape way table) e x.places

-- ---- filled disjunct by disjunct

module _ (form : StoredForm) (rows : List ℤ) (m place : ℕ) where
  pub none_placed : (table : List ℕ) → PlacesAt form rows m 0 place table
  unfolding PlacesAt
  none_placed table j h = absurd (omega arith)

  -- one place more
  pub next_placed : (table : List ℕ) {at : ℕ} (i : ℕ) → i < length table → PlacesAt form rows m i place table → at ≡ disjuncts_end form rows m i place → PlacesAt form rows m (i + 1) place (set table i at)
  unfolding PlacesAt
  next_placed table {at} i h f e j l = go (eqb j i) refl
    where
      go : (b : Bool) → eqb j i ≡ b → get_or (set table i at) j 0 ≡ disjuncts_end form rows m j place
      go true c = let d : j ≡ i = eqb-true j i c in rw (d, get_or-set_same) e
      go false c = let d : j ≡ i → ⊥ = eqb-false j i c in rw get_or-set_other (f j (omega arith))

  pub fewer_placed : (table : List ℕ) (count i : ℕ) → count ≤ i → PlacesAt form rows m i place table → PlacesAt form rows m count place table
  unfolding PlacesAt
  fewer_placed table count i h f j l = f j (omega arith)
