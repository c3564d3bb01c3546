-- The disjuncts of an entry, one after the other: the one that is meant stands where those before it end, because each is as long as its row
-- count says.
use Rattle.std.specs.Prelude.{◌≡◌, List, ℤ, length, drop}
use Rattle.std.proofs.Math.Option.{some}
use Prim.Native.Nat.{ℕ, zero, suc, ◌+◌, ◌≤◌, ◌<◌}
use native.Mathlib.Omega.{arith}
use Rattle.std.proofs.Math.ListN.{get_elem?}
use Rattle.std.proofs.Math.Seq.{drop-drop}
use Rattle.words.specs.declared.StoredForm.{StoredForm}
use Rattle.words.specs.Limits.{most_rows}
use Rattle.words.specs.Words.{word}
use Rattle.words.proofs.Ranges.{number_most}
use Rattle.words.specs.RowLimits.{RowWithin, RowsWithin}
use Rattle.words.specs.StoredRows.{row_in, row_takes, RowFormIn, StrictRowIn, rows_in, rows_take, RowsFormIn, StrictRowsIn, EachRow}
use Rattle.words.proofs.StoredRows.{take_fewer, form_each, strict_each}
use Rattle.words.proofs.CodedRows.{row_within, rows_within}
use Rattle.sparse_rows.specs.SparseLoops.{take_next}
use Rattle.certificates.specs.CertificateWords.{row_count, disjunct_words, disjuncts_of, disjuncts_end}
use Rattle.certificates.specs.CertificateForm.{DisjunctsForm, DisjunctsStrict, none, more, more_strict}
use Rattle.certificates.proofs.Entries.{count_at, rest_at}

module _ (form : StoredForm) (rows : List ℤ) (m : ℕ) where
  -- a disjunct stands at a place, and so many after it
  pub record Stands (i at : ℕ) : Type 0 where
    pub there : at < length rows
    pub ends : at + disjunct_words form m rows at ≤ length rows
    pub formed : RowsFormIn form rows (at + 1) m (row_count rows at)
    pub rest : DisjunctsForm form rows m i (at + disjunct_words form m rows at)

  pub stands : {i at : ℕ} → DisjunctsForm form rows m (suc i) at → Stands i at
  stands (more starts low ends f g) = record { there = starts; ends = ends; formed = f; rest = g }

  -- so do the first of so many
  pub first_formed : {count at : ℕ} (j : ℕ) → j ≤ count → DisjunctsForm form rows m count at → DisjunctsForm form rows m j at
  first_formed zero h f = none
  first_formed (suc j) h none = absurd (omega arith)
  first_formed {at = at} (suc j) h (more {i = i} starts low ends f g) = more starts low ends f (first_formed {count = i} j (omega arith) g)

  -- and each has rows that are strict, where all have
  rows_strict : (n i at : ℕ) → i < n → DisjunctsStrict form rows m n at → StrictRowsIn form rows (disjuncts_end form rows m i at + 1) m (row_count rows (disjuncts_end form rows m i at))
  unfolding disjuncts_end
  rows_strict zero i at h s = absurd (omega arith)
  rows_strict (suc n) zero at h (more_strict s later) = s
  rows_strict (suc n) (suc i) at h (more_strict s later) = rows_strict n i (at + disjunct_words form m rows at) (omega arith) later

  -- the disjunct that is meant stands at the place that is found
  pub record Chosen (count place j at : ℕ) : Type 0 where
    pub is : get_elem? (disjuncts_of form m count (drop place rows)) j ≡ some (rows_in form m (row_count rows at) (drop (at + 1) rows))
    pub later : ℕ
    pub stand : Stands later at

  pub chosen : (count place j : ℕ) → DisjunctsForm form rows m count place → j < count → Chosen count place j (disjuncts_end form rows m j place)
  unfolding disjuncts_end disjuncts_of
  chosen zero place j f h = absurd (omega arith)
  chosen (suc count) place zero f h = record { is = rw (count_at form rows m place, drop-drop 1 place rows); later = count; stand = stands f }
  chosen (suc count) place (suc j) f h =
      let r = chosen count (place + disjunct_words form m rows place) j (stands f).rest (omega arith) in
      record { is = rw (rest_at form rows m place) r.is; later = r.later; stand = r.stand }

-- ---- what judging asks of a disjunct

-- n rows of m columns from a place on stand in the row words, within their limits, as test 5 asks
pub record RowsInside (form : StoredForm) (m : ℕ) (rows : List ℤ) (from n : ℕ) : Type 0 where
  pub few : n ≤ most_rows
  pub inside : from + rows_take form m n (drop from rows) ≤ length rows
  pub formed : RowsFormIn form rows from m n

-- and as test 25 asks
pub record DisjunctHere (form : StoredForm) (m : ℕ) (rows : List ℤ) (from n : ℕ) : Type 0 where
  pub stand : RowsInside form m rows from n
  pub strict : StrictRowsIn form rows from m n

pub rows_inside : (form : StoredForm) (rows : List ℤ) (m : ℕ) {i at : ℕ} → Stands form rows m i at → RowsInside form m rows (at + 1) (row_count rows at)
rows_inside form rows m {i} {at} s = record { few = number_most most_rows (word rows at); inside = omega (arith, s.ends); formed = s.formed }

-- a disjunct of an entry that has its form
pub disjunct_here_lem : (form : StoredForm) (rows : List ℤ) (m : ℕ) {count start : ℕ} (d place n : ℕ) → DisjunctsForm form rows m count start → DisjunctsStrict form rows m count start → d < count
    → place ≡ disjuncts_end form rows m d start → n ≡ row_count rows place → DisjunctHere form m rows (place + 1) n
disjunct_here_lem form rows m {count} {start} d place n f s h e g =
    let stand = (chosen form rows m count start d f h).stand in
    rw (g, e)
    (record { stand = rows_inside form rows m stand; strict = rows_strict form rows m count d start h s })

-- ---- what it asks of a row

-- a row of m columns stands at a place, as tests 5 and 25 ask
pub record RowStands (form : StoredForm) (m : ℕ) (rows : List ℤ) (at : ℕ) : Type 0 where
  pub inside : at + row_takes form m (drop at rows) ≤ length rows
  pub formed : RowFormIn form rows at m
  pub strict : StrictRowIn form rows at m

pub stands_within : {form : StoredForm} {m : ℕ} {rows : List ℤ} {at : ℕ} → RowStands form m rows at → RowWithin m (row_in form m (drop at rows))
stands_within {form} {m} {rows} {at} s = row_within m rows at form s.inside s.formed

module _ {form : StoredForm} {m : ℕ} {rows : List ℤ} {from n : ℕ} (d : DisjunctHere form m rows from n) where
  -- each row of a disjunct does
  pub row_stands : (j : ℕ) → j < n → RowStands form m rows (from + rows_take form m j (drop from rows))
  unfolding EachRow
  row_stands j h =
      let l : j + 1 ≤ n = omega arith in
      record {
        inside = omega (arith, take_next form m j from rows, take_fewer form m (j + 1) n (drop from rows) l, d.stand.inside);
        formed = (form_each form rows from m n).0 d.stand.formed j h;
        strict = (strict_each form rows from m n).0 d.strict j h;
      }

  pub here_within : RowsWithin m (rows_in form m n (drop from rows))
  here_within = rows_within form m rows from n d.stand.inside d.stand.formed
