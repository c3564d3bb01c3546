-- The disjuncts of a target stand in the row words where its entry says, and have their form there: an edge is its entry's, and the form of a
-- certificate is the form of each entry. Vertex 0, a failed assertion, has none.
use Rattle.std.specs.Prelude.{◌≡◌, refl, List, ℤ, length, drop}
use Prim.Native.Nat.{ℕ, zero, suc, ◌+◌, ◌-◌, ◌≤◌}
use native.Mathlib.Omega.{arith}
use Rattle.std.proofs.Common.{le-leb}
use Rattle.std.proofs.lemmas.Bool.{lt-leb}
use Rattle.words.specs.Limits.{most_words, most_disjuncts}
use Rattle.words.proofs.Ranges.{number_most}
use Rattle.programs.specs.ProgramWords.{n, p, G, k, first, locals, parameters}
use Rattle.programs.proofs.Formed.{first_columns}
use Rattle.programs.proofs.DecodedNumbers.{first_range, parameters_most}
use Rattle.programs.specs.StatementRows.{Successor}
use Rattle.programs.proofs.StatementRows.{same_columns}
use Rattle.certificates.specs.Certificate.{Disjunct, Certificate, path_edges, summary_edges}
use Rattle.certificates.specs.CertificateWords.{stored_form, disjuncts_of, entries, edge_columns, entry_count, entry_place, entry, summary_entry, certificate, count_of, place_of}
use Rattle.certificates.specs.CertificateWords as words
use Rattle.certificates.specs.CertificateForm.{DisjunctsForm, DisjunctsStrict, none, none_strict}
use Rattle.certificates.proofs.CertificateForm.{entry_placed, placed_strict, rows_few}
use Rattle.certificates.proofs.Entries.{path_entry, summary_entry_lem}
use Rattle.program_readers.specs.declared.places.Sizes.{Sizes}
use Rattle.vertex_entailments.specs.declared.targets.Target.{Target}
use Rattle.vertex_entailments.specs.Given.{Given}

-- how many path edges a vertex has
unfoldable pub path_count : List ℤ → ℕ → ℕ
path_count witness zero = 0
path_count witness (suc i) = count_of witness (suc i)

pub no_path : (witness : List ℤ) (u : ℕ) → u ≡ 0 → path_count witness u ≡ 0
unfolding path_count
no_path witness zero e = refl
no_path witness (suc i) e = absurd (omega arith)

pub path_count_lem : (witness : List ℤ) (u : ℕ) → 1 ≤ u → path_count witness u ≡ count_of witness u
unfolding path_count
path_count_lem witness zero l = absurd (omega arith)
path_count_lem witness (suc i) l = refl

module _ (sizes : Sizes) (witness : List ℤ) where
  abbrev entry_place_of : ℕ → ℕ
  entry_place_of i = place_of witness (sizes.statements + sizes.procedures + sizes.procedures) i

  abbrev pub entry_target : ℕ → Target
  entry_target i = record { place = entry_place_of i; count = count_of witness i; form = stored_form witness }

  abbrev pub path_target : ℕ → Target
  path_target u = record { place = entry_place_of u; count = path_count witness u; form = stored_form witness }

  abbrev pub summary_target : ℕ → Target
  summary_target q = entry_target (sizes.statements + sizes.procedures + q)

  pub entry_few : (i : ℕ) → ((entry_target i).place ≤ most_words) × ((entry_target i).count ≤ most_disjuncts)
  entry_few i = (number_most most_words _, number_most most_disjuncts _)

-- the edges stand there as disjuncts of m columns
pub record EdgesAt (rows : List ℤ) (m : ℕ) (t : Target) (edges : List Disjunct) : Type 0 where
  pub is : edges ≡ disjuncts_of t.form m t.count (drop t.place rows)
  pub form : DisjunctsForm t.form rows m t.count t.place
  pub strict : DisjunctsStrict t.form rows m t.count t.place
  pub few : t.count ≤ most_disjuncts
  pub near : t.place ≤ most_words

module _ {program witness : List ℤ} {sizes : Sizes} {rows : List ℤ} (g : Given program witness sizes rows) where
  abbrev certified : Certificate
  certified = certificate program witness

  pub row_words_few : length rows ≤ most_words
  row_words_few = rw g.row_words (rows_few program witness)

  -- ---- an entry, over its columns

  formed : (i count : ℕ) → 1 ≤ i → i ≤ entries program witness → entry_count program witness i ≡ count
      → DisjunctsForm (stored_form witness) (words.row_words program witness) (edge_columns program witness i) count (entry_place program witness i)
  formed i zero l h e = none
  formed i (suc count) l h e = rw e at (entry_placed program witness (stored_form witness) i (g.certificate_form.entry i l h) (omega arith))

  strictly : (i : ℕ) → 1 ≤ i → i ≤ entries program witness → DisjunctsStrict (stored_form witness) (words.row_words program witness) (edge_columns program witness i) (entry_count program witness i) (entry_place program witness i)
  strictly i l h = placed_strict program witness (stored_form witness) i (g.certificate_form.entry i l h) (g.certificate_form.strict i l h)

  entry_at : (i columns : ℕ) → 1 ≤ i → i ≤ entries program witness → edge_columns program witness i ≡ columns → EdgesAt rows columns (entry_target sizes witness i) (entry program witness (stored_form witness) i)
  unfolding entry entry_count entry_place
  entry_at i columns l h e =
      rw (g.header.statements, g.header.procedures, g.row_words, ← e)
      (record { is = refl; form = formed i (count_of witness i) l h refl; strict = strictly i l h; few = number_most most_disjuncts _; near = number_most most_words _ })

  -- ---- the path edges of a vertex

  module _ (u : ℕ) (l : 1 ≤ u) (h : u ≤ n program + p program) where
    path_columns : edge_columns program witness u ≡ k program u + k program u
    unfolding edge_columns
    path_columns = rw (le-leb u (n program + p program) h)

    pub path_at : EdgesAt rows (k program u + k program u) (entry_target sizes witness u) (path_edges certified u)
    path_at = rw (path_entry program witness (stored_form witness) u l h) (entry_at u (k program u + k program u) l (omega arith) path_columns)

  -- those of a vertex that a statement of v goes to, over the columns of v; vertex 0 has any columns
  pub successor_at : (v u : ℕ) → Successor program v u → EdgesAt rows (k program v + k program v) (path_target sizes witness u) (path_edges certified u)
  unfolding path_count path_edges disjuncts_of
  successor_at v zero s = record { is = refl; form = none; strict = none_strict; few = omega arith; near = number_most most_words _ }
  successor_at v (suc i) s = rw (same_columns program v s (omega arith)) at (path_at (suc i) (omega arith) s.known)

  module _ (q : ℕ) (l : 1 ≤ q) (h : q ≤ p program) where
    -- ---- those of a procedure's first vertex, whose columns are the procedure's

    range : (1 ≤ first program q) × (first program q ≤ n program)
    range = first_range program g.program_form q l h

    abbrev procedure_columns : ℕ
    procedure_columns = G program + (parameters program q + (locals program q - parameters program q))

    width : k program (first program q) + k program (first program q) ≡ procedure_columns + procedure_columns
    width = omega (arith, first_columns program g.program_form q l h, parameters_most program g.program_form q l h)

    pub first_at : EdgesAt rows (procedure_columns + procedure_columns) (path_target sizes witness (first program q)) (path_edges certified (first program q))
    first_at = rw (← width, path_count_lem witness (first program q) range.0) (path_at (first program q) range.0 (omega (arith, range.1)))

    -- ---- the summary edges of a procedure

    summary_columns_lem : edge_columns program witness (n program + p program + q) ≡ G program + parameters program q + G program
    unfolding edge_columns
    summary_columns_lem =
        let e : n program + p program + q - (n program + p program) ≡ q = omega arith in
        rw (lt-leb (n program + p program + q) (n program + p program) (omega arith), e)

    summary_slot : sizes.statements + sizes.procedures + q ≡ n program + p program + q
    summary_slot = rw (g.header.statements, g.header.procedures)

    pub summary_at_lem : EdgesAt rows (G program + parameters program q + G program) (summary_target sizes witness q) (summary_edges certified q)
    unfolding summary_entry
    summary_at_lem =
        rw (summary_entry_lem program witness (stored_form witness) q l h, summary_slot)
        (entry_at (n program + p program + q) (G program + parameters program q + G program) (omega arith) (omega arith) summary_columns_lem)
