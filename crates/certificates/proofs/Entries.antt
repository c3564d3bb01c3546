-- A certificate's edges are its entries: a vertex and a procedure each find the entry that its words say, any other number finds none,
-- and no entry has more disjuncts than a certificate may have, since its count is capped.
use Rattle.std.specs.Prelude.{◌≡◌, Bool, ℤ, pos, length, drop}
use Rattle.std.proofs.Math.Path.{refl}
use Rattle.std.proofs.Common.{ap, ◌∙◌, add-zero, drop-drop, get_or-drop}
use Rattle.std.proofs.Math.Logic.{inl, inr}
use Rattle.std.proofs.Math.Bool.{true, false}
use mathlib.Core.List.{List, []}
use Prim.Native.Nat.{ℕ, zero, suc, ◌+◌, ◌≤◌}
use Rattle.std.proofs.Math.Numerals.{add-one}
use native.Mathlib.Omega.{arith}
use borrow.Author.Tests.{ltb-true, ltb-false}
use Rattle.std.proofs.Math.Dec.{ltb}
use Rattle.std.proofs.Math.ListN.{get_or-eq_default}
use Rattle.basics.specs.Lists.{listed}
use Rattle.basics.proofs.Lists.{length_listed, get_or_listed}
use Rattle.words.specs.declared.StoredForm.{StoredForm}
use Rattle.words.specs.Limits.{most_disjuncts, most_rows}
use Rattle.words.specs.Words.{word, number}
use Rattle.words.proofs.Ranges.{number_most}
use Rattle.programs.specs.ProgramWords.{p}
use Rattle.certificates.specs.Certificate.{path_edges, summary_edges}
use Rattle.certificates.specs.CertificateWords.{row_count, disjunct_words, disjuncts_of, vertex_entries, count_word, entry_count, entry, summary_entry, certificate_in}
use Rattle.certificates.specs.Entries.{Found}

pub length_disjuncts_of : (form : StoredForm) (columns i : ℕ) (words : List ℤ) → length (disjuncts_of form columns i words) ≡ i
unfolding disjuncts_of
length_disjuncts_of form columns zero words = refl
length_disjuncts_of form columns (suc i) words = ap suc (length_disjuncts_of form columns i (drop (disjunct_words form columns words 0) words))

-- a disjunct is where it stands in the row words
module _ (form : StoredForm) (rows : List ℤ) (m : ℕ) where
  pub count_at : (p : ℕ) → row_count (drop p rows) 0 ≡ row_count rows p
  count_at p = ap (number most_rows) (get_or-drop p rows 0 (pos 0) ∙ ap (word rows) (add-zero p))

  pub rest_at : (p : ℕ) → drop (disjunct_words form m (drop p rows) 0) (drop p rows) ≡ drop (p + disjunct_words form m rows p) rows
  rest_at p = rw (count_at p, drop-drop 1 p rows) (drop-drop (disjunct_words form m rows p) p rows)

module _ (program witness : List ℤ) (form : StoredForm) where
  pub path_entry : (v : ℕ) → 1 ≤ v → v ≤ vertex_entries program witness → path_edges (certificate_in program witness form) v ≡ entry program witness form v
  unfolding path_edges certificate_in
  path_entry zero low high = absurd (omega arith)
  path_entry (suc i) low high = get_or_listed (entry program witness form) (vertex_entries program witness) i [] high ∙ rw add-one

  pub summary_entry_lem : (q : ℕ) → 1 ≤ q → q ≤ p program → summary_edges (certificate_in program witness form) q ≡ summary_entry program witness form q
  unfolding summary_edges certificate_in
  summary_entry_lem zero low high = absurd (omega arith)
  summary_entry_lem (suc i) low high = get_or_listed (summary_entry program witness form) (p program) i [] high ∙ rw add-one

  pub no_path : (v : ℕ) → ¬ ((1 ≤ v) × (v ≤ vertex_entries program witness)) → path_edges (certificate_in program witness form) v ≡ []
  unfolding path_edges certificate_in
  no_path zero h = refl
  no_path (suc i) h =
      let past : ¬ (suc i ≤ vertex_entries program witness) = λ l. h (omega arith, l) in
      get_or-eq_default (listed (entry program witness form) (vertex_entries program witness)) [] (omega (arith, length_listed (entry program witness form) (vertex_entries program witness)))

  pub no_summary : (q : ℕ) → ¬ ((1 ≤ q) × (q ≤ p program)) → summary_edges (certificate_in program witness form) q ≡ []
  unfolding summary_edges certificate_in
  no_summary zero h = refl
  no_summary (suc i) h =
      let past : ¬ (suc i ≤ p program) = λ l. h (omega arith, l) in
      get_or-eq_default (listed (summary_entry program witness form) (p program)) [] (omega (arith, length_listed (summary_entry program witness form) (p program)))

  pub path_found : (v : ℕ) → (Found program witness form) (path_edges (certificate_in program witness form) v)
  path_found zero = inl (no_path 0 (omega arith))
  path_found (suc i) = go (ltb i (vertex_entries program witness)) refl
    where
      go : (b : Bool) → ltb i (vertex_entries program witness) ≡ b → (Found program witness form) (path_edges (certificate_in program witness form) (suc i))
      go true e = let h = ltb-true i (vertex_entries program witness) e in inr (suc i, omega arith, omega arith, path_entry (suc i) (omega arith) h)
      go false e = inl (no_path (suc i) (omega (arith, ltb-false i (vertex_entries program witness) e)))

  pub summary_found : (q : ℕ) → (Found program witness form) (summary_edges (certificate_in program witness form) q)
  unfolding summary_entry
  summary_found zero = inl (no_summary 0 (omega arith))
  summary_found (suc i) = go (ltb i (p program)) refl
    where
      go : (b : Bool) → ltb i (p program) ≡ b → (Found program witness form) (summary_edges (certificate_in program witness form) (suc i))
      go true e = let h = ltb-true i (p program) e in inr (vertex_entries program witness + suc i, omega arith, omega arith, summary_entry_lem (suc i) (omega arith) h)
      go false e = inl (no_summary (suc i) (omega (arith, ltb-false i (p program) e)))

  entry_most : (i : ℕ) → length (entry program witness form i) ≤ most_disjuncts
  unfolding entry entry_count
  entry_most i = rw length_disjuncts_of (number_most most_disjuncts (count_word program witness i))

  pub summary_most : (q : ℕ) → length (summary_edges (certificate_in program witness form) q) ≤ most_disjuncts
  summary_most q = go (summary_found q)
    where
      go : (Found program witness form) (summary_edges (certificate_in program witness form) q) → length (summary_edges (certificate_in program witness form) q) ≤ most_disjuncts
      go (inl e) = rw e (omega arith)
      go (inr x) = rw x.3 (entry_most x.0)
