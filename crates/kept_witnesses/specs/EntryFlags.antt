-- An entry that has disjuncts is a vertex's or a procedure's of the program, so that it has 8 bytes among the kept ones, and its flags are those bytes. So
-- a witness whose targets are its disjuncts is renumbered by them.
use Rattle.std.specs.Prelude.{◌≡◌, refl, Bool, ◌&&◌, List, ℕ, ◌+◌, ◌*◌, ◌-◌, ◌≤◌, ◌<◌, ℤ, drop}
use Rattle.std.proofs.Common.{sym, ◌∙◌, arith}
use Rattle.std.proofs.Math.Path.{ap, subst}
use Rattle.std.proofs.Math.Bool.{true, false}
use borrow.Author.Tests.{lt-ltb}
use Rattle.std.proofs.Math.Dec.{T, leb}
use Rattle.std.proofs.Math.ListN.{length}
use Rattle.std.proofs.Math.Seq.{get_or-drop}
use Rattle.basics.proofs.Booleans.{tests, is_true}
use Rattle.words.specs.Limits.{most_splits, most_disjuncts}
use Rattle.programs.specs.ProgramWords.{n, p}
use Rattle.certificates.specs.Certificate.{Disjunct}
use Rattle.certificates.specs.CertificateWords.{stored_form, certificate}
use Rattle.certificates.proofs.Entries.{no_path, no_summary}
use Rattle.certificates.specs.Sources.{Entry, of_vertex, of_summary, edges_of}
use Rattle.certificates.specs.Witnesses.{Witness}
use Rattle.program_readers.specs.Sizes.{Header}
use Rattle.program_readers.specs.declared.places.Sizes.{Sizes}
use Rattle.entailments.specs.declared.Entailment.{Entailment}
use Rattle.trimming.specs.Trimmed.{renumbered}
use Rattle.entailment_sources.specs.KeptBytes.{entry_number, most_entries, has_entry, flags_in}
use Rattle.witness_walks.specs.Marks.{targets_of}
use Rattle.witness_walks.specs.WalkSteps.{targets_count}
use Rattle.entailment_sources.specs.NewNumbers.{flagged}
use Rattle.kept_witnesses.specs.SizedWitnesses.{renumbered_alike}
use Rattle.kept_witnesses.specs.KeptWords.{premises_for, SizedFor, first_byte, first_some}

module _ (program witness : List ℤ) (sizes : Sizes) (header : Header program sizes) where
  abbrev edges : Entry → List Disjunct
  edges t = edges_of (certificate program witness) t

  -- is one that the program has
  has_vertex : (v : ℕ) (b : Bool) → has_entry sizes (of_vertex v) ≡ b → 1 ≤ length (edges (of_vertex v)) → T b
  unfolding has_entry edges_of
  has_vertex v true e h = tt
  has_vertex v false e h = absurd (omega (arith, ap length (no_path program witness (stored_form witness) v outside)))
    where
      outside : (1 ≤ v) × (v ≤ n program + p program) → ⊥
      outside r = let t : T (leb 1 v && leb v (sizes.statements + sizes.procedures)) = simp tests (r.0, omega (arith, r.1, header.statements, header.procedures)) in subst T e t

  has_summary : (q : ℕ) (b : Bool) → has_entry sizes (of_summary q) ≡ b → 1 ≤ length (edges (of_summary q)) → T b
  unfolding has_entry edges_of
  has_summary q true e h = tt
  has_summary q false e h = absurd (omega (arith, ap length (no_summary program witness (stored_form witness) q outside)))
    where
      outside : (1 ≤ q) × (q ≤ p program) → ⊥
      outside r = let t : T (leb 1 q && leb q sizes.procedures) = simp tests (r.0, omega (arith, r.1, header.procedures)) in subst T e t

  pub entry_there : (t : Entry) → 1 ≤ length (edges t) → T (has_entry sizes t)
  entry_there (of_vertex v) h = has_vertex v (has_entry sizes (of_vertex v)) refl h
  entry_there (of_summary q) h = has_summary q (has_entry sizes (of_summary q)) refl h

  -- and has its bytes
  pub entry_within : (t : Entry) → T (has_entry sizes t) → (1 ≤ entry_number sizes t) × (entry_number sizes t ≤ most_entries)
  unfolding has_entry entry_number
  entry_within (of_vertex v) t = let (low, high) = simp tests at t in (low, omega (arith, high, header.few_statements, header.few_procedures))
  entry_within (of_summary q) t = let (low, high) = simp tests at t in (omega (arith, low), omega (arith, high, header.few_statements, header.few_procedures))

-- ---- its flags, from its first byte on

module _ (sizes : Sizes) (kept : List ℕ) (t : Entry) where
  flag_here : T (has_entry sizes t) → (j : ℕ) → j < most_disjuncts → flags_in sizes kept t j ≡ flagged (drop ((entry_number sizes t - 1) * most_disjuncts) kept) j
  unfolding flags_in flagged
  flag_here h j l = rw (is_true (has_entry sizes t) h, lt-ltb j most_disjuncts l, get_or-drop ((entry_number sizes t - 1) * most_disjuncts) kept j 0)

  pub renumbered_here : (rows : List ℤ) (e : Entailment) (entry : ℕ) (x : Witness) → SizedFor rows e x → e.count ≤ most_disjuncts → (1 ≤ e.count → T (has_entry sizes t)) → entry ≡ entry_number sizes t
      → renumbered (flags_in sizes kept t) x ≡ renumbered (flagged (drop (first_byte e.count entry) kept)) x
  unfolding SizedFor
  renumbered_here rows e entry x s few has q =
      renumbered_alike (flags_in sizes kept t) (flagged (drop (first_byte e.count entry) kept)) most_splits e.columns (premises_for e) (targets_of rows e) x s
      (λ j l. let some : 1 ≤ e.count = omega (arith, targets_count rows e) in
      flag_here (has some) j (omega (arith, targets_count rows e)) ∙ ap (λ (i : ℕ). flagged (drop i kept) j) (ap (λ (i : ℕ). (i - 1) * most_disjuncts) (sym q) ∙ first_some e.count entry (λ z. omega arith)))
