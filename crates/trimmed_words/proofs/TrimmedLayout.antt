-- What is left of a certificate that has the form is laid out and read again: its entries are those of the certificate with disjuncts taken out, so each is
-- within its limits.
use Rattle.std.specs.Prelude.{◌≡◌, Bool, cond, ℕ, suc, ◌+◌, ◌-◌, ◌<◌, ltb, ℤ, length, get_or}
use Rattle.std.proofs.Math.Path.{refl}
use Rattle.std.proofs.Common.{sym, ap, ◌∙◌, ltb-true, ltb-false, get_or-append-add}
use Rattle.std.proofs.Math.Bool.{true, false}
use mathlib.Core.List.{List, [], ◌∷◌, ◌++◌}
use native.Mathlib.Omega.{arith}
use Rattle.std.proofs.Math.Dec.{T}
use Rattle.std.proofs.Math.ListN.{length-append, get_or-append}
use Rattle.basics.proofs.Booleans.{and, parts}
use Rattle.basics.proofs.Lists.{length_listed}
use Rattle.words.specs.declared.StoredForm.{StoredForm}
use Rattle.certificates.specs.Certificate.{Disjunct, Certificate, rows_vary, edges_vary}
use Rattle.certificates.specs.CertificateWords.{vertex_entries, entry, certificate_in}
use Rattle.certificates.specs.CertificateForm.{FormIn}
use Rattle.certificates.specs.Sources.{of_vertex, of_summary}
use Rattle.layouts.specs.DisjunctCode.{DisjunctsWithin, empty, and_one}
use Rattle.layouts.specs.Layout.{entries_of}
use Rattle.layouts.specs.LaidOut.{EntryWithin, EntriesWithin}
use Rattle.layouts.proofs.OwnWords.{entries_within}
use Rattle.trimming.specs.Kept.{Flags}
use Rattle.trimming.specs.KeptMembers.{kept_from}
use Rattle.trimming.proofs.KeptMembers.{kept_fewer}
use Rattle.trimming.specs.Trimmed.{kept_entries, trimmed}
use Rattle.trimming.proofs.Trimmed.{kept_entry, length_entries}
use Rattle.trimmed_words.specs.TrimmedLayout.{entry_at}

-- ---- disjuncts taken out of an entry

module _ (f : ℕ → Bool) where
  still_within : (columns i : ℕ) {ds : List Disjunct} → DisjunctsWithin columns ds → DisjunctsWithin columns (kept_from f i ds)
  unfolding kept_from
  still_within columns i empty = empty
  still_within columns i (and_one {d} {ds} few r are) = go (f i) (still_within columns (suc i) are)
    where
      go : (b : Bool) → DisjunctsWithin columns (kept_from f (suc i) ds) → DisjunctsWithin columns (cond b (d ∷ kept_from f (suc i) ds) (kept_from f (suc i) ds))
      go true h = and_one few r h
      go false h = h

  still_vary : (i : ℕ) (ds : List Disjunct) → T (edges_vary ds) → T (edges_vary (kept_from f i ds))
  unfolding kept_from edges_vary
  still_vary i [] t = tt
  still_vary i (d ∷ ds) t = go (f i) (still_vary (suc i) ds (search parts))
    where
      go : (b : Bool) → T (edges_vary (kept_from f (suc i) ds)) → T (edges_vary (cond b (d ∷ kept_from f (suc i) ds) (kept_from f (suc i) ds)))
      go true h = and (rows_vary d) (edges_vary (kept_from f (suc i) ds)) (search parts) h
      go false h = h

  kept_within : (columns : ℕ) (e : List Disjunct) → EntryWithin columns e → EntryWithin columns (kept_from f 0 e)
  kept_within columns e x = record { few = omega (arith, x.few, kept_fewer f 0 e); are = still_within columns 0 x.are; vary = still_vary 0 e x.vary }

module _ (F : Flags) (c : Certificate) where
  pub left_entry : (j : ℕ) → get_or (entries_of (trimmed F c)) j [] ≡ kept_from (F (entry_at (length c.paths) j)) 0 (get_or (entries_of c) j [])
  unfolding entries_of trimmed entry_at
  left_entry j = go (ltb j (length c.paths)) refl
    where
      ps : List (List Disjunct)
      ps = kept_entries (λ v. F (of_vertex v)) c.paths

      ss : List (List Disjunct)
      ss = kept_entries (λ q. F (of_summary q)) c.summaries

      go : (b : Bool) → ltb j (length c.paths) ≡ b → get_or (ps ++ ss) j [] ≡ kept_from (F (cond b (of_vertex (suc j)) (of_summary (suc (j - length c.paths))))) 0 (get_or (c.paths ++ c.summaries) j [])
      go true q =
          let l : j < length c.paths = ltb-true j (length c.paths) q in
          get_or-append ps ss [] j (omega (arith, length_entries (λ v. F (of_vertex v)) c.paths))
          ∙ (kept_entry (λ v. F (of_vertex v)) c.paths j ∙ ap (kept_from (F (of_vertex (suc j))) 0) (sym (get_or-append c.paths c.summaries [] j l)))
      go false q =
          let l = ltb-false j (length c.paths) q in
          let i : ℕ = j - length c.paths in
          let e : length ps + i ≡ j = omega (arith, length_entries (λ v. F (of_vertex v)) c.paths) in
          let g : length c.paths + i ≡ j = omega arith in
          ap (λ (k : ℕ). get_or (ps ++ ss) k []) (sym e)
          ∙ (get_or-append-add ps ss i []
          ∙ (kept_entry (λ q. F (of_summary q)) c.summaries i
          ∙ ap (kept_from (F (of_summary (suc i))) 0) (sym (get_or-append-add c.paths c.summaries i []) ∙ ap (λ (k : ℕ). get_or (c.paths ++ c.summaries) k []) g)))

  pub left_many : length (entries_of (trimmed F c)) ≡ length (entries_of c)
  unfolding entries_of trimmed
  left_many =
      omega (
        arith,
        length-append (kept_entries (λ v. F (of_vertex v)) c.paths) (kept_entries (λ q. F (of_summary q)) c.summaries),
        length-append c.paths c.summaries,
        length_entries (λ v. F (of_vertex v)) c.paths,
        length_entries (λ q. F (of_summary q)) c.summaries,
      )

  left_within : (program : List ℤ) → EntriesWithin program (entries_of c) → EntriesWithin program (entries_of (trimmed F c))
  left_within program w =
      record {
        count = left_many ∙ w.count;
        each = λ j h. rw (left_entry j) (kept_within (F (entry_at (length c.paths) j)) _ (get_or (entries_of c) j []) (w.each j (rw (← left_many) h)));
      }

-- what is left of a certificate that has the form is within its limits
module _ (program witness : List ℤ) (form : StoredForm) (F : Flags) where
  pub trimmed_within : FormIn program witness form → EntriesWithin program (entries_of (trimmed F (certificate_in program witness form)))
  trimmed_within f = left_within F (certificate_in program witness form) program (entries_within program witness form f)

  pub trimmed_vertices : length (trimmed F (certificate_in program witness form)).paths ≡ vertex_entries program []
  unfolding trimmed certificate_in
  trimmed_vertices = length_entries (λ v. F (of_vertex v)) _ ∙ length_listed (entry program witness form) (vertex_entries program witness)
