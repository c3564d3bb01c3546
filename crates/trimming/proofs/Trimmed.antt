-- A certificate cut down to what is kept, document 02, CR 11: "Kept disjuncts stay in order, witness numbers are adjusted".
use Rattle.std.specs.Prelude.{◌≡◌, Bool, List, [], length, get_or}
use Rattle.std.proofs.Math.Path.{refl, ap}
use Rattle.std.proofs.Common.{◌∙◌, arith}
use Prim.Native.Nat.{ℕ, zero, suc, ◌+◌}
use Rattle.basics.proofs.Lists.{length_map_from, get_or_map_from}
use Rattle.certificates.specs.Certificate.{Disjunct, Certificate, path_edges, summary_edges}
use Rattle.certificates.specs.Sources.{Entry, of_vertex, of_summary, edges_of}
use Rattle.trimming.specs.Kept.{Flags}
use Rattle.trimming.specs.KeptMembers.{kept_from}
use Rattle.trimming.specs.Trimmed.{kept_entries, trimmed}

-- ---- what is left of an entry

pub kept_entry : (f : ℕ → ℕ → Bool) (es : List (List Disjunct)) (i : ℕ) → get_or (kept_entries f es) i [] ≡ kept_from (f (suc i)) 0 (get_or es i [])
unfolding kept_entries
kept_entry f es i =
    let e : 1 + i ≡ suc i = omega arith in
    get_or_map_from (λ (v : ℕ) (ds : List Disjunct). kept_from (f v) 0 ds) [] [] (λ v. unfold kept_from in refl) 1 i es ∙ ap (λ (v : ℕ). kept_from (f v) 0 (get_or es i [])) e

pub length_entries : (f : ℕ → ℕ → Bool) (es : List (List Disjunct)) → length (kept_entries f es) ≡ length es
unfolding kept_entries
length_entries f es = length_map_from (λ (v : ℕ) (ds : List Disjunct). kept_from (f v) 0 ds) 1 es

module _ (F : Flags) (c : Certificate) where
  pub trimmed_path : (v : ℕ) → path_edges (trimmed F c) v ≡ kept_from (F (of_vertex v)) 0 (path_edges c v)
  unfolding path_edges trimmed
  trimmed_path zero = unfold kept_from in refl
  trimmed_path (suc i) = kept_entry (λ v. F (of_vertex v)) c.paths i

  pub trimmed_summary : (q : ℕ) → summary_edges (trimmed F c) q ≡ kept_from (F (of_summary q)) 0 (summary_edges c q)
  unfolding summary_edges trimmed
  trimmed_summary zero = unfold kept_from in refl
  trimmed_summary (suc i) = kept_entry (λ q. F (of_summary q)) c.summaries i

  pub trimmed_edges : (t : Entry) → edges_of (trimmed F c) t ≡ kept_from (F t) 0 (edges_of c t)
  unfolding edges_of
  trimmed_edges (of_vertex v) = trimmed_path v
  trimmed_edges (of_summary q) = trimmed_summary q
