-- A certificate cut down to what is kept, document 02, CR 11: "Kept disjuncts stay in order, witness numbers are adjusted".
use Rattle.std.specs.Prelude.{Bool, cond, List, [], ◌∷◌}
use Prim.Native.Nat.{ℕ}
use Rattle.basics.specs.Lists.{map_from}
use Rattle.certificates.specs.Certificate.{Disjunct, Certificate}
use Rattle.certificates.specs.Sources.{of_vertex, of_summary, Sourced}
use Rattle.certificates.specs.Witnesses.{Witness, contradiction, target, split}
use Rattle.trimming.specs.Kept.{Flags, keeps}
use Rattle.trimming.specs.KeptMembers.{kept_from, new_number}

-- of each entry the disjuncts that are kept; vertices and procedures count from 1
unfoldable pub kept_entries : (ℕ → ℕ → Bool) → List (List Disjunct) → List (List Disjunct)
kept_entries f es = map_from (λ (v : ℕ) (ds : List Disjunct). kept_from (f v) 0 ds) 1 es

unfoldable pub trimmed : Flags → Certificate → Certificate
trimmed F c = record { paths = kept_entries (λ v. F (of_vertex v)) c.paths; summaries = kept_entries (λ q. F (of_summary q)) c.summaries }

-- a witness whose leaves name targets of an entry, by their new numbers
unfoldable pub renumbered : (ℕ → Bool) → Witness → Witness
renumbered f (contradiction ms) = contradiction ms
renumbered f (target j xs) = target (new_number f j) xs
renumbered f (split r w v) = split r (renumbered f w) (renumbered f v)

-- of the entailments whose sources are kept, each toward the entry that it leads to
unfoldable pub trimmed_witnesses : Flags → List Sourced → List Witness → List Witness
trimmed_witnesses F [] ws = []
trimmed_witnesses F (x ∷ xs) [] = []
trimmed_witnesses F (x ∷ xs) (w ∷ ws) = cond (keeps F x.source) (renumbered (F x.leads_to) w ∷ trimmed_witnesses F xs ws) (trimmed_witnesses F xs ws)
