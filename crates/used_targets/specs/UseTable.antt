-- The uses of a certificate's disjuncts as a table of bytes, one for each entailment of each disjunct of a vertex: bit j of it says whether the
-- witness names target j. A disjunct has at most 9 entailments, and a place for each.
use Rattle.std.specs.Prelude.{◌≡◌, ◌↔◌, ◌⊎◌, Bool, ℕ, zero, suc, ◌+◌, ◌*◌, ◌/◌, ◌%◌, ◌≤◌, ◌<◌, T, eqb, ℤ, length, get_or}
use mathlib.Core.List.{List, Memᴰ}
use Rattle.programs.specs.Decode as decode
use Rattle.programs.specs.ProgramWords.{n, p}
use Rattle.certificates.specs.Certificate.{path_edges}
use Rattle.certificates.specs.CertificateWords.{certificate}
use Rattle.certificates.specs.Sources.{Sourced}
use Rattle.trimming.specs.Kept.{Use}
use Rattle.trimming.specs.Passed.{start_from, cases_from as casesOfDisjunct}
use Rattle.trimmed_words.specs.Trim.{listed_uses}
use Rattle.entailment_sources.specs.KeptBytes.{byte_of}

-- bit j of a byte
unfoldable pub names : ℕ → ℕ → Bool
names byte zero = eqb (byte % 2) 1
names byte (suc j) = names (byte / 2) j

-- the most entailments of a disjunct: those of a call, to its callee and back by each of 8 disjuncts of the summary
abbrev pub most_cases : ℕ
most_cases = 9

-- the places for all vertices
abbrev pub table_size : ℕ
table_size = 76032

-- the place of the entailment `case` of disjunct i of vertex v
abbrev pub slot_of : ℕ → ℕ → ℕ → ℕ
slot_of v i case = byte_of v i * most_cases + case

-- an entailment and a byte are what a use says
pub record UsedBy (x : Sourced) (byte : ℕ) (u : Use) : Type 0 where
  pub source : u.source ≡ x.source
  pub leads_to : u.leads_to ≡ x.leads_to
  pub targets : (j : ℕ) → T (names byte j) ↔ Memᴰ j u.targets

module _ (program witness : List ℤ) where
  abbrev pub start_sourced : Sourced
  start_sourced = start_from (decode.program program) (certificate program witness)

  -- the entailments of disjunct i of vertex v
  abbrev pub cases_from : ℕ → ℕ → List Sourced
  cases_from v i = casesOfDisjunct (decode.program program) (certificate program witness) v i

  -- there is such an entailment
  pub record Listed (v i case : ℕ) : Type 0 where
    pub low : 1 ≤ v
    pub high : v ≤ n program + p program
    pub disjunct : i < length (path_edges (certificate program witness) v)
    pub this : case < length (cases_from v i)

  -- the table and the start's byte are the uses
  pub record Tabled (table : List ℕ) (start : ℕ) : Type 0 where
    pub start_listed : (u : Use) × Memᴰ u (listed_uses program witness) × UsedBy start_sourced start u
    pub listed : (v i case : ℕ) → Listed v i case
        → (u : Use) × Memᴰ u (listed_uses program witness) × UsedBy (get_or (cases_from v i) case start_sourced) (get_or table (slot_of v i case) 0) u
    pub all : (u : Use) → Memᴰ u (listed_uses program witness)
        → UsedBy start_sourced start u ⊎ ((v : ℕ) × (i : ℕ) × (case : ℕ) × Listed v i case × UsedBy (get_or (cases_from v i) case start_sourced) (get_or table (slot_of v i case) 0) u)
