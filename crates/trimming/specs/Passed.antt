-- Where a pass over all entailments stands, in their order: the start's, then vertex by vertex, disjunct by disjunct, case by case. `passed v i case`
-- are those before entailment `case`, from 0, of disjunct i, from 0, of vertex v. It begins as the start's alone (`passed_first`), grows by one
-- with each case (`passed_case`), all cases of a disjunct are one disjunct more (`passed_disjunct`), all disjuncts one vertex more
-- (`passed_vertex`), and all vertices are all entailments (`passed_all`). The next one is `get_or (cases_from v i) case` (`ahead`), whose entailment is
-- the one of the disjunct that has this number (`case_entailment`), and each but the start's is once the next (`place_of_lem`). Where all witnesses work,
-- the next one's has the number `length (passed v i case)`, and `This` says what is known of it: it works, where its words stand, and that its
-- use is listed. `left_more` says what is left of it by trimming.
use Rattle.std.specs.Prelude.{◌≡◌, T}
use Rattle.std.proofs.Math.Bool.{cond}
use mathlib.Core.List.Memᴰ
use mathlib.Core.List.{List, [], ◌∷◌, ◌++◌, Memᴰ}
use Prim.Native.Nat.{ℕ, suc, ◌+◌, ◌-◌, ◌≤◌, ◌<◌}
use Rattle.std.proofs.Math.ListN.{length, get_or, take, drop}
use Rattle.basics.specs.Lists.{gathered, flat_map_from}
use Rattle.programs.specs.Program.{Program, statement_at}
use Rattle.certificates.specs.Certificate.{Certificate, path_edges}
use Rattle.certificates.specs.Entailments.{start_entailment, entailments}
use Rattle.certificates.specs.Sources.{Sourced, sourced_by, from_start, of_vertex, sourced_disjunct, sourced_vertex}
use Rattle.certificates.specs.Witnesses.{Witness, contradiction, encode, encode_all, works, all_work}
use Rattle.trimming.specs.Kept.{leaf_targets, use_by, uses_of, Flags, keeps}
use Rattle.trimming.specs.Trimmed.{renumbered}

-- ---- the entailments that a pass has behind it

module _ (p : Program) (c : Certificate) where
  abbrev pub start_from : Sourced
  start_from = sourced_by from_start (of_vertex 1) (start_entailment p c)

  -- the entailments of disjunct i of vertex v
  abbrev pub cases_from : ℕ → ℕ → List Sourced
  cases_from v i = sourced_disjunct p c v (statement_at p v) i (get_or (path_edges c v) i [])

  abbrev pub vertices : ℕ
  vertices = length p.statements + length p.procedures

  unfoldable pub passed : ℕ → ℕ → ℕ → List Sourced
  passed v i case =
      start_from ∷ (gathered (sourced_vertex p c) (v - 1) ++ (flat_map_from (sourced_disjunct p c v (statement_at p v)) 0 (take i (path_edges c v)) ++ take case (cases_from v i)))

  -- there is one with this number
  pub record Place (v i case : ℕ) : Type 0 where
    pub low : 1 ≤ v
    pub high : v ≤ vertices
    pub disjunct : i < length (path_edges c v)
    pub this : case < length (cases_from v i)

-- ---- the witnesses

-- where no witness is
abbrev pub no_witness : Witness
no_witness = contradiction []

-- where the words of witness k begin, from 0
unfoldable pub start_of : List Witness → ℕ → ℕ
start_of ws k = length (encode_all (take k ws))

-- what a pass knows of witness k, w, which is the one of x
pub record This (xs : List Sourced) (ws : List Witness) (k : ℕ) (x : Sourced) (w : Witness) : Type 0 where
  pub work : T (works x.entailment w)
  pub begins : drop (start_of ws k) (encode_all ws) ≡ encode w ++ encode_all (drop (suc k) ws)
  pub ends : start_of ws (suc k) ≡ start_of ws k + length (encode w)
  pub used : Memᴰ (use_by x.source x.leads_to (leaf_targets w)) (uses_of xs ws)

-- ---- what is left by trimming

module _ (F : Flags) (x : Sourced) where
  -- the witness of one that is kept, toward what is left of the targets
  unfoldable pub left_of : Witness → List Witness
  left_of w = cond (keeps F x.source) (renumbered (F x.leads_to) w ∷ []) []

-- ---- a pass over a certificate whose witnesses work

module _ (p : Program) (c : Certificate) (ws : List Witness) where
  -- the place in the witness words that a pass has reached
  abbrev pub reached : ℕ → ℕ → ℕ → ℕ
  reached v i case = start_of ws (length (passed p c v i case))

  -- the next one's witness
  abbrev pub witness_of : ℕ → ℕ → ℕ → Witness
  witness_of v i case = get_or ws (length (passed p c v i case)) no_witness

module _ (p : Program) (c : Certificate) (ws : List Witness) (all : T (all_work (entailments p c) ws)) where
  abbrev pub count : ℕ
  count = length p.statements + length p.procedures
