-- Where a pass over all entailments stands, in their order: the start's, then vertex by vertex, disjunct by disjunct, case by case. `passed v i case`
-- are those before entailment `case`, from 0, of disjunct i, from 0, of vertex v. It begins as the start's alone (`passed_first`), grows by one
-- with each case (`passed_case`), all cases of a disjunct are one disjunct more (`passed_disjunct`), all disjuncts one vertex more
-- (`passed_vertex`), and all vertices are all entailments (`passed_all`). The next one is `get_or (cases_from v i) case` (`ahead`), whose entailment is
-- the one of the disjunct that has this number (`case_entailment`), and each but the start's is once the next (`place_of_lem`). Where all witnesses work,
-- the next one's has the number `length (passed v i case)`, and `This` says what is known of it: it works, where its words stand, and that its
-- use is listed. `left_more` says what is left of it by trimming.
use Rattle.std.specs.Prelude.{◌≡◌, ◌⊎◌, Bool, T, ltb, ℤ}
use Rattle.std.proofs.Math.Path.{refl, ap}
use Rattle.std.proofs.Common.{sym, ◌∙◌, subst, add-zero, zero-add, add-one, take-append-drop}
use Rattle.std.proofs.Math.Logic.{inl, inr}
use Rattle.std.proofs.Math.Bool.{true, false, cond}
use mathlib.Core.List.Memᴰ
use mathlib.Core.List.{List, [], ◌∷◌, ◌++◌, append_assoc, append-nil, Memᴰ}
use Prim.Native.Nat.{ℕ, zero, suc, ◌+◌, ◌-◌, ◌≤◌, ◌<◌}
use native.Mathlib.Omega.{arith}
use borrow.Author.Tests.{ltb-true, ltb-false}
use Rattle.std.proofs.Math.ListN.{length, get_or, take, drop, length-append, get_or-map}
use Rattle.std.proofs.lemmas.List.{length-map}
use Rattle.std.proofs.Math.Seq.{take-suc, take-length, split_at, drop-append_seam, length-take-le}
use Rattle.basics.proofs.Booleans.{parts}
use Rattle.basics.specs.Lists.{gathered, flat_map_from}
use Rattle.basics.proofs.Lists.{get_d_any}
use Rattle.programs.specs.Program.{Program, statement_at, owner}
use Rattle.certificates.specs.Certificate.{Certificate, path_edges}
use Rattle.certificates.specs.Entailments.{Entailment, from_disjunct, entailments}
use Rattle.certificates.specs.Sources.{Sourced, sourced_disjunct, sourced_vertex, sourced, entailments_of}
use Rattle.certificates.proofs.Sources.{of_disjunct, sourced_entailments}
use Rattle.certificates.specs.Witnesses.{Witness, encode, encode_all, works, all_work, all_work_by}
use Rattle.trimming.specs.Kept.{leaf_targets, Use, use_by, uses_of, Flags, keeps}
use Rattle.trimming.specs.Trimmed.{renumbered, trimmed_witnesses}
use Rattle.trimming.specs.Passed.{Place, This, cases_from, count, left_of, no_witness, passed, reached, start_from, start_of, vertices, witness_of}

-- ---- lists with numbers, cut in two

flat_append : {A B : Type 0} (f : ℕ → A → List B) (k : ℕ) (xs ys : List A) → flat_map_from f k (xs ++ ys) ≡ flat_map_from f k xs ++ flat_map_from f (k + length xs) ys
unfolding flat_map_from
flat_append f k [] ys = rw add-zero
flat_append {B = B} f k (x ∷ xs) ys =
    let e : suc k + length xs ≡ k + suc (length xs) = omega arith in
    ap (λ (l : List B). f k x ++ l) (rw e at (flat_append f (suc k) xs ys)) ∙ sym (append_assoc (f k x) (flat_map_from f (suc k) xs) (flat_map_from f (k + suc (length xs)) ys))

-- one more taken
flat_more : {A B : Type 0} (f : ℕ → A → List B) (z : A) (xs : List A) (i : ℕ) → i < length xs → flat_map_from f 0 (take (suc i) xs) ≡ flat_map_from f 0 (take i xs) ++ f i (get_or xs i z)
unfolding flat_map_from
flat_more f z xs i h =
    let n : 0 + length (take i xs) ≡ i = omega (arith, length-take-le i xs (omega arith)) in
    rw (take-suc xs i z h, flat_append f 0 (take i xs) (get_or xs i z ∷ []), n, append-nil)

-- the one at a place, and what follows
flat_at : {A B : Type 0} (f : ℕ → A → List B) (z : A) (xs : List A) (i : ℕ) → i < length xs
    → flat_map_from f 0 xs ≡ flat_map_from f 0 (take i xs) ++ (f i (get_or xs i z) ++ flat_map_from f (suc i) (drop (suc i) xs))
unfolding flat_map_from
flat_at f z xs i h =
    let n : 0 + length (take i xs) ≡ i = omega (arith, length-take-le i xs (omega arith)) in
    ap (flat_map_from f 0) (split_at xs i z h) ∙ rw n at (flat_append f 0 (take i xs) (get_or xs i z ∷ drop (suc i) xs))

gathered_at : {A : Type 0} (f : ℕ → List A) (m v : ℕ) → 1 ≤ v → v ≤ m → (rest : List A) × (gathered f m ≡ gathered f (v - 1) ++ (f v ++ rest))
unfolding gathered
gathered_at f zero v low high = absurd (omega arith)
gathered_at {A} f (suc m) v low high = go (ltb m v) refl (λ l. gathered_at f m v low l)
  where
    go : (b : Bool) → ltb m v ≡ b → (v ≤ m → (rest : List A) × (gathered f m ≡ gathered f (v - 1) ++ (f v ++ rest))) → (rest : List A) × (gathered f m ++ f (m + 1) ≡ gathered f (v - 1) ++ (f v ++ rest))
    go false q r = let (rest, e) = r (ltb-false m v q) in (rest ++ f (m + 1), rw (e, append_assoc, append_assoc))
    go true q r =
        let h : m < v = ltb-true m v q in
        let last : v ≡ m + 1 = omega arith in
        let before : v - 1 ≡ m = omega arith in
        ([], rw (before, append-nil, last))

-- a list with a part, and the part with a member
joined : {A : Type 0} {l part : List A} (before after front back : List A) (x : A) → l ≡ before ++ (part ++ after) → part ≡ front ++ (x ∷ back) → l ≡ (before ++ front) ++ (x ∷ (back ++ after))
joined before after front back x e f = rw (e, f, append_assoc front (x ∷ back) after, append_assoc before front (x ∷ (back ++ after)))

-- ---- what stands at a place of such a list

-- the number of the list that has it, and its place there
gathered_place : {A : Type 0} (f : ℕ → List A) (m k : ℕ) → k < length (gathered f m) → (v : ℕ) × (1 ≤ v) × (v ≤ m) × ((j : ℕ) × (j < length (f v)) × (k ≡ length (gathered f (v - 1)) + j))
unfolding gathered
gathered_place f zero k h = absurd (omega arith)
gathered_place {A} f (suc m) k h = go (ltb k (length (gathered f m))) refl (λ l. gathered_place f m k l)
  where
    go : (b : Bool) → ltb k (length (gathered f m)) ≡ b → (k < length (gathered f m) → (v : ℕ) × (1 ≤ v) × (v ≤ m) × ((j : ℕ) × (j < length (f v)) × (k ≡ length (gathered f (v - 1)) + j)))
        → (v : ℕ) × (1 ≤ v) × (v ≤ suc m) × ((j : ℕ) × (j < length (f v)) × (k ≡ length (gathered f (v - 1)) + j))
    go true q r = let (v, low, high, x) = r (ltb-true k (length (gathered f m)) q) in (v, low, omega arith, x)
    go false q r =
        let l = ltb-false k (length (gathered f m)) q in
        let e : m + 1 - 1 ≡ m = omega arith in
        (m + 1, omega arith, omega arith, (k - length (gathered f m), omega (arith, length-append (gathered f m) (f (m + 1))), rw e (omega arith)))

flat_place : {A B : Type 0} (f : ℕ → A → List B) (z : A) (start : ℕ) (xs : List A) (k : ℕ) → k < length (flat_map_from f start xs)
    → (i : ℕ) × (i < length xs) × ((j : ℕ) × (j < length (f (start + i) (get_or xs i z))) × (k ≡ length (flat_map_from f start (take i xs)) + j))
unfolding flat_map_from
flat_place f z start [] k h = absurd (omega arith)
flat_place {A} {B} f z start (x ∷ xs) k h = go (ltb k (length (f start x))) refl (λ l. flat_place f z (suc start) xs (k - length (f start x)) l)
  where
    go : (b : Bool) → ltb k (length (f start x)) ≡ b
        → (k - length (f start x) < length (flat_map_from f (suc start) xs) → (i : ℕ) × (i < length xs) × ((j : ℕ) × (j < length (f (suc start + i) (get_or xs i z))) × (k - length (f start x) ≡ length (flat_map_from f (suc start) (take i xs)) + j)))
        → (i : ℕ) × (i < suc (length xs)) × ((j : ℕ) × (j < length (f (start + i) (get_or (x ∷ xs) i z))) × (k ≡ length (flat_map_from f start (take i (x ∷ xs))) + j))
    go true q r = (0, omega arith, (k, rw (add-zero start) (ltb-true k (length (f start x)) q), unfold flat_map_from in omega arith))
    go false q r =
        let l = ltb-false k (length (f start x)) q in
        let (i, b, (j, d, e)) = r (omega (arith, length-append (f start x) (flat_map_from f (suc start) xs))) in
        let s : suc start + i ≡ start + suc i = omega arith in
        (suc i, omega arith, (j, rw s at d, unfold flat_map_from in omega (arith, length-append (f start x) (flat_map_from f (suc start) (take i xs)))))

-- ---- the entailments that a pass has behind it

module _ (p : Program) (c : Certificate) where
  pub passed_first : (passed p c) 1 0 0 ≡ (start_from p c) ∷ []
  unfolding passed gathered flat_map_from
  passed_first = refl

  pub passed_case : (v i case : ℕ) (z : Sourced) → case < length ((cases_from p c) v i) → (passed p c) v i (case + 1) ≡ (passed p c) v i case ++ (get_or ((cases_from p c) v i) case z ∷ [])
  unfolding passed
  passed_case v i case z h = rw (add-one, take-suc ((cases_from p c) v i) case z h, append_assoc, append_assoc)

  pub passed_disjunct : (v i : ℕ) → i < length (path_edges c v) → (passed p c) v i (length ((cases_from p c) v i)) ≡ (passed p c) v (i + 1) 0
  unfolding passed
  passed_disjunct v i h = rw (add-one, take-length, flat_more (sourced_disjunct p c v (statement_at p v)) [] (path_edges c v) i h, append-nil)

  pub passed_vertex : (v : ℕ) → 1 ≤ v → (passed p c) v (length (path_edges c v)) 0 ≡ (passed p c) (v + 1) 0 0
  unfolding passed flat_map_from gathered sourced_vertex
  passed_vertex v low =
      let e : v + 1 - 1 ≡ suc (v - 1) = omega arith in
      let f : v - 1 + 1 ≡ v = omega arith in
      rw (take-length, e, append-nil, append-nil, f)

  pub passed_all : (passed p c) ((vertices p c) + 1) 0 0 ≡ sourced p c
  unfolding passed flat_map_from sourced
  passed_all = let e : (vertices p c) + 1 - 1 ≡ (vertices p c) = omega arith in rw (e, append-nil)

  -- the next one
  pub ahead : (v i case : ℕ) (z : Sourced) → 1 ≤ v → v ≤ (vertices p c) → i < length (path_edges c v) → case < length ((cases_from p c) v i)
      → (rest : List Sourced) × (sourced p c ≡ (passed p c) v i case ++ (get_or ((cases_from p c) v i) case z ∷ rest))
  unfolding passed sourced sourced_vertex
  ahead v i case z low high h b =
      let f = sourced_disjunct p c v (statement_at p v) in
      let (rest, e) = gathered_at (sourced_vertex p c) (vertices p c) v low high in
      let done = flat_map_from f 0 (take i (path_edges c v)) in
      let later = flat_map_from f (suc i) (drop (suc i) (path_edges c v)) in
      let this = get_or ((cases_from p c) v i) case z in
      let others = drop (suc case) ((cases_from p c) v i) in
      let here = joined done later (take case ((cases_from p c) v i)) others this (flat_at f [] (path_edges c v) i h) (split_at ((cases_from p c) v i) case z b) in
      (others ++ later ++ rest, ap (λ (l : List Sourced). (start_from p c) ∷ l) (joined (gathered (sourced_vertex p c) (v - 1)) rest (done ++ take case ((cases_from p c) v i)) (others ++ later) this e here))

  -- each but the start's is the next one of a pass
  pub place_of_lem : (k : ℕ) → k < length (sourced p c) → (k ≡ 0) ⊎ ((v : ℕ) × (i : ℕ) × (case : ℕ) × (Place p c) v i case × (k ≡ length ((passed p c) v i case)))
  unfolding sourced passed sourced_vertex
  place_of_lem zero h = inl refl
  place_of_lem (suc k) h =
      let (v, low, high, (l, b, e)) = gathered_place (sourced_vertex p c) (vertices p c) k (omega arith) in
      let (i, d, (case, t, q)) = flat_place (sourced_disjunct p c v (statement_at p v)) [] 0 (path_edges c v) l b in
      let z : 0 + i ≡ i = omega arith in
      let t' : case < length ((cases_from p c) v i) = rw z at t in
      let done = flat_map_from (sourced_disjunct p c v (statement_at p v)) 0 (take i (path_edges c v)) in
      inr (v, i, case, record { low = low; high = high; disjunct = d; this = t' }, omega (arith, length-append (gathered (sourced_vertex p c) (v - 1)) (done ++ take case ((cases_from p c) v i)), length-append done (take case ((cases_from p c) v i)), length-take-le case ((cases_from p c) v i) (omega arith)))

  -- as many as the entailments of the disjunct
  pub cases_counted : (v i : ℕ) → length ((cases_from p c) v i) ≡ length (from_disjunct p c (owner p v) (statement_at p v) (get_or (path_edges c v) i []))
  cases_counted v i = sym (length-map ((cases_from p c) v i) (λ (x : Sourced). x.entailment)) ∙ ap length (of_disjunct p c v (statement_at p v) i (get_or (path_edges c v) i []))

  pub case_entailment : (v i case : ℕ) (z : Sourced) (e : Entailment) → case < length ((cases_from p c) v i)
      → (get_or ((cases_from p c) v i) case z).entailment ≡ get_or (from_disjunct p c (owner p v) (statement_at p v) (get_or (path_edges c v) i [])) case e
  case_entailment v i case z e h =
      sym (get_or-map (λ (x : Sourced). x.entailment) ((cases_from p c) v i) case z)
      ∙ (ap (λ (l : List Entailment). get_or l case z.entailment) (of_disjunct p c v (statement_at p v) i (get_or (path_edges c v) i []))
      ∙ get_d_any (from_disjunct p c (owner p v) (statement_at p v) (get_or (path_edges c v) i [])) case z.entailment e (rw (← cases_counted v i) h))

pub encode_append : (ws us : List Witness) → encode_all (ws ++ us) ≡ encode_all ws ++ encode_all us
unfolding encode_all
encode_append [] us = refl
encode_append (w ∷ ws) us = ap (λ (l : List ℤ). encode w ++ l) (encode_append ws us) ∙ sym (append_assoc (encode w) (encode_all ws) (encode_all us))

pub start_inside : (ws : List Witness) (k : ℕ) → start_of ws k ≤ length (encode_all ws)
unfolding start_of
start_inside ws k = let e = ap length (sym (encode_append (take k ws) (drop k ws))) in omega (arith, length-append (encode_all (take k ws)) (encode_all (drop k ws)), rw (take-append-drop k ws) at e)

module _ (ws : List Witness) (k : ℕ) (there : k < length ws) where
  begins_at : drop (start_of ws k) (encode_all ws) ≡ encode (get_or ws k no_witness) ++ encode_all (drop (suc k) ws)
  unfolding start_of encode_all
  begins_at =
      let e : encode_all ws ≡ encode_all (take k ws) ++ (encode (get_or ws k no_witness) ++ encode_all (drop (suc k) ws)) =
      ap encode_all (split_at ws k no_witness there) ∙ encode_append (take k ws) (get_or ws k no_witness ∷ drop (suc k) ws) in
      ap (drop (length (encode_all (take k ws)))) e ∙ drop-append_seam (encode_all (take k ws)) (encode (get_or ws k no_witness) ++ encode_all (drop (suc k) ws))

  ends_at : start_of ws (suc k) ≡ start_of ws k + length (encode (get_or ws k no_witness))
  unfolding start_of encode_all
  ends_at = rw (take-suc ws k no_witness there, encode_append, append-nil, length-append)

module _ (x : Sourced) (rest : List Sourced) where
  works_at : (before : List Sourced) (ws : List Witness) → T (all_work (entailments_of (before ++ (x ∷ rest))) ws) → T (works x.entailment (get_or ws (length before) no_witness)) × (length before < length ws)
  unfolding all_work_by
  works_at [] [] t = absurd t
  works_at [] (w ∷ ws) t = (search parts, omega arith)
  works_at (y ∷ before) [] t = absurd t
  works_at (y ∷ before) (w ∷ ws) t = let (a, b) = works_at before ws (search parts) in (a, omega arith)

  used_at : (before : List Sourced) (ws : List Witness) → length before < length ws
      → Memᴰ (use_by x.source x.leads_to (leaf_targets (get_or ws (length before) no_witness))) (uses_of (before ++ (x ∷ rest)) ws)
  unfolding uses_of
  used_at before [] h = absurd (omega arith)
  used_at [] (w ∷ ws) h = Memᴰ.head refl
  used_at (y ∷ before) (w ∷ ws) h = Memᴰ.tail (used_at before ws (omega arith))

  -- one that follows so many has the witness of that number
  pub this_at : (before : List Sourced) (ws : List Witness) → T (all_work (entailments_of (before ++ (x ∷ rest))) ws)
      → This (before ++ (x ∷ rest)) ws (length before) x (get_or ws (length before) no_witness)
  this_at before ws t =
      let k = length before in
      let w = get_or ws k no_witness in
      let (work, there) = works_at before ws t in
      record {
        work = work;
        begins = begins_at ws k there;
        ends = ends_at ws k there;
        used = used_at before ws there;
      }

-- a use that is listed is of one that is listed, with the witness of its number
pub used_place : (xs : List Sourced) (ws : List Witness) (z : Sourced) {u : Use} → Memᴰ u (uses_of xs ws)
    → (k : ℕ) × (k < length xs) × (u ≡ use_by (get_or xs k z).source (get_or xs k z).leads_to (leaf_targets (get_or ws k no_witness)))
unfolding uses_of
used_place [] ws z m = absurd (Memᴰ.not-nil m)
used_place (x ∷ xs) [] z m = absurd (Memᴰ.not-nil m)
used_place (x ∷ xs) (w ∷ ws) z (Memᴰ.head e) = (0, omega arith, e)
used_place (x ∷ xs) (w ∷ ws) z (Memᴰ.tail m) = let (k, h, e) = used_place xs ws z m in (suc k, omega arith, e)

-- ---- what is left by trimming

module _ (F : Flags) (x : Sourced) where
  pub trimmed_more : (before : List Sourced) (ws : List Witness) → length before < length ws
      → trimmed_witnesses F (before ++ (x ∷ [])) ws ≡ trimmed_witnesses F before ws ++ (left_of F x) (get_or ws (length before) no_witness)
  unfolding trimmed_witnesses left_of
  trimmed_more before [] h = absurd (omega arith)
  trimmed_more [] (w ∷ ws) h = refl
  trimmed_more (y ∷ before) (w ∷ ws) h = go (keeps F y.source) _ _ (trimmed_more before ws (omega arith))
    where
      go : (b : Bool) {k : List Witness} (l m : List Witness) → k ≡ l ++ m → cond b (renumbered (F y.leads_to) w ∷ k) k ≡ cond b (renumbered (F y.leads_to) w ∷ l) l ++ m
      go true l m e = ap (λ (l : List Witness). renumbered (F y.leads_to) w ∷ l) e
      go false l m e = e

module _ (p : Program) (c : Certificate) (ws : List Witness) (all : T (all_work (entailments p c) ws)) where
  all_sourced : T (all_work (entailments_of (sourced p c)) ws)
  all_sourced = rw (sourced_entailments p c) all

  pub start_this : This (sourced p c) ws 0 (start_from p c) (get_or ws 0 no_witness)
  unfolding sourced
  start_this = this_at (start_from p c) (gathered (sourced_vertex p c) (count p c ws all)) [] ws all_sourced

  pub start_reached : start_of ws 0 ≡ 0
  unfolding start_of encode_all
  start_reached = refl

  pub first_reached : reached p c ws 1 0 0 ≡ length (encode (get_or ws 0 no_witness))
  first_reached = rw (passed_first p c) (start_this.ends ∙ rw start_reached (zero-add (length (encode (get_or ws 0 no_witness)))))

  pub left_first : (F : Flags) → trimmed_witnesses F (passed p c 1 0 0) ws ≡ left_of F (start_from p c) (get_or ws 0 no_witness)
  unfolding sourced
  left_first F =
      let there = (works_at (start_from p c) (gathered (sourced_vertex p c) (count p c ws all)) [] ws all_sourced).1 in
      rw (passed_first p c) (trimmed_more F (start_from p c) [] ws there ∙ unfold trimmed_witnesses in refl)

  pub disjunct_reached : (v i : ℕ) → i < length (path_edges c v) → reached p c ws v i (length (cases_from p c v i)) ≡ reached p c ws v (i + 1) 0
  disjunct_reached v i h = ap (λ (l : List Sourced). start_of ws (length l)) (passed_disjunct p c v i h)

  pub vertex_reached : (v : ℕ) → 1 ≤ v → reached p c ws v (length (path_edges c v)) 0 ≡ reached p c ws (v + 1) 0 0
  vertex_reached v low = ap (λ (l : List Sourced). start_of ws (length l)) (passed_vertex p c v low)

  module _ (v i case : ℕ) (z : Sourced) (low : 1 ≤ v) (high : v ≤ (count p c ws all)) (h : i < length (path_edges c v)) (b : case < length (cases_from p c v i)) where
    pub case_this : This (sourced p c) ws (length (passed p c v i case)) (get_or (cases_from p c v i) case z) (witness_of p c ws v i case)
    case_this =
        let (rest, e) = ahead p c v i case z low high h b in
        let t = subst (λ (l : List Sourced). T (all_work (entailments_of l) ws)) e all_sourced in
        subst (λ (l : List Sourced). This l ws (length (passed p c v i case)) (get_or (cases_from p c v i) case z) (witness_of p c ws v i case)) (sym e) (this_at (get_or (cases_from p c v i) case z) rest (passed p c v i case) ws t)

    pub case_reached : reached p c ws v i (case + 1) ≡ reached p c ws v i case + length (encode (witness_of p c ws v i case))
    case_reached = rw (passed_case p c v i case z b, length-append, add-one) case_this.ends

    -- what is left of the witnesses so far by trimming
    pub left_more : (F : Flags) → trimmed_witnesses F (passed p c v i (case + 1)) ws ≡ trimmed_witnesses F (passed p c v i case) ws ++ left_of F (get_or (cases_from p c v i) case z) (witness_of p c ws v i case)
    left_more F =
        let (rest, e) = ahead p c v i case z low high h b in
        let t = subst (λ (l : List Sourced). T (all_work (entailments_of l) ws)) e all_sourced in
        rw (passed_case p c v i case z b) (trimmed_more F (get_or (cases_from p c v i) case z) (passed p c v i case) ws (works_at (get_or (cases_from p c v i) case z) rest (passed p c v i case) ws t).1)
