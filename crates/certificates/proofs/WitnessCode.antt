-- Witnesses of an entailment and their words: reading takes a shaped witness back from its words, whatever words follow, and takes nothing
-- else. So no shaped witness's words begin another's, a prefix code: an entailment and the first word tell how many words follow.
use Rattle.std.specs.Prelude.{◌≡◌, ◌↔◌, Bool, true, false, cond, ◌&&◌, T, leb, ℤ, pos, negsuc, length}
use Rattle.std.proofs.Math.Path.{refl}
use Rattle.std.proofs.Common.{sym, ap, ◌∙◌, subst, arith, le→leb}
use mathlib.Core.List.{List, [], ◌∷◌, ◌++◌, map, append_assoc}
use Rattle.std.proofs.Math.Option.{Option, none, some}
use Prim.Native.Nat.{ℕ, zero, suc, ◌≤◌, ◌<◌}
use Rattle.std.proofs.Math.Dec.{leb-zero}
use Rattle.std.proofs.Math.ListN.{get_elem?}
use Rattle.basics.proofs.Booleans.{and, parts, holds, cond_yes}
use Rattle.rows.specs.Rows.{Row}
use Rattle.words.specs.Limits.{constant_limit, coefficient_limit, most_multiplier, most_divisor, most_splits}
use Rattle.words.specs.Words.{small}
use Rattle.words.specs.RowWords.{constant_of, is_constant}
use Rattle.words.proofs.Ranges.{small_between}
use Rattle.words.specs.ConstantCode.{high_of, low_of}
use Rattle.words.proofs.ConstantCode.{spelled_read, spelled_passes}
use Rattle.words.specs.RowCode.{constant_code, row_code}
use Rattle.words.proofs.RowCode.{constant_words_lem, constant_within}
use Rattle.certificates.specs.Certificate.{Disjunct}
use Rattle.certificates.specs.Entailments.{Entailment}
use Rattle.certificates.specs.Witnesses.{Share, Witness, contradiction, target, split, under, other_side, encode_shares, encode, shaped_multipliers, shaped_shares, shaped_at, shaped_coefficients, shaped_row, shaped_tree, shaped}
use Rattle.certificates.specs.Judgement.{Read, got, missing, and_then, read_within, read_multipliers, read_shares, read_target, read_chosen, read_leaf, read_constant, read_coefficient, read_coefficients, read_row, read_split, read_tree, read_witness}
use Rattle.certificates.specs.WitnessCode.{Spell, Unreadable, in_range, nothing, spells}

-- ---- from a witness to its words and back

within_encoded : (low high n : ℕ) (rest : List ℤ) → T (in_range low high n) → read_within low high (pos n ∷ rest) ≡ got n rest
unfolding read_within
within_encoded low high n rest t = cond_yes (in_range low high n) (got n rest) missing t

up_to_encoded : (high n : ℕ) (rest : List ℤ) → T (leb n high) → read_within 0 high (pos n ∷ rest) ≡ got n rest
up_to_encoded high n rest t = within_encoded 0 high n rest (and (leb 0 n) (leb n high) (holds (leb-zero n)) t)

multipliers_encoded : (n : ℕ) (ms : List ℕ) (rest : List ℤ) → T (shaped_multipliers n ms) → read_multipliers n (map pos ms ++ rest) ≡ got ms rest
unfolding shaped_multipliers read_multipliers and_then
multipliers_encoded zero [] rest t = refl
multipliers_encoded zero (m ∷ ms) rest t = absurd t
multipliers_encoded (suc n) [] rest t = absurd t
multipliers_encoded (suc n) (m ∷ ms) rest t = rw (up_to_encoded most_multiplier m (map pos ms ++ rest) (search parts), multipliers_encoded n ms rest (search parts))

shares_encoded : (n : ℕ) (rs : List Row) (xs : List Share) (rest : List ℤ) → T (shaped_shares n rs xs) → read_shares n rs (encode_shares xs ++ rest) ≡ got xs rest
unfolding shaped_shares read_shares encode_shares and_then
shares_encoded n [] [] rest t = refl
shares_encoded n [] (x ∷ xs) rest t = absurd t
shares_encoded n (r ∷ rs) [] rest t = absurd t
shares_encoded n (r ∷ rs) (x ∷ xs) rest t =
    rw (
      append_assoc,
      within_encoded 1 most_divisor x.divisor (map pos x.multipliers ++ (encode_shares xs ++ rest)) (search parts),
      multipliers_encoded n x.multipliers (encode_shares xs ++ rest) (search parts),
      shares_encoded n rs xs rest (search parts),
    )

target_encoded : (n j : ℕ) (d : Option Disjunct) (xs : List Share) (rest : List ℤ) → T (shaped_at n d xs) → read_target n j d (encode_shares xs ++ rest) ≡ got (target j xs) rest
unfolding shaped_at read_target and_then
target_encoded n j none xs rest t = absurd t
target_encoded n j (some d) xs rest t = rw (shares_encoded n d xs rest t)

pub present : (n : ℕ) (ds : List Disjunct) (j : ℕ) (xs : List Share) → T (shaped_at n (get_elem? ds j) xs) → j < length ds
unfolding shaped_at
present n [] j xs t = absurd t
present n (d ∷ ds) zero xs t = omega arith
present n (d ∷ ds) (suc j) xs t = omega (arith, present n ds j xs t)

chosen_encoded : (e : Entailment) (k : ℕ) (rest : List ℤ) → k ≤ length e.targets → read_leaf e (pos k ∷ rest) ≡ read_chosen e k rest
unfolding read_leaf and_then
chosen_encoded e k rest h = rw (up_to_encoded (length e.targets) k rest (le→leb k (length e.targets) h))

contradiction_encoded : (e : Entailment) (ms : List ℕ) (rest : List ℤ) → T (shaped_multipliers (length e.premises) ms) → read_leaf e (pos 0 ∷ (map pos ms ++ rest)) ≡ got (contradiction ms) rest
unfolding read_chosen and_then
contradiction_encoded e ms rest t = chosen_encoded e 0 (map pos ms ++ rest) (omega arith) ∙ rw (multipliers_encoded (length e.premises) ms rest t)

named_encoded : (e : Entailment) (j : ℕ) (xs : List Share) (rest : List ℤ) → T (shaped_at (length e.premises) (get_elem? e.targets j) xs) → read_leaf e (pos (suc j) ∷ (encode_shares xs ++ rest)) ≡ got (target j xs) rest
unfolding read_chosen
named_encoded e j xs rest t =
    chosen_encoded e (suc j) (encode_shares xs ++ rest) (present (length e.premises) e.targets j xs t) ∙ target_encoded (length e.premises) j (get_elem? e.targets j) xs rest t

constant_encoded : (c : ℤ) (rest : List ℤ) → T (small constant_limit c) → read_constant (constant_code c ++ rest) ≡ got c rest
unfolding read_constant constant_code
constant_encoded c rest t =
    cond_yes (is_constant (high_of c) (low_of c)) (got (constant_of (high_of c) (low_of c)) rest) missing (spelled_passes c ((small_between constant_limit c).0 t))
    ∙ ap (λ (z : ℤ). got z rest) (spelled_read c)

coefficient_encoded : (z : ℤ) (rest : List ℤ) → T (small coefficient_limit z) → read_coefficient (z ∷ rest) ≡ got z rest
unfolding read_coefficient
coefficient_encoded z rest t = cond_yes (small coefficient_limit z) (got z rest) missing t

coefficients_encoded : (n : ℕ) (cs rest : List ℤ) → T (shaped_coefficients n cs) → read_coefficients n (cs ++ rest) ≡ got cs rest
unfolding shaped_coefficients read_coefficients and_then
coefficients_encoded zero [] rest t = refl
coefficients_encoded zero (c ∷ cs) rest t = absurd t
coefficients_encoded (suc n) [] rest t = absurd t
coefficients_encoded (suc n) (c ∷ cs) rest t = rw (coefficient_encoded c (cs ++ rest) (search parts), coefficients_encoded n cs rest (search parts))

row_encoded : (columns : ℕ) (r : Row) (rest : List ℤ) → T (shaped_row columns r) → read_row columns (row_code r ++ rest) ≡ got r rest
unfolding shaped_row read_row row_code and_then
row_encoded columns r rest t =
    rw (append_assoc, constant_encoded r.constant (r.coefficients ++ rest) (search parts), coefficients_encoded columns r.coefficients rest (search parts))

-- a split, where what stands below it is read back
split_encoded : (below : Entailment → List ℤ → Read Witness) (e : Entailment) (r : Row) (w v : Witness) (rest : List ℤ) → T (shaped_row e.columns r)
    → below (under r e) (encode w ++ (encode v ++ rest)) ≡ got w (encode v ++ rest) → below (under (other_side r) e) (encode v ++ rest) ≡ got v rest
    → read_split below e ((row_code r ++ (encode w ++ encode v)) ++ rest) ≡ got (split r w v) rest
unfolding read_split and_then
split_encoded below e r w v rest t h k = rw (append_assoc, append_assoc, row_encoded e.columns r (encode w ++ (encode v ++ rest)) t, h, k)

tree_encoded : (d : ℕ) (e : Entailment) (w : Witness) (rest : List ℤ) → T (shaped_tree d e w) → read_tree d e (encode w ++ rest) ≡ got w rest
unfolding read_tree encode shaped_tree
tree_encoded zero e (contradiction ms) rest t = contradiction_encoded e ms rest t
tree_encoded zero e (target j xs) rest t = named_encoded e j xs rest t
tree_encoded zero e (split r w v) rest t = absurd t
tree_encoded (suc d) e (contradiction ms) rest t = contradiction_encoded e ms rest t
tree_encoded (suc d) e (target j xs) rest t = named_encoded e j xs rest t
tree_encoded (suc d) e (split r w v) rest t =
    split_encoded (read_tree d) e r w v rest (search parts) (tree_encoded d (under r e) w (encode v ++ rest) (search parts)) (tree_encoded d (under (other_side r) e) v rest (search parts))

pub read_encoded : (e : Entailment) (w : Witness) (rest : List ℤ) → T (shaped e w) → read_witness e (encode w ++ rest) ≡ got w rest
unfolding read_witness shaped
read_encoded e w rest t = tree_encoded most_splits e w rest t

was_spelled : {A : Type 0} {code : A → List ℤ} {good : A → Bool} {ws : List ℤ} {a : A} {rest : List ℤ} → Spell code good ws (got a rest) → (ws ≡ code a ++ rest) × T (good a)
was_spelled (spells e t) = (e, t)

module _ {A B : Type 0} {codeA : A → List ℤ} {goodA : A → Bool} {codeB : B → List ℤ} {goodB : B → Bool} where
  -- one thing is read after another; some words stand before both
  then_spells : (before : List ℤ) {ws : List ℤ} {x : Read A} {f : A → List ℤ → Read B} → Spell codeA goodA ws x
      → ((a : A) (left : List ℤ) → T (goodA a) → Spell codeB goodB (before ++ (codeA a ++ left)) (f a left)) → Spell codeB goodB (before ++ ws) (and_then x f)
  unfolding and_then
  then_spells before (spells {a} {rest = left} e t) h = rw e (h a left t)
  then_spells before nothing h = nothing

within_spells : (low high : ℕ) (ws : List ℤ) → Spell (λ (n : ℕ). pos n ∷ []) (in_range low high) ws (read_within low high ws)
unfolding read_within
within_spells low high [] = nothing
within_spells low high (pos n ∷ ws) = go (in_range low high n) refl
  where
    go : (b : Bool) → in_range low high n ≡ b → Spell (λ (n : ℕ). pos n ∷ []) (in_range low high) (pos n ∷ ws) (cond b (got n ws) missing)
    go true q = spells refl (holds q)
    go false q = nothing
within_spells low high (negsuc n ∷ ws) = nothing

multipliers_spell : (n : ℕ) (ws : List ℤ) → Spell (map pos) (shaped_multipliers n) ws (read_multipliers n ws)
unfolding read_multipliers shaped_multipliers
multipliers_spell zero ws = spells refl tt
multipliers_spell (suc n) ws = then_spells [] (within_spells 0 most_multiplier ws)
    (λ m left t. then_spells (pos m ∷ []) (multipliers_spell n left) (λ ms last u. spells refl (and (leb m most_multiplier) (shaped_multipliers n ms) (search parts) u)))

shares_spell : (n : ℕ) (rs : List Row) (ws : List ℤ) → Spell encode_shares (shaped_shares n rs) ws (read_shares n rs ws)
unfolding read_shares shaped_shares encode_shares
shares_spell n [] ws = spells refl tt
shares_spell n (r ∷ rs) ws = then_spells [] (within_spells 1 most_divisor ws)
    (λ d left t. then_spells (pos d ∷ []) (multipliers_spell n left)
    (λ ms last u. rw (← append_assoc) (then_spells (pos d ∷ map pos ms) (shares_spell n rs last)
    (λ xs end v. spells (rw append_assoc) (and (in_range 1 most_divisor d) (shaped_multipliers n ms && shaped_shares n rs xs) t (and (shaped_multipliers n ms) (shaped_shares n rs xs) u v))))))

constant_spells : (ws : List ℤ) → Spell constant_code (small constant_limit) ws (read_constant ws)
unfolding read_constant
constant_spells [] = nothing
constant_spells (high ∷ []) = nothing
constant_spells (high ∷ (low ∷ ws)) = go (is_constant high low) refl
  where
    go : (b : Bool) → is_constant high low ≡ b → Spell constant_code (small constant_limit) (high ∷ (low ∷ ws)) (cond b (got (constant_of high low) ws) missing)
    go true q = spells (ap (λ (l : List ℤ). l ++ ws) (constant_words_lem high low (holds q))) (constant_within high low (holds q))
    go false q = nothing

coefficient_spells : (ws : List ℤ) → Spell (λ (z : ℤ). z ∷ []) (small coefficient_limit) ws (read_coefficient ws)
unfolding read_coefficient
coefficient_spells [] = nothing
coefficient_spells (z ∷ ws) = go (small coefficient_limit z) refl
  where
    go : (b : Bool) → small coefficient_limit z ≡ b → Spell (λ (z : ℤ). z ∷ []) (small coefficient_limit) (z ∷ ws) (cond b (got z ws) missing)
    go true q = spells refl (holds q)
    go false q = nothing

coefficients_spell : (n : ℕ) (ws : List ℤ) → Spell (λ (cs : List ℤ). cs) (shaped_coefficients n) ws (read_coefficients n ws)
unfolding read_coefficients shaped_coefficients
coefficients_spell zero ws = spells refl tt
coefficients_spell (suc n) ws = then_spells [] (coefficient_spells ws)
    (λ c left t. then_spells (c ∷ []) (coefficients_spell n left) (λ cs last u. spells refl (and (small coefficient_limit c) (shaped_coefficients n cs) t u)))

row_spells : (columns : ℕ) (ws : List ℤ) → Spell row_code (shaped_row columns) ws (read_row columns ws)
unfolding read_row shaped_row row_code
row_spells columns ws = then_spells [] (constant_spells ws)
    (λ c left t. then_spells (constant_code c) (coefficients_spell columns left) (λ cs last u. spells (sym (append_assoc (constant_code c) cs last)) (and (small constant_limit c) (shaped_coefficients columns cs) t u)))

-- a row that was read has its form, and the words are the row's and then those left
pub row_read : (columns : ℕ) (ws : List ℤ) {r : Row} {rest : List ℤ} → read_row columns ws ≡ got r rest → (ws ≡ row_code r ++ rest) × T (shaped_row columns r)
row_read columns ws {r} {rest} e = was_spelled (subst (Spell row_code (shaped_row columns) ws) e (row_spells columns ws))

module _ (e : Entailment) (d : ℕ) where
  target_spells : (j : ℕ) (o : Option Disjunct) (ws : List ℤ) → get_elem? e.targets j ≡ o → Spell encode (shaped_tree d e) (pos (suc j) ∷ ws) (read_target (length e.premises) j o ws)
  unfolding read_target encode shaped_tree shaped_at
  target_spells j none ws q = nothing
  target_spells j (some o) ws q = then_spells (pos (suc j) ∷ []) (shares_spell (length e.premises) o ws) (λ xs rest t. spells refl (rw q t))

  chosen_spells : (k : ℕ) (ws : List ℤ) → Spell encode (shaped_tree d e) (pos k ∷ ws) (read_chosen e k ws)
  unfolding read_chosen encode shaped_tree
  chosen_spells zero ws = then_spells (pos 0 ∷ []) (multipliers_spell (length e.premises) ws) (λ ms rest t. spells refl t)
  chosen_spells (suc j) ws = target_spells j (get_elem? e.targets j) ws refl

  leaf_spells : (ws : List ℤ) → Spell encode (shaped_tree d e) ws (read_leaf e ws)
  unfolding read_leaf
  leaf_spells ws = then_spells [] (within_spells 0 (length e.targets) ws) (λ k rest t. chosen_spells k rest)

-- a split, where what is read below it is spelled
split_spells : (d : ℕ) (e : Entailment) (ws : List ℤ) → ((f : Entailment) (left : List ℤ) → Spell encode (shaped_tree d f) left (read_tree d f left)) → Spell encode (shaped_tree (suc d) e) (negsuc 0 ∷ ws) (read_split (read_tree d) e ws)
unfolding read_split encode shaped_tree
split_spells d e ws below =
    then_spells (negsuc 0 ∷ []) (row_spells e.columns ws)
    (λ r left t. rw (← append_assoc) (then_spells (negsuc 0 ∷ row_code r) (below (under r e) left)
    (λ w last u. rw (← append_assoc) (then_spells (negsuc 0 ∷ (row_code r ++ encode w)) (below (under (other_side r) e) last)
    (λ v end x. spells (simp append_assoc) (and (shaped_row e.columns r) (shaped_tree d (under r e) w && shaped_tree d (under (other_side r) e) v) t (and (shaped_tree d (under r e) w) (shaped_tree d (under (other_side r) e) v) u x)))))))

tree_spells : (d : ℕ) (e : Entailment) (ws : List ℤ) → Spell encode (shaped_tree d e) ws (read_tree d e ws)
unfolding read_tree
tree_spells zero e ws = leaf_spells e zero ws
tree_spells (suc d) e [] = leaf_spells e (suc d) []
tree_spells (suc d) e (pos n ∷ ws) = leaf_spells e (suc d) (pos n ∷ ws)
tree_spells (suc d) e (negsuc zero ∷ ws) = split_spells d e ws (λ f left. tree_spells d f left)
tree_spells (suc d) e (negsuc (suc n) ∷ ws) = leaf_spells e (suc d) (negsuc (suc n) ∷ ws)

module _ (e : Entailment) where
  witness_spells : (ws : List ℤ) → Spell encode (shaped e) ws (read_witness e ws)
  unfolding read_witness shaped
  witness_spells ws = tree_spells most_splits e ws

  pub encoded_read : (ws : List ℤ) (w : Witness) (rest : List ℤ) → read_witness e ws ≡ got w rest → (ws ≡ encode w ++ rest) × T (shaped e w)
  encoded_read ws w rest q = was_spelled (subst (Spell encode (shaped e) ws) q (witness_spells ws))

  pub read_missing : (ws : List ℤ) → (read_witness e ws ≡ missing) ↔ Unreadable e ws
  read_missing ws = (there, back (read_witness e ws) refl)
    where
      there : read_witness e ws ≡ missing → Unreadable e ws
      there q w rest t s =
          let r : got w rest ≡ missing = sym (read_encoded e w rest t) ∙ ap (read_witness e) (sym s) ∙ q in
          let z : ◌≡◌ {A = ℕ} 0 1 = cc in
          omega arith

      back : (r : Read Witness) → read_witness e ws ≡ r → Unreadable e ws → read_witness e ws ≡ missing
      back missing q u = q
      back (got w rest) q u = let x = encoded_read ws w rest q in absurd (u w rest x.1 x.0)

  pub prefix_code : (w v : Witness) (x y : List ℤ) → T (shaped e w) → T (shaped e v) → encode w ++ x ≡ encode v ++ y → (w ≡ v) × (x ≡ y)
  prefix_code w v x y s t q =
      let r : got w x ≡ got v y = sym (read_encoded e w x s) ∙ ap (read_witness e) q ∙ read_encoded e v y t in
      (cc, cc)
