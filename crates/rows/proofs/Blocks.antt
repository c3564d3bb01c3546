-- Values and lengths of lists of rows: one after the other, with one replaced, substituted, and blocks of columns, which read their block of
-- the state. A block of columns is two, one after the other.
use Rattle.std.specs.Prelude.{◌≡◌, refl, ℕ, zero, suc, ◌+◌, List, [], ◌∷◌, ◌++◌, length, set, ℤ, pos, ◌+ℤ◌, ◌*ℤ◌}
use Rattle.std.proofs.Common.{sym, ◌∙◌, ap, ap₂, add-zero, zero-add, suc-add, arith, append_assoc}
use Rattle.std.proofs.Math.IntN.{+ℤ_idl, +ℤ_idr, zero-*ℤ}
use Rattle.basics.proofs.Integers.{one-*ℤ}
use Rattle.rows.specs.Rows.{Row, dot, value, values, substitute, substitute_all}
use Rattle.rows.specs.Columns.{unit, column, columns, zeros}

pub length_zeros : (n : ℕ) → length (zeros n) ≡ n
unfolding zeros
length_zeros zero = refl
length_zeros (suc n) = ap suc (length_zeros n)

pub values_append : (xs ys : List Row) (s : List ℤ) → values (xs ++ ys) s ≡ values xs s ++ values ys s
unfolding values
values_append [] ys s = refl
values_append (x ∷ xs) ys s = ap (λ (zs : List ℤ). value x s ∷ zs) (values_append xs ys s)

pub values_set : (rows : List Row) (i : ℕ) (e : Row) (s : List ℤ) → values (set rows i e) s ≡ set (values rows s) i (value e s)
unfolding values
values_set [] i e s = refl
values_set (r ∷ rows) zero e s = refl
values_set (r ∷ rows) (suc i) e s = ap (λ (zs : List ℤ). value r s ∷ zs) (values_set rows i e s)

pub length_values : (rows : List Row) (s : List ℤ) → length (values rows s) ≡ length rows
unfolding values
length_values [] s = refl
length_values (r ∷ rows) s = ap suc (length_values rows s)

pub length_substituted : (image rows : List Row) → length (substitute_all image rows) ≡ length rows
unfolding substitute_all
length_substituted image [] = refl
length_substituted image (r ∷ rows) = ap suc (length_substituted image rows)

pub substituted_append : (image rs ss : List Row) → substitute_all image (rs ++ ss) ≡ substitute_all image rs ++ substitute_all image ss
unfolding substitute_all
substituted_append image [] ss = refl
substituted_append image (r ∷ rs) ss = ap (λ (l : List Row). substitute image r ∷ l) (substituted_append image rs ss)

-- ---- blocks of columns

pub columns_append : (c m n : ℕ) → columns c (m + n) ≡ columns c m ++ columns (c + m) n
unfolding columns
columns_append c zero n = rw (zero-add n, add-zero c)
columns_append c (suc m) n = let e : suc c + m ≡ c + suc m = omega arith in rw suc-add (ap (λ (l : List Row). column c ∷ l) (rw e at (columns_append (suc c) m n)))

zero_plus : (x y : ℤ) → pos 0 *ℤ x +ℤ y ≡ y
zero_plus x y = simp (zero-*ℤ, +ℤ_idl)

one_plus : (x : ℤ) → pos 1 *ℤ x +ℤ pos 0 ≡ x
one_plus x = simp (one-*ℤ, +ℤ_idr)

dot_unit : (a : List ℤ) (x : ℤ) (r : List ℤ) → dot (unit (length a)) (a ++ x ∷ r) ≡ x
unfolding dot unit
dot_unit [] x r = one_plus x
dot_unit (y ∷ a) x r = zero_plus y (dot (unit (length a)) (a ++ x ∷ r)) ∙ dot_unit a x r

value_column : (a : List ℤ) (x : ℤ) (r : List ℤ) → value (column (length a)) (a ++ x ∷ r) ≡ x
unfolding value column
value_column a x r = +ℤ_idl (dot (unit (length a)) (a ++ x ∷ r)) ∙ dot_unit a x r

-- the columns of a block read the block
pub block_exact : (a b c : List ℤ) → values (columns (length a) (length b)) (a ++ (b ++ c)) ≡ b
unfolding values columns
block_exact a [] c = refl
block_exact a (x ∷ b) c = ap₂ (λ (y : ℤ) (ys : List ℤ). y ∷ ys) (value_column a x (b ++ c))
    (ap₂ (λ (i : ℕ) (s : List ℤ). values (columns i (length b)) s) (len a x) (assoc a x (b ++ c)) ∙ block_exact (a ++ (x ∷ [])) b c)
  where
    len : (a : List ℤ) (x : ℤ) → suc (length a) ≡ length (a ++ (x ∷ []))
    len [] x = refl
    len (y ∷ a) x = ap suc (len a x)

    assoc : (a : List ℤ) (x : ℤ) (r : List ℤ) → a ++ (x ∷ r) ≡ (a ++ (x ∷ [])) ++ r
    assoc a x r = sym (append_assoc a (x ∷ []) r)

pub block : (a b c : List ℤ) (s : List ℤ) (i n : ℕ) → s ≡ a ++ (b ++ c) → length a ≡ i → length b ≡ n → values (columns i n) s ≡ b
block a b c s i n e p q = ap₂ (λ (i n : ℕ). values (columns i n) s) (sym p) (sym q) ∙ ap (values (columns (length a) (length b))) e ∙ block_exact a b c
