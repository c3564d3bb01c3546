-- Each listed entailment of a program and a certificate that have their form is what a value of the form stands for: the start's, and those of
-- each vertex's disjuncts, by its row. So each is within the limits, and no sum that judges one leaves 64 bits.
use Rattle.std.specs.Prelude.{◌≡◌, refl, ◌⊎◌, Bool, true, false, ℕ, zero, suc, ◌+◌, ◌≤◌, ◌<◌, T, leb, ℤ, length, get_or}
use Rattle.std.proofs.Common.{sym, inl, inr, arith, leb-true, leb-false}
use Rattle.std.proofs.Math.Path.{subst}
use mathlib.Core.List.Memᴰ
use mathlib.Core.List.{List, [], ◌∷◌, flat_map, Memᴰ}
use Rattle.basics.proofs.Lists.{member_gathered}
use Rattle.words.specs.Limits.{most_splits}
use Rattle.programs.specs.ProgramWords.{n, p, k}
use Rattle.programs.specs.ProgramForm.{ProgramForm}
use Rattle.programs.proofs.Formed.{length_statements, length_procedures}
use Rattle.programs.specs.Decode as decode
use Rattle.programs.specs.Decode.{Fields, skip_row, assign_row, branch_row, assert_row, call_row, fields_of}
use Rattle.certificates.specs.Certificate.{Disjunct, path_edges}
use Rattle.certificates.specs.CertificateWords.{stored_form, certificate, row_words}
use Rattle.certificates.specs.CertificateForm.{CertificateForm}
use Rattle.certificates.specs.Entailments as certificates
use Rattle.certificates.specs.Entailments.{from_vertex, entailments}
use Rattle.certificates.specs.Witnesses.{Witness, shaped}
use Rattle.certificate_readers.specs.Disjuncts.{DisjunctHere}
use Rattle.program_readers.specs.Sizes.{sizes_of}
use Rattle.program_readers.specs.SizeLaws.{header_formed}
use Rattle.program_readers.specs.Rows.{vertex_by}
use Rattle.program_readers.specs.Kinds.{op_number, op_named}
use Rattle.program_readers.specs.declared.places.Sizes.{Sizes}
use Rattle.entailments.specs.declared.Entailment.{Entailment}
use Rattle.entailments.specs.Bounds.{Bounded, Placed}
use Rattle.entailments.proofs.Bounds.{placed, bounded}
use Rattle.entailments.specs.SumsFit.{WitnessFits}
use Rattle.entailments.proofs.SumsFit.{sums_fit}
use Rattle.vertex_entailments.specs.Given.{Given, cases_of, disjunct_at, no_entailment, StandsFor}
use Rattle.vertex_entailments.specs.Targets.{path_at}
use Rattle.vertex_entailments.specs.Conditions.{is_branch, is_assert, branch_op, assert_op}
use Rattle.vertex_entailments.specs.KindLaws.{skip_at, assign_at_lem, side_stands, exit_at}
use Rattle.vertex_entailments.specs.CallLaws.{entry_at, return_at}
use Rattle.vertex_entailments.specs.StartLaws.{start_stands}

-- some value stands for it
pub record Stood (program rows : List ℤ) (x : certificates.Entailment) : Type 0 where
  pub value : Entailment
  pub stands : StandsFor program rows value x

stood : {program rows : List ℤ} {e : Entailment} {x : certificates.Entailment} → StandsFor program rows e x → Stood program rows x
stood {e = e} s = record { value = e; stands = s }

-- ---- members

at_place : {A : Type 0} (z : A) (l : List A) {x : A} → Memᴰ x l → (i : ℕ) × (i < length l) × (x ≡ get_or l i z)
at_place z [] m = absurd (Memᴰ.not-nil m)
at_place z (y ∷ l) (Memᴰ.head e) = (0, omega arith, e)
at_place z (y ∷ l) (Memᴰ.tail m) = let r = at_place z l m in (suc r.0, omega (arith, r.1), r.2)

from_flat_map : {A B : Type 0} (f : A → List B) (xs : List A) {y : B} → Memᴰ y (flat_map f xs) → (x : A) × Memᴰ x xs × Memᴰ y (f x)
unfolding flat_map
from_flat_map f [] m = absurd (Memᴰ.not-nil m)
from_flat_map {A} f (x ∷ xs) {y} m = go (Memᴰ.append_cases (f x) m) (λ h. from_flat_map f xs h)
  where
    go : Memᴰ y (f x) ⊎ Memᴰ y (flat_map f xs) → (Memᴰ y (flat_map f xs) → (a : A) × Memᴰ a xs × Memᴰ y (f a)) → (a : A) × Memᴰ a (x ∷ xs) × Memᴰ y (f a)
    go (inl h) r = (x, Memᴰ.head refl, h)
    go (inr h) r = let s = r h in (s.0, Memᴰ.tail s.1, s.2)

-- ---- the entailments of a vertex

module _ {program witness : List ℤ} {sizes : Sizes} {rows : List ℤ} (g : Given program witness sizes rows) (v : ℕ) (low : 1 ≤ v) {from m : ℕ} (d : DisjunctHere (stored_form witness) (k program v + k program v) rows from m) (case : ℕ)
    (h : case < length (cases_of program witness v (disjunct_at (stored_form witness) program rows v from m))) where
  abbrev listed : certificates.Entailment
  listed = get_or (cases_of program witness v (disjunct_at (stored_form witness) program rows v from m)) case no_entailment

  row_stands : v ≤ n program → (row : Fields) → fields_of program v ≡ row → Stood program rows listed
  row_stands high (skip_row next) e = stood (skip_at g v low high d case h e)
  row_stands high (assign_row next column at) e = stood (assign_at_lem g v low high d case h e)
  row_stands high (branch_row yea nay op at) e =
      let f : fields_of program v ≡ branch_row yea nay (op_number (op_named op)) at = rw (branch_op program witness v g.program_form low high e) e in
      stood (side_stands g v low (omega arith) {yea = vertex_by yea} {nay = vertex_by nay} (is_branch program witness v g.program_form low high {op = op_named op} f) d case h)
  row_stands high (assert_row next op at) e =
      let f : fields_of program v ≡ assert_row next (op_number (op_named op)) at = rw (assert_op program witness v g.program_form low high e) e in
      stood (side_stands g v low (omega arith) {yea = vertex_by next} {nay = vertex_by 0} (is_assert program witness v g.program_form low high {op = op_named op} f) d case h)
  row_stands high (call_row return callee at) e = go case refl
    where
      go : (i : ℕ) → case ≡ i → Stood program rows listed
      go zero z = rw z (stood (entry_at g (record { low = low; high = high; row = e }) d))
      go (suc i) z = stood (return_at g (record { low = low; high = high; row = e }) d case (omega arith) h)

  case_stood : v ≤ n program + p program → Stood program rows listed
  case_stood high = go (leb v (n program)) refl
    where
      go : (b : Bool) → leb v (n program) ≡ b → Stood program rows listed
      go true e = row_stands (leb-true v (n program) e) (fields_of program v) refl
      go false e = stood (exit_at g v low high (leb-false v (n program) e) d case h)

-- ---- all that are listed

module _ {program witness : List ℤ} (f : ProgramForm program) (c : CertificateForm program witness) where
  abbrev rows : List ℤ
  rows = row_words program witness

  given : Given program witness (sizes_of program) rows
  given = record { header = header_formed program f; program_form = f; certificate_form = c; row_words = refl }

  vertex_stood : (v : ℕ) → 1 ≤ v → v ≤ n program + p program → {x : certificates.Entailment} → Memᴰ x (from_vertex (decode.program program) (certificate program witness) v) → Stood program rows x
  unfolding from_vertex cases_of
  vertex_stood v low high {x} i =
      let (t, j, l) = from_flat_map (cases_of program witness v) (path_edges (certificate program witness) v) i in
      let e = path_at given v low high in
      let y : Placed (stored_form witness) rows (k program v + k program v) t = placed (stored_form witness) rows (k program v + k program v) _ _ e.form e.strict (subst (λ (ts : List Disjunct). Memᴰ t ts) e.is j) in
      let (case, b, q) = at_place no_entailment _ (subst (λ (s : Disjunct). Memᴰ x (cases_of program witness v s)) y.is l) in
      subst (Stood program rows) (sym q) (case_stood given v low y.here case b high)

  pub listed_stood : (x : certificates.Entailment) → Memᴰ x (entailments (decode.program program) (certificate program witness)) → Stood program rows x
  unfolding entailments
  listed_stood x (Memᴰ.head e) = subst (Stood program rows) (sym e) (stood (start_stands given))
  listed_stood x (Memᴰ.tail i) =
      let (j, h, y) = member_gathered (from_vertex (decode.program program) (certificate program witness)) _ i in
      vertex_stood (j + 1) (omega arith) (omega (arith, length_statements program, length_procedures program)) y

  pub listed_bounded : (x : certificates.Entailment) → Memᴰ x (entailments (decode.program program) (certificate program witness)) → Bounded most_splits x
  listed_bounded x i = let s = listed_stood x i in rw s.stands.is at (bounded s.stands.form)

  -- no sum that judges a listed entailment leaves 64 bits, whatever witness is shaped for it
  pub listed_fits : (x : certificates.Entailment) → Memᴰ x (entailments (decode.program program) (certificate program witness)) → (w : Witness) → T (shaped x w) → WitnessFits x w
  unfolding shaped
  listed_fits x i w t = sums_fit most_splits x w (listed_bounded x i) t
