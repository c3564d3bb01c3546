-- "so one certificate has one sparse sheet": the words of a sparse certificate that has the form are the layout of its entries and its witness
-- words. And the entries of a certificate that has the form, dense or sparse, are within their limits, and its counts are their lengths.
use Rattle.std.specs.Prelude.{◌≡◌, Bool, true, false, leb, ℤ, length, get_or, drop}
use Rattle.std.proofs.Math.Path.{refl, sym, ap, ap₂}
use Rattle.std.proofs.Common.{◌∙◌, add-zero, add-suc, add-one, leb-true, leb-false, take-append-drop, length-append, length-drop, take-add, take_all, ext_get_or, get_or-take, get_or-drop, drop-drop, length-take-le}
use mathlib.Core.List.{List, [], ◌∷◌, ◌++◌, append_assoc, append-nil}
use Prim.Native.Nat.{ℕ, zero, suc, ◌+◌, ◌-◌, ◌≤◌, ◌<◌}
use native.Mathlib.Omega.{arith}
use Rattle.std.proofs.Math.IntN.{pos}
use Rattle.std.proofs.Math.ListN.{take, get_or-map}
use Rattle.std.proofs.lemmas.List.{take-append-le}
use Rattle.basics.specs.Lists.{listed}
use Rattle.basics.proofs.Lists.{length_listed, get_or_listed}
use Rattle.words.specs.declared.StoredForm.{StoredForm}
use Rattle.words.specs.declared.StoredForm.TheVariants.{Sparse}
use Rattle.words.specs.Limits.{most_words, most_disjuncts}
use Rattle.words.specs.Words.{word, number}
use Rattle.words.proofs.Ranges.{number_of, number_most, number_between}
use Rattle.programs.specs.ProgramWords.{p}
use Rattle.certificates.specs.Certificate.{Disjunct, Certificate}
use Rattle.certificates.specs.CertificateWords.{sparse_mark, start_of, count_of, count_word, entry_place_word, R, entries, row_words, witness_words, edge_columns, entry_count, entry_place, disjuncts_of, entry, summary_entry, certificate_in, next_free, vertex_entries}
use Rattle.certificates.specs.CertificateTests.{entry_varies}
use Rattle.certificates.specs.CertificateForm.{DisjunctsForm, none, DisjunctsStrict, FormIn}
use Rattle.certificates.proofs.CertificateForm.{entry_placed, rows_few}
use Rattle.certificates.proofs.CertificateLookUps.{certificate_look_ups, end_inside}
use Rattle.certificates.proofs.Entries.{length_disjuncts_of}
use Rattle.layouts.specs.DisjunctCode.{disjuncts_code, DisjunctsWithin, empty, Coded}
use Rattle.layouts.proofs.DisjunctCode.{disjuncts_within, disjuncts_words}
use Rattle.layouts.specs.Layout.{entries_of, entries_code, count_words, places_from, layout, begin_of}
use Rattle.layouts.proofs.LayoutLaws.{length_counts, length_places, place_at}
use Rattle.layouts.specs.LaidOut.{columns_for, EntryWithin, EntriesWithin}
use Rattle.layouts.proofs.LaidOut.{same_columns}
use Rattle.layouts.specs.OwnWords.{Front, all, all_entries, count, entry_of, free, rows}

module _ (program witness : List ℤ) (form : StoredForm) where
  listed_append : {A : Type 0} (f : ℕ → A) (m n : ℕ) → listed f (m + n) ≡ listed f m ++ listed (λ q. f (m + q)) n
  unfolding listed
  listed_append f m zero = rw (add-zero m) (sym (append-nil (listed f m)))
  listed_append f m (suc n) =
      let e : m + n + 1 ≡ m + (n + 1) = omega arith in
      rw (add-suc m n, listed_append f m n, e) (append_assoc (listed f m) (listed (λ q. f (m + q)) n) (f (m + (n + 1)) ∷ []))

  -- the entries of the certificate that the words are, by their numbers
  pub entries_listed : entries_of (certificate_in program witness form) ≡ listed (entry program witness form) (entries program witness)
  unfolding entries_of certificate_in summary_entry
  entries_listed = sym (listed_append (entry program witness form) (vertex_entries program witness) (p program))

  pub length_all : length (all_entries program witness form) ≡ entries program witness
  length_all = length_listed (entry program witness form) (entries program witness)

  pub entry_nth : (i : ℕ) → i < entries program witness → get_or (all_entries program witness form) i [] ≡ entry program witness form (i + 1)
  entry_nth i h = get_or_listed (entry program witness form) (entries program witness) i [] h

-- ---- they are within their limits

module _ (program witness : List ℤ) (form : StoredForm) (f : FormIn program witness form) where
  entry_disjuncts : (i count : ℕ) → 1 ≤ i → i ≤ entries program witness → entry_count program witness i ≡ count
      → DisjunctsWithin (columns_for program i) (disjuncts_of form (columns_for program i) count (drop (entry_place program witness i) (row_words program witness)))
  entry_disjuncts i zero l h e = unfold disjuncts_of in empty
  entry_disjuncts i (suc count) l h e =
      disjuncts_within form (columns_for program i) (rw (e, same_columns program witness i) at (entry_placed program witness form i (f.entry i l h) (omega arith)))

  entry_within : (i : ℕ) → 1 ≤ i → i ≤ entries program witness → EntryWithin (columns_for program i) (entry program witness form i)
  unfolding entry entry_varies entry_count
  entry_within i l h =
      record {
        few = rw length_disjuncts_of (number_most most_disjuncts (count_word program witness i));
        are = rw (same_columns program witness i) (entry_disjuncts i (count_of witness i) l h refl);
        vary = f.varies i l h;
      }

  pub entries_within : EntriesWithin program (entries_of (certificate_in program witness form))
  entries_within = rw (entries_listed program witness form) (
      record {
        count = length_all program witness form;
        each =
            λ j h. let l : j < entries program witness = omega (arith, length_all program witness form) in
            rw (entry_nth program witness form j l) (entry_within (j + 1) (omega arith) (omega arith));
      })

-- ---- lists

three : (l : List ℤ) → 3 ≤ length l → take 3 l ≡ word l 0 ∷ word l 1 ∷ word l 2 ∷ []
three [] h = absurd (omega arith)
three (x ∷ []) h = absurd (omega arith)
three (x ∷ y ∷ []) h = absurd (omega arith)
three (x ∷ y ∷ z ∷ l) h = refl

code_snoc : (form : StoredForm) (es : List (List Disjunct)) (e : List Disjunct) → entries_code form (es ++ e ∷ []) ≡ entries_code form es ++ disjuncts_code form e
unfolding entries_code
code_snoc form [] e = append-nil (disjuncts_code form e)
code_snoc form (x ∷ es) e =
    ap (λ (l : List ℤ). disjuncts_code form x ++ l) (code_snoc form es e) ∙ sym (append_assoc (disjuncts_code form x) (entries_code form es) (disjuncts_code form e))

listed_next : {A : Type 0} (f : ℕ → A) (i : ℕ) → listed f (i + 1) ≡ listed f i ++ (f (i + 1) ∷ [])
unfolding listed
listed_next f i = ap (λ (j : ℕ). listed f j) (add-one i)

take_listed : {A : Type 0} (f : ℕ → A) (m i : ℕ) → i ≤ m → take i (listed f m) ≡ listed f i
unfolding listed
take_listed f zero zero h = refl
take_listed f zero (suc i) h = absurd (omega arith)
take_listed f (suc m) i h = go (leb i m) refl (take_listed f m i)
  where
    go : (b : Bool) → leb i m ≡ b → (i ≤ m → take i (listed f m) ≡ listed f i) → take i (listed f m ++ f (m + 1) ∷ []) ≡ listed f i
    go true e r = let l = leb-true i m e in take-append-le i (listed f m) (f (m + 1) ∷ []) (omega (arith, length_listed f m)) ∙ r l
    go false e r =
        let q : i ≡ suc m = omega (arith, leb-false i m e) in
        rw q (take_all (suc m) (listed f m ++ f (m + 1) ∷ []) (omega (arith, length-append (listed f m) (f (m + 1) ∷ []), length_listed f m)))

-- so many words from a place on
part_length : (l : List ℤ) (at n : ℕ) → at + n ≤ length l → length (take n (drop at l)) ≡ n
part_length l at n h = length-take-le n (drop at l) (omega (arith, length-drop at l))

part_word : (l : List ℤ) (at n i : ℕ) → i < n → get_or (take n (drop at l)) i (pos 0) ≡ word l (at + i)
part_word l at n i h = get_or-take n (drop at l) i (pos 0) h ∙ get_or-drop at l i (pos 0)

-- ---- the counts of a certificate that has the form

module _ (program witness : List ℤ) (form : StoredForm) (f : FormIn program witness form) where
  own_count : (i : ℕ) → i < entries program witness → word witness (3 + i) ≡ get_or (count_words (all_entries program witness form)) i (pos 0)
  unfolding count_words entry entry_count
  own_count i h =
      let e : 3 + i ≡ 2 + (i + 1) = omega arith in
      let c : word witness (3 + i) ≡ pos (count_of witness (i + 1)) = ap (word witness) e ∙ number_between 0 most_disjuncts most_disjuncts (count_word program witness (i + 1)) (omega arith) (f.entry (i + 1) (omega arith) (omega arith)).count in
      c ∙ (ap pos (sym (length_disjuncts_of form (edge_columns program witness (i + 1)) (count_of witness (i + 1)) (drop (entry_place program witness (i + 1)) (row_words program witness))))
      ∙ (ap (λ (e : List Disjunct). pos (length e)) (sym (entry_nth program witness form i h)) ∙ sym (get_or-map (λ (e : List Disjunct). pos (length e)) (all_entries program witness form) i [])))

  -- they are the lengths of its entries
  pub own_counts : take (entries program witness) (drop 3 witness) ≡ count_words (all_entries program witness form)
  own_counts =
      let l : length (take (entries program witness) (drop 3 witness)) ≡ entries program witness = part_length witness 3 (entries program witness) (omega (arith, f.header.total)) in
      ext_get_or (pos 0) (take (entries program witness) (drop 3 witness)) (count_words (all_entries program witness form)) (l ∙ sym (length_counts (all_entries program witness form) ∙ length_all program witness form))
      (λ i h. part_word witness 3 (entries program witness) i (omega (arith, l)) ∙ own_count i (omega (arith, l)))

-- ---- a sparse certificate that has the form

module _ (program witness : List ℤ) (f : FormIn program witness Sparse) where
  module _ (i : ℕ) (h : i < entries program witness) where
    low : 1 ≤ i + 1
    low = omega arith

    before : i + 1 - 1 ≡ i
    before = omega arith

    placed : entry_place_word program witness (i + 1) ≡ pos ((free program witness f) i)
    placed = (f.strict (i + 1) low (omega arith)).place ∙ ap (λ (j : ℕ). pos ((free program witness f) j)) before

    rising : DisjunctsStrict Sparse (rows program witness f) (edge_columns program witness (i + 1)) (entry_count program witness (i + 1)) ((free program witness f) i)
    rising = rw before at (f.strict (i + 1) low (omega arith)).disjuncts

    module _ (b : (Front program witness f) i) where
      place_is : entry_place program witness (i + 1) ≡ (free program witness f) i
      unfolding entry_place
      place_is = ap (number most_words) placed ∙ number_of most_words ((free program witness f) i) (omega (arith, b.few, rows_few program witness))

      formed : (count : ℕ) → entry_count program witness (i + 1) ≡ count → DisjunctsForm Sparse (rows program witness f) (edge_columns program witness (i + 1)) count ((free program witness f) i)
      formed zero e = none
      formed (suc count) e = rw (e, place_is) at (entry_placed program witness Sparse (i + 1) (f.entry (i + 1) low (omega arith)) (omega arith))

      coded : Coded (rows program witness f) (edge_columns program witness (i + 1)) (entry_count program witness (i + 1)) ((free program witness f) i)
      coded = disjuncts_words (formed (entry_count program witness (i + 1)) refl) rising

      entry_code : take coded.size (drop ((free program witness f) i) (rows program witness f)) ≡ disjuncts_code Sparse ((entry_of program witness f) (i + 1))
      unfolding entry
      entry_code = coded.are ∙ ap (λ (p : ℕ). disjuncts_code Sparse (disjuncts_of Sparse (edge_columns program witness (i + 1)) (entry_count program witness (i + 1)) (drop p (rows program witness f)))) (sym place_is)

      further : (free program witness f) (i + 1) ≡ (free program witness f) i + coded.size
      further = rw (add-one i) (unfold next_free in coded.ends)

      front_next : (Front program witness f) (i + 1)
      front_next =
          record {
            few = rw (add-one i) (unfold next_free in end_inside b.few (formed (entry_count program witness (i + 1)) refl));
            is =
                ap (λ (n : ℕ). take n (rows program witness f)) further
                ∙ (take-add ((free program witness f) i) coded.size (rows program witness f) ∙ (ap₂ (λ (k l : List ℤ). k ++ l) b.is entry_code
                ∙ (sym (code_snoc Sparse (listed (entry_of program witness f) i) ((entry_of program witness f) (i + 1))) ∙ ap (entries_code Sparse) (sym (listed_next (entry_of program witness f) i)))));
          }

  front : (i : ℕ) → i ≤ entries program witness → (Front program witness f) i
  front zero h = record { few = unfold next_free in (omega arith); is = unfold next_free listed entries_code in refl }
  front (suc i) h = rw (add-one i) at (front_next i (omega arith) (front i (omega arith)))

  begins : (i : ℕ) → i ≤ entries program witness → (free program witness f) i ≡ begin_of Sparse (all program witness f) i
  begins i h =
      let b = front i h in
      sym (length-take-le ((free program witness f) i) (rows program witness f) b.few) ∙ (ap length b.is ∙ ap (λ (es : List (List Disjunct)). length (entries_code Sparse es)) (sym (take_listed (entry_of program witness f) (entries program witness) i h)))

  own_rows : (rows program witness f) ≡ entries_code Sparse (all program witness f)
  own_rows =
      let b = front (entries program witness) (omega arith) in
      let u : (free program witness f) (entries program witness) ≡ R program witness = f.used in
      let l = (certificate_look_ups program witness Sparse f).rows_length in
      sym (take_all ((free program witness f) (entries program witness)) (rows program witness f) (omega arith)) ∙ b.is

  many : length (all program witness f) ≡ entries program witness
  many = length_all program witness Sparse

  module _ (i : ℕ) (h : i < entries program witness) where
    own_place : word witness (3 + entries program witness + i) ≡ get_or (places_from Sparse 0 (all program witness f)) i (pos 0)
    own_place =
        let e : 2 + entries program witness + (i + 1) ≡ 3 + entries program witness + i = omega arith in
        let c : word witness (3 + entries program witness + i) ≡ pos ((free program witness f) i) = rw e at (placed i h) in
        c ∙ (ap pos (begins i (omega arith)) ∙ sym (place_at Sparse (all program witness f) 0 i (omega (arith, many)) ∙ ap pos (omega arith)))

  own_places : take (count program witness f) (drop (3 + (count program witness f)) witness) ≡ places_from Sparse 0 (all program witness f)
  own_places =
      let l : length (take (count program witness f) (drop (3 + (count program witness f)) witness)) ≡ (count program witness f) = part_length witness (3 + (count program witness f)) (count program witness f) (omega (arith, f.header.total)) in
      ext_get_or (pos 0) (take (count program witness f) (drop (3 + (count program witness f)) witness)) (places_from Sparse 0 (all program witness f)) (l ∙ sym (length_places Sparse (all program witness f) 0 ∙ many)) (λ i h. part_word witness (3 + (count program witness f)) (count program witness f) i (omega (arith, l)) ∙ own_place i (omega (arith, l)))

  own_rest : drop (start_of (count program witness f)) witness ≡ entries_code Sparse (all program witness f) ++ witness_words program witness
  unfolding witness_words
  own_rest =
      let front-is : take (R program witness) (drop (start_of (count program witness f)) witness) ≡ entries_code Sparse (all program witness f) = unfold row_words in own_rows in
      sym (take-append-drop (R program witness) (drop (start_of (count program witness f)) witness))
      ∙ ap₂ (λ (k l : List ℤ). k ++ l) front-is (drop-drop (R program witness) (start_of (count program witness f)) witness)

  own_header : take 3 witness ≡ pos sparse_mark ∷ pos (length (entries_code Sparse (all program witness f))) ∷ pos (length (witness_words program witness)) ∷ []
  own_header =
      let x = certificate_look_ups program witness Sparse f in
      let r : word witness 1 ≡ pos (length (entries_code Sparse (all program witness f))) = number_between 0 most_words most_words (word witness 1) (omega arith) f.header.rows_range ∙ ap pos (sym x.rows_length ∙ ap length own_rows) in
      let w : word witness 2 ≡ pos (length (witness_words program witness)) = number_between 0 most_words most_words (word witness 2) (omega arith) f.header.witness_range ∙ ap pos (sym x.witness_length) in
      three witness f.header.header ∙ rw (f.header.mark, r, w)

  pub own_words : witness ≡ layout Sparse (entries_of (certificate_in program witness Sparse)) (witness_words program witness)
  unfolding layout
  own_words =
      rw (entries_listed program witness Sparse)
      (sym (take-append-drop 3 witness)
      ∙ ap₂ (λ (k l : List ℤ). k ++ l) own_header
      (sym (take-append-drop (count program witness f) (drop 3 witness))
      ∙ ap₂ (λ (k l : List ℤ). k ++ l) (own_counts program witness Sparse f)
      (drop-drop (count program witness f) 3 witness ∙ (sym (take-append-drop (count program witness f) (drop (3 + (count program witness f)) witness)) ∙ ap₂ (λ (k l : List ℤ). k ++ l) own_places (drop-drop (count program witness f) (3 + (count program witness f)) witness ∙ own_rest)))))

-- "so one certificate has one sparse sheet": with equal disjuncts and witness words, the words are equal
pub sparse_unique : (program witness other : List ℤ) → FormIn program witness Sparse → FormIn program other Sparse
    → certificate_in program witness Sparse ≡ certificate_in program other Sparse → witness_words program witness ≡ witness_words program other → witness ≡ other
sparse_unique program witness other f g c w =
    own_words program witness f ∙ (ap₂ (λ (c : Certificate) (ws : List ℤ). layout Sparse (entries_of c) ws) c w ∙ sym (own_words program other g))
