-- The entries that are left where the disjuncts are kept whose bytes are 1: what its own 8 bytes leave of each entry.
use Rattle.std.specs.Prelude.{◌≡◌, Bool, true, false, cond, ◌&&◌, ltb, eqb, ℤ, length, take, drop, set}
use Rattle.std.proofs.Math.Path.{refl, sym, ap}
use Rattle.std.proofs.Common.{◌∙◌, add-zero, length-drop, get_or-take, get_or-drop, length-take-le}
use mathlib.Core.List.{List, [], ◌∷◌}
use Prim.Native.Nat.{ℕ, suc, ◌+◌, ◌*◌, ◌-◌, ◌<◌}
use native.Mathlib.Omega.{arith}
use borrow.Author.Tests.{ltb-true, ltb-false, le-leb, lt-ltb}
use Rattle.std.proofs.Math.IntN.{pos}
use Rattle.std.proofs.Math.ListN.{get_or, get_or-map}
use Rattle.std.proofs.lemmas.List.Edits.{sets}
use Rattle.basics.proofs.Lists.{length_listed}
use Rattle.words.specs.declared.StoredForm.{StoredForm}
use Rattle.words.specs.declared.StoredForm.TheVariants.{Dense}
use Rattle.words.specs.Limits.{most_disjuncts}
use Rattle.words.proofs.Ranges.{number_most}
use Rattle.certificates.specs.Certificate.{Disjunct}
use Rattle.certificates.specs.CertificateWords.{stored_form, count_of, place_of, vertex_entries, entries, count_word, row_words, edge_columns, entry_count, entry_place, entry, certificate_in, certificate}
use Rattle.certificates.proofs.Entries.{length_disjuncts_of}
use Rattle.certificates.specs.Sources.{of_vertex, of_summary}
use Rattle.layouts.specs.DisjunctCode.{disjuncts_code}
use Rattle.layouts.specs.Layout.{entries_of, count_words}
use Rattle.layouts.proofs.LayoutLaws.{length_counts}
use Rattle.layouts.proofs.OwnWords.{entries_listed, length_all, entry_nth}
use Rattle.trimming.specs.KeptMembers.{kept_from, new_number}
use Rattle.trimming.specs.Trimmed.{trimmed}
use Rattle.trimmed_words.specs.TrimmedLayout.{entry_at}
use Rattle.trimmed_words.proofs.TrimmedLayout.{left_entry, left_many}
use Rattle.program_readers.specs.Sizes.{Header}
use Rattle.program_readers.specs.declared.places.Sizes.{Sizes}
use Rattle.entailment_sources.specs.KeptBytes.{entry_number, most_entries, most_bytes, has_entry, flags_in}
use Rattle.entailment_sources.specs.NewNumbers.{flagged}
use Rattle.layout_writers.specs.Runs.{copied_next}
use Rattle.kept_rows.specs.KeptCode.{kept_disjuncts}

abbrev pub trimmed_entries : List ℤ → List ℤ → Sizes → List ℕ → List (List Disjunct)
trimmed_entries program witness sizes kept = entries_of (trimmed (flags_in sizes kept) (certificate program witness))

-- ---- members that are kept

-- by flags that are alike up to their number
kept_alike : {A : Type 0} (f g : ℕ → Bool) (i : ℕ) (xs : List A) → ((j : ℕ) → j < i + length xs → f j ≡ g j) → kept_from f i xs ≡ kept_from g i xs
unfolding kept_from
kept_alike f g i [] h = refl
kept_alike {A} f g i (x ∷ xs) h =
    rw (h i (omega arith)) (ap (λ (l : List A). cond (g i) (x ∷ l) l) (kept_alike f g (suc i) xs (λ j l. h j (omega arith))))

-- how many they are
counted : {A : Type 0} (f : ℕ → Bool) (i : ℕ) (xs : List A) → new_number f i + length (kept_from f i xs) ≡ new_number f (i + length xs)
unfolding kept_from new_number
counted f i [] = rw (add-zero i) (omega arith)
counted f i (x ∷ xs) = let e : i + suc (length xs) ≡ suc i + length xs = omega arith in rw e (go (f i) (counted f (suc i) xs))
  where
    go : (b : Bool) → cond b (suc (new_number f i)) (new_number f i) + length (kept_from f (suc i) xs) ≡ new_number f (suc i + length xs)
        → new_number f i + length (cond b (x ∷ kept_from f (suc i) xs) (kept_from f (suc i) xs)) ≡ new_number f (suc i + length xs)
    go true h = omega (arith, h)
    go false h = h

kept_count : {A : Type 0} (f : ℕ → Bool) (xs : List A) → length (kept_from f 0 xs) ≡ new_number f (length xs)
unfolding new_number
kept_count f xs = let e : 0 + length xs ≡ length xs = omega arith in let s = rw e at (counted f 0 xs) in omega (arith, s)

-- ---- the flags of an entry

-- its bytes
abbrev pub entry_bytes : List ℕ → ℕ → List ℕ
entry_bytes kept i = take most_disjuncts (drop (i * most_disjuncts) kept)

-- as the code cuts them out
pub bytes_are : (kept : List ℕ) (i : ℕ) → take (i * most_disjuncts + most_disjuncts - i * most_disjuncts) (drop (i * most_disjuncts) kept) ≡ entry_bytes kept i
bytes_are kept i =
    let e : i * most_disjuncts + most_disjuncts - i * most_disjuncts ≡ most_disjuncts = omega arith in ap (λ (n : ℕ). take n (drop (i * most_disjuncts) kept)) e

pub bytes_length : (kept : List ℕ) (i : ℕ) → i < most_entries → length kept ≡ most_bytes → length (take (i * most_disjuncts + most_disjuncts - i * most_disjuncts) (drop (i * most_disjuncts) kept)) ≡ most_disjuncts
bytes_length kept i h e =
    ap length (bytes_are kept i) ∙ length-take-le most_disjuncts (drop (i * most_disjuncts) kept) (omega (arith, e, length-drop (i * most_disjuncts) kept))

module _ (sizes : Sizes) (kept : List ℕ) (i : ℕ) where
  byte_here : (j : ℕ) → j < most_disjuncts → get_or (entry_bytes kept i) j 0 ≡ get_or kept (i * most_disjuncts + j) 0
  byte_here j h = get_or-take most_disjuncts (drop (i * most_disjuncts) kept) j 0 h ∙ get_or-drop (i * most_disjuncts) kept j 0

  same_flags : i < sizes.statements + sizes.procedures + sizes.procedures → (j : ℕ) → j < most_disjuncts
      → flags_in sizes kept (entry_at (sizes.statements + sizes.procedures) i) j ≡ flagged (entry_bytes kept i) j
  unfolding flags_in has_entry entry_number entry_at flagged
  same_flags l j h = rw (byte_here j h, lt-ltb j most_disjuncts h) (go (ltb i (sizes.statements + sizes.procedures)) refl)
    where
      n : ℕ
      n = sizes.statements + sizes.procedures

      go : (b : Bool) → ltb i n ≡ b → has_entry sizes (cond b (of_vertex (suc i)) (of_summary (suc (i - n)))) && eqb (get_or kept ((entry_number sizes (cond b (of_vertex (suc i)) (of_summary (suc (i - n)))) - 1) * most_disjuncts + j) 0) 1 ≡ eqb (get_or kept (i * most_disjuncts + j) 0) 1
      go true e =
          let s : suc i - 1 ≡ i = omega arith in
          rw (le-leb 1 (suc i) (omega arith), le-leb (suc i) n (ltb-true i n e), s) refl
      go false e =
          let s : n + suc (i - n) - 1 ≡ i = omega (arith, ltb-false i n e) in
          rw (le-leb 1 (suc (i - n)) (omega arith), le-leb (suc (i - n)) sizes.procedures (omega (arith, ltb-false i n e)), s) refl

-- ---- the entries that are left

module _ (program witness : List ℤ) (sizes : Sizes) (kept : List ℕ) (header : Header program sizes) where
  abbrev all : List (List Disjunct)
  all = trimmed_entries program witness sizes kept

  pub left_length : length all ≡ entries program witness
  left_length =
      left_many (flags_in sizes kept) (certificate program witness) ∙ (ap length (entries_listed program witness (stored_form witness)) ∙ length_all program witness (stored_form witness))

  vertices : length (certificate program witness).paths ≡ sizes.statements + sizes.procedures
  unfolding certificate_in
  vertices = length_listed (entry program witness (stored_form witness)) (vertex_entries program witness) ∙ omega (arith, header.statements, header.procedures)

  entry_length : (i : ℕ) → length (entry program witness (stored_form witness) i) ≡ count_of witness i
  unfolding entry entry_count
  entry_length i = length_disjuncts_of (stored_form witness) (edge_columns program witness i) (count_of witness i) (drop (entry_place program witness i) (row_words program witness))

  module _ (i : ℕ) (h : i < entries program witness) where
    -- entry i + 1
    left_nth : get_or all i [] ≡ kept_from (flagged (entry_bytes kept i)) 0 (entry program witness (stored_form witness) (i + 1))
    left_nth =
        let form = stored_form witness in
        let e : get_or (entries_of (certificate program witness)) i [] ≡ entry program witness form (i + 1) = ap (λ (es : List (List Disjunct)). get_or es i []) (entries_listed program witness form) ∙ entry_nth program witness form i h in
        left_entry (flags_in sizes kept) (certificate program witness) i
        ∙ (rw (vertices, e) (kept_alike _ _ 0 (entry program witness form (i + 1)) (λ j l. same_flags sizes kept i (omega (arith, header.statements, header.procedures)) j (omega (arith, entry_length (i + 1), number_most most_disjuncts (count_word program witness (i + 1)))))))

    -- how many disjuncts it has, by its bytes
    left_count : {flags : List ℕ} {count : ℕ} → flags ≡ entry_bytes kept i → count ≡ count_of witness (i + 1) → new_number (flagged flags) count ≡ length (get_or all i [])
    left_count b e =
        let f : ℕ → Bool = flagged (entry_bytes kept i) in
        rw (b, e) (ap (new_number f) (sym (entry_length (i + 1))) ∙ (sym (kept_count f (entry program witness (stored_form witness) (i + 1))) ∙ sym (ap length left_nth)))

    -- one count more
    pub counts_next : {flags : List ℕ} {count number : ℕ} {buffer : List ℤ} (before : List ℤ) → flags ≡ entry_bytes kept i → count ≡ count_of witness (i + 1) → number ≡ new_number (flagged flags) count
        → buffer ≡ sets before 3 (take i (count_words all)) → set buffer (3 + i) (pos number) ≡ sets before 3 (take (i + 1) (count_words all))
    unfolding count_words
    counts_next {buffer = buffer} before b e n w =
        let z : 0 + i ≡ i = omega arith in
        let here : get_or (count_words all) i (pos 0) ≡ pos (length (get_or all i [])) = get_or-map (λ (e : List Disjunct). pos (length e)) all i [] in
        ap (set buffer (3 + i)) (ap pos (n ∙ left_count b e) ∙ sym here)
        ∙ rw z at (copied_next (count_words all) before 0 3 i (omega (arith, length_counts all, left_length)) w)

    -- its words, from what was read of it
    pub left_words : {flags : List ℕ} {form : StoredForm} {rows : List ℤ} {m columns count place : ℕ} → flags ≡ entry_bytes kept i → form ≡ stored_form witness → rows ≡ row_words program witness
        → columns ≡ edge_columns program witness (i + 1) → count ≡ count_of witness (i + 1) → m ≡ entries program witness → place ≡ place_of witness m (i + 1)
        → disjuncts_code Dense (get_or all i []) ≡ kept_disjuncts flags form columns rows place 0 count
    unfolding kept_disjuncts entry entry_count entry_place
    left_words b f r c n e p = ap (disjuncts_code Dense) left_nth ∙ rw (b, f, r, c, n, p, e) refl
