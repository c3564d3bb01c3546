-- A certificate's words with other witnesses: W and the witness words change, and every other word stays. So entries and rows are read as before: the
-- words have the form they had, for any program whose entries have the same columns, where they aren't too many, and are the same certificate.
use Rattle.std.specs.Prelude.{◌≡◌, Bool, true, false, cond, T, leb, ℤ, pos, drop}
use Rattle.std.proofs.Math.Path.{refl, sym, ap, ap₂}
use Rattle.std.proofs.Common.{◌∙◌, arith, leb-true, leb-false, get_or-drop, length-take-le, get_or-set_other}
use mathlib.Core.List.{List}
use Prim.Native.Nat.{ℕ, zero, suc, ◌+◌, ◌-◌, ◌≤◌, ◌<◌}
use Rattle.std.proofs.Math.ListN.{length, take, length-set, length-append, length-take, length-drop, get_or-append}
use Rattle.std.proofs.Math.Seq.{ext_get_or, get_or-take, drop_at, get_or-set_same}
use Rattle.basics.proofs.Integers.{ints}
use Rattle.basics.proofs.Lists.{listed_same}
use Rattle.words.specs.declared.StoredForm.{StoredForm}
use Rattle.words.specs.declared.StoredForm.TheVariants.{Dense, Sparse}
use Rattle.words.specs.Limits.{most_words, most_disjuncts}
use Rattle.words.specs.Words.{word, number}
use Rattle.words.proofs.Ranges.{number_of}
use Rattle.programs.specs.ProgramWords.{n, p, G, k, parameters}
use Rattle.programs.specs.ProgramForm.{ProgramForm}
use Rattle.programs.specs.RowReads.{SameBut}
use Rattle.programs.proofs.RowReads.{same_n, same_p, same_G, same_k, same_parameters}
use Rattle.certificates.specs.Certificate.{Disjunct}
use Rattle.certificates.specs.CertificateWords.{stored_form, R, vertex_entries, entries, count_place, count_word, entry_place_word, rows_start, row_words, witness_words, edge_columns, entry_count, entry_place, entry, summary_entry, certificate_in, next_free}
use Rattle.certificates.specs.CertificateTests.{entry_varies}
use Rattle.certificates.specs.CertificateForm.{EntryForm, InOrder, EntryStrict, RowsUsed, FormIn}
use Rattle.certificates.specs.Witnesses.{Witness, encode_all}
use Rattle.certificates.specs.OtherWitnesses.{SameEntries, front, front_with, start, with_witnesses, witness', witness_count_place}

pub own_entries : (program : List ℤ) → SameEntries program program
own_entries program = record { vertices = refl; procedures = refl; columns = λ witness' witness i l h. unfold edge_columns in refl }

module _ (program witness : List ℤ) (form : StoredForm) (ws : List Witness) (f : FormIn program witness form) where
  cut_length : length (take (start program witness form ws f) witness) ≡ (start program witness form ws f)
  cut_length = length-take-le (start program witness form ws f) witness (omega (arith, f.header.total))

  front_length : length (front program witness form ws f) ≡ (start program witness form ws f)
  unfolding front_with
  front_length = length-set (take (start program witness form ws f) witness) witness_count_place _ ∙ cut_length

  pub other_length : length (witness' program witness form ws f) ≡ (start program witness form ws f) + length (encode_all ws)
  unfolding with_witnesses
  other_length = length-append (front program witness form ws f) (encode_all ws) ∙ ap (λ (m : ℕ). m + length (encode_all ws)) front_length

  in_front : (i : ℕ) → i < (start program witness form ws f) → word (witness' program witness form ws f) i ≡ word (front program witness form ws f) i
  unfolding with_witnesses
  in_front i h = get_or-append (front program witness form ws f) (encode_all ws) (pos 0) i (omega (arith, front_length))

  pub other_w : word (witness' program witness form ws f) witness_count_place ≡ pos (length (encode_all ws))
  unfolding front_with
  other_w = in_front 2 (omega arith) ∙ get_or-set_same (take (start program witness form ws f) witness) witness_count_place _ (pos 0) (omega (arith, cut_length))

  -- every word before the witness words but W is as it was
  pub other_kept : (i : ℕ) → i < (start program witness form ws f) → ¬ (i ≡ witness_count_place) → word (witness' program witness form ws f) i ≡ word witness i
  unfolding front_with
  other_kept i h o = in_front i h ∙ (get_or-set_other (take (start program witness form ws f) witness) witness_count_place i _ (pos 0) o ∙ get_or-take (start program witness form ws f) witness i (pos 0) h)

  kept_mark : word (witness' program witness form ws f) 0 ≡ word witness 0
  kept_mark = other_kept 0 (omega arith) (λ e. omega arith)

  -- so is the form that they are read in
  pub other_stored : stored_form (witness' program witness form ws f) ≡ stored_form witness
  other_stored = rw kept_mark refl

  -- ---- for a program with the same entries

  module _ (program' : List ℤ) (s : SameEntries program' program) where
    same_R : R program' (witness' program witness form ws f) ≡ R program witness
    same_R = ap (number most_words) (other_kept 1 (omega arith) (λ e. omega arith))

    same_start : rows_start program' (witness' program witness form ws f) ≡ rows_start program witness
    same_start = omega (arith, s.vertices, s.procedures)

    same_entries : entries program' (witness' program witness form ws f) ≡ entries program witness
    same_entries = omega (arith, s.vertices, s.procedures)

    pub other_words_lem : witness_words program' (witness' program witness form ws f) ≡ encode_all ws
    unfolding witness_words
    other_words_lem = rw (same_start, same_R) (unfold with_witnesses in drop_at (front program witness form ws f) (encode_all ws) (start program witness form ws f) front_length)

    same_rows : row_words program' (witness' program witness form ws f) ≡ row_words program witness
    unfolding row_words
    same_rows = rw (same_start, same_R) go
      where
        go : take (R program witness) (drop (rows_start program witness) (witness' program witness form ws f)) ≡ take (R program witness) (drop (rows_start program witness) witness)
        go = ext_get_or (pos 0) (take (R program witness) (drop (rows_start program witness) (witness' program witness form ws f))) (take (R program witness) (drop (rows_start program witness) witness))
            (rw (length-take, length-take, length-drop, length-drop) (omega (arith, other_length, f.header.total)))
            (λ i h. let l : i < R program witness = omega (arith, length-take (R program witness) (drop (rows_start program witness) (witness' program witness form ws f))) in
            get_or-take (R program witness) (drop (rows_start program witness) (witness' program witness form ws f)) i (pos 0) l
            ∙ (get_or-drop (rows_start program witness) (witness' program witness form ws f) i (pos 0)
            ∙ (other_kept (rows_start program witness + i) (omega arith) (λ e. omega arith)
            ∙ (sym (get_or-drop (rows_start program witness) witness i (pos 0)) ∙ sym (get_or-take (R program witness) (drop (rows_start program witness) witness) i (pos 0) l)))))

    module _ (i : ℕ) (l : 1 ≤ i) (h : i ≤ entries program witness) where
      same_count_word : count_word program' (witness' program witness form ws f) i ≡ count_word program witness i
      same_count_word = other_kept (count_place i) (omega arith) (λ e. omega arith)

      same_place_word : entry_place_word program' (witness' program witness form ws f) i ≡ entry_place_word program witness i
      same_place_word = ap (λ (m : ℕ). word (witness' program witness form ws f) (2 + m + i)) same_entries ∙ other_kept (2 + entries program witness + i) (omega arith) (λ e. omega arith)

      same_count : entry_count program' (witness' program witness form ws f) i ≡ entry_count program witness i
      unfolding entry_count
      same_count = ap (number most_disjuncts) same_count_word

      same_place : entry_place program' (witness' program witness form ws f) i ≡ entry_place program witness i
      unfolding entry_place
      same_place = ap (number most_words) same_place_word

      same_entry_lem : entry program' (witness' program witness form ws f) form i ≡ entry program witness form i
      unfolding entry
      same_entry_lem = rw (s.columns (witness' program witness form ws f) witness i l h, same_count, same_place, same_rows)

      same_entry_form : EntryForm program' (witness' program witness form ws f) form i
      same_entry_form =
          let x : EntryForm program witness form i = f.entry i l h in
          record {
            count = rw same_count_word x.count;
            placed =
                λ some. let (place, stands, disjuncts) = x.placed (rw same_count at some) in
                (place, same_place_word ∙ stands, rw (same_rows, s.columns (witness' program witness form ws f) witness i l h, same_count) disjuncts);
          }

      same_varies : T (entry_varies program' (witness' program witness form ws f) form i)
      unfolding entry_varies
      same_varies = rw same_entry_lem (f.varies i l h)

    -- ---- 25

    same_free : (i : ℕ) → i ≤ entries program witness → next_free program' (witness' program witness form ws f) form i ≡ next_free program witness form i
    unfolding next_free
    same_free zero h = refl
    same_free (suc i) h =
        rw (same_rows, s.columns (witness' program witness form ws f) witness (i + 1) (omega arith) (omega arith), same_count (i + 1) (omega arith) (omega arith), same_free i (omega arith))

    pub same_certificate : certificate_in program' (witness' program witness form ws f) form ≡ certificate_in program witness form
    unfolding certificate_in
    same_certificate =
        ap₂ (λ (a b : List (List Disjunct)). record { paths = a; summaries = b })
        (rw s.vertices (listed_same (entry program' (witness' program witness form ws f) form) (entry program witness form) (vertex_entries program witness) (λ i l h. same_entry_lem i l (omega arith))))
        (rw s.procedures (listed_same (summary_entry program' (witness' program witness form ws f) form) (summary_entry program witness form) (p program) (λ q l h. unfold summary_entry in summary q l h)))
      where
        summary : (q : ℕ) → 1 ≤ q → q ≤ p program → entry program' (witness' program witness form ws f) form (vertex_entries program' (witness' program witness form ws f) + q) ≡ entry program witness form (vertex_entries program witness + q)
        summary q l h = ap (λ (m : ℕ). entry program' (witness' program witness form ws f) form (m + q)) s.vertices ∙ same_entry_lem (vertex_entries program witness + q) (omega arith) (omega arith)

-- ---- what 25 asks, of sparse entries alone

module _ (program witness program' : List ℤ) (s : SameEntries program' program) (ws : List Witness) where
  same_strict : (form : StoredForm) → FormIn program witness form → (i : ℕ) → 1 ≤ i → i ≤ entries program witness → EntryStrict program' (with_witnesses program witness ws) form i
  same_strict Dense f i l h = tt
  same_strict Sparse f i l h =
      let x : InOrder program witness i = f.strict i l h in
      let free : next_free program' (with_witnesses program witness ws) Sparse (i - 1) ≡ next_free program witness Sparse (i - 1) = same_free program witness Sparse ws f program' s (i - 1) (omega arith) in
      record {
        place = same_place_word program witness Sparse ws f program' s i l h ∙ (x.place ∙ ap pos (sym free));
        disjuncts =
            rw (free, same_rows program witness Sparse ws f program' s, s.columns (with_witnesses program witness ws) witness i l h, same_count program witness Sparse ws f program' s i l h) x.disjuncts;
      }

  same_used : (form : StoredForm) → FormIn program witness form → RowsUsed program' (with_witnesses program witness ws) form
  same_used Dense f = tt
  same_used Sparse f =
      ap (next_free program' (with_witnesses program witness ws) Sparse) (same_entries program witness Sparse ws f program' s)
      ∙ (same_free program witness Sparse ws f program' s (entries program witness) (omega arith) ∙ (f.used ∙ sym (same_R program witness Sparse ws f program' s)))

  -- ---- the form

  pub other_form_lem : (form : StoredForm) → FormIn program witness form → length (with_witnesses program witness ws) ≤ most_words → FormIn program' (with_witnesses program witness ws) form
  other_form_lem form f most =
      let long = other_length program witness form ws f in
      let w : number most_words (word (with_witnesses program witness ws) witness_count_place) ≡ length (encode_all ws) = rw (other_w program witness form ws f) (number_of most_words (length (encode_all ws)) (omega (arith, long))) in
      let as_before : (i : ℕ) → i ≤ entries program' (with_witnesses program witness ws) → i ≤ entries program witness = λ i h. omega (arith, same_entries program witness form ws f program' s) in
      record {
        header = record {
          header = omega (arith, long);
          mark = kept_mark program witness form ws f ∙ f.header.mark;
          rows_range = rw (other_kept program witness form ws f 1 (omega arith) (λ e. omega arith)) f.header.rows_range;
          witness_range = rw (other_w program witness form ws f) (record { least = omega (arith, ints); most = omega (arith, ints, long) });
          total = omega (arith, long, same_start program witness form ws f program' s, same_R program witness form ws f program' s, w);
          most = most;
        };
        entry = λ i l h. same_entry_form program witness form ws f program' s i l (as_before i h);
        strict = λ i l h. same_strict form f i l (as_before i h);
        varies = λ i l h. same_varies program witness form ws f program' s i l (as_before i h);
        used = same_used form f;
      }

-- ---- a program whose words are the same but in one statement's row

same_columns : {program' program : List ℤ} {v : ℕ} → SameBut program' program v → ProgramForm program → (witness' witness : List ℤ) (i : ℕ) → 1 ≤ i → i ≤ entries program witness
    → edge_columns program' witness' i ≡ edge_columns program witness i
unfolding edge_columns
same_columns {program'} {program} s f witness' witness i l h = rw same go
  where
    same : n program' + p program' ≡ n program + p program
    same = ap₂ (λ (a b : ℕ). a + b) (same_n s) (same_p s)

    go : cond (leb i (n program + p program)) (k program' i + k program' i) (G program' + parameters program' (i - (n program + p program)) + G program')
        ≡ cond (leb i (n program + p program)) (k program i + k program i) (G program + parameters program (i - (n program + p program)) + G program)
    go = by (leb i (n program + p program)) refl
      where
        by : (b : Bool) → leb i (n program + p program) ≡ b → cond b (k program' i + k program' i) (G program' + parameters program' (i - (n program + p program)) + G program')
            ≡ cond b (k program i + k program i) (G program + parameters program (i - (n program + p program)) + G program)
        by true q = rw (same_k s f i l (leb-true i (n program + p program) q))
        by false q =
            let high : n program + p program < i = leb-false i (n program + p program) q in
            rw (same_parameters s (i - (n program + p program)) (omega arith) (omega arith), same_G s)

pub same_but_entries : {program' program : List ℤ} {v : ℕ} → SameBut program' program v → ProgramForm program → SameEntries program' program
same_but_entries s f = record { vertices = ap₂ (λ (a b : ℕ). a + b) (same_n s) (same_p s); procedures = same_p s; columns = same_columns s f }
