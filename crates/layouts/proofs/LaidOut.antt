-- What a layout says to whoever reads it: the certificate and the witness words that it was made of; and it has the form, where its entries are
-- within their limits and there are not too many words.
use Rattle.std.specs.Prelude.{◌≡◌, T, ℤ, pos, get_or, drop}
use Rattle.std.proofs.Math.Path.{refl, sym, ap, ap₂}
use Rattle.std.proofs.Common.{◌∙◌, length-append, take_at, ext_get_or}
use mathlib.Core.List.{List, []}
use Prim.Native.Nat.{ℕ, zero, suc, ◌+◌, ◌-◌, ◌≤◌, ◌<◌}
use native.Mathlib.Omega.{arith}
use Rattle.std.proofs.Math.ListN.{length, get_or-append}
use Rattle.std.proofs.Math.Seq.{get_or-append-add}
use Rattle.basics.specs.Lists.{listed}
use Rattle.basics.proofs.Lists.{length_listed, get_or_listed}
use Rattle.basics.proofs.Integers.{ints}
use Rattle.words.specs.declared.StoredForm.{StoredForm}
use Rattle.words.specs.declared.StoredForm.TheVariants.{Dense, Sparse}
use Rattle.words.specs.Limits.{most_words, most_disjuncts}
use Rattle.words.specs.Words.{word, number}
use Rattle.words.proofs.Ranges.{number_of}
use Rattle.programs.specs.ProgramWords.{p}
use Rattle.certificates.specs.Certificate.{Disjunct, Certificate}
use Rattle.certificates.specs.CertificateWords.{count_word, entry_place_word, R, W, entries, row_words, witness_words, edge_columns, entry_count, entry_place, entry, summary_entry, certificate_in, next_free, vertex_entries}
use Rattle.certificates.specs.CertificateTests.{entry_varies}
use Rattle.certificates.specs.CertificateForm.{EntryForm, EntryStrict, RowsUsed, HeaderIn, FormIn}
use Rattle.layouts.proofs.DisjunctCode.{disjuncts_read, disjuncts_end_lem, disjuncts_form, disjuncts_strict_lem}
use Rattle.layouts.specs.Layout.{entries_of, entries_code, layout, begin_of}
use Rattle.layouts.proofs.LayoutLaws.{entry_here, begin_inside, next_begin, last_begin, mark_word, rows_word, witness_word, behind_places, behind_rows, count_word_lem, place_word_lem, length_laid}
use Rattle.layouts.specs.LaidOut.{EntriesWithin, columns_for, laid, rows, words}

-- what is listed is the list of which each is the element at its place
same_listed : {A : Type 0} (d : A) (f : ℕ → A) (m : ℕ) (l : List A) → length l ≡ m → ((j : ℕ) → j < m → f (j + 1) ≡ get_or l j d) → listed f m ≡ l
same_listed d f m l e h =
    ext_get_or d (listed f m) l (length_listed f m ∙ sym e) (λ j k. let n : j < m = omega (arith, length_listed f m) in get_or_listed f m j d n ∙ h j n)

pub same_columns : (program witness : List ℤ) (i : ℕ) → edge_columns program witness i ≡ columns_for program i
unfolding edge_columns
same_columns program witness i = refl

module _ (program : List ℤ) (form : StoredForm) (es : List (List Disjunct)) (ws : List ℤ) (are : EntriesWithin program es) (short : length (layout form es ws) ≤ most_words) where
  rows_count : R program (laid program form es ws are short) ≡ length (rows program form es ws are short)
  rows_count = ap (number most_words) (rows_word form es ws) ∙ number_of most_words (length (rows program form es ws are short)) (omega (arith, short, length_laid form es ws))

  witness_count : W program (laid program form es ws are short) ≡ length ws
  witness_count = ap (number most_words) (witness_word form es ws) ∙ number_of most_words (length ws) (omega (arith, short, length_laid form es ws))

  pub laid_rows : row_words program (laid program form es ws are short) ≡ (rows program form es ws are short)
  unfolding row_words
  laid_rows = rw (rows_count, ← are.count, behind_places form es ws) (take_at (rows program form es ws are short) ws (length (rows program form es ws are short)) refl)

  pub laid_witness : witness_words program (laid program form es ws are short) ≡ ws
  unfolding witness_words
  laid_witness = rw (rows_count, ← are.count) (behind_rows form es ws)

  module _ (j : ℕ) (h : j < length es) where
    counted : count_word program (laid program form es ws are short) (j + 1) ≡ pos (length (get_or es j []))
    counted = let e : 2 + (j + 1) ≡ 3 + j = omega arith in ap (word (laid program form es ws are short)) e ∙ count_word_lem form es ws j h

    laid_count : entry_count program (laid program form es ws are short) (j + 1) ≡ length (get_or es j [])
    unfolding entry_count
    laid_count =
        ap (number most_disjuncts) counted ∙ number_of most_disjuncts (length (get_or es j [])) (are.each j h).few

    begin_few : begin_of form es j ≤ most_words
    begin_few = omega (arith, begin_inside form es j, short, length_laid form es ws)

    place_is : entry_place_word program (laid program form es ws are short) (j + 1) ≡ pos (begin_of form es j)
    place_is = let e : 2 + length es + (j + 1) ≡ 3 + length es + j = omega arith in rw (← are.count, e) (place_word_lem form es ws j h)

    laid_place : entry_place program (laid program form es ws are short) (j + 1) ≡ begin_of form es j
    unfolding entry_place
    laid_place = ap (number most_words) place_is ∙ number_of most_words (begin_of form es j) begin_few

    pub laid_entry : entry program (laid program form es ws are short) form (j + 1) ≡ get_or es j []
    unfolding entry
    laid_entry =
        rw (laid_count, laid_place, laid_rows, same_columns program (laid program form es ws are short) (j + 1))
        (disjuncts_read form (columns_for program (j + 1)) (rows program form es ws are short) (get_or es j []) (begin_of form es j) (entries_code form (drop (suc j) es)) (are.each j h).are (entry_here form es j h))

  laid_free : (j : ℕ) → j ≤ length es → next_free program (laid program form es ws are short) form j ≡ begin_of form es j
  unfolding next_free
  laid_free zero h = unfold entries_code in refl
  laid_free (suc j) h =
      let l : j < length es = omega arith in
      rw (laid_free j (omega arith), laid_count j l, laid_rows, same_columns program (laid program form es ws are short) (j + 1))
      (disjuncts_end_lem form (columns_for program (j + 1)) (rows program form es ws are short) (get_or es j []) (begin_of form es j) (entries_code form (drop (suc j) es)) (are.each j l).are (entry_here form es j l)
      ∙ sym (next_begin form es j l))

  -- each entry stands at the next free place, and no row word is left
  pub laid_next : (j : ℕ) → j < length es → entry_place_word program (laid program form es ws are short) (j + 1) ≡ pos (next_free program (laid program form es ws are short) form j)
  laid_next j h = place_is j h ∙ ap pos (sym (laid_free j (omega arith)))

  pub laid_all : next_free program (laid program form es ws are short) form (entries program (laid program form es ws are short)) ≡ R program (laid program form es ws are short)
  laid_all = ap (next_free program (laid program form es ws are short) form) (sym are.count) ∙ (laid_free (length es) (omega arith) ∙ (last_begin form es ∙ sym rows_count))

  -- ---- the form

  laid_header : HeaderIn program (laid program form es ws are short) form
  laid_header =
      record {
        header = omega (arith, length_laid form es ws);
        mark = mark_word form es ws;
        rows_range = rw (rows_word form es ws) (record { least = omega (arith, ints); most = omega (arith, ints, short, length_laid form es ws) });
        witness_range = rw (witness_word form es ws) (record { least = omega (arith, ints); most = omega (arith, ints, short, length_laid form es ws) });
        total = rw (rows_count, witness_count, ← are.count) (length_laid form es ws);
        most = short;
      }

  module _ (j : ℕ) (h : j < length es) where
    laid_entry_form : EntryForm program (laid program form es ws are short) form (j + 1)
    laid_entry_form =
        record {
          count = rw (counted j h) (record { least = omega (arith, ints); most = omega (arith, ints, (are.each j h).few) });
          placed =
              λ one. (
                begin_of form es j,
                place_is j h,
                rw (laid_count j h, laid_rows, same_columns program (laid program form es ws are short) (j + 1))
                    (disjuncts_form form (columns_for program (j + 1)) (rows program form es ws are short) (get_or es j []) (begin_of form es j) (entries_code form (drop (suc j) es)) (are.each j h).are (entry_here form es j h)),
              );
        }

    laid_varies : T (entry_varies program (laid program form es ws are short) form (j + 1))
    unfolding entry_varies
    laid_varies = rw (laid_entry j h) (are.each j h).vary

-- the certificate whose entries are laid out
module _ (program : List ℤ) (form : StoredForm) (c : Certificate) (ws : List ℤ) (within : EntriesWithin program (entries_of c)) (short : length (layout form (entries_of c) ws) ≤ most_words) (paths : length c.paths ≡ vertex_entries program []) where
  many : length c.paths + length c.summaries ≡ entries program []
  unfolding entries_of
  many = sym (length-append c.paths c.summaries) ∙ within.count

  laid_path : (j : ℕ) → j < vertex_entries program (words program form c ws within short paths) → entry program (words program form c ws within short paths) form (j + 1) ≡ get_or c.paths j []
  unfolding entries_of
  laid_path j h = laid_entry program form (entries_of c) ws within short j (omega (arith, within.count)) ∙ get_or-append c.paths c.summaries [] j (omega (arith, paths))

  laid_summary : (j : ℕ) → j < p program → entry program (words program form c ws within short paths) form (vertex_entries program (words program form c ws within short paths) + (j + 1)) ≡ get_or c.summaries j []
  unfolding entries_of
  laid_summary j h =
      let e : vertex_entries program (words program form c ws within short paths) + (j + 1) ≡ length c.paths + j + 1 = omega (arith, paths) in
      ap (entry program (words program form c ws within short paths) form) e
      ∙ (laid_entry program form (entries_of c) ws within short (length c.paths + j) (omega (arith, within.count, many))
      ∙ get_or-append-add c.paths c.summaries j [])

  pub laid_certificate : certificate_in program (words program form c ws within short paths) form ≡ c
  unfolding certificate_in summary_entry
  laid_certificate =
      ap₂ (λ (a b : List (List Disjunct)). record { paths = a; summaries = b })
      (same_listed [] (entry program (words program form c ws within short paths) form) (vertex_entries program (words program form c ws within short paths)) c.paths paths laid_path)
      (same_listed [] (λ q. entry program (words program form c ws within short paths) form (vertex_entries program (words program form c ws within short paths) + q)) (p program) c.summaries (omega (arith, many, paths)) laid_summary)

-- an entry's place and its columns, and that no row word is left
module _ (program : List ℤ) (es : List (List Disjunct)) (ws : List ℤ) (are : EntriesWithin program es) where
  laid_strict : (form : StoredForm) → length (layout form es ws) ≤ most_words → (j : ℕ) → j < length es → EntryStrict program (layout form es ws) form (j + 1)
  laid_strict Dense short j h = tt
  laid_strict Sparse short j h =
      let laid : List ℤ = layout Sparse es ws in
      let before : j + 1 - 1 ≡ j = omega arith in
      let free : next_free program laid Sparse (j + 1 - 1) ≡ begin_of Sparse es j = ap (next_free program laid Sparse) before ∙ laid_free program Sparse es ws are short j (omega arith) in
      record {
        place = laid_next program Sparse es ws are short j h ∙ ap (λ (i : ℕ). pos (next_free program laid Sparse i)) (sym before);
        disjuncts =
            rw (free, laid_count program Sparse es ws are short j h, laid_rows program Sparse es ws are short, same_columns program laid (j + 1))
            (disjuncts_strict_lem Sparse (columns_for program (j + 1)) (entries_code Sparse es) (get_or es j []) (begin_of Sparse es j) (entries_code Sparse (drop (suc j) es)) (are.each j h).are (entry_here Sparse es j h));
      }

  laid_used : (form : StoredForm) → length (layout form es ws) ≤ most_words → RowsUsed program (layout form es ws) form
  laid_used Dense short = tt
  laid_used Sparse short = laid_all program Sparse es ws are short

  pub laid_form : (form : StoredForm) → length (layout form es ws) ≤ most_words → FormIn program (layout form es ws) form
  laid_form form short =
      record {
        header = laid_header program form es ws are short;
        entry = λ i l h. from i l (λ j. EntryForm program (layout form es ws) form j) h (laid_entry_form program form es ws are short);
        strict = λ i l h. from i l (λ j. EntryStrict program (layout form es ws) form j) h (laid_strict form short);
        varies = λ i l h. from i l (λ j. T (entry_varies program (layout form es ws) form j)) h (laid_varies program form es ws are short);
        used = laid_used form short;
      }
    where
      from : (i : ℕ) → 1 ≤ i → (P : ℕ → Type 0) → i ≤ entries program [] → ((j : ℕ) → j < length es → P (j + 1)) → P i
      from i l P h f = let e : i - 1 + 1 ≡ i = omega arith in rw e at (f (i - 1) (omega (arith, are.count)))
