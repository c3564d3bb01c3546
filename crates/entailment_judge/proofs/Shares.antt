-- A share's words and a contradiction's, by each way through the code; and the shares of a disjunct, one after the other: those that are left,
-- with what those before them came to, decide as all do.
use mathlib.Core.Path.{◌≡◌, refl, sym, ap, subst}
use mathlib.Core.Bool.{Bool, ◌&&◌}
use mathlib.Core.List.{List, [], ◌∷◌}
use Prim.Native.Nat.{ℕ, suc, ◌+◌, ◌≤◌}
use native.Mathlib.Omega.{arith}
use lib.IntN.{ℤ}
use lib.ListN.{length, take, drop}
use lib.Seq.{drop-drop}
use Rattle.std.specs.Prelude.{Option, Some, None}
use Rattle.rows.specs.Rows.{Row, combine, substitute, yields}
use Rattle.words.specs.declared.StoredForm.{StoredForm}
use Rattle.words.specs.Limits.{most_divisor}
use Rattle.words.specs.StoredRows.{rows_in, row_in, row_takes}
use Rattle.words.proofs.StoredRows.{no_rows_in, first_in}
use Rattle.entailment_judge.specs.WitnessReader.{word_in}
use Rattle.entailment_judge.specs.declared.reader.ReadNumber.{ReadNumber}
use Rattle.certificates.specs.Judgement.{Read, got, missing, and_then, read_within, read_multipliers}
use Rattle.row_buffers.specs.Entries.{Alike, AllAlike, nil, cons}
use Rattle.row_buffers.specs.SumTests.{is_yielded, is_refuted}
use Rattle.row_buffers.proofs.SumTests.{yields_sum, refutes_sum, yields_alike}
use Rattle.entailment_judge.specs.Judging.{read_contradiction, read_share, read_fits}
use Rattle.entailment_judge.specs.Stored.{then_alike}
use Rattle.entailment_judge.specs.Answers.{after_of, leaf_of}
use Rattle.entailment_judge.specs.SharedWords.{multiplied, divided, share_words}
use Rattle.entailment_judge.specs.declared.ShareWords.{ShareWords}
use Rattle.entailment_judge.specs.declared.Leaf.{Leaf}
use Rattle.entailment_judge.proofs.Words.{Multipliers, found, not_found, next_at, multipliers, not_read, not_whole}

-- ---- one share

same_rows : (ps : List Row) → AllAlike ps ps
same_rows [] = nil
same_rows (p ∷ ps) = cons (record { same = λ i. refl }) (same_rows ps)

-- rows that are alike have the same
pub share_alike : (ps : List Row) {r s : Row} → Alike r s → (n : ℕ) (ws : List ℤ) → read_share ps r n ws ≡ read_share ps s n ws
unfolding read_share
share_alike ps h n ws =
    then_alike (read_within 1 most_divisor ws) (λ d rest. then_alike (read_multipliers n rest) (λ ms left. ap (λ (b : Bool). got b left) (yields_alike d ms (same_rows ps) h)))

module _ (w : List ℤ) (at n : ℕ) where
  -- what is known of a share's words that were found
  pub record Shared (x : ShareWords) : Type 0 where
    pub divisor : word_in w at 1 most_divisor ≡ Some (record { number = x.divisor; at = x.first })
    pub after : after_of w (read_multipliers n (drop x.first w)) ≡ Some x.next

  module _ {x : ShareWords} (k : Shared x) where
    pub divisor_most : x.divisor ≤ most_divisor
    divisor_most = (found w at 1 most_divisor k.divisor).most

    pub weights : Multipliers w x.first n x.next
    weights = multipliers w x.first n x.next (found w at 1 most_divisor k.divisor).inside k.after

  pub shared : {x : ShareWords} → share_words w at n ≡ Some x → Shared x
  unfolding share_words
  shared {x} h = by_word (word_in w at 1 most_divisor) refl h
    where
      by_multipliers : (d : ReadNumber) → word_in w at 1 most_divisor ≡ Some d → (t : Option ℕ) → after_of w (read_multipliers n (drop d.at w)) ≡ t → multiplied d t ≡ Some x → Shared x
      by_multipliers d e (Some last) g k =
          let z : record { divisor = d.number; first = d.at; next = last } ≡ x = cc in
          subst Shared z (record { divisor = e; after = g })
      by_multipliers d e None g k = absurd (let z : ◌≡◌ {A = ℕ} 0 1 = cc in omega arith)

      by_word : (o : Option ReadNumber) → word_in w at 1 most_divisor ≡ o → divided w n o ≡ Some x → Shared x
      by_word (Some d) e k = by_multipliers d e (after_of w (read_multipliers n (drop d.at w))) refl k
      by_word None e k = absurd (let z : ◌≡◌ {A = ℕ} 0 1 = cc in omega arith)

  module _ (ps : List Row) (r : Row) where
    no_divisor : word_in w at 1 most_divisor ≡ None → read_share ps r n (drop at w) ≡ missing
    unfolding read_share and_then
    no_divisor e = rw (not_found w at 1 most_divisor e)

    no_multipliers : {d : ReadNumber} → word_in w at 1 most_divisor ≡ Some d → after_of w (read_multipliers n (drop d.at w)) ≡ None → read_share ps r n (drop at w) ≡ missing
    unfolding read_share and_then
    no_multipliers {d} e g = rw ((found w at 1 most_divisor e).read, not_read w d.at n g)

    all_words : {x : ShareWords} (k : Shared x) → read_share ps r n (drop at w) ≡ got (yields x.divisor (weights k).list ps r) (drop x.next w)
    unfolding read_share and_then
    all_words k = rw ((found w at 1 most_divisor k.divisor).read, (weights k).read)

    pub share_judged : {x : ShareWords} (b : Bool) → Shared x → b ≡ is_yielded x.divisor (combine (take n (drop x.first w)) ps) r → Some (record { fits = b; next = x.next }) ≡ leaf_of w (read_share ps r n (drop at w))
    share_judged {x} b s h = let k = weights s in rw (h, all_words s, next_at w x.next k.ends, yields_sum x.divisor k.list ps r, k.words)

    -- by the words, where they are found, or not
    by_share : {P : Type 0} → ((x : ShareWords) → Shared x → P) → (read_share ps r n (drop at w) ≡ missing → P) → P
    by_share {P} all none = by_word (word_in w at 1 most_divisor) refl
      where
        by_multipliers : {d : ReadNumber} → word_in w at 1 most_divisor ≡ Some d → (t : Option ℕ) → after_of w (read_multipliers n (drop d.at w)) ≡ t → P
        by_multipliers {d} e (Some last) g = all (record { divisor = d.number; first = d.at; next = last }) (record { divisor = e; after = g })
        by_multipliers e None g = none (no_multipliers e g)

        by_word : (o : Option ReadNumber) → word_in w at 1 most_divisor ≡ o → P
        by_word (Some d) e = by_multipliers e (after_of w (read_multipliers n (drop d.at w))) refl
        by_word None e = none (no_divisor e)

    pub not_shared : share_words w at n ≡ None → read_share ps r n (drop at w) ≡ missing
    unfolding share_words
    not_shared h = by_share (λ x k. absurd (let q : ◌≡◌ {A = Option ShareWords} (Some x) None = rw (k.divisor, k.after) at h in let z : ◌≡◌ {A = ℕ} 0 1 = cc in omega arith)) (λ e. e)

    -- what the answer says of the words
    pub record Passed (leaf : Leaf) : Type 0 where
      pub read : read_share ps r n (drop at w) ≡ got leaf.fits (drop leaf.next w)
      pub inside : leaf.next ≤ length w

    pub passed : (leaf : Leaf) → Some leaf ≡ leaf_of w (read_share ps r n (drop at w)) → Passed leaf
    passed leaf h = by_share whole (λ e. absurd (let q : Some leaf ≡ None = rw e at h in let z : ◌≡◌ {A = ℕ} 0 1 = cc in omega arith))
      where
        whole : (x : ShareWords) → Shared x → Passed leaf
        whole x s =
            let k = weights s in
            let q : Some leaf ≡ Some (record { fits = yields x.divisor k.list ps r; next = x.next }) = rw (all_words s, next_at w x.next k.ends) at h in
            let z : record { fits = yields x.divisor k.list ps r; next = x.next } ≡ leaf = cc in
            subst Passed z (record { read = all_words s; inside = k.ends })

    pub not_passed : None ≡ leaf_of w (read_share ps r n (drop at w)) → read_share ps r n (drop at w) ≡ missing
    not_passed h = not_whole w (read_share ps r n (drop at w)) h

-- ---- the shares of a disjunct, from the row at f and the word at p on

pub record Going (form : StoredForm) (image ps : List Row) (n m : ℕ) (rows w : List ℤ) (whole : Read Bool) (left f p : ℕ) (fit : Bool) : Type 0 where
  pub inside : p ≤ length w
  pub same : read_fits image ps n (rows_in form m left (drop f rows)) fit (drop p w) ≡ whole

module _ {form : StoredForm} {image ps : List Row} {n m : ℕ} {rows w : List ℤ} {whole : Read Bool} {left f p : ℕ} {fit : Bool} (g : Going form image ps n m rows w whole left f p fit) where
  module _ (k : ℕ) (more : left ≡ suc k) where
    pub go_on : (leaf : Leaf) → Some leaf ≡ leaf_of w (read_share ps (substitute image (row_in form m (drop f rows))) n (drop p w)) → Going form image ps n m rows w whole k (f + row_takes form m (drop f rows)) leaf.next (fit && leaf.fits)
    unfolding read_fits and_then
    go_on leaf h =
        let r = passed w p n ps (substitute image (row_in form m (drop f rows))) leaf h in
        let s = rw (more, first_in form m k (drop f rows), drop-drop (row_takes form m (drop f rows)) f rows) at g.same in
        record { inside = r.inside; same = rw r.read at s }

    pub missing_word : None ≡ leaf_of w (read_share ps (substitute image (row_in form m (drop f rows))) n (drop p w)) → None ≡ leaf_of w whole
    unfolding read_fits and_then
    missing_word h = let s = rw (more, first_in form m k (drop f rows), drop-drop (row_takes form m (drop f rows)) f rows) at g.same in ap (leaf_of w) (rw (not_passed w p n ps (substitute image (row_in form m (drop f rows))) h) at s)

  all_read : left ≡ 0 → whole ≡ got fit (drop p w)
  unfolding read_fits
  all_read z = sym (rw (z, no_rows_in form m (drop f rows)) at g.same)

  pub all_judged : left ≡ 0 → Some (record { fits = fit; next = p }) ≡ leaf_of w whole
  all_judged z = rw (all_read z, next_at w p g.inside)

-- ---- a contradiction

module _ (w : List ℤ) (at n : ℕ) (ps : List Row) where
  pub contradiction_missing : after_of w (read_multipliers n (drop at w)) ≡ None → None ≡ leaf_of w (read_contradiction ps n (drop at w))
  unfolding read_contradiction and_then
  contradiction_missing g = rw (not_read w at n g)

  pub contradiction_judged : {next : ℕ} → Multipliers w at n next → (b : Bool) → b ≡ is_refuted (combine (take n (drop at w)) ps) → Some (record { fits = b; next = next }) ≡ leaf_of w (read_contradiction ps n (drop at w))
  unfolding read_contradiction and_then
  contradiction_judged {next} k b e = rw (k.read, e, refutes_sum k.list ps, k.words, next_at w next k.ends)
