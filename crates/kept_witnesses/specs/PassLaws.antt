-- A pass that writes the witnesses of kept entailments: what it has written, and how many words, are those that trimming leaves of the witnesses of the
-- entailments so far. An entailment more adds the words of its witness with new numbers, or none, where a source of it isn't kept.
use Rattle.std.specs.Prelude.{◌≡◌, Bool, cond, ℕ, suc, ◌+◌, ◌-◌, ◌≤◌, T, ℤ, length, take, drop}
use Rattle.std.proofs.Math.Path.{refl, ap}
use Rattle.std.proofs.Common.{sym, ◌∙◌, subst, arith, length-append, take_at}
use Rattle.std.proofs.Math.Bool.{true, false}
use mathlib.Core.List.{List, [], ◌∷◌, ◌++◌, append-nil}
use Rattle.std.proofs.lemmas.List.Edits.{sets}
use Rattle.basics.proofs.Booleans.{parts}
use Rattle.basics.specs.Lists.{Each}
use Rattle.basics.proofs.Stores.{sets_append}
use Rattle.programs.specs.Decode as decode
use Rattle.certificates.specs.CertificateWords.{certificate}
use Rattle.certificates.specs.Entailments as certificates
use Rattle.certificates.specs.Sources.{edges_of, Sourced, Leads}
use Rattle.certificates.proofs.Sources.{sourced_targets}
use Rattle.certificates.specs.Witnesses.{Witness, encode, encode_all, works, works_by}
use Rattle.program_readers.specs.Sizes.{Header}
use Rattle.program_readers.specs.declared.places.Sizes.{Sizes}
use Rattle.entailments.specs.Meaning.{meaning_of}
use Rattle.entailments.specs.Forms.{EntailmentForm}
use Rattle.entailments.specs.declared.Entailment.{Entailment}
use Rattle.trimming.specs.Kept.{Flags, keeps}
use Rattle.trimming.specs.Trimmed.{renumbered, trimmed_witnesses}
use Rattle.trimming.specs.Passed.{start_of, This, left_of}
use Rattle.trimming.proofs.Passed.{encode_append}
use Rattle.checker.specs.ListedWitnesses.{listed_sources, listed_witnesses}
use Rattle.entailment_sources.specs.KeptBytes.{entry_number, most_entries, has_entry, flags_in}
use Rattle.witness_walks.specs.Marks.{targets_of, marked}
use Rattle.witness_walks.specs.WalkSteps.{targets_count}
use Rattle.witness_walks.specs.Witnessed.{walked_from, witness_marked}
use Rattle.vertex_entailments.specs.Given.{StandsFor}
use Rattle.entailment_sources.specs.NewNumbers.{flagged}
use Rattle.kept_witnesses.specs.StoredOver.{spelled_inside}
use Rattle.kept_witnesses.specs.SizedWitnesses.{length_renumbered}
use Rattle.kept_witnesses.specs.Renumbering.{encoded_one}
use Rattle.kept_witnesses.specs.KeptWords.{SizedFor, shaped_for, Spells, first_byte, kept_words, kept_fewer, WrittenBy}
use Rattle.kept_witnesses.specs.EntryFlags.{entry_there, entry_within, renumbered_here}

-- ---- the words so far

module _ (program witness : List ℤ) (sizes : Sizes) (kept : List ℕ) where
  -- what trimming leaves of the witnesses of the first entailments, as words
  abbrev pub words_left_of : List Sourced → List ℤ
  words_left_of xs = encode_all (trimmed_witnesses (flags_in sizes kept) xs (listed_witnesses program witness))

  -- and of all
  abbrev pub words_left : List ℤ
  words_left = words_left_of (listed_sources program witness)

  -- after the first entailments the next witness begins at `at`, and `to` words are left, which stand at the front of the buffer where they fit
  pub record WrittenSoFar (before : List ℤ) (xs : List Sourced) (at to : ℕ) (buffer : List ℤ) : Type 0 where
    pub reached : at ≡ start_of (listed_witnesses program witness) (length xs)
    pub fewer : to ≤ at
    pub counted : to ≡ length (words_left_of xs)
    pub stored : to ≤ length before → buffer ≡ sets before 0 (words_left_of xs)
    pub long : length buffer ≡ length before

-- ---- the next entailment

each_middle : {A : Type 0} (P : A → Type 0) (xs : List A) (x : A) (ys : List A) → Each P (xs ++ (x ∷ ys)) → P x
unfolding Each
each_middle P [] x ys h = h.0
each_middle P (z ∷ xs) x ys h = each_middle P xs x ys h.1

-- an entailment of the list leads to its targets
pub leads_at : (program witness : List ℤ) (before : List Sourced) (s : Sourced) (rest : List Sourced) → listed_sources program witness ≡ before ++ (s ∷ rest) → Leads (certificate program witness) s
leads_at program witness before s rest e =
    let c = certificate program witness in
    each_middle (Leads c) before s rest (subst (Each (Leads c)) e (sourced_targets (decode.program program) c))

-- the value e stands for the entailment s, whose witness x begins the words w at a place
pub record Meets (program witness rows w : List ℤ) (at : ℕ) (e : Entailment) (s : Sourced) (x : Witness) : Type 0 where
  pub form : EntailmentForm program rows e
  pub work : T (works (meaning_of program rows e) x)
  pub leads : length (edges_of (certificate program witness) s.leads_to) ≡ e.count
  pub rest : List ℤ
  pub spelled : drop at w ≡ encode x ++ rest
  pub inside : at + length (encode x) ≤ length w

pub meets : (program witness rows w : List ℤ) (at k : ℕ) (e : Entailment) (s : Sourced) (x : Witness) → w ≡ encode_all (listed_witnesses program witness) → at ≡ start_of (listed_witnesses program witness) k
    → StandsFor program rows e s.entailment → Leads (certificate program witness) s → This (listed_sources program witness) (listed_witnesses program witness) k s x → Meets program witness rows w at e s x
unfolding meaning_of targets_of
meets program witness rows w at k e s x q h v l this =
    let ws = listed_witnesses program witness in
    let begins : drop at w ≡ encode x ++ encode_all (drop (suc k) ws) = rw (q, h) this.begins in
    record {
      form = v.form;
      work = rw v.is this.work;
      leads = ap length (sym l ∙ sym (ap (λ (y : certificates.Entailment). y.targets) v.is)) ∙ targets_count rows e;
      rest = encode_all (drop (suc k) ws);
      spelled = begins;
      inside = spelled_inside w at (encode x) (encode_all (drop (suc k) ws)) (encoded_one x) begins;
    }

module _ (program witness rows w : List ℤ) (at : ℕ) (e : Entailment) (s : Sourced) (x : Witness) (m : Meets program witness rows w at e s x) where
  sized : SizedFor rows e x
  unfolding works_by
  sized = shaped_for program rows e x m.form (search parts)

  -- the place after it
  module _ (end : ℕ) (left : drop end w ≡ (walked_from rows e (drop at w)).left) (within : end ≤ length w) where
    pub end_is : end ≡ at + length (encode x)
    unfolding works_by
    end_is = (witness_marked program rows e m.form w at end [] (marked (walked_from rows e (drop at w)).names []) x m.rest (search parts) (omega (arith, m.inside)) m.spelled (record { left = left; inside = within; flags = refl })).0

    -- the words up to there are its own
    pub words_are : take (end - at) (drop at w) ≡ encode x
    words_are = ap (take (end - at)) m.spelled ∙ take_at (encode x) m.rest (end - at) (omega (arith, end_is))

    pub words_spell : Spells rows e (take (end - at) (drop at w))
    words_spell = record { witness = x; sized = sized; is = words_are }

    -- how many words are written for it
    module _ {f : ℕ → Bool} {buffer after : List ℤ} {to r : ℕ} where
      pub size_most : {keep : Bool} → WrittenBy rows e keep f (take (end - at) (drop at w)) buffer to r after → r ≤ length (encode x)
      size_most {keep} by = omega (arith, by.counted x sized words_are, kept_fewer keep f x)

      pub size_whole : WrittenBy rows e true f (take (end - at) (drop at w)) buffer to r after → r ≡ length (encode x)
      unfolding kept_words
      size_whole by = by.counted x sized words_are ∙ length_renumbered f x

    -- one entailment more
    module _ (sizes : Sizes) (header : Header program sizes) (kept : List ℕ) where
      abbrev F : Flags
      F = flags_in sizes kept

      target_there : 1 ≤ e.count → T (has_entry sizes s.leads_to)
      target_there h = entry_there program witness sizes header s.leads_to (omega (arith, m.leads))

      pub entry_bytes_lem : (entry : ℕ) → entry ≡ entry_number sizes s.leads_to → 1 ≤ e.count → (1 ≤ entry) × (entry ≤ most_entries)
      entry_bytes_lem entry q h = rw q (entry_within program witness sizes header s.leads_to (target_there h))

      -- what is written for it is what trimming leaves of it
      left_words : (keep : Bool) (entry : ℕ) → keep ≡ keeps F s.source → entry ≡ entry_number sizes s.leads_to
          → encode_all (left_of F s x) ≡ kept_words keep (flagged (drop (first_byte e.count entry) kept)) x
      unfolding left_of kept_words encode_all
      left_words keep entry q g = go keep q
        where
          go : (b : Bool) → b ≡ keeps F s.source → encode_all (cond (keeps F s.source) (renumbered (F s.leads_to) x ∷ []) []) ≡ kept_words b (flagged (drop (first_byte e.count entry) kept)) x
          go true q = rw (← q) (append-nil (encode (renumbered (F s.leads_to) x)) ∙ ap encode (renumbered_here sizes kept s.leads_to rows e entry x sized m.form.few_targets target_there g))
          go false q = rw (← q) refl

      pub one_more : {before buffer after : List ℤ} {xs ys : List Sourced} {to r : ℕ} (keep : Bool) (entry : ℕ) → keep ≡ keeps F s.source → entry ≡ entry_number sizes s.leads_to
          → WrittenSoFar program witness sizes kept before xs at to buffer
          → WrittenBy rows e keep (flagged (drop (first_byte e.count entry) kept)) (take (end - at) (drop at w)) buffer to r after
          → start_of (listed_witnesses program witness) (length ys) ≡ start_of (listed_witnesses program witness) (length xs) + length (encode x)
          → trimmed_witnesses F ys (listed_witnesses program witness) ≡ trimmed_witnesses F xs (listed_witnesses program witness) ++ left_of F s x
          → WrittenSoFar program witness sizes kept before ys end (to + r) after
      one_more {before} {buffer} {after} {xs} {ys} {to} {r} keep entry q g so by ends trims =
          let added = kept_words keep (flagged (drop (first_byte e.count entry) kept)) x in
          let done = words_left_of program witness sizes kept xs in
          let all : words_left_of program witness sizes kept ys ≡ done ++ added = ap encode_all trims ∙ (encode_append (trimmed_witnesses F xs (listed_witnesses program witness)) (left_of F s x) ∙ ap (λ (l : List ℤ). done ++ l) (left_words keep entry q g)) in
          let size : r ≡ length added = by.counted x sized words_are in
          let place : to ≡ 0 + length done = omega (arith, so.counted) in
          record {
            reached = omega (arith, end_is, so.reached, ends);
            fewer = omega (arith, so.fewer, end_is, size, kept_fewer keep (flagged (drop (first_byte e.count entry) kept)) x);
            counted = omega (arith, so.counted, size, ap length all, length-append done added);
            stored =
                λ h. by.stored (omega (arith, so.long)) x sized words_are
                ∙ (ap (λ (l : List ℤ). sets l to added) (so.stored (omega arith)) ∙ (ap (λ (i : ℕ). sets (sets before 0 done) i added) place ∙ (sets_append done added before 0 ∙ ap (sets before 0) (sym all))));
            long = by.long ∙ so.long;
          }
