-- The pass from the start's entailment on, case by case, disjunct by disjunct, vertex by vertex: what is written so far after each, and at the end.
use Rattle.std.specs.Prelude.{◌≡◌, Bool, ℕ, ◌+◌, ◌-◌, ◌≤◌, ◌<◌, ℤ, take, drop}
use Rattle.std.proofs.Math.Path.{refl, sym}
use Rattle.std.proofs.Common.{ap, ◌∙◌, subst, arith}
use Rattle.std.proofs.Math.Bool.{true}
use mathlib.Core.List.{List, []}
use Rattle.std.proofs.Math.Nat.{zero-add}
use Rattle.std.proofs.Math.ListN.{length, get_or}
use Rattle.basics.specs.Lists.{gathered}
use Rattle.programs.specs.Program.{Program}
use Rattle.programs.specs.ProgramWords.{n, p}
use Rattle.programs.specs.Decode as decode
use Rattle.programs.proofs.Formed.{length_statements, length_procedures}
use Rattle.certificates.specs.Certificate.{Certificate, path_edges}
use Rattle.certificates.specs.CertificateWords.{witness_words, certificate}
use Rattle.certificates.specs.Entailments.{start_entailment}
use Rattle.certificates.specs.Sources.{Sourced, sourced, sourced_vertex}
use Rattle.certificates.specs.Witnesses.{Witness, encode, encode_all}
use Rattle.program_readers.specs.Sizes.{Header}
use Rattle.program_readers.specs.declared.places.Sizes.{Sizes}
use Rattle.entailments.specs.declared.Entailment.{Entailment}
use Rattle.vertex_entailments.specs.Given.{cases_of, no_entailment, StandsFor}
use Rattle.trimming.specs.Kept.{keeps}
use Rattle.trimming.specs.Trimmed.{trimmed_witnesses}
use Rattle.trimming.specs.Passed.{start_from, cases_from, passed, no_witness, start_of, witness_of}
use Rattle.trimming.proofs.Passed.{passed_disjunct, passed_vertex, passed_all, ahead, case_entailment, start_inside, start_this, start_reached, first_reached, left_first, case_this, case_reached, left_more}
use Rattle.checker.specs.ListedWitnesses.{listed_sources, listed_witnesses, AllListed}
use Rattle.entailment_sources.specs.KeptBytes.{entry_number, flags_in}
use Rattle.witness_walks.specs.Witnessed.{walked_from}
use Rattle.entailment_sources.specs.NewNumbers.{flagged}
use Rattle.kept_witnesses.specs.KeptWords.{first_byte, WrittenBy}
use Rattle.kept_witnesses.specs.PassLaws.{leads_at, WrittenSoFar, Meets, meets, end_is, size_whole, one_more}

module _ (program witness : List ℤ) where
  abbrev pub decoded_program : Program
  decoded_program = decode.program program

  abbrev cert : Certificate
  cert = certificate program witness

  abbrev ws : List Witness
  ws = listed_witnesses program witness

  -- the entailments before `case` of disjunct i of vertex v
  abbrev pub entailments_before : ℕ → ℕ → ℕ → List Sourced
  entailments_before v i case = passed (decode.program program) (certificate program witness) v i case

  -- that case
  abbrev pub case_at : ℕ → ℕ → ℕ → Sourced
  case_at v i case = get_or (cases_from (decode.program program) (certificate program witness) v i) case (start_from (decode.program program) (certificate program witness))

  -- the certificate was accepted, and w are its witness words
  abbrev Accepted : List ℤ → Type 0
  Accepted w = AllListed program witness × (w ≡ witness_words program witness)

  spelled : (w : List ℤ) → Accepted w → w ≡ encode_all ws
  spelled w accepted = accepted.1 ∙ accepted.0.spelled

  module _ (rows w : List ℤ) (accepted : Accepted w) where
    -- ---- the start

    pub start_meets : (e : Entailment) → StandsFor program rows e (start_entailment decoded_program cert) → Meets program witness rows w 0 e (start_from decoded_program cert) (get_or ws 0 no_witness)
    unfolding sourced
    start_meets e v =
        meets program witness rows w 0 0 e (start_from decoded_program cert) (get_or ws 0 no_witness) (spelled w accepted) (sym (start_reached decoded_program cert ws accepted.0.work)) v
        (leads_at program witness [] (start_from decoded_program cert) (gathered (sourced_vertex decoded_program cert) (length decoded_program.statements + length decoded_program.procedures)) refl)
        (start_this decoded_program cert ws accepted.0.work)

    -- ---- a case

    module _ (v i case : ℕ) (low : 1 ≤ v) (high : v ≤ n program + p program) (there : i < length (path_edges cert v)) (here : case < length (cases_from decoded_program cert v i)) where
      inside : v ≤ length decoded_program.statements + length decoded_program.procedures
      inside = omega (arith, high, length_statements program, length_procedures program)

      pub case_meets : (at : ℕ) (e : Entailment) → at ≡ start_of ws (length (entailments_before v i case)) → StandsFor program rows e (get_or (cases_of program witness v (get_or (path_edges cert v) i [])) case no_entailment)
          → Meets program witness rows w at e (case_at v i case) (witness_of decoded_program cert ws v i case)
      unfolding cases_of
      case_meets at e q s =
          let z = start_from decoded_program cert in
          let (rest, split) = ahead decoded_program cert v i case z low inside there here in
          meets program witness rows w at (length (entailments_before v i case)) e (case_at v i case) (witness_of decoded_program cert ws v i case) (spelled w accepted) q
          (rw (case_entailment decoded_program cert v i case z no_entailment here) s) (leads_at program witness (entailments_before v i case) (case_at v i case) rest split)
          (case_this decoded_program cert ws accepted.0.work v i case z low inside there here)

  -- ---- what is written so far

  module _ (sizes : Sizes) (header : Header program sizes) (kept : List ℕ) where
    none_written : (buffer : List ℤ) → AllListed program witness → WrittenSoFar program witness sizes kept buffer [] 0 0 buffer
    unfolding trimmed_witnesses encode_all
    none_written buffer a = record { reached = sym (start_reached decoded_program cert ws a.work); fewer = omega arith; counted = refl; stored = λ h. refl; long = refl }

    module _ (rows w : List ℤ) (accepted : Accepted w) {buffer after : List ℤ} (e : Entailment) (end r : ℕ) where
      pub start_written : StandsFor program rows e (start_entailment decoded_program cert) → drop end w ≡ (walked_from rows e (drop 0 w)).left → end ≤ length w
          → WrittenBy rows e true (flagged (drop (first_byte e.count 1) kept)) (take (end - 0) (drop 0 w)) buffer 0 r after → WrittenSoFar program witness sizes kept buffer (entailments_before 1 0 0) r r after
      unfolding keeps entry_number trimmed_witnesses
      start_written v left within by =
          let x = get_or ws 0 no_witness in
          let m = start_meets rows w accepted e v in
          let s = start_from decoded_program cert in
          let whole : r ≡ length (encode x) = size_whole program witness rows w 0 e s x m end left within by in
          let same : end ≡ r = omega (arith, end_is program witness rows w 0 e s x m end left within) in
          let none : 0 + r ≡ r = zero-add r in
          let so : WrittenSoFar program witness sizes kept buffer (entailments_before 1 0 0) end (0 + r) after =
          one_more program witness rows w 0 e s x m end left within sizes header kept true 1 refl refl (none_written buffer accepted.0) by
          (first_reached decoded_program cert ws accepted.0.work ∙ sym (ap (λ (i : ℕ). i + length (encode x)) (start_reached decoded_program cert ws accepted.0.work) ∙ zero-add (length (encode x))))
          (left_first decoded_program cert ws accepted.0.work (flags_in sizes kept)) in
          rw (same, none) at so

      pub case_written : {first : List ℤ} {at to : ℕ} (v i case : ℕ) (low : 1 ≤ v) (high : v ≤ n program + p program) (there : i < length (path_edges cert v)) (here : case < length (cases_from decoded_program cert v i))
          → StandsFor program rows e (get_or (cases_of program witness v (get_or (path_edges cert v) i [])) case no_entailment) → drop end w ≡ (walked_from rows e (drop at w)).left → end ≤ length w
          → (keep : Bool) (entry : ℕ) → keep ≡ keeps (flags_in sizes kept) (case_at v i case).source → entry ≡ entry_number sizes (case_at v i case).leads_to
          → WrittenSoFar program witness sizes kept first (entailments_before v i case) at to buffer
          → WrittenBy rows e keep (flagged (drop (first_byte e.count entry) kept)) (take (end - at) (drop at w)) buffer to r after
          → WrittenSoFar program witness sizes kept first (entailments_before v i (case + 1)) end (to + r) after
      case_written {at = at} v i case low high there here s left within keep entry q g so by =
          let z = start_from decoded_program cert in
          let high' = inside rows w accepted v i case low high there here in
          one_more program witness rows w at e (case_at v i case) (witness_of decoded_program cert ws v i case) (case_meets rows w accepted v i case low high there here at e so.reached s) end left within sizes header kept keep entry q g so by
          (case_reached decoded_program cert ws accepted.0.work v i case z low high' there here) (left_more decoded_program cert ws accepted.0.work v i case z low high' there here (flags_in sizes kept))

  module _ (sizes : Sizes) (kept : List ℕ) where
    module _ (buffer after : List ℤ) (at to : ℕ) where
      abbrev SoFar : List Sourced → Type 0
      SoFar xs = WrittenSoFar program witness sizes kept buffer xs at to after

      -- all cases of a disjunct are one disjunct more
      pub disjunct_written : (v i cases : ℕ) → i < length (path_edges cert v) → cases ≡ length (cases_from decoded_program cert v i) → SoFar (entailments_before v i cases) → SoFar (entailments_before v (i + 1) 0)
      disjunct_written v i cases there q so = subst SoFar (ap (entailments_before v i) q ∙ passed_disjunct decoded_program cert v i there) so

      -- all disjuncts of a vertex are one vertex more
      pub vertex_written : (v count : ℕ) → 1 ≤ v → count ≡ length (path_edges cert v) → SoFar (entailments_before v count 0) → SoFar (entailments_before (v + 1) 0 0)
      vertex_written v count low q so = subst SoFar (ap (λ (i : ℕ). entailments_before v i 0) q ∙ passed_vertex decoded_program cert v low) so

      -- all vertices are all entailments
      pub all_written : (m : ℕ) → m ≡ n program + p program → SoFar (entailments_before (m + 1) 0 0) → SoFar (listed_sources program witness)
      all_written m q so =
          let count : m ≡ length decoded_program.statements + length decoded_program.procedures = omega (arith, q, length_statements program, length_procedures program) in
          subst SoFar (ap (λ (i : ℕ). entailments_before (i + 1) 0 0) count ∙ passed_all decoded_program cert) so

    -- no more words are left than there are
    pub left_fewer : {before buffer : List ℤ} {xs : List Sourced} {at to : ℕ} (w : List ℤ) → Accepted w → WrittenSoFar program witness sizes kept before xs at to buffer → to ≤ length w
    left_fewer {xs = xs} w accepted so = omega (arith, so.fewer, so.reached, start_inside ws (length xs), ap length (spelled w accepted))

    -- from one place of the pass to a later one, whatever the buffer held at first
    pub record Goes (xs : List Sourced) (at to : ℕ) (buffer : List ℤ) (ys : List Sourced) (at' to' : ℕ) (after : List ℤ) : Type 0 where
      pub on : (first : List ℤ) → WrittenSoFar program witness sizes kept first xs at to buffer → WrittenSoFar program witness sizes kept first ys at' to' after

    pub goes_none : {xs : List Sourced} {at to : ℕ} {buffer : List ℤ} → Goes xs at to buffer xs at to buffer
    goes_none = record { on = λ first h. h }
