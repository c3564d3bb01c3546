-- What is known while the queue is worked off: each byte that is 1 is that of a kept disjunct. A part of the work makes more bytes 1 and changes
-- nothing of what is in the queue; and where it looks at an entailment whose sources are kept, it keeps the targets.
use Rattle.std.specs.Prelude.{◌≡◌, refl, ◌⊎◌, Bool, true, false, List, [], ℕ, zero, suc, ◌+◌, ◌≤◌, ◌<◌, eqb, ℤ, length, get_or}
use Rattle.std.proofs.Common.{sym, ap, ◌∙◌, inl, inr, arith, eqb-true}
use Rattle.std.proofs.Math.Path.{subst}
use Rattle.std.proofs.lemmas.Bool.{eqb-false}
use Rattle.std.proofs.Math.Dec.{T}
use Rattle.basics.proofs.Booleans.{and_l}
use Rattle.words.specs.Limits.{most_vertices, most_disjuncts}
use Rattle.programs.specs.Program.{statement_at}
use Rattle.programs.specs.ProgramForm.{ProgramForm}
use Rattle.programs.specs.Decode as decode
use Rattle.certificates.specs.Certificate.{Disjunct, path_edges}
use Rattle.certificates.specs.CertificateForm.{CertificateForm}
use Rattle.certificates.specs.CertificateWords.{stored_form, row_words, certificate}
use Rattle.certificates.proofs.Entries.{summary_most}
use Rattle.certificates.specs.Sources.{Entry, of_vertex, Source, from_start, from_path, from_return, edges_of, Sourced}
use Rattle.trimming.specs.Kept.{Use, Kept, keeps}
use Rattle.trimming.proofs.Kept.{kept_by}
use Rattle.trimmed_words.specs.Trim.{listed_uses}
use Rattle.program_readers.specs.Sizes.{Header}
use Rattle.program_readers.specs.declared.places.Sizes.{Sizes}
use Rattle.vertex_entailments.specs.declared.leaving.Way.{Way}
use Rattle.vertex_entailments.specs.declared.leaving.Way.TheVariants.{Skip, Assign, Branch, Assert, Call, Exit}
use Rattle.vertex_entailments.specs.declared.leaving.Leaving.{Leaving}
use Rattle.vertex_entailments.specs.Given.{cases_of}
use Rattle.vertex_entailments.specs.Leaving.{WayForm, Leaves}
use Rattle.vertex_entailments.specs.LeavingLaws.{leaving_form}
use Rattle.entailment_sources.specs.KeptBytes.{entry_number, byte_of, has_entry, flags_in}
use Rattle.entailment_sources.specs.CaseLaws.{call_source, OwnSource, own_source, length_sourced, few_sourced}
use Rattle.entailment_sources.specs.WayLaws.{way_source, LeadsTo, SourcesKept, leaving_case}
use Rattle.used_targets.specs.UseTable.{names, most_cases, table_size, slot_of, start_sourced, cases_from, Listed, Tabled}
use Rattle.kept_disjuncts.specs.Queue.{Queued, Filled, Named, NamesPlaces}
use Rattle.kept_disjuncts.specs.FlagBytes.{PlaceOf, place_for, number_range, same_place, flag_place, flag_byte, byte_flag, More, more_flags, more_kept}
use Rattle.kept_disjuncts.specs.NamedTargets.{TargetsThere, kept_there, edges_range}

-- ---- what stands

-- b is the place of a kept disjunct
pub record KeptAt (us : List Use) (sizes : Sizes) (b : ℕ) : Type 0 where
  pub entry : Entry
  pub number : ℕ
  pub place : PlaceOf sizes entry number b
  pub kept : Kept us entry number

pub record Standing (us : List Use) (sizes : Sizes) (bytes queue : List ℕ) (count : ℕ) : Type 0 where
  pub queued : Queued bytes queue count
  pub known : (b : ℕ) → get_or bytes b 0 ≡ 1 → KeptAt us sizes b

pub sound : {us : List Use} {sizes : Sizes} {bytes queue : List ℕ} {count : ℕ} → Standing us sizes bytes queue count → (t : Entry) (j : ℕ) → T (flags_in sizes bytes t j) → Kept us t j
sound {us} {sizes} {bytes} x t j h =
    let k = x.known (place_for sizes t j) (flag_byte sizes bytes t j h) in
    let (e, f) = same_place sizes k.place (flag_place sizes bytes t j h) in
    subst (λ (s : Entry). Kept us s j) e (subst (λ (i : ℕ). Kept us k.entry i) f k.kept)

-- from one state to a later one
pub record Grown (us : List Use) (sizes : Sizes) (bytes queue : List ℕ) (count : ℕ) (bytes' queue' : List ℕ) (count' : ℕ) : Type 0 where
  pub standing : Standing us sizes bytes' queue' count'
  pub longer : count ≤ count'
  pub front : (h : ℕ) → h < count → get_or queue' h 0 ≡ get_or queue h 0
  pub more : More bytes bytes'

pub grown_none : {us : List Use} {sizes : Sizes} {bytes queue : List ℕ} {count : ℕ} → Standing us sizes bytes queue count → Grown us sizes bytes queue count bytes queue count
grown_none x = record { standing = x; longer = omega arith; front = λ h l. refl; more = λ b e. e }

pub grown_then : {us : List Use} {sizes : Sizes} {bytes queue bytes' queue' bytes'' queue'' : List ℕ} {count count' count'' : ℕ}
    → Grown us sizes bytes queue count bytes' queue' count' → Grown us sizes bytes' queue' count' bytes'' queue'' count'' → Grown us sizes bytes queue count bytes'' queue'' count''
grown_then x y =
    record { standing = y.standing; longer = omega (arith, x.longer, y.longer); front = λ h l. y.front h (omega (arith, x.longer)) ∙ x.front h l; more = λ b e. y.more b (x.more b e) }

-- ---- what the certificate's words are known to be

pub record Known (program witness : List ℤ) (sizes : Sizes) (table : List ℕ) : Type 0 where
  pub header : Header program sizes
  pub program_form : ProgramForm program
  pub certificate_form : CertificateForm program witness
  pub there : TargetsThere program witness
  pub start : ℕ
  pub tabled : Tabled program witness table start
  pub table_length : length table ≡ table_size

-- ---- one entailment is looked at

-- the byte that says what its witness names
abbrev pub case_byte : List ℕ → ℕ → ℕ → ℕ → ℕ
case_byte table v i case = get_or table (slot_of v i case) 0

module _ (program witness : List ℤ) (sizes : Sizes) (table : List ℕ) where
  -- entailment `case` of disjunct i of v
  abbrev pub case_here : ℕ → ℕ → ℕ → Sourced
  case_here v i case = get_or (cases_from program witness v i) case (start_sourced program witness)

  -- if its sources were kept, its targets are
  pub record CaseDone (bytes bytes' : List ℕ) (v i case : ℕ) : Type 0 where
    pub done : Listed program witness v i case → T (keeps (flags_in sizes bytes) (case_here v i case).source)
        → (j : ℕ) → T (names (case_byte table v i case) j) → T (flags_in sizes bytes' (case_here v i case).leads_to j)

  pub done_then : {bytes bytes' bytes'' bytes''' : List ℕ} {v i case : ℕ} → More bytes bytes' → More bytes'' bytes''' → CaseDone bytes' bytes'' v i case → CaseDone bytes bytes''' v i case
  done_then {bytes} {bytes'} {bytes''} {bytes'''} {v} {i} {case} f g x =
      record { done = λ l h j t. more_flags sizes bytes'' bytes''' g (case_here v i case).leads_to j (x.done l (more_kept sizes bytes bytes' f (case_here v i case).source h) j t) }

  -- the same, if it is a return by a disjunct of q's summary
  pub record ReturnDone (bytes bytes' : List ℕ) (q v i case : ℕ) : Type 0 where
    pub returns : Listed program witness v i case → (l : ℕ) → (case_here v i case).source ≡ from_return v i q l → CaseDone bytes bytes' v i case

  pub return_then : {bytes bytes' bytes'' bytes''' : List ℕ} {q v i case : ℕ} → More bytes bytes' → More bytes'' bytes''' → ReturnDone bytes' bytes'' q v i case → ReturnDone bytes bytes''' q v i case
  return_then f g x = record { returns = λ m l e. done_then f g (x.returns m l e) }

  module _ (K : Known program witness sizes table) {bytes queue : List ℕ} {count : ℕ} (x : Standing (listed_uses program witness) sizes bytes queue count) (v i case : ℕ) where
    abbrev disjunct : Disjunct
    disjunct = get_or (path_edges (certificate program witness) v) i []

    -- there is no such entailment
    pub done_past : {cases : ℕ} → ((d : Disjunct) → cases ≡ length (cases_of program witness v d)) → cases ≤ case → CaseDone bytes bytes v i case
    unfolding cases_of
    done_past h b = record { done = λ l t j s. absurd (omega (arith, l.this, h disjunct, length_sourced (decode.program program) (certificate program witness) v i disjunct (start_sourced program witness) (statement_at (decode.program program) v))) }

    -- its sources are not kept
    pub done_not : SourcesKept program sizes v i case bytes false → CaseDone bytes bytes v i case
    done_not s = record { done = λ l t. absurd (subst T (sym (s.sources (certificate program witness) disjunct (start_sourced program witness) l.this)) t) }

    module _ {cases : ℕ} (h : (d : Disjunct) → cases ≡ length (cases_of program witness v d)) (b : case < cases) (s : SourcesKept program sizes v i case bytes true) (low : 1 ≤ v) (high : v ≤ sizes.statements + sizes.procedures) where
      this : case < length (cases_from program witness v i)
      unfolding cases_of
      this = omega (arith, h disjunct, length_sourced (decode.program program) (certificate program witness) v i disjunct (start_sourced program witness) (statement_at (decode.program program) v))

      sources_kept : T (keeps (flags_in sizes bytes) (case_here v i case).source)
      sources_kept = subst T (s.sources (certificate program witness) disjunct (start_sourced program witness) this) tt

      own_kept : (a : Source) → OwnSource v i case a → T (keeps (flags_in sizes bytes) a) → T (flags_in sizes bytes (of_vertex v) i)
      unfolding OwnSource keeps
      own_kept from_start o t = absurd o
      own_kept (from_path u j) (e, f) t = subst (λ (w : ℕ). T (flags_in sizes bytes (of_vertex w) i)) e (subst (λ (k : ℕ). T (flags_in sizes bytes (of_vertex u) k)) f t)
      own_kept (from_return u j q l) (e, f, g) t =
          subst (λ (w : ℕ). T (flags_in sizes bytes (of_vertex w) i)) e
          (subst (λ (k : ℕ). T (flags_in sizes bytes (of_vertex u) k)) f (and_l (flags_in sizes bytes (of_vertex u) j) _ t))

      pub case_listed : Listed program witness v i case
      unfolding edges_of
      case_listed =
          let own = own_kept (case_here v i case).source (own_source (decode.program program) (certificate program witness) v i disjunct (start_sourced program witness) (statement_at (decode.program program) v) case this) sources_kept in
          record {
            low = low;
            high = omega (arith, high, K.header.statements, K.header.procedures);
            disjunct = kept_there program witness K.there (sound x (of_vertex v) i own);
            this = this;
          }

      module _ {entry : ℕ} (leads : LeadsTo program sizes v case entry) where
        entry_is : entry ≡ entry_number sizes (case_here v i case).leads_to
        entry_is = leads.leads (certificate program witness) i disjunct (start_sourced program witness) this

        -- the place of a target that is named
        target_place_lem : (j : ℕ) → T (names (case_byte table v i case) j) → PlaceOf sizes (case_here v i case).leads_to j (byte_of entry j)
        target_place_lem j t =
            let (u, m, used) = K.tabled.listed v i case case_listed in
            let r = edges_range program witness K.header u.leads_to j (K.there u m j ((used.targets j).0 t)) in
            record { has = subst (λ (a : Entry). T (has_entry sizes a)) used.leads_to r.0; few = r.1; at = ap (λ (e : ℕ). byte_of e j) entry_is }

        pub case_places : NamesPlaces (case_byte table v i case) entry
        case_places j t =
            let a = target_place_lem j t in
            let r = number_range sizes (case_here v i case).leads_to a.has in
            (omega (arith, entry_is, r.0), omega (arith, entry_is, r.1, K.header.few_statements, K.header.few_procedures), a.few)

        target_kept : (j : ℕ) → T (names (case_byte table v i case) j) → Kept (listed_uses program witness) (case_here v i case).leads_to j
        target_kept j t =
            let (u, m, used) = K.tabled.listed v i case case_listed in
            subst (λ (a : Entry). Kept (listed_uses program witness) a j) used.leads_to
            (kept_by (listed_uses program witness) (flags_in sizes bytes) (sound x) u.source u.leads_to u.targets m (subst (λ (a : Source). T (keeps (flags_in sizes bytes) a)) (sym used.source) sources_kept) j ((used.targets j).0 t))

        module _ {bytes' queue' : List ℕ} {count' : ℕ} (f : Filled (Named (case_byte table v i case) entry) bytes queue count bytes' queue' count') where
          known : (b : ℕ) → (get_or bytes b 0 ≡ 1) ⊎ Named (case_byte table v i case) entry b → KeptAt (listed_uses program witness) sizes b
          known b (inl e) = x.known b e
          known b (inr (j, t, e)) =
              let a = target_place_lem j t in
              record { entry = (case_here v i case).leads_to; number = j; place = record { has = a.has; few = a.few; at = e ∙ a.at }; kept = target_kept j t }

          pub case_grown : Grown (listed_uses program witness) sizes bytes queue count bytes' queue' count'
          case_grown = record { standing = record { queued = f.queued; known = λ b e. known b (f.only b e) }; longer = f.longer; front = f.front; more = f.more }

          pub case_done : CaseDone bytes bytes' v i case
          case_done = record { done = λ l t j s. byte_flag sizes bytes' (target_place_lem j s) (f.new (byte_of entry j) (j, s, refl)) }

-- ---- calls of a procedure

unfoldable pub calls_of : Way → ℕ → Bool
calls_of (Skip r) q = false
calls_of (Assign r) q = false
calls_of (Branch r) q = false
calls_of (Assert r) q = false
calls_of (Call r) q = eqb r.callee.0 q
calls_of (Exit e) q = false

-- the callee that a source names, counted from 1; 0 for none
callee_in : Source → ℕ
callee_in from_start = 0
callee_in (from_path v i) = 0
callee_in (from_return v i q l) = suc q

other_callee : (v r q i case k : ℕ) → eqb r q ≡ false → call_source v r case i ≡ from_return v i q k → ⊥
unfolding call_source callee_in
other_callee v r q i zero k e s = let z : 0 ≡ suc q = ap callee_in s in omega arith
other_callee v r q i (suc j) k e s = let z : suc r ≡ suc q = ap callee_in s in eqb-false r q e (omega arith)

other_source : (v q i case k : ℕ) (way : Way) → calls_of way q ≡ false → way_source v way case i ≡ from_return v i q k → ⊥
unfolding way_source calls_of callee_in
other_source v q i case k (Skip r) e s = let z : 0 ≡ suc q = ap callee_in s in omega arith
other_source v q i case k (Assign r) e s = let z : 0 ≡ suc q = ap callee_in s in omega arith
other_source v q i case k (Branch r) e s = let z : 0 ≡ suc q = ap callee_in s in omega arith
other_source v q i case k (Assert r) e s = let z : 0 ≡ suc q = ap callee_in s in omega arith
other_source v q i case k (Call r) e s = other_callee v r.callee.0 q i case k e s
other_source v q i case k (Exit p) e s = let z : 0 ≡ suc q = ap callee_in s in omega arith

-- ---- all that come from a disjunct

module _ {program witness : List ℤ} {sizes : Sizes} {table : List ℕ} (K : Known program witness sizes table) {bytes bytes' : List ℕ} where
  -- each of the 9 that a disjunct may have
  pub all_cases : {v i : ℕ} → ((case : ℕ) → case < most_cases → CaseDone program witness sizes table bytes bytes' v i case) → (case : ℕ) → CaseDone program witness sizes table bytes bytes' v i case
  all_cases {v} {i} d case =
      record {
        done = λ l. (d case (omega (
          arith,
          l.this,
          few_sourced (decode.program program) (certificate program witness) v i (get_or (path_edges (certificate program witness) v) i []) (start_sourced program witness)
              (summary_most program witness (stored_form witness)) (statement_at (decode.program program) v),
        ))).done l;
      }

  -- those of each of the 8 disjuncts that a vertex may have
  pub all_disjuncts : {v case : ℕ} → ((i : ℕ) → i < most_disjuncts → CaseDone program witness sizes table bytes bytes' v i case) → (i : ℕ) → CaseDone program witness sizes table bytes bytes' v i case
  unfolding edges_of
  all_disjuncts {v} d i = record { done = λ l. (d i (edges_range program witness K.header (of_vertex v) i l.disjunct).1).done l }

  -- those of each vertex
  pub all_vertices : {q case : ℕ} → ((v : ℕ) → 1 ≤ v → v ≤ sizes.statements + sizes.procedures → (i : ℕ) → ReturnDone program witness sizes table bytes bytes' q v i case) → (v i : ℕ) → ReturnDone program witness sizes table bytes bytes' q v i case
  all_vertices d v i = record { returns = λ m. (d v m.low (omega (arith, m.high, K.header.statements, K.header.procedures)) i).returns m }

  -- a vertex that is no call of q has no such return
  pub no_return : {l : Leaving} {q i case : ℕ} → Leaves program sizes l → calls_of l.way q ≡ false → ReturnDone program witness sizes table bytes bytes' q l.vertex.0 i case
  no_return {l} {q} {i} {case} x e =
      record {
        returns = λ m k s. absurd (other_source l.vertex.0 q i case k l.way e
            (sym ((leaving_case K.program_form x case).is (certificate program witness) i (get_or (path_edges (certificate program witness) l.vertex.0) i []) (start_sourced program witness) m.this).0 ∙ s));
      }

-- ---- what the code asks for

module _ {program witness : List ℤ} {sizes : Sizes} {table : List ℕ} (K : Known program witness sizes table) where
  pub known_vertices : sizes.statements + sizes.procedures ≤ most_vertices
  known_vertices = omega (arith, K.header.few_statements, K.header.few_procedures)

  pub known_way : {l : Leaving} → Leaves program sizes l → WayForm l.way
  known_way x = leaving_form {witness = witness} {rows = row_words program witness} (record { header = K.header; program_form = K.program_form; certificate_form = K.certificate_form; row_words = refl }) x

-- ---- one after the other, from 0 on

-- what is said of each number below k
pub record Looked (us : List Use) (sizes : Sizes) (D : ℕ → List ℕ → List ℕ → Type 0) (bytes queue : List ℕ) (count : ℕ) (bytes' queue' : List ℕ) (count' k : ℕ) : Type 0 where
  pub grown : Grown us sizes bytes queue count bytes' queue' count'
  pub done : (i : ℕ) → i < k → D i bytes bytes'

-- it stays so
abbrev pub Stays : (ℕ → List ℕ → List ℕ → Type 0) → Type 0
Stays D = (i : ℕ) (bytes bytes' bytes'' bytes''' : List ℕ) → More bytes bytes' → More bytes'' bytes''' → D i bytes' bytes'' → D i bytes bytes'''

module _ {us : List Use} {sizes : Sizes} (D : ℕ → List ℕ → List ℕ → Type 0) {bytes queue : List ℕ} {count : ℕ} where
  pub looked_none : Standing us sizes bytes queue count → Looked us sizes D bytes queue count bytes queue count 0
  looked_none x = record { grown = grown_none x; done = λ i l. absurd (omega arith) }

  pub looked_next : {bytes' queue' bytes'' queue'' : List ℕ} {count' count'' k : ℕ} → Stays D → Looked us sizes D bytes queue count bytes' queue' count' k → Grown us sizes bytes' queue' count' bytes'' queue'' count'' → D k bytes' bytes''
      → Looked us sizes D bytes queue count bytes'' queue'' count'' (k + 1)
  looked_next {bytes'} {queue'} {bytes''} {queue''} {count'} {count''} {k} stays x y d = record { grown = grown_then x.grown y; done = λ i l. go i l (eqb i k) refl }
    where
      go : (i : ℕ) → i < k + 1 → (b : Bool) → eqb i k ≡ b → D i bytes bytes''
      go i l true e = subst (λ (j : ℕ). D j bytes bytes'') (sym (eqb-true i k e)) (stays k bytes bytes' bytes'' bytes'' x.grown.more (λ b h. h) d)
      go i l false e = stays i bytes bytes bytes' bytes'' (λ b h. h) y.more (x.done i (let n = eqb-false i k e in omega arith))
