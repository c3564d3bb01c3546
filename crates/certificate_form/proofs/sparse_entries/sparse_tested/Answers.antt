-- The walk begins at the entry's place, so it answers 5; then 25 asks whether that place is the next free one, and 15 is read off the walk.
use Rattle.std.specs.Prelude.{Option, Some, None, Ok}
use Rattle.std.proofs.Common.{◌≡◌, ℕ, Bool, true, false, List, ℤ, sym, ap, ap₂, ◌∙◌}
use Rattle.std.proofs.Math.Bool.{◌&&◌, ◌||◌, and-false}
use Rattle.std.proofs.Math.Dec.{eqb}
use Rattle.std.proofs.lemmas.Result.{err_from_is_err_and}
use Rattle.std.proofs.lemmas.Bool.{not-true, not-false}
use Rattle.words.specs.declared.StoredForm.TheVariants.{Sparse}
use Rattle.words.specs.Limits.{most_words, most_disjuncts}
use Rattle.words.specs.Words.{word, within}
use Rattle.words.proofs.Ranges.{exact_word}
use Rattle.certificates.specs.CertificateWords.{count_place, count_of, place_word, place_of}
use Rattle.certificates.specs.CertificateTests.{disjuncts_pass, entry_passes_of, entry_strict_of}
use Rattle.certificates.proofs.EntryTests.{first_five, first_twenty_five, first_fifteen, all_three}
use Rattle.sparse_rows.specs.declared.Walked.{Walked}
use Rattle.sparse_rows.specs.Walks.{none_failed, some_passed}
use Rattle.certificate_form.specs.DisjunctWalks.{disjuncts_walked, disjuncts_walk}
use Rattle.certificate_form.specs.EntryOrder.{varies_of, five_is, strict_is, fifteen_is, end_is}
use Rattle.certificate_form.specs.FreePlaces.{free_after}
use Rattle.certificate_form.specs.Outcomes.{outcome, none_refused, some_handed}
use Rattle.certificate_form.proofs.sparse_entries.sparse_tested.Goals as goal
use Rattle.certificate_form.proofs.sparse_entries.sparse_tested.Goals.{Start}

-- an entry's three tests, and the words that they are about
module _ (c : Start) where
  abbrev rows : List ℤ
  rows = c.args.rows.now

  abbrev witness : List ℤ
  witness = c.args.witness.now

  abbrev entries : ℕ
  entries = c.args.entries

  abbrev columns : ℕ
  columns = c.args.columns

  abbrev free : ℕ
  free = c.args.free

  abbrev i : ℕ
  i = c.args.i

  abbrev count : ℕ
  count = count_of witness i

  abbrev place : ℕ
  place = place_of witness entries i

  abbrev passes : Bool
  passes = entry_passes_of Sparse rows witness entries columns i

  abbrev strict : Bool
  strict = entry_strict_of Sparse rows witness entries columns free i

  abbrev varies : Bool
  varies = varies_of rows witness entries columns i Sparse

  abbrev next : ℕ
  next = free_after Sparse rows columns count free

  abbrev walks : Bool
  walks = disjuncts_pass Sparse rows columns count place

  abbrev ends : Walked
  ends = disjuncts_walked rows columns count place

  -- what the walk says of it
  module _ {n at : ℕ} {walk : Option Walked} (ns : n ≡ count) (ats : at ≡ place) (is : walk ≡ disjuncts_walk rows columns n at) where
    walk_is : walk ≡ disjuncts_walk rows columns count place
    walk_is = rw (← ns, ← ats) is

    failed : walk ≡ None → walks ≡ false
    failed e = none_failed walks ends (sym walk_is ∙ e)

    passed : {x : Walked} → walk ≡ Some x → (walks ≡ true) × (x ≡ ends)
    passed {x} e = some_passed walks ends x (sym walk_is ∙ e)

  -- test 5 is the two ranges and the walk
  five : {counted placed : Bool} {n : ℕ} → counted ≡ within 0 most_disjuncts (word witness (count_place i)) → placed ≡ within 0 most_words (place_word witness entries i) → n ≡ count → passes ≡ (counted && (eqb n 0 || placed)) && walks
  five {counted} {placed} e f g = five_is rows witness entries columns i counted placed e f ∙ ap (λ (n : ℕ). (counted && (eqb n 0 || placed)) && walks) (sym g)

  -- test 25, that the place is the next free one, and what the walk says
  told_strict : {here : Bool} → here ≡ within free free (place_word witness entries i) → {x : Walked} → x ≡ ends → strict ≡ here && x.strict
  told_strict {here} e is = rw is (strict_is rows witness entries columns i free c.requires.free_le_most_words.0 here (e ∙ exact_word free (place_word witness entries i)))

  -- test 15 is what the walk says
  told_varies : walks ≡ true → strict ≡ true → {x : Walked} → x ≡ ends → varies ≡ x.filled
  told_varies h s is = rw is (sym (fifteen_is rows witness entries columns i free c.requires.free_le_most_words.0 h s))

pub returns-in_err-walked : goal.returns-in_err-walked
unfolding outcome
returns-in_err-walked c =
    let s = (goal.at.returns-in_err-walked c).Start in
    let (none, is) = none_refused c.disjuncts_walked.result c.at.result c.in_err-walked.field-0.0 (sym c.ok_or.ensures.value ∙ c.in_err-walked.was) in
    let no = failed s c.entry_count-count.ensures.value c.entry_place-place.ensures.value c.disjuncts_walked.ensures none in
    let five = five s c.word_within-counted.ensures c.word_within-placed.ensures c.entry_count-count.ensures.value in
    let (r, result, refusal) = err_from_is_err_and c.from_residual.result c.from_residual.ensures.1 in
    rw (result, refusal, is, c.at.ensures)
    (ap (λ o. outcome o (next s)) (sym (first_five (count_place (i s)) (passes s) (strict s) (varies s) (five ∙ (rw no (and-false _))))))

pub returns-then-not-counted-count : goal.returns-then-not-counted-count
unfolding outcome
returns-then-not-counted-count c =
    let s = (goal.at.returns-then-not-counted-count c).Start in
    let five = five s c.word_within-counted.ensures c.word_within-placed.ensures c.entry_count-count.ensures.value in
    rw c.at-then-not-counted-count.ensures (ap (λ o. outcome o (next s)) (sym (first_five (count_place (i s)) (passes s) (strict s) (varies s) (five ∙ ap (λ (b : Bool). b && walks s) c.if-not-counted-count.true))))

pub returns-then-not-here-walked : goal.returns-then-not-here-walked
unfolding outcome
returns-then-not-here-walked c =
    let s = (goal.at.returns-then-not-here-walked c).Start in
    let (held, is) = passed s c.entry_count-count.ensures.value c.entry_place-place.ensures.value c.disjuncts_walked.ensures (some_handed c.disjuncts_walked.result c.at.result c.in_ok-walked.walked (sym c.ok_or.ensures.value ∙ c.in_ok-walked.was)) in
    let five = five s c.word_within-counted.ensures c.word_within-placed.ensures c.entry_count-count.ensures.value ∙ ap₂ (λ (p q : Bool). p && q) c.if-not-counted-count.false held in
    rw c.at-then-not-here-walked.ensures (ap (λ o. outcome o (next s)) (sym (first_twenty_five (count_place (i s)) (passes s) (strict s) (varies s) five (told_strict s c.word_within-here.ensures is ∙ c.if-not-here-walked.true))))

pub returns-then-not-walked : goal.returns-then-not-walked
unfolding outcome
returns-then-not-walked c =
    let s = (goal.at.returns-then-not-walked c).Start in
    let (held, is) = passed s c.entry_count-count.ensures.value c.entry_place-place.ensures.value c.disjuncts_walked.ensures (some_handed c.disjuncts_walked.result c.at.result c.in_ok-walked.walked (sym c.ok_or.ensures.value ∙ c.in_ok-walked.was)) in
    let five = five s c.word_within-counted.ensures c.word_within-placed.ensures c.entry_count-count.ensures.value ∙ ap₂ (λ (p q : Bool). p && q) c.if-not-counted-count.false held in
    let strictly = told_strict s c.word_within-here.ensures is ∙ c.if-not-here-walked.false in
    rw c.at-then-not-walked.ensures (ap (λ o. outcome o (next s)) (sym (first_fifteen (count_place (i s)) (passes s) (strict s) (varies s) five strictly (told_varies s held strictly is ∙ not-true _ c.if-not-walked.true))))

pub returns : goal.returns
unfolding outcome free_after
returns c =
    let s = (goal.at.returns c).Start in
    let (held, is) = passed s c.entry_count-count.ensures.value c.entry_place-place.ensures.value c.disjuncts_walked.ensures (some_handed c.disjuncts_walked.result c.at.result c.in_ok-walked.walked (sym c.ok_or.ensures.value ∙ c.in_ok-walked.was)) in
    let five = five s c.word_within-counted.ensures c.word_within-placed.ensures c.entry_count-count.ensures.value ∙ ap₂ (λ (p q : Bool). p && q) c.if-not-counted-count.false held in
    let strictly = told_strict s c.word_within-here.ensures is ∙ c.if-not-here-walked.false in
    let none = all_three (count_place (i s)) (passes s) (strict s) (varies s) five strictly (told_varies s held strictly is ∙ not-false _ c.if-not-walked.false) in
    rw (none, is) (ap Ok (end_is (rows s) (witness s) (entries s) (columns s) (i s) (free s) c.requires.free_le_most_words.0 held strictly))
