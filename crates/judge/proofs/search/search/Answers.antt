-- Each loop keeps that the entailments so far held, judged from where the loop began; a refusal goes up through the three loops, since an ended
-- judgement stays so.
use Rattle.std.proofs.Common.{◌≡◌, List, ◌+◌, ◌≤◌, length, get_or, drop, refl, sym, arith}
use Rattle.words.specs.Limits.{most_words, most_globals, most_locals}
use Rattle.programs.specs.ProgramWords.{k}
use Rattle.programs.specs.Decode as decode
use Rattle.certificates.specs.CertificateWords.{stored_form, row_count, count_of, place_of, certificate}
use Rattle.certificates.specs.Entailments.{Entailment, from_vertex}
use Rattle.certificates.specs.Judgement.{running, judge}
use Rattle.certificate_readers.specs.Disjuncts.{DisjunctHere}
use Rattle.answers.specs.Answers.{number_of}
use Rattle.entailment_judge.specs.Answers.{verdict_of}
use Rattle.entailment_judge.specs.Judging.{judged_witness}
use Rattle.vertex_entailments.specs.Given.{cases_of, disjunct_at, no_entailment}
use Rattle.judge.specs.SearchLaws.{begins, goes_on, Ends, ends_on, grows_taken, grows_gathered, step_next, step_ended}
use Rattle.vertex_entailments.specs.Targets.{row_words_few}
use Rattle.vertex_entailments.specs.LeavingLaws.{leaving_columns, leaving_shape, leaving_form, leaving_formed}
use Rattle.vertex_entailments.specs.VertexDisjuncts.{first_place, vertex_disjunct}
use Rattle.judge.proofs.JudgedDisjuncts.{grows_disjuncts, disjunct_on, disjunct_ends, next_on, vertex_known}
use Rattle.judge.proofs.LoopHeads.{standing_answer}
use Rattle.judge.proofs.search.search.Goals.{After-leaving_of-leaving, After-entry_place-place, In-loop-d, In-loop-case, After-judge_entailment-verdict}
use Rattle.judge.proofs.search.search.Goals as goal

-- ---- what is known at a vertex, a disjunct and a case

-- what leaves the vertex has its columns
columns_are : (c : After-leaving_of-leaving) → let r = c.leaving_of-leaving.result in (r.shape.k ≡ k c.args.program.now (c.search.i + 1)) × (r.shape.k ≤ most_globals + most_locals)
columns_are c =
    let leaves = c.leaving_of-leaving.ensures.leaves in
    (rw c.leaving_of-leaving.ensures.vertex_value at (leaving_columns c.requires.given leaves), (leaving_shape c.requires.given leaves).few_columns)

-- its entry has its number of disjuncts, and stands at its place
entry_counted : (c : After-entry_place-place) → c.entry_count-disjuncts.result ≡ count_of c.args.witness.now (c.search.i + 1)
entry_counted c = rw c.path_entry-entry.ensures at c.entry_count-disjuncts.ensures.value

entry_placed : (c : After-entry_place-place) → let a = c.args in c.entry_place-place.result ≡ place_of a.witness.now (a.sizes.statements + a.sizes.procedures + a.sizes.procedures) (c.search.i + 1)
entry_placed c = rw c.path_entry-entry.ensures at c.entry_place-place.ensures.value

-- the disjunct of this turn
here : (c : In-loop-d) → let a = c.args in let v = c.search.i + 1 in
    DisjunctHere (stored_form a.witness.now) (k a.program.now v + k a.program.now v) a.rows.now (c.loop-d.place + 1) (row_count a.rows.now c.loop-d.place)
here c =
    let a = c.args in
    let m = c.loop-d in
    let v = c.search.i + 1 in
    let counted : c.entry_count-disjuncts.result ≡ count_of a.witness.now v = rw c.path_entry-entry.ensures at c.entry_count-disjuncts.ensures.value in
    let placed : c.entry_place-place.result ≡ place_of a.witness.now (a.sizes.statements + a.sizes.procedures + a.sizes.procedures) v = rw c.path_entry-entry.ensures at c.entry_place-place.ensures.value in
    vertex_disjunct c.requires.given v (omega arith) (omega arith) counted placed m.d m.place c.loop-d-test.true (m.invariant.place c.loop-d-test.true)

-- its entailments
abbrev cases_here : In-loop-d → List Entailment
cases_here c =
    let a = c.args in
    let v = c.search.i + 1 in
    cases_of a.program.now a.witness.now v (disjunct_at (stored_form a.witness.now) a.program.now a.rows.now v (c.loop-d.place + 1) (row_count a.rows.now c.loop-d.place))

-- they are as many as were counted
counted : (c : In-loop-d) → c.case_count-cases.result ≡ length (cases_here c)
counted c =
    let a = c.args in
    let l = c.leaving_of-leaving in
    let given = c.requires.given in
    rw l.ensures.vertex_value at
    (c.case_count-cases.ensures.value a.program.now (disjunct_at (stored_form a.witness.now) a.program.now a.rows.now (c.search.i + 1) (c.loop-d.place + 1) (row_count a.rows.now c.loop-d.place)) given.header given.program_form l.ensures.leaves)

-- the step is that of this case
judged_here : (c : After-judge_entailment-verdict) → let a = c.args in let v = c.search.i + 1 in
    c.judge_entailment-verdict.result ≡ verdict_of a.w.now (judged_witness (get_or (cases_of a.program.now a.witness.now v (disjunct_at (stored_form a.witness.now) a.program.now a.rows.now v (c.loop-d.place + 1) (row_count a.rows.now c.loop-d.place))) c.loop-case.case no_entailment) (drop c.loop-case.at a.w.now))
judged_here c = rw (c.entailment_at-e.ensures.is, c.leaving_of-leaving.ensures.vertex_value) at c.judge_entailment-verdict.ensures

-- ---- the goals

pub search-init : goal.search-init
search-init c =
    let a = c.args in
    record {
      row_places_length = refl;
      premises_length = refl;
      places_length = refl;
      standing =
          record {
            through = refl;
            inside = c.requires.from_in_bounds;
            few = omega arith;
            done = begins (grows_gathered (from_vertex (decode.program a.program.now) (certificate a.program.now a.witness.now)) 0) (running (drop a.from a.w.now) 1);
          };
    }

pub summary_places-requires-clause-way_form : goal.summary_places-requires-clause-way_form
summary_places-requires-clause-way_form c = leaving_form c.requires.given c.leaving_of-leaving.ensures.leaves

pub summary_places-requires-clause-shape_form : goal.summary_places-requires-clause-shape_form
summary_places-requires-clause-shape_form c = leaving_shape c.requires.given c.leaving_of-leaving.ensures.leaves

pub summary_places-requires-clause-formed_by : goal.summary_places-requires-clause-formed_by
summary_places-requires-clause-formed_by c = (leaving_formed c.requires.given c.leaving_of-leaving.ensures.leaves, row_words_few c.requires.given)

pub case_count-cases-requires-clause-way_form : goal.case_count-cases-requires-clause-way_form
case_count-cases-requires-clause-way_form c = leaving_form c.requires.given c.leaving_of-leaving.ensures.leaves

pub loop-d-init : goal.loop-d-init
loop-d-init c =
    let o = c.search in
    let a = c.args in
    let v = o.i + 1 in
    let columns = k a.program.now v + k a.program.now v in
    record {
      row_places_length = o.invariant.row_places_length;
      premises_length = refl;
      standing =
          record {
            through = o.invariant.standing.through;
            inside = o.invariant.standing.inside;
            few = omega (arith, o.invariant.standing.few);
            done = begins (grows_disjuncts (stored_form a.witness.now) a.rows.now columns (cases_of a.program.now a.witness.now v) c.entry_place-place.result 0) (running (drop o.at a.w.now) o.held);
          };
      place = λ h. first_place (stored_form a.witness.now) a.rows.now columns c.entry_place-place.result;
    }

pub loop-case-init : goal.loop-case-init
loop-case-init c =
    let m = c.loop-d in
    record {
      row_places_length = m.invariant.row_places_length;
      premises_length = refl;
      standing =
          record {
            through = m.invariant.standing.through;
            inside = m.invariant.standing.inside;
            few = omega (arith, m.invariant.standing.few);
            done = begins (grows_taken (cases_here c)) (running (drop m.at c.args.w.now) m.held);
          };
    }

pub entailment_at-e-requires-clause-disjunct_here :
    goal.entailment_at-e-requires-clause-disjunct_here
entailment_at-e-requires-clause-disjunct_here c =
    rw c.leaving_of-leaving.ensures.vertex_value (here (goal.at.entailment_at-e-requires-clause-disjunct_here c).In-loop-d)

pub loop-case-preserved : goal.loop-case-preserved
loop-case-preserved c =
    let at = goal.at.loop-case-preserved c in
    let w = c.args.w.now in
    let m = c.loop-d in
    let l = c.loop-case in
    let s = l.invariant.standing in
    let step = step_next (cases_here at.In-loop-d) l.case (omega (arith, counted at.In-loop-d)) w l.at s.inside l.held c.judge_entailment-verdict.result (judged_here at.After-judge_entailment-verdict) c.in-Ok.next c.in-Ok.is
    (running (drop m.at w) m.held) s.done in
    record {
      row_places_length = omega arith;
      premises_length = omega arith;
      standing =
          record {
            through = refl;
            inside = step.1;
            few = omega (arith, s.few);
            done = step.0;
          };
    }

pub overflow_add-k : goal.overflow_add-k
overflow_add-k c = omega (arith, (columns_are (goal.at.overflow_add-k c).After-leaving_of-leaving).1)

pub next_place-place-requires : goal.next_place-place-requires
next_place-place-requires c =
    let at = goal.at.next_place-place-requires c in
    let ends : c.loop-d.place + 1 ≤ most_words = omega (arith, (here at.In-loop-d).stand.inside, row_words_few c.requires.given) in
    (omega (arith, (columns_are at.After-leaving_of-leaving).1), omega arith)

pub loop-d-preserved : goal.loop-d-preserved
loop-d-preserved c =
    let at = goal.at.loop-d-preserved c in
    let a = c.args in
    let o = c.search in
    let m = c.loop-d in
    let l = c.loop-case in
    let v = o.i + 1 in
    let width = c.leaving_of-leaving.result.shape.k in
    let columns = k a.program.now v + k a.program.now v in
    let place = c.entry_place-place.result in
    let here = m.invariant.place (omega arith) in
    record {
      row_places_length = l.invariant.row_places_length;
      premises_length = omega arith;
      standing =
          record {
            through = l.invariant.standing.through;
            inside = l.invariant.standing.inside;
            few = omega (arith, l.invariant.standing.few, c.case_count-cases.ensures.upper_bound);
            done = disjunct_on (stored_form a.witness.now) a.rows.now columns (cases_of a.program.now a.witness.now v) place c.entry_count-disjuncts.result m.d m.place l.case
                (running (drop o.at a.w.now) o.held) (running (drop m.at a.w.now) m.held) (omega arith) here (omega (arith, counted at.In-loop-d))
                m.invariant.standing.done l.invariant.standing.done;
          };
      place = λ h. next_on (stored_form a.witness.now) a.rows.now columns place m.d m.place c.next_place-place.result (width + width) c.stored_form-form.result here (c.next_place-place.ensures (omega arith))
          c.stored_form-form.ensures (omega (arith, (columns_are at.After-leaving_of-leaving).0));
    }

pub search-preserved : goal.search-preserved
search-preserved c =
    let at = goal.at.search-preserved c in
    let a = c.args in
    let o = c.search in
    let m = c.loop-d in
    record {
      row_places_length = m.invariant.row_places_length;
      premises_length = omega arith;
      places_length = omega arith;
      standing =
          record {
            through = m.invariant.standing.through;
            inside = m.invariant.standing.inside;
            few = omega (arith, m.invariant.standing.few, c.entry_count-disjuncts.ensures.upper_bound);
            done = goes_on (grows_gathered (from_vertex (decode.program a.program.now) (certificate a.program.now a.witness.now)) (o.i + 1)) (running (drop a.from a.w.now) 1) o.i (omega arith)
                o.invariant.standing.done
                (vertex_known c.requires.given (o.i + 1) (omega arith) (omega arith) (entry_counted at.After-entry_place-place) (entry_placed at.After-entry_place-place)
                (λ l. judge l (running (drop o.at a.w.now) o.held) ≡ running (drop m.at a.w.now) m.held) m.d (omega arith) m.invariant.standing.done);
          };
    }

pub returns-after-search-clause-result_value_2 : goal.returns-after-search-clause-result_value_2
returns-after-search-clause-result_value_2 c =
    let o = c.search in
    let e : o.i ≡ c.args.sizes.statements + c.args.sizes.procedures = omega arith in
    rw e at (standing_answer o.invariant.standing).1.1

-- the refusal goes up through the three loops
pub returns-in-Err : goal.returns-in-Err
returns-in-Err c =
    let at = goal.at.returns-in-Err c in
    let a = c.args in
    let o = c.search in
    let m = c.loop-d in
    let l = c.loop-case in
    let w = a.w.now in
    let v = o.i + 1 in
    let start = c.entry_place-place.result in
    let count = c.entry_count-disjuncts.result in
    let columns = k a.program.now v + k a.program.now v in
    let reason = c.in-Err.reason in
    let case = step_ended (cases_here at.In-loop-d) l.case (omega (arith, counted at.In-loop-d)) w l.at l.invariant.standing.inside l.held c.judge_entailment-verdict.result (judged_here at.After-judge_entailment-verdict) reason c.in-Err.is (drop m.at w) m.held l.invariant.standing.done in
    let disjuncts = disjunct_ends (stored_form a.witness.now) a.rows.now columns (cases_of a.program.now a.witness.now v) start count m.d m.place (drop o.at w) (drop m.at w) o.held m.held c.loop-d-test.true (m.invariant.place c.loop-d-test.true) m.invariant.standing.done case in
    let vertex = vertex_known c.requires.given v (omega arith) (omega arith) (entry_counted at.After-entry_place-place) (entry_placed at.After-entry_place-place) (λ es. Ends es (running (drop o.at w) o.held) o.held (number_of reason) (drop l.at w) l.held) count refl disjuncts in
    let all = ends_on (grows_gathered (from_vertex (decode.program a.program.now) (certificate a.program.now a.witness.now)) (a.sizes.statements + a.sizes.procedures)) (drop a.from w) 1 o.i (drop o.at w) o.held (omega arith) o.invariant.standing.done vertex in
    record { result_value = sym all.refused; inside_words = l.invariant.standing.inside; result_value_2 = sym all.counted }
