-- The words of each file stand at the front of their buffer, and those are converted; what is written stands at the front of the third.
use Rattle.std.proofs.Common.{◌≡◌, ℕ, ◌≤◌, List, ℤ, pos, length, take, replicate, length-take-le, Ok, sym, ap, subst, ◌∙◌, arith}
use Rattle.std.proofs.lemmas.Result.{err_from_is_err_and}
use Rattle.std.proofs.Math.ListN.{length-replicate}
use Rattle.words.specs.Writing as writing
use Rattle.answers.specs.Answers.{told}
use Rattle.answers.specs.Written.{Wrote}
use Rattle.plan_text.specs.ByteWords.{file_words}
use Rattle.plan_files.specs.PlanLines.{at_front}
use Rattle.plan_conversions.specs.PlanConversions.{converted_by, plan_conversion, Front}
use Rattle.plan_conversions.proofs.PlanConversions.{front, nothing, told_written, told_refused}
use Rattle.plan_conversions.proofs.plan_conversion.Goals as goal
use Rattle.plan_conversions.proofs.plan_conversion.Goals.{After-convert}

abbrev wanted : After-convert → writing.Writing
wanted c = plan_conversion c.args.program.now c.args.certificate.now c.args.conversion

-- what was converted is what is wanted, in a buffer of 16,384 words
wrote : (c : After-convert) → Wrote (wanted c) (replicate 16384 (pos 0)) c.convert.result c.convert.new.buffer
unfolding plan_conversion
wrote c =
    let s = c.args in
    let m = c.file_words-m in
    let n = c.file_words-n in
    let buffer = replicate 16384 (pos 0) in
    let program = at_front (file_words s.program.now) _ n.ensures.value n.ensures.words_after in
    let certificate = at_front (file_words s.certificate.now) _ m.ensures.value m.ensures.words_after in
    let p = ap (λ (l : List ℤ). converted_by s.conversion l (take m.result m.new.words) (length buffer)) program in
    let q = ap (λ (l : List ℤ). converted_by s.conversion (file_words s.program.now) l (length buffer)) certificate in
    let e = p ∙ (q ∙ ap (converted_by s.conversion (file_words s.program.now) (file_words s.certificate.now)) (length-replicate 16384 (pos 0))) in
    subst (λ (w : writing.Writing). Wrote w buffer c.convert.result c.convert.new.buffer) e c.convert.ensures

size : (c : After-convert) → length c.convert.new.buffer ≡ 16384
size c = c.convert.auto.buffer ∙ length-replicate 16384 (pos 0)

-- so many words stand at its front
counted : (c : After-convert) (n : ℕ) → c.convert.result ≡ Ok n → Front (wanted c) n c.convert.new.buffer
counted c n e = front (wrote c) n e

few : (c : After-convert) (n : ℕ) → n ≤ length c.convert.new.buffer → length (take n c.convert.new.buffer) ≤ 16384
few c n h = omega (arith, length-take-le n c.convert.new.buffer h, h, size c)

pub slice_bounds-buffer-end : goal.slice_bounds-buffer-end
slice_bounds-buffer-end c = (counted (goal.at.slice_bounds-buffer-end c).After-convert c.in_ok-count.count c.in_ok-count.was).placed

pub slice_bounds-write_words-end : goal.slice_bounds-write_words-end
slice_bounds-write_words-end c =
    let f = counted (goal.at.slice_bounds-write_words-end c).After-convert c.in_ok-count.count c.in_ok-count.was in
    sym (length-take-le c.in_ok-count.count c.convert.new.buffer f.placed)

pub returns : goal.returns
returns c =
    let r = c.write_words in
    let v = (goal.at.returns c).After-convert in
    let f = counted v c.in_ok-count.count c.in_ok-count.was in
    let s = c.args in
    told_written s.conversion s.program.now s.certificate.now s.res.now (sym (ap told c.in_ok-count.was) ∙ (wrote v).answer) (take c.in_ok-count.count c.convert.new.buffer)
    f.is (few v c.in_ok-count.count f.placed) r.ensures.value r.ensures.bytes_after r.ensures.words_value

pub returns-in_err-count : goal.returns-in_err-count
returns-in_err-count c =
    let v = (goal.at.returns-in_err-count c).After-convert in
    let s = c.args in
    let (r, result, refusal) = err_from_is_err_and c.from_residual.result c.from_residual.ensures.1 in
    rw (result, refusal)
    (told_refused s.conversion s.program.now s.certificate.now s.res.now (sym (ap told c.in_err-count.was) ∙ (wrote v).answer) (nothing (wrote v) _ c.in_err-count.was))
