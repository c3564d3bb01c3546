-- One word more is put behind those before it; all of them are the words, and each has 32 bits, so that they are read back.
use Rattle.std.proofs.Common.{rules, List, ℕ, ◌≤◌, ℤ, pos, length, get_or, take, take_all, w32, SFits, refl, sym, subst, arith, below_none, below_more, to_z-of_z}
use Rattle.plan_text.specs.ByteWords.{word_bytes, bytes_of}
use Rattle.plan_text.proofs.WordByteLaws.{length_word, words_back, bytes_next}
use Rattle.plan_text.specs.PushLaws.{Pushed}
use Rattle.plan_text.proofs.PushLaws.{put_none, behind, put_first}
use Rattle.plan_text.proofs.word_bytes.write_words.Goals as goal

pub loop-i-init : goal.loop-i-init
unfolding bytes_of
loop-i-init c = record { ends = refl; fit = below_none (λ (j : ℕ). SFits w32 (get_or c.args.words.now j (pos 0))); told = put_none c.args.bytes.now 0 }

pub loop-i-preserved : goal.loop-i-preserved
loop-i-preserved c =
    let p = c.push_word-end in
    let l = c.loop-i in
    let w = get_or c.args.words.now l.i (pos 0) in
    let f : SFits w32 w = search rules in
    let one = subst (λ (z : ℤ). Pushed l.bytes l.end (word_bytes z) p.result p.new.bytes) (to_z-of_z f) p.ensures in
    let told = behind c.args.bytes.now 0 (bytes_of (take l.i c.args.words.now)) (omega arith) l.invariant.told one in
    record {
      ends = omega (arith, one.ends, length_word w, l.invariant.ends);
      fit = below_more (λ (j : ℕ). SFits w32 (get_or c.args.words.now j (pos 0))) l.i l.invariant.fit f;
      told = subst (λ (b : List ℕ). Pushed c.args.bytes.now 0 b p.result p.new.bytes) (sym (bytes_next c.args.words.now l.i (omega arith))) told;
    }

pub returns : goal.returns
returns c =
    let l = c.loop-i in
    let words = c.args.words.now in
    let e : length words ≤ l.i = omega arith in
    let all = subst (λ (v : List ℤ). Pushed c.args.bytes.now 0 (bytes_of v) l.end l.bytes) (take_all l.i words e) l.invariant.told in
    let first = put_first c.args.bytes.now (bytes_of words) all in
    record { value = first.0; bytes_after = first.1; words_value = words_back words (λ i h. l.invariant.fit i (omega (arith, h, e))) }
