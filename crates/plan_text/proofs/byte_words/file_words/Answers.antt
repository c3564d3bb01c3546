-- The tests are those of the definition; a file in whole words has at most 16,384 of them, and so all find a place.
use Rattle.std.proofs.Common.{◌≡◌, List, ◌++◌, ℤ, length, drop, refl, sym, ap, ◌∙◌, arith, take_all}
use Rattle.plan_text.specs.ByteWords.{words_of}
use Rattle.plan_text.proofs.ByteWordLaws.{too_long, torn, whole, length_words}
use Rattle.plan_text.proofs.byte_words.file_words.Goals as goal

pub returns-then-bytes-gt65536 : goal.returns-then-bytes-gt65536
returns-then-bytes-gt65536 c = let e = too_long c.args.bytes.now c.if-bytes-gt65536.true in rw e (record { value = refl; words_after = refl })

pub returns-then-bytes-ne0 : goal.returns-then-bytes-ne0
returns-then-bytes-ne0 c = let e = torn c.args.bytes.now c.if-bytes-ne0.true in rw e (record { value = refl; words_after = refl })

pub returns : goal.returns
returns c =
    let bytes = c.args.bytes.now in
    let words = words_of bytes in
    let r = c.read_words in
    let e = whole bytes c.if-bytes-gt65536.false c.if-bytes-ne0.false in
    let n : r.result ≡ length words = omega (arith, r.ensures.value, length_words bytes, c.if-bytes-gt65536.false) in
    record { value = rw e n; words_after = r.ensures.words_after ∙ ap (λ (l : List ℤ). l ++ drop r.result c.args.words.now) (take_all r.result words (omega (arith, n)) ∙ sym e) }
