-- The loop's invariant: the bytes of the words passed are put, four each, and the rest is as it came; and each of these words has 32 bits.
use Rattle.std.proofs.Common.{◌≡◌, ℕ, ◌*◌, ◌<◌, pos, get_or, take, SFits, w32}
use Rattle.plan_text.specs.ByteWords.{bytes_of}
use Rattle.plan_text.specs.PushLaws.{Pushed}
use Rattle.plan_text.proofs.word_bytes.write_words.Given as goal

abbrev pub invariant-loop-i : goal.invariant-loop-i
invariant-loop-i l =
    record {
      ends : l.end ≡ l.i * 4;
      fit : (j : ℕ) → j < l.i → SFits w32 (get_or l.words j (pos 0));
      told : Pushed l.fn.bytes 0 (bytes_of (take l.i l.words)) l.end l.bytes;
    }
