-- `judge_words` meets its contract: its buffer is long enough, and the witness's words, with what stands before them, are the certificate.
use Rattle.judge.proofs.judge_words.Goals as goal

pub returns : goal.returns
returns c = rw (← c.requires.w_value.0, ← c.requires.w_value.1, ← c.judge_all-x.ensures.result_value) c.conclude.ensures
