-- What an answer after tests says: an answer that is no refusal came after tests that all passed, and a refusal is a failed test's or came
-- after them.
use Rattle.std.specs.Prelude.{ℕ}
use Rattle.words.specs.Answer.{Answer, safe, trace}

-- an answer that is no refusal
pub data Accepting : Answer → Type 0 where
  is_safe : {count : ℕ} → Accepting (safe count)
  is_trace : {steps : ℕ} → Accepting (trace steps)
