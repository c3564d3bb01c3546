-- `trim_accepted` meets its contract: the table is the uses, so the bytes are the least set.
use Rattle.std.proofs.Common.{◌≡◌, ℕ, Bool, true, false, get_or, arith, refl}
use Rattle.std.proofs.Math.Dec.{ltb}
use Rattle.std.proofs.Math.ListN.{replicate, get_or-eq_default}
use Rattle.std.proofs.lemmas.Bool.{ltb-true, ltb-false}
use Rattle.std.proofs.lemmas.List.{length-replicate, get_or-replicate}
use Rattle.trimmer.proofs.trim_accepted.Goals as goal

zeros : (n b : ℕ) → get_or (replicate {A = ℕ} n 0) b 0 ≡ 0
zeros n b = go (ltb b n) refl
  where
    go : (t : Bool) → ltb b n ≡ t → get_or (replicate {A = ℕ} n 0) b 0 ≡ 0
    go true e = get_or-replicate n b 0 0 (ltb-true b n e)
    go false e = get_or-eq_default (replicate {A = ℕ} n 0) 0 {n = b} (omega (arith, length-replicate {A = ℕ} n 0, ltb-false b n e))

pub keep_used-requires-clause-kept_len : goal.keep_used-requires-clause-kept_len
keep_used-requires-clause-kept_len c = (refl, zeros 8704)
