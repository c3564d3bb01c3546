-- What an answer of a read is taken for, and how many bytes count when a file has been read: "a file absent, longer or not in whole
-- words" counts as one without words, and so does one whose reading failed.
use Rattle.std.proofs.Common.{arith, ltb-true}
use Rattle.std.specs.Prelude.{◌≡◌, refl, Bool, true, false, cond, ◌&&◌, ℕ, zero, suc, ◌<◌, ltb, List, length, take, Option, Result, Ok, Err, ⊤}
use Rattle.std.specs.Io.KnownBytes.{Consumes, IsAtEnd}
use Rattle.std.specs.IoError.{error_kind}
use Rattle.std.specs.declared.io.Error.{Error}
use Rattle.std.specs.declared.io.ErrorKind.{ErrorKind}
use Rattle.std.specs.declared.io.ErrorKind.TheVariants.{Interrupted}
use Rattle.plan_files.specs.declared.file_bytes.Next.{Next}
use Rattle.plan_files.specs.declared.file_bytes.Next.TheVariants.{Onward, Again, End}

abbrev pub is_interrupted : ErrorKind → Bool
is_interrupted Interrupted = true
is_interrupted _ = false

-- bytes; 0, which is the end of the input; or a failure: an interrupted read is made again while times are left, and any other has failed
abbrev pub after_read : Result ℕ Error → ℕ → Result Next Error
after_read (Ok zero) left = Ok End
after_read (Ok (suc k)) left = Ok (Onward (suc k))
after_read (Err e) left = cond (is_interrupted (error_kind e) && ltb 0 left) (Ok Again) (Err e)

-- what goes on has bytes, and what is made again had times left
pub onward_some : (read : Result ℕ Error) (left count : ℕ) → after_read read left ≡ Ok (Onward count) → 0 < count
onward_some (Ok zero) left count e = absurd (let z : ◌≡◌ {A = ℕ} 0 1 = cc in omega arith)
onward_some (Ok (suc k)) left count e = let q : suc k ≡ count = cc in omega (arith, q)
onward_some (Err x) left count e = absurd (go (is_interrupted (error_kind x) && ltb 0 left) e)
  where
    go : (b : Bool) → cond b (Ok Again) (Err x) ≡ Ok (Onward count) → ⊥
    go true e = let z : ◌≡◌ {A = ℕ} 0 1 = cc in omega arith
    go false e = let z : ◌≡◌ {A = ℕ} 0 1 = cc in omega arith

pub again_left : (read : Result ℕ Error) (left : ℕ) → after_read read left ≡ Ok Again → 0 < left
again_left (Ok zero) left e = absurd (let z : ◌≡◌ {A = ℕ} 0 1 = cc in omega arith)
again_left (Ok (suc k)) left e = absurd (let z : ◌≡◌ {A = ℕ} 0 1 = cc in omega arith)
again_left (Err x) left e = ltb-true 0 left (go (is_interrupted (error_kind x)) (ltb 0 left) e)
  where
    go : (a b : Bool) → cond (a && b) (Ok Again) (Err x) ≡ Ok Again → b ≡ true
    go true true e = refl
    go true false e = absurd (let z : ◌≡◌ {A = ℕ} 0 1 = cc in omega arith)
    go false b e = absurd (let z : ◌≡◌ {A = ℕ} 0 1 = cc in omega arith)

-- after a failure no byte counts
abbrev pub count_of : Result ℕ Error → ℕ
count_of (Ok count) = count
count_of (Err _) = 0

-- The bytes that count are the first ones that were to come; and all of them, where a place is left.
abbrev pub LoadedFrom : Option (List ℕ) → Option (List ℕ) → Result ℕ Error → List ℕ → Type 0
LoadedFrom known left (Ok count) bytes = Consumes known left (take count bytes) × (count < length bytes → IsAtEnd left)
LoadedFrom known left (Err _) bytes = ⊤
