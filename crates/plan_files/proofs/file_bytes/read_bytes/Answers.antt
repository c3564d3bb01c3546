-- A read after which the reading goes on gave bytes, and these are the next ones that were to come.
use Rattle.std.proofs.Common.{rules, arith, ◌≡◌, ◌≤◌, ◌+◌, ◌-◌, ◌&&◌, Bool, true, false, cond, ℕ, zero, suc, ltb, List, ◌++◌, length, take, Option, Result, Ok, Err, sym, ap, ap₂, subst, ◌∙◌, length-take-le, drop_at, le_refl}
use Rattle.std.specs.Io.{ReadsAtMost}
use Rattle.std.specs.Io.KnownBytes.{Consumes, ReadConsumes}
use Rattle.std.specs.IoError.{error_kind}
use Rattle.std.specs.declared.io.Error.{Error}
use Rattle.std.proofs.KnownBytes.{Consumes-trans}
use Rattle.std.proofs.lemmas.Slice.{take-put_mid_below}
use borrow.Rule.Slice.PartMut.{put_mid, post_of}
use lib.Seq.{take-add, take-append-le}
use Rattle.plan_files.specs.FileReading.{is_interrupted, after_read}
use Rattle.plan_files.specs.declared.file_bytes.Next.{Next}
use Rattle.plan_files.specs.declared.file_bytes.Next.TheVariants.{Onward, Again}
use Rattle.plan_files.proofs.file_bytes.read_bytes.Goals as goal

-- the reading goes on only behind bytes, and then behind all of them
onward_count : (read : Result ℕ Error) (left count : ℕ) {next : Next} → next ≡ Onward count → Ok next ≡ after_read read left → read ≡ Ok count
onward_count (Ok zero) left count is e = cc
onward_count (Ok (suc k)) left count is e = cc
onward_count (Err f) left count {next} is e = go (is_interrupted (error_kind f) && ltb 0 left) e
  where
    go : (again : Bool) → Ok next ≡ cond again (Ok Again) (Err f) → Err f ≡ Ok count
    go true q = cc
    go false q = cc

-- what such a read took
onward_took : (known left : Option (List ℕ)) (bytes : List ℕ) (read : Result ℕ Error) (count : ℕ) → read ≡ Ok count → ReadsAtMost read bytes → ReadConsumes known left read bytes
    → (count ≤ length bytes) × Consumes known left (take count bytes)
onward_took known left bytes read count e bound took = let b = rw e at bound in let t = rw e at took in (b.0, t.0)

-- the bytes up to the last that was read
taken : (a k n : ℕ) (xs ys : List ℕ) → a ≤ length xs → n ≤ length ys → take (a + n) (put_mid a k xs ys) ≡ take a xs ++ take n ys
taken a k n xs ys within fits =
    take-add a n (put_mid a k xs ys)
    ∙ ap₂ (λ (l m : List ℕ). l ++ m) (take-put_mid_below a k xs ys a (le_refl a) within)
    (ap (take n) (drop_at (take a xs) (ys ++ post_of a k xs) a (length-take-le a xs within)) ∙ take-append-le n ys (post_of a k xs) fits)

pub loop-done-preserved-in-Onward : goal.loop-done-preserved-in-Onward
loop-done-preserved-in-Onward g c =
    let l = c.loop-done in
    let r = c.read-read in
    let count = c.in-Onward.count in
    let room = length l.bytes - l.done in
    let before = g.F.Read.remaining l.file in
    let after = g.F.Read.remaining r.new.self in
    let size : length r.new.buf ≡ room = search rules in
    let same : length (put_mid l.done room l.bytes r.new.buf) ≡ length l.bytes = search rules in
    let read : r.result ≡ Ok count = onward_count r.result l.left count c.in-Onward.is c.in_ok-count.ensures in
    let t = onward_took before after r.new.buf r.result count read r.ensures.bound r.ensures.bytes in
    record {
      within = omega (arith, t.0, size, same, l.invariant.within);
      kept = same ∙ l.invariant.kept;
      told = subst (Consumes (g.F.Read.remaining c.args.file.now) after) (sym (taken l.done room count l.bytes r.new.buf l.invariant.within t.0))
          (Consumes-trans (g.F.Read.remaining c.args.file.now) before after _ _ l.invariant.told t.1);
    }
