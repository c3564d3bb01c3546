-- The flags are set from none on, so each is 0 or 1.
use Rattle.used_targets.proofs.PackedLaws.{marked_none}
use Rattle.used_targets.proofs.use_at.Goals as goal

pub packed-byte-requires : goal.packed-byte-requires
packed-byte-requires c = marked_none _ c.mark_witness-next.ensures.flags

pub returns : goal.returns
returns c = record { flags = _; walked = c.mark_witness-next.ensures; packs = c.packed-byte.ensures }
