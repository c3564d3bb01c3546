-- All that a certificate is trimmed with, under one name, for examples by computation.
use Rattle.std.specs.Prelude.{ℕ}
use Rattle.certificates.specs.Opened.{certificates_open}
use Rattle.trimming.specs.Kept as kept
use Rattle.trimming.specs.KeptFlags as flags
use Rattle.trimming.specs.KeptMembers as members
use Rattle.trimming.specs.Trimmed as trimmed

unfoldable pub trimming_open : ℕ
unfolding
    certificates_open
    kept.leaf_targets kept.uses_of kept.keeps
    flags.same_entry flags.has flags.with_targets flags.behind flags.pick flags.after_pick flags.keep_all flags.kept_flags
    members.kept_from members.new_number trimmed.kept_entries trimmed.trimmed trimmed.renumbered trimmed.trimmed_witnesses
trimming_open = 0
