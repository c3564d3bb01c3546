-- All that a certificate is laid out with, under one name, for examples by computation.
use Rattle.std.specs.Prelude.{ℕ}
use Rattle.certificates.specs.Opened.{certificates_open}
use Rattle.layouts.specs.DisjunctCode as disjunct_code
use Rattle.layouts.specs.Layout as layouts

unfoldable pub layouts_open : ℕ
unfolding
    certificates_open
    disjunct_code.disjunct_code disjunct_code.disjuncts_code layouts.entries_of layouts.entries_code layouts.count_words layouts.places_from layouts.layout
layouts_open = 0
