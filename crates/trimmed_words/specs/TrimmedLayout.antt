-- What is left of a certificate that has the form is laid out and read again: its entries are those of the certificate with disjuncts taken out, so each is
-- within its limits.
use Rattle.std.specs.Prelude.{cond, ℕ, suc, ◌-◌, ltb}
use Rattle.certificates.specs.Sources.{Entry, of_vertex, of_summary}

-- ---- the entries of what is left

-- which entry has the number j, from 0, where there are so many vertices
unfoldable pub entry_at : ℕ → ℕ → Entry
entry_at vertices j = cond (ltb j vertices) (of_vertex (suc j)) (of_summary (suc (j - vertices)))
