-- The sources of entailments are disjuncts that the certificate has, since they are listed from its disjuncts; and so are the targets that a witness
-- which works names, since it is shaped for their rows.
use Rattle.std.specs.Prelude.{◌<◌}
use mathlib.Core.List.Memᴰ
use Rattle.std.proofs.Math.ListN.{length}
use Rattle.certificates.specs.Certificate.{Certificate, path_edges, summary_edges}
use Rattle.certificates.specs.Sources.{Source, from_start, from_path, from_return, Sourced}

-- ---- sources

unfoldable pub InRange : Certificate → Source → Type 0
InRange c from_start = Unit
InRange c (from_path v i) = i < length (path_edges c v)
InRange c (from_return v i q l) = (i < length (path_edges c v)) × (l < length (summary_edges c q))

abbrev pub Exists : Certificate → Sourced → Type 0
Exists c x = InRange c x.source
