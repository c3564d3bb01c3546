-- "The answer safe carries the entailment count, at most 1 + 9 × (path disjuncts)", which are at most 8 for each of at most 1,056 vertices.
use Rattle.std.specs.Prelude.{List, ℕ, ◌+◌, ℤ, length}
use Rattle.programs.specs.ProgramWords.{n, p}
use Rattle.programs.specs.Decode as decode
use Rattle.certificates.specs.Certificate.{path_edges}
use Rattle.certificates.specs.CertificateWords.{certificate}
use Rattle.certificates.specs.Count.{total}

-- the path disjuncts, of all vertices
unfoldable pub path_disjuncts : List ℤ → List ℤ → ℕ
path_disjuncts program witness = total (λ v. length (path_edges (certificate program witness) v)) (n program + p program)
