-- Certificates whose answers pin the definitions, by computation over one list: the entailments of each step and op in document 01's order,
-- with witnesses that fit in that order alone; for each limit that a short input shows, what is at the limit and what is beyond it; and
-- where an entry is refused.
use Rattle.std.specs.Prelude.{refl}
use Rattle.certificates.specs.Opened.{certificates_open}
use Rattle.certificates.specs.AnsweredCertificates.{AllAnswered, beyond, cases}

pub pinned : AllAnswered cases
unfolding certificates_open AllAnswered beyond
pinned = (refl, (refl, (refl, (refl, (refl, (refl, (refl, (refl, (refl, (refl, (refl, (refl, (refl, (refl, (refl, (refl, (refl, (refl, (refl, (refl, (refl, (refl, (refl, (refl, (refl, (refl, (refl, (refl, (refl, (refl, (refl, (refl, (refl, (refl, (refl, (refl, (refl, (refl, (refl, (refl, (refl, (refl, tt))))))))))))))))))))))))))))))))))))))))))
