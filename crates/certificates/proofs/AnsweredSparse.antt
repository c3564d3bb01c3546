-- Plan A's certificate with sparse rows, and what is refused of it, by computation: for each test of document 02, CR 9, words that fail it, with the
-- number and the place, and words that fail two tests, which show their order.
use Rattle.std.specs.Prelude.{refl}
use Rattle.certificates.specs.Opened.{certificates_open}
use Rattle.certificates.specs.AnsweredCertificates.{AllAnswered}
use Rattle.certificates.specs.AnsweredSparse.{cases}

pub pinned : AllAnswered cases
unfolding certificates_open AllAnswered
pinned = (refl, (refl, (refl, (refl, (refl, (refl, (refl, (refl, (refl, (refl, (refl, (refl, (refl, (refl, (refl, (refl, (refl, (refl, (refl, (refl, (refl, (refl, (refl, (refl, (refl, tt)))))))))))))))))))))))))
