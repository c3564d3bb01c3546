-- The certificates and traces whose answers pin the definitions, through the whole check: the lists of `certificates` and `traces`, by
-- computation, with a result buffer of one number. And which input a refusal is about.
use Rattle.std.specs.Prelude.{◌≡◌, refl, [], ◌∷◌, map}
use Rattle.certificates.specs.Opened.{certificates_open}
use Rattle.certificates.specs.AnsweredCertificates as certificates
use Rattle.certificates.specs.AnsweredSparse as sparse
use Rattle.traces.specs.Opened.{traces_open}
use Rattle.traces.specs.AnsweredTraces as traces
use Rattle.checker.specs.Check.{judged, replayed, check, of_program, of_witness, of_neither, part_of}
use Rattle.checker.specs.AnsweredCases.{CertificatesChecked, TracesChecked}

pub pinned_certificates : CertificatesChecked certificates.cases
unfolding certificates_open certificates.beyond judged replayed check CertificatesChecked
pinned_certificates = (refl, (refl, (refl, (refl, (refl, (refl, (refl, (refl, (refl, (refl, (refl, (refl, (refl, (refl, (refl, (refl, (refl, (refl, (refl, (refl, (refl, (refl, (refl, (refl, (refl, (refl, (refl, (refl, (refl, (refl, (refl, (refl, (refl, (refl, (refl, (refl, (refl, (refl, (refl, (refl, (refl, (refl, tt))))))))))))))))))))))))))))))))))))))))))

pub pinned_sparse : CertificatesChecked sparse.cases
unfolding certificates_open judged replayed check CertificatesChecked
pinned_sparse = (refl, (refl, (refl, (refl, (refl, (refl, (refl, (refl, (refl, (refl, (refl, (refl, (refl, (refl, (refl, (refl, (refl, (refl, (refl, (refl, (refl, (refl, (refl, (refl, (refl, tt)))))))))))))))))))))))))

pub pinned_traces : TracesChecked traces.cases
unfolding traces_open certificates_open judged replayed check TracesChecked
pinned_traces = (refl, (refl, (refl, (refl, (refl, (refl, (refl, (refl, (refl, (refl, (refl, (refl, (refl, (refl, (refl, (refl, (refl, (refl, (refl, (refl, (refl, (refl, (refl, (refl, (refl, (refl, (refl, (refl, (refl, (refl, (refl, (refl, (refl, (refl, (refl, (refl, (refl, (refl, (refl, (refl, (refl, (refl, (refl, (refl, (refl, (refl, (refl, (refl, (refl, (refl, (refl, (refl, (refl, (refl, (refl, (refl, (refl, (refl, (refl, (refl, (refl, (refl, (refl, (refl, (refl, (refl, (refl, (refl, (refl, tt)))))))))))))))))))))))))))))))))))))))))))))))))))))))))))))))))))))

-- the input that each number is about: none for 0, the program for 1 to 3, the witness for 4 to 12, none for 13, the witness for 14, 15 and 25, and none
-- for 26
pub pinned_parts : map part_of (0 ∷ 1 ∷ 3 ∷ 4 ∷ 12 ∷ 13 ∷ 14 ∷ 15 ∷ 16 ∷ 24 ∷ 25 ∷ 26 ∷ [])
    ≡ of_neither ∷ of_program ∷ of_program ∷ of_witness ∷ of_witness ∷ of_neither ∷ of_witness ∷ of_witness ∷ of_neither ∷ of_neither ∷ of_witness ∷ of_neither ∷ []
unfolding part_of
pinned_parts = refl
