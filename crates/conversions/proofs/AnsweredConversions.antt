-- The conversions of plan A's certificate, there and back, by computation, with what is refused: the wrong kind, and a buffer one word short.
use Rattle.std.specs.Prelude.{◌≡◌, refl}
use Rattle.words.specs.Tests.{refusal_at}
use Rattle.words.specs.Writing.{written, unwritten}
use Rattle.certificates.specs.AnsweredSparse.{sparse_a}
use Rattle.conversions.specs.Conversions.{to_sparse, to_dense}
use Rattle.conversions.specs.AnsweredConversions.{certificate_a, conversions_open, dense_a, plan_a}

pub there_and_back : (to_sparse plan_a certificate_a 28 ≡ written sparse_a) × (to_sparse plan_a certificate_a 27 ≡ unwritten (refusal_at 26 0)) × (to_dense plan_a sparse_a 27 ≡ written dense_a)
    × (to_dense plan_a sparse_a 26 ≡ unwritten (refusal_at 26 0)) × (to_dense plan_a certificate_a 100 ≡ unwritten (refusal_at 4 0)) × (to_sparse plan_a sparse_a 100 ≡ unwritten (refusal_at 4 0))
unfolding conversions_open
there_and_back = (refl, refl, refl, refl, refl, refl)
