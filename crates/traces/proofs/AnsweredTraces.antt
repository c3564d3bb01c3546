-- Traces whose answers pin the definitions, by computation over one list: each op by the sides that an assertion takes at −1, 0 and 1; the
-- limits of values, start values, entry values and open calls, at the limit and beyond it; the vertices that are refused; and the entry values
-- that are used, missing and left over; and the lines.
use Rattle.std.specs.Prelude.{refl}
use Rattle.traces.specs.Opened.{traces_open}
use Rattle.traces.specs.AnsweredTraces.{AllAnswered, cases}

pub pinned : AllAnswered cases
unfolding traces_open AllAnswered
pinned = (refl, (refl, (refl, (refl, (refl, (refl, (refl, (refl, (refl, (refl, (refl, (refl, (refl, (refl, (refl, (refl, (refl, (refl, (refl, (refl, (refl, (refl, (refl, (refl, (refl, (refl, (refl, (refl, (refl, (refl, (refl, (refl, (refl, (refl, (refl, (refl, (refl, (refl, (refl, (refl, (refl, (refl, (refl, (refl, (refl, (refl, (refl, (refl, (refl, (refl, (refl, (refl, (refl, (refl, (refl, (refl, (refl, (refl, (refl, (refl, (refl, (refl, (refl, (refl, (refl, (refl, (refl, (refl, (refl, tt)))))))))))))))))))))))))))))))))))))))))))))))))))))))))))))))))))))
