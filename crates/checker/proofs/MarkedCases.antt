-- The worked cases that document 01 marks, its trace as document 02, CR 2, has it, by one theorem that ranges over a list of them: the answer and the result buffer afterwards of
-- each, by computation. The buffers have marked numbers, so that "as it came" shows.
use Rattle.std.specs.Prelude.{refl}
use Rattle.checker.specs.MarkedCases.{AllGiven, given, marked_cases}

pub marked_cases_lem : AllGiven marked_cases
unfolding AllGiven given
marked_cases_lem = (refl, (refl, (refl, (refl, (refl, (refl, (refl, (refl, (refl, (refl, (refl, tt)))))))))))
