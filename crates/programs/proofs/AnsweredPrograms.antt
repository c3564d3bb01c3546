-- Programs whose first failing test pins the definitions, by computation over one list: for each limit that a short program shows, what is at
-- the limit and what is beyond it, and number, place and line of what is refused. And each op, by the side that is taken at −1, 0 and 1.
use Rattle.std.specs.Prelude.{◌≡◌, refl, true, false, [], ◌∷◌}
use Rattle.programs.specs.Opened.{programs_open}
use Rattle.programs.specs.AnsweredPrograms.{AllTested, cases, sides}

pub pinned : AllTested cases
unfolding programs_open AllTested
pinned = (refl, (refl, (refl, (refl, (refl, (refl, (refl, (refl, (refl, (refl, (refl, (refl, (refl, (refl, (refl, (refl, (refl, (refl, (refl, (refl, (refl, (refl, (refl, (refl, (refl, (refl, (refl, (refl, (refl, (refl, (refl, (refl, (refl, (refl, (refl, (refl, (refl, (refl, (refl, (refl, (refl, (refl, (refl, (refl, (refl, (refl, (refl, (refl, (refl, (refl, (refl, (refl, (refl, (refl, (refl, (refl, (refl, (refl, (refl, (refl, (refl, tt)))))))))))))))))))))))))))))))))))))))))))))))))))))))))))))

pub ops : (sides 1 ≡ true ∷ false ∷ false ∷ [])
    × (sides 2 ≡ false ∷ false ∷ true ∷ [])
    × (sides 3 ≡ true ∷ true ∷ false ∷ [])
    × (sides 4 ≡ false ∷ true ∷ true ∷ [])
    × (sides 5 ≡ false ∷ true ∷ false ∷ [])
    × (sides 6 ≡ true ∷ false ∷ true ∷ [])
unfolding programs_open sides
ops = (refl, refl, refl, refl, refl, refl)
