-- Runs that there are, so that no kind of step is empty: through a call, an assign, an exit and an assertion that fails; through a skip, both
-- sides of a comparison and an assertion that passes; through both sides of `?`; through a call that exchanges its parameters; through calls
-- of a procedure whose other local holds what it comes to hold; and the run of plan B, from its words.
use Rattle.std.specs.Prelude.{◌≡◌, refl, [], ◌∷◌, pos, negsuc}
use Rattle.programs.specs.Runs.{Run, start, ◌then◌, on_skip, on_assign, on_true, on_false, on_pass, on_fail, on_call, on_exit, visited, entry_values}
use Rattle.programs.specs.ProgramWords as words
use Rattle.programs.specs.Decode as decode
use Rattle.programs.specs.RunExamples.{again, calls, choices, chosen, counts, exchange, frame_of, holding, main, main_waits, plan_b, steps, waiting_with}

-- from g = 7 to the error vertex, with g = 3
failing : Run calls (main 0 (pos 7) (pos 3))
unfolding steps
failing = start (pos 7 ∷ []) [] [] refl refl refl then on_call [] refl refl then on_assign refl then on_exit refl refl then on_fail refl tt

-- from g = 1 back to the branch, with g = 2
counting : Run counts (main 2 (pos 1) (pos 2))
unfolding steps
counting = start (pos 1 ∷ []) [] [] refl refl refl then on_skip refl then on_true refl tt then on_assign refl

-- and on to the exit
counted : Run counts (main 5 (pos 1) (pos 2))
unfolding steps
counted = counting then on_false refl tt then on_pass refl tt

both_sides : Run choices (chosen 2)
unfolding steps
both_sides = start [] [] [] refl refl refl then on_true refl tt then on_false refl tt

-- the second call of f has the first one's parameters exchanged
exchanged : Run exchange (record { globals = []; top = frame_of 2 (pos 2) (pos 1); below = record { caller = frame_of 2 (pos 1) (pos 2); aside = [] } ∷ main_waits ∷ [] })
unfolding steps
exchanged = start [] [] [] refl refl refl then on_call [] refl refl then on_call [] refl refl

-- 5 at main's start, 8 and −3 at its two calls
uncleared : Run again (record { globals = []; top = holding (negsuc 2); below = waiting_with (pos 8) ∷ waiting_with (pos 5) ∷ [] })
unfolding steps
uncleared = start [] [] (pos 5 ∷ []) refl refl refl then on_call (pos 8 ∷ []) refl refl then on_call (negsuc 2 ∷ []) refl refl

uncleared_values : entry_values uncleared ≡ pos 8 ∷ negsuc 2 ∷ []
unfolding steps uncleared
uncleared_values = refl

-- from x = 0 to the error vertex, with x = 660
late : Run plan_b (main 0 (pos 0) (pos 660))
unfolding steps
late = start (pos 0 ∷ []) [] [] refl refl refl then on_assign refl then on_fail refl tt

-- through the vertices 1, 2 and 0; its states, last first
late_visits : visited late ≡ main 0 (pos 0) (pos 660) ∷ main 2 (pos 0) (pos 660) ∷ main 1 (pos 0) (pos 0) ∷ []
unfolding steps late
late_visits = refl
