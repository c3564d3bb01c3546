-- All that a trace's words are tested, replayed and labelled with, under one name, for examples by computation.
use Rattle.std.specs.Prelude.{ℕ}
use Rattle.programs.specs.Opened.{programs_open}
use Rattle.traces.specs.TraceWords as traceWords
use Rattle.traces.specs.TraceTests as trace_tests
use Rattle.traces.specs.Replay as replay
use Rattle.traces.specs.Stretches as stretches

unfoldable pub traces_open : ℕ
unfolding
    programs_open
    traceWords.start_globals traceWords.start_arguments traceWords.start_others traceWords.listed_entry_values trace_tests.header_passes trace_tests.start_test trace_tests.entry_value_test trace_tests.trace_tests
    replay.all_values replay.arrival_tests replay.arrived replay.arrival replay.listed_move replay.replay_next replay.initial_configuration
    replay.replayed_to replay.left_test replay.buffer_test replay.replay_answer replay.last_values replay.final_values replay.trace_answer
    stretches.with_turn stretches.label_in stretches.returns_in stretches.label_at stretches.labels_over
traces_open = 0
