-- What a step changes, as the code hands it on, and the two buffers with the change stored.
use Rattle.std.specs.Prelude.{◌≡◌, List, [], ◌∷◌, ℕ, ◌+◌, ◌*◌, ◌≤◌, ◌<◌, ℤ, pos, length, set, Ok, Err}
use Rattle.std.proofs.Math.Seq.{paste}
use Rattle.program_readers.specs.declared.places.Vertex.{Vertex}
use Rattle.run_state.specs.Frames.{frame_size}
use Rattle.run_state.specs.declared.changes.Change.{Change}
use Rattle.run_state.specs.declared.changes.Stored.{Stored}
use Rattle.run_state.specs.declared.changes.Stored.TheVariants.{Nothing, Global, Local, Frame}

-- ten times 0
abbrev pub no_frame : List ℤ
no_frame = pos 0 ∷ pos 0 ∷ pos 0 ∷ pos 0 ∷ pos 0 ∷ pos 0 ∷ pos 0 ∷ pos 0 ∷ pos 0 ∷ pos 0 ∷ []

abbrev pub refused_at : ℕ → Vertex → ℕ → Change
refused_at number vertex depth = record { outcome = Err number; vertex = vertex; depth = depth; taken = 0; stored = Nothing; frame = no_frame }

abbrev pub moved_to : Vertex → ℕ → Stored → Change
moved_to vertex depth stored = record { outcome = Ok tt; vertex = vertex; depth = depth; taken = 0; stored = stored; frame = no_frame }

-- behind the frames of so many open calls, with so many entry values
abbrev pub entered_at : Vertex → ℕ → ℕ → List ℤ → Change
entered_at vertex depth taken frame = record { outcome = Ok tt; vertex = vertex; depth = depth + 1; taken = taken; stored = Frame (depth * frame_size); frame = frame }

abbrev pub globals_after : List ℤ → Stored → List ℤ
globals_after globals Nothing = globals
globals_after globals (Global i x) = set globals i x
globals_after globals (Local i x) = globals
globals_after globals (Frame at) = globals

abbrev pub frames_after : List ℤ → Stored → List ℤ → List ℤ
frames_after frames Nothing frame = frames
frames_after frames (Global i x) frame = frames
frames_after frames (Local i x) frame = set frames i x
frames_after frames (Frame at) frame = paste frames at frame frame_size

-- its place is one of the buffer's
abbrev pub Storable : List ℤ → List ℤ → Stored → List ℤ → Type 0
Storable globals frames Nothing frame = Unit
Storable globals frames (Global i x) frame = i < length globals
Storable globals frames (Local i x) frame = i < length frames
Storable globals frames (Frame at) frame = (at + frame_size ≤ length frames) × (length frame ≡ frame_size)
