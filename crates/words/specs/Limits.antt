-- The limits of document 01, each by its one name.
use Rattle.std.specs.Prelude.{ℕ, ◌+◌}

-- ---- program: "n 1..1,024; p 1..32; G and L 0..8; F 0..L; Q 0..12,000"

abbrev pub most_statements : ℕ
most_statements = 1024

abbrev pub most_procedures : ℕ
most_procedures = 32

abbrev pub most_vertices : ℕ
most_vertices = most_statements + most_procedures

abbrev pub most_globals : ℕ
most_globals = 8

abbrev pub most_locals : ℕ
most_locals = 8

-- the pool's words
abbrev pub most_pool : ℕ
most_pool = 12000

-- document 02: "Each statement row begins with a line, 0..1,000,000"
abbrev pub most_line : ℕ
most_line = 1000000

-- ---- "Coefficients −1,000..1,000 .. everywhere in both sheets"; document 02, CR 8: "Constants in both sheets widen to within ±4,000,000,000
-- and take two words, high × 1,000,000 + low, low 0..999,999"

abbrev pub coefficient_limit : ℕ
coefficient_limit = 1000

abbrev pub constant_limit : ℕ
constant_limit = 4000000000

-- what the high word counts
abbrev pub constant_unit : ℕ
constant_unit = 1000000

abbrev pub most_low : ℕ
most_low = 999999

-- ---- certificate

-- "the sheet has at most 1,000,000 words"
abbrev pub most_words : ℕ
most_words = 1000000

-- "disjunct count (0..8)"
abbrev pub most_disjuncts : ℕ
most_disjuncts = 8

-- "a row count (0..32)"
abbrev pub most_rows : ℕ
most_rows = 32

-- "Multipliers 0..1,000, divisors 1..1,000"
abbrev pub most_multiplier : ℕ
most_multiplier = 1000

abbrev pub most_divisor : ℕ
most_divisor = 1000

-- "down to 8 splits on any way to a leaf"
abbrev pub most_splits : ℕ
most_splits = 8

-- ---- trace

-- "N (1..4,096)"
abbrev pub most_steps : ℕ
most_steps = 4096

-- document 02, CR 2: "E (0..32,768)"
abbrev pub most_entry_values : ℕ
most_entry_values = 32768

-- "start values of main (each within ±1,000,000,000)", and document 02's entry values "as start values are"
abbrev pub start_limit : ℕ
start_limit = 1000000000

-- "Values after each step lie within ±1,000,000,000,000"
abbrev pub value_limit : ℕ
value_limit = 1000000000000

-- "at most 64 open calls, main's counted"
abbrev pub most_calls : ℕ
most_calls = 64
