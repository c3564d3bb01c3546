-- The limits, as the documents have them, each with its number.
use Rattle.std.specs.Prelude.{◌≡◌, refl}
use Rattle.words.specs.Limits.{most_statements, most_procedures, most_vertices, most_globals, most_locals, most_pool, most_line, coefficient_limit, constant_limit, constant_unit, most_low, most_words, most_disjuncts, most_rows, most_multiplier, most_divisor, most_splits, most_steps, most_entry_values, start_limit, value_limit, most_calls}

-- "n 1..1,024; p 1..32; G and L 0..8; F 0..L; Q 0..12,000"
pub program_limits : (most_statements ≡ 1024) × (most_procedures ≡ 32) × (most_vertices ≡ 1056) × (most_globals ≡ 8) × (most_locals ≡ 8) × (most_pool ≡ 12000)
program_limits = (refl, refl, refl, refl, refl, refl)

-- document 02's "a line, 0..1,000,000"
pub line_limit : most_line ≡ 1000000
line_limit = refl

-- "Coefficients −1,000..1,000"; document 02's "within ±4,000,000,000 and take two words, high × 1,000,000 + low, low 0..999,999"
pub row_limits : (coefficient_limit ≡ 1000) × (constant_limit ≡ 4000000000) × (constant_unit ≡ 1000000) × (most_low ≡ 999999)
row_limits = (refl, refl, refl, refl)

-- "the sheet has at most 1,000,000 words"; "disjunct count (0..8)"; "a row count (0..32)"; "Multipliers 0..1,000, divisors 1..1,000"; document 02's
-- "down to 8 splits on any way to a leaf"
pub certificate_limits : (most_words ≡ 1000000) × (most_disjuncts ≡ 8) × (most_rows ≡ 32) × (most_multiplier ≡ 1000) × (most_divisor ≡ 1000) × (most_splits ≡ 8)
certificate_limits = (refl, refl, refl, refl, refl, refl)

-- "N (1..4,096)"; document 02's "E (0..32,768)"; "start values of main (each within ±1,000,000,000)"; "Values after each step lie within ±1,000,000,000,000"; "at most 64
-- open calls"
pub trace_limits : (most_steps ≡ 4096) × (most_entry_values ≡ 32768) × (start_limit ≡ 1000000000) × (value_limit ≡ 1000000000000) × (most_calls ≡ 64)
trace_limits = (refl, refl, refl, refl, refl)
