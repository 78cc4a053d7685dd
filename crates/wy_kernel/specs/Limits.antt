-- The limits of a source, of a run and of a trace, each with its unit.
use Rattle.std.specs.Prelude.{ℕ}

-- bytes of a source
abbrev pub source_limit : ℕ
source_limit = 1048576

-- bytes of an input
abbrev pub input_limit : ℕ
input_limit = 16777216

-- steps of a budget
abbrev pub steps_limit : ℕ
steps_limit = 50000000

-- events of a run
abbrev pub event_limit : ℕ
event_limit = 4000000

-- uses of all events of a run
abbrev pub use_limit : ℕ
use_limit = 32000000

-- elements of all arrays of a run
abbrev pub element_limit : ℕ
element_limit = 16777216

-- units of all texts that a run makes
abbrev pub unit_limit : ℕ
unit_limit = 16777216

-- bytes of an output
abbrev pub output_limit : ℕ
output_limit = 16777216

-- calls and initializations that stand in one another
abbrev pub depth_limit : ℕ
depth_limit = 1000

-- each index of an array is below
abbrev pub index_limit : ℕ
index_limit = 2147483648

-- bytes of a trace
abbrev pub trace_limit : ℕ
trace_limit = 1073741824
