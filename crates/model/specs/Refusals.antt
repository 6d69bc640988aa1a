-- The numbers of document 01's refusals, each with its name; 0 is none. Each operation says when it refuses with which.
use Rattle.std.specs.Prelude.{ℕ}

-- "Check": 1 to 8
abbrev pub contents : ℕ
contents = 1

abbrev pub register : ℕ
register = 2

abbrev pub gate_entry : ℕ
gate_entry = 3

abbrev pub form : ℕ
form = 4

abbrev pub argument : ℕ
argument = 5

abbrev pub expression : ℕ
expression = 6

abbrev pub sizes : ℕ
sizes = 7

abbrev pub upward : ℕ
upward = 8

-- "Run": 9 to 15
abbrev pub divide_by_zero : ℕ
divide_by_zero = 9

abbrev pub approximate_fail : ℕ
approximate_fail = 10

abbrev pub numerical_overflow : ℕ
numerical_overflow = 11

abbrev pub overlapping_regs : ℕ
overlapping_regs = 12

abbrev pub function_of_floats : ℕ
function_of_floats = 13

abbrev pub output_full : ℕ
output_full = 14

abbrev pub short_trace : ℕ
short_trace = 15

-- "Tally": 16
abbrev pub figure_too_large : ℕ
figure_too_large = 16

-- "Reader": 17
abbrev pub no_record : ℕ
no_record = 17
