-- The bounds on an input.
use Rattle.std.specs.Prelude.{ℕ}

-- bytes of an input
abbrev pub longest_input : ℕ
longest_input = 32768

-- bytes of a line before its CRLF
abbrev pub longest_line : ℕ
longest_line = 998

-- fields of an input
abbrev pub most_fields : ℕ
most_fields = 256
