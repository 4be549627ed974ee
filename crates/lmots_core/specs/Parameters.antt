-- The parameter sets of LM-OTS with SHA-256 and n = 32 (RFC 8554, section 4.1, table 1), by the width w of a digit
use Rattle.std.specs.Prelude.{ℕ, ◌-◌, ◌^◌, ◌==◌, if◌then◌else◌, Option, None, Some}
use Rattle.lmots_core.specs.declared.parameters.Width.{Width}
use Rattle.lmots_core.specs.declared.parameters.Width.TheVariants.{W1, W2, W4, W8}

-- the typecode of a parameter set (RFC 8554, section 8)
abbrev pub code_of : Width → ℕ
code_of W1 = 1
code_of W2 = 2
code_of W4 = 3
code_of W8 = 4

-- w, the number of bits of a digit (RFC 8554, section 4.1, table 1)
abbrev pub bits_of : Width → ℕ
bits_of W1 = 1
bits_of W2 = 2
bits_of W4 = 4
bits_of W8 = 8

-- p, the number of chains, one for each digit of the message's hash and of its checksum
-- (RFC 8554, section 4.1, table 1)
abbrev pub chains_of : Width → ℕ
chains_of W1 = 265
chains_of W2 = 133
chains_of W4 = 67
chains_of W8 = 34

-- ls, how far the checksum is shifted to the left (RFC 8554, section 4.1, table 1)
abbrev pub shift_of : Width → ℕ
shift_of W1 = 7
shift_of W2 = 6
shift_of W4 = 4
shift_of W8 = 0

-- the length of a signature in bytes, 4 + n * (p + 1) (RFC 8554, section 4.1, table 1)
abbrev pub signature_len_of : Width → ℕ
signature_len_of W1 = 8516
signature_len_of W2 = 4292
signature_len_of W4 = 2180
signature_len_of W8 = 1124

-- the greatest digit, 2^w - 1, which is the number of steps of a whole chain
-- (RFC 8554, section 4.3)
abbrev pub greatest_of : Width → ℕ
greatest_of width = 2 ^ bits_of width - 1

-- the parameter set of a typecode, where there is one (RFC 8554, section 8)
abbrev pub width_of : ℕ → Option Width
width_of code =
    if code == 1 then Some W1
    else if code == 2 then Some W2
    else if code == 3 then Some W4
    else if code == 4 then Some W8
    else None
