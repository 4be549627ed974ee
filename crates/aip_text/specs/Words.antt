-- The words of a text file: numbers and bytes in hex, and where a word ends.
use Rattle.std.specs.Prelude.{◌≡◌, ◌<◌, ℕ, ◌+◌, ◌^◌, ◌==◌, ◌&&◌, ◌||◌, Bool, true, false, not, if◌then◌else◌, nat_le, nat_lt, List, [], ◌∷◌, ◌++◌, length, take, drop, position, codes, Option, Some, None}
use Rattle.std.specs.List.{list_all}
use Rattle.std.specs.Option.{option_map}
use Rattle.std.specs.Result.{result_ok}
use Rattle.std.specs.Str.{bytes_eq}
use Rattle.std.specs.Str.Parse.{digits_value}
use Rattle.aip_addr.specs.Naming.{is_digit}
use Rattle.hex.specs.Hex.{decode_of, decode_sized, encode_lower}

-- a first digit, which is no zero unless it is the only one
abbrev pub has_first_digit : List ℕ → Bool
has_first_digit [] = false
has_first_digit (d ∷ []) = true
has_first_digit (d ∷ e ∷ ds) = not (d == 48)

-- the number below 2^64 that a word spells in decimal, without a leading zero
abbrev pub u64_of : List ℕ → Option ℕ
u64_of word =
    if has_first_digit word && (list_all is_digit word && nat_lt (digits_value 10 word) (2 ^ 64)) then Some (digits_value 10 word) else None

-- the same of at most 15 digits
abbrev pub number_of : List ℕ → Option ℕ
number_of word = if nat_le (length word) 15 then u64_of word else None

-- a number that a line may write: of at most 15 digits
abbrev pub IsNumber : ℕ → Type 0
IsNumber n = n < 10 ^ 15

-- a digit of hex, in lower case
abbrev pub is_lower_digit : ℕ → Bool
is_lower_digit b = is_digit b || (nat_le 97 b && nat_le b 102)

-- the bytes that a word spells in hex, by one or more pairs of digits in lower case
abbrev pub hex_of : List ℕ → Option (List ℕ)
hex_of word = if nat_lt 0 (length word) && list_all is_lower_digit word then result_ok (decode_of word) else None

-- the same for just n bytes
abbrev pub hex_sized : ℕ → List ℕ → Option (List ℕ)
hex_sized n word = if list_all is_lower_digit word then result_ok (decode_sized word n) else None

-- how bytes are written: a dash for none, or their hex in lower case
abbrev pub bytes_word : List ℕ → List ℕ
bytes_word [] = codes "-"
bytes_word (b ∷ bs) = encode_lower (b ∷ bs)

-- the bytes that a word writes so
abbrev pub bytes_of : List ℕ → Option (List ℕ)
bytes_of word = if bytes_eq word (codes "-") then Some [] else hex_of word

-- no byte is that one
abbrev pub lacks : ℕ → List ℕ → Bool
lacks byte text = list_all (λ b. not (b == byte)) text

-- what stands before the first such byte, and what follows it
abbrev pub cut_at : ℕ → List ℕ → Option (List ℕ × List ℕ)
cut_at byte text = option_map (λ at. (take at text, drop (at + 1) text)) (position (λ b. b == byte) text)

-- the word before the first space of a line, and what follows that space
abbrev pub cut : List ℕ → Option (List ℕ × List ℕ)
cut line = cut_at 32 line

-- new is old with something at its end, if anything
abbrev pub Continues : List ℕ → List ℕ → Type 0
Continues old new = (more : List ℕ) × (new ≡ old ++ more)
