-- The grammar of names.
use Rattle.std.specs.Prelude.{ℕ, Bool, false, ◌==◌, ◌&&◌, ◌||◌, List, [], ◌∷◌, length, nat_le, IsTrue}
use Rattle.std.specs.List.{list_all}

-- a letter from a to z
abbrev pub is_letter : ℕ → Bool
is_letter b = nat_le 97 b && nat_le b 122

-- a digit from 0 to 9
abbrev pub is_digit : ℕ → Bool
is_digit b = nat_le 48 b && nat_le b 57

-- a byte that a name may have
abbrev pub is_name_byte : ℕ → Bool
is_name_byte b = is_letter b || (is_digit b || (b == 45))

-- the first byte is a letter
abbrev pub begins_with_letter : List ℕ → Bool
begins_with_letter [] = false
begins_with_letter (b ∷ bs) = is_letter b

-- one to sixteen bytes of names, the first a letter
abbrev pub is_name : List ℕ → Bool
is_name bs = nat_le (length bs) 16 && (begins_with_letter bs && list_all is_name_byte bs)

-- the bytes are a name
abbrev pub IsName : List ℕ → Type 0
IsName bs = IsTrue (is_name bs)
