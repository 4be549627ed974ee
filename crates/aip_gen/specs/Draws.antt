-- What is drawn from the words of a generator.
use Rattle.std.specs.Prelude.{ℕ, zero, suc, ◌%◌, List, [], ◌++◌}
use Rattle.std.specs.Int.{w64, to_be_bytes}
use Rattle.hex.specs.Hex.{encode_lower}
use Rattle.rand_xoshiro.specs.SplitMix64.{mix_u64}

-- a value that the words from a state on make, and the state behind the words that it took
abbrev pub Drawn : Type 0 → Type 0
Drawn A = ℕ → A × ℕ

-- a value that takes no word
abbrev pub given : {A : Type 0} → A → Drawn A
given value state = (value, state)

-- what is drawn next, of the value that was drawn first
infixl 10 ◌>>=◌
abbrev pub ◌>>=◌ : {A B : Type 0} → Drawn A → (A → Drawn B) → Drawn B
◌>>=◌ first next state = next (first state).0 (first state).1

-- the next word, of 64 bits: an output of SplitMix64
unfoldable pub word : Drawn ℕ
word state = mix_u64 state

-- a number below m: the next word modulo m
abbrev pub below : ℕ → Drawn ℕ
below m = do
  w ← word
  given (w % m)

-- the next word in hex: 16 digits, the high byte first
abbrev pub word_in_hex : Drawn (List ℕ)
word_in_hex = do
  w ← word
  given (encode_lower (to_be_bytes w64 w))

-- a secret of 32 bytes in hex: four words, one after the other
unfoldable pub secret : Drawn (List ℕ)
secret = do
  first ← word_in_hex
  second ← word_in_hex
  third ← word_in_hex
  fourth ← word_in_hex
  given (first ++ second ++ third ++ fourth)

-- the lines numbered from 0 up to a count, one after the other
unfoldable pub numbered : (ℕ → Drawn (List ℕ)) → ℕ → Drawn (List ℕ)
numbered line zero = given []
numbered line (suc count) = do
  before ← numbered line count
  last ← line count
  given (before ++ last)
