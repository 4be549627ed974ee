-- A letter before a number of one or two digits is a name.
use Rattle.std.proofs.Common.{ℕ, ◌≡◌, ◌+◌, ◌<◌, ◌≤◌, ◌/◌, ◌%◌, inl, inr, true, [], ◌∷◌, ◌++◌, decimal, arith, refl, ◌∙◌, ap, Option, Some, None, MatchOption, IsSome}
use Rattle.std.proofs.lemmas.Bool.{cases_lt}
use Rattle.std.proofs.lemmas.Fmt.{decimal_digit, decimal_step}
use Rattle.aip_addr.specs.Naming.{IsName, is_letter, is_name_byte}

-- a digit may stand in a name
digit_byte : (k : ℕ) → k < 10 → is_name_byte (48 + k) ≡ true
digit_byte k small = grind arith

one_digit : (letter d : ℕ) → is_letter letter ≡ true → is_name_byte d ≡ true → IsName (letter ∷ d ∷ [])
one_digit letter d first digit = grind arith

two_digits : (letter d e : ℕ) → is_letter letter ≡ true → is_name_byte d ≡ true → is_name_byte e ≡ true → IsName (letter ∷ d ∷ e ∷ [])
two_digits letter d e first digit second = grind arith

-- a number of two digits
tens_and_ones : (n : ℕ) → 10 ≤ n → n < 100 → decimal n ≡ (48 + n / 10) ∷ (48 + n % 10) ∷ []
tens_and_ones n more small =
    decimal_step n more (omega arith) ∙ ap (λ ds. ds ++ ((48 + n % 10) ∷ [])) (decimal_digit (n / 10) (omega arith))

pub numbered_name : (letter n : ℕ) → is_letter letter ≡ true → n < 100 → IsName (letter ∷ decimal n)
numbered_name letter n first small = elim (cases_lt n 10) [
  | inl one ↦ rw (decimal_digit n one) (one_digit letter (48 + n) first (digit_byte n one))
  | inr more ↦
      rw (tens_and_ones n more small)
      (two_digits letter (48 + n / 10) (48 + n % 10) first (digit_byte (n / 10) (omega arith)) (digit_byte (n % 10) (omega arith)))
]

-- what is read of bytes that are a name is some name
pub is_found : {X : Type 0} (o : Option X) (P : Type 0) (Q : X → Type 0) → MatchOption o (P → ⊥) Q → P → IsSome o
is_found None P Q none holds = absurd (none holds)
is_found (Some x) P Q some holds = refl
