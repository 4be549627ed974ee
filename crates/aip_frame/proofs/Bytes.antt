-- Parts of lists of bytes, and numbers in them.
use Rattle.std.proofs.Common.{◌≡◌, ℕ, ◌+◌, ◌<◌, ◌≤◌, List, [], ◌∷◌, ◌++◌, length, get_or, take, drop, refl, sym, ap, ◌∙◌, arith, inl, inr}
use Rattle.std.proofs.lemmas.Bool.{cases_lt}
use Rattle.std.proofs.lemmas.List.{take-append-drop, drop-drop, drop_at, length-take, get_or-drop, get_or-take, get_or_past}
use Rattle.std.proofs.lemmas.Nat.{be_bytes_2, be_bytes_4}
use Rattle.byteorder.specs.Endian.{big_bytes, big_number}

-- each number is one that a byte holds
abbrev pub IsBytes : List ℕ → Type 0
IsBytes bytes = (i : ℕ) → get_or bytes i 0 < 256

pub IsBytes-drop : (n : ℕ) (bytes : List ℕ) → IsBytes bytes → IsBytes (drop n bytes)
IsBytes-drop n bytes h i = rw get_or-drop (h (n + i))

IsBytes-take : (n : ℕ) (bytes : List ℕ) → IsBytes bytes → IsBytes (take n bytes)
IsBytes-take n bytes h i =
    elim (cases_lt i n) [
      | inl lt ↦ rw (get_or-take n bytes i 0 lt) (h i)
      | inr le ↦ rw (get_or_past (take n bytes) i 0 (omega (arith, length-take n bytes))) (omega arith)
    ]

-- two bytes are the spelling of the number in them
pub big_again_2 : (xs : List ℕ) → IsBytes xs → 2 ≤ length xs → big_bytes 2 (big_number 2 xs) ≡ take 2 xs
big_again_2 [] fits long = absurd (omega arith)
big_again_2 (a ∷ []) fits long = absurd (omega arith)
big_again_2 (a ∷ b ∷ xs) fits long =
    be_bytes_2 (a ∷ b ∷ []) (big_number 2 (a ∷ b ∷ xs)) refl (IsBytes-take 2 (a ∷ b ∷ xs) fits) (omega arith)

-- and so are four
pub big_again_4 : (xs : List ℕ) → IsBytes xs → 4 ≤ length xs → big_bytes 4 (big_number 4 xs) ≡ take 4 xs
big_again_4 [] fits long = absurd (omega arith)
big_again_4 (a ∷ []) fits long = absurd (omega arith)
big_again_4 (a ∷ b ∷ []) fits long = absurd (omega arith)
big_again_4 (a ∷ b ∷ c ∷ []) fits long = absurd (omega arith)
big_again_4 (a ∷ b ∷ c ∷ d ∷ xs) fits long =
    be_bytes_4 (a ∷ b ∷ c ∷ d ∷ []) (big_number 4 (a ∷ b ∷ c ∷ d ∷ xs)) refl (IsBytes-take 4 (a ∷ b ∷ c ∷ d ∷ xs) fits) (omega arith)

-- the first four of a list
pub four_first : (xs : List ℕ) → 4 ≤ length xs → xs ≡ get_or xs 0 0 ∷ get_or xs 1 0 ∷ get_or xs 2 0 ∷ get_or xs 3 0 ∷ drop 4 xs
four_first [] long = absurd (omega arith)
four_first (a ∷ []) long = absurd (omega arith)
four_first (a ∷ b ∷ []) long = absurd (omega arith)
four_first (a ∷ b ∷ c ∷ []) long = absurd (omega arith)
four_first (a ∷ b ∷ c ∷ d ∷ xs) long = refl

-- a part and what follows it
pub seam : (n m : ℕ) (xs : List ℕ) → take m (drop n xs) ++ drop (n + m) xs ≡ drop n xs
seam n m xs = ap (λ (t : List ℕ). take m (drop n xs) ++ t) (sym (drop-drop m n xs)) ∙ take-append-drop m (drop n xs)

-- what follows a front, and some more
pub drop_past : (n m : ℕ) (xs ys : List ℕ) → length xs ≡ n → drop (n + m) (xs ++ ys) ≡ drop m ys
drop_past n m xs ys e = sym (drop-drop m n (xs ++ ys)) ∙ ap (λ (t : List ℕ). drop m t) (drop_at xs ys n e)
