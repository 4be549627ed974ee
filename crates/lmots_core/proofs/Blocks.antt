-- A block of a chain, and what a write to one of its fields leaves.
use Rattle.std.proofs.Common.{◌≡◌, ℕ, ◌+◌, ◌<◌, ◌≤◌, List, [], ◌∷◌, ◌++◌, length, take, sym, ap, ◌∙◌, append_assoc, arith, length-append}
use Rattle.std.proofs.Math.ListN.{set}
use Rattle.std.proofs.lemmas.List.{take_at, take-take, take_more_set, length-set}

-- the first two of three parts
pub front_two : (a b r : List ℕ) (n : ℕ) → length a + length b ≡ n → take n (a ++ (b ++ r)) ≡ a ++ b
front_two a b r n h = rw (← append_assoc a b r) (take_at (a ++ b) r n (length-append a b ∙ h))

-- what agrees on the first n bytes agrees on fewer
pub take_fewer : (m n : ℕ) (xs ys : List ℕ) → m ≤ n → take n xs ≡ take n ys → take m xs ≡ take m ys
take_fewer m n xs ys h e = sym (take-take m n xs h) ∙ ap (take m) e ∙ take-take m n ys h

-- two bytes written, one after the other
pub take_two_set : (xs : List ℕ) (i a b : ℕ) → i + 1 < length xs → take (i + 1 + 1) (set (set xs i a) (i + 1) b) ≡ take i xs ++ a ∷ b ∷ []
take_two_set xs i a b h =
    let inside : i + 1 < length (set xs i a) = rw (length-set xs i a) h in
    let before : i < length xs = omega arith in
    take_more_set (set xs i a) (i + 1) b inside ∙ ap (λ ys. ys ++ b ∷ []) (take_more_set xs i a before) ∙ append_assoc (take i xs) (a ∷ []) (b ∷ [])
