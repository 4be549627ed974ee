-- The bytes of a hash value's words.
use Rattle.std.proofs.Common.{◌≡◌, ℕ, zero, suc, ◌+◌, ◌<◌, ◌≤◌, List, [], ◌∷◌, ◌++◌, length, take, get_or, refl, sym, ap, ◌∙◌, append_assoc, arith, lit<}
use Rattle.std.specs.Int.{w32, to_be_bytes}
use Rattle.std.proofs.lemmas.List.{take_all, take_more}
use Rattle.std.proofs.lemmas.Nat.{be_bytes_4}
use Rattle.sha2.specs.Sha256.{digest_bytes, word_at}

push_four : (ys : List ℕ) (a b c d : ℕ) → (((ys ++ a ∷ []) ++ b ∷ []) ++ c ∷ []) ++ d ∷ [] ≡ ys ++ (a ∷ b ∷ c ∷ d ∷ [])
push_four ys a b c d = simp append_assoc

four_fit : (a b c d : ℕ) → a < 256 → b < 256 → c < 256 → d < 256 → (i : ℕ) → get_or (a ∷ b ∷ c ∷ d ∷ []) i 0 < 256
four_fit a b c d ha hb hc hd zero = ha
four_fit a b c d ha hb hc hd (suc zero) = hb
four_fit a b c d ha hb hc hd (suc (suc zero)) = hc
four_fit a b c d ha hb hc hd (suc (suc (suc zero))) = hd
four_fit a b c d ha hb hc hd (suc (suc (suc (suc n)))) = lit< tt

-- four bytes more of a string, written from their word
four_more : (xs : List ℕ) (n : ℕ) → ((i : ℕ) → get_or xs i 0 < 256) → n + 4 ≤ length xs → take n xs ++ to_be_bytes w32 (word_at xs n) ≡ take (n + 4) xs
four_more xs n fits h =
    let four : List ℕ = get_or xs n 0 ∷ get_or xs (n + 1) 0 ∷ get_or xs (n + 2) 0 ∷ get_or xs (n + 3) 0 ∷ [] in
    let bytes : to_be_bytes w32 (word_at xs n) ≡ get_or xs n 0 ∷ get_or xs (n + 1) 0 ∷ get_or xs (n + 2) 0 ∷ get_or xs (n + 3) 0 ∷ [] = be_bytes_4 four (word_at xs n) refl (four_fit _ _ _ _ (fits n) (fits (n + 1)) (fits (n + 2)) (fits (n + 3))) refl in
    let e1 : take (n + 1) xs ≡ take n xs ++ get_or xs n 0 ∷ [] = take_more xs n 0 (omega arith) in
    let e2 : take (n + 2) xs ≡ take (n + 1) xs ++ get_or xs (n + 1) 0 ∷ [] = ap (λ k. take k xs) (omega arith) ∙ take_more xs (n + 1) 0 (omega arith) in
    let e3 : take (n + 3) xs ≡ take (n + 2) xs ++ get_or xs (n + 2) 0 ∷ [] = ap (λ k. take k xs) (omega arith) ∙ take_more xs (n + 2) 0 (omega arith) in
    let e4 : take (n + 4) xs ≡ take (n + 3) xs ++ get_or xs (n + 3) 0 ∷ [] = ap (λ k. take k xs) (omega arith) ∙ take_more xs (n + 3) 0 (omega arith) in
    ap (λ bs. take n xs ++ bs) bytes
    ∙ sym (e4 ∙ ap (λ ys. ys ++ get_or xs (n + 3) 0 ∷ []) (e3 ∙ ap (λ ys. ys ++ get_or xs (n + 2) 0 ∷ []) (e2 ∙ ap (λ ys. ys ++ get_or xs (n + 1) 0 ∷ []) e1)) ∙ push_four (take n xs) _ _ _ _)

-- the bytes of a string's eight words
pub bytes_of_words : (xs : List ℕ) → length xs ≡ 32 → ((i : ℕ) → get_or xs i 0 < 256)
    → digest_bytes (word_at xs 0 ∷ word_at xs 4 ∷ word_at xs 8 ∷ word_at xs 12 ∷ word_at xs 16 ∷ word_at xs 20 ∷ word_at xs 24 ∷ word_at xs 28 ∷ []) 8 ≡ xs
unfolding digest_bytes
bytes_of_words xs h fits =
    let e1 = four_more xs 0 fits (omega arith) in
    let e2 = ap (λ front. front ++ to_be_bytes w32 (word_at xs 4)) e1 ∙ four_more xs 4 fits (omega arith) in
    let e3 = ap (λ front. front ++ to_be_bytes w32 (word_at xs 8)) e2 ∙ four_more xs 8 fits (omega arith) in
    let e4 = ap (λ front. front ++ to_be_bytes w32 (word_at xs 12)) e3 ∙ four_more xs 12 fits (omega arith) in
    let e5 = ap (λ front. front ++ to_be_bytes w32 (word_at xs 16)) e4 ∙ four_more xs 16 fits (omega arith) in
    let e6 = ap (λ front. front ++ to_be_bytes w32 (word_at xs 20)) e5 ∙ four_more xs 20 fits (omega arith) in
    let e7 = ap (λ front. front ++ to_be_bytes w32 (word_at xs 24)) e6 ∙ four_more xs 24 fits (omega arith) in
    let e8 = ap (λ front. front ++ to_be_bytes w32 (word_at xs 28)) e7 ∙ four_more xs 28 fits (omega arith) in
    e8 ∙ take_all 32 xs (omega arith)
