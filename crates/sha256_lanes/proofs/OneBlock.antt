-- A message that fills one padded block.
use Rattle.std.proofs.Common.{take, suc, drop, slice_set, ◌≡◌, ℕ, ◌-◌, ◌*◌, ◌/◌, ◌%◌, ◌^◌, ◌≤◌, List, length, replicate, ap, ◌∙◌, arith, ◌∷◌, length-append}
use Rattle.std.specs.Int.{w64, to_be_bytes}
use Rattle.std.proofs.lemmas.List.{drop-replicate, take-replicate, length-replicate, take_all}
use Rattle.sha2.specs.Sha256.{compress, digest_bytes, hash_after, initial_hash_256, padded_message, padding, sha256}

length-padding : (n : ℕ) → n ≤ 55 → length (padding n) ≡ 64 - n
length-padding n h =
    omega (arith, length-append (0x80 ∷ replicate ((119 - n % 64) % 64) 0) (to_be_bytes w64 (n * 8 % 2 ^ 64)), length-replicate {A = ℕ} ((119 - n % 64) % 64) 0)

pub length-padded : (m : List ℕ) → length m ≤ 55 → length (padded_message m) ≡ 64
length-padded m h = omega (arith, length-append m (padding (length m)), length-padding (length m) h)

pub sha256_block : (m : List ℕ) → length m ≤ 55 → sha256 m ≡ digest_bytes (compress initial_hash_256 (padded_message m)) 8
unfolding sha256 hash_after
sha256_block m h =
    let len : length (padded_message m) ≡ 64 = length-padded m h in
    let one : length (padded_message m) / 64 ≡ 1 = ap (λ k. k / 64) len in
    ap (λ k. digest_bytes (hash_after initial_hash_256 (padded_message m) k) 8) one
    ∙ ap (λ b. digest_bytes (compress initial_hash_256 b) 8) (take_all 64 (padded_message m) (omega arith))

-- the bit 1 and the zeros behind n bytes of a block
pub mark_set : (n : ℕ) → n ≤ 55 → slice_set {A = ℕ} (take (56 - n) (drop n (replicate 64 0))) 0 128 ≡ 128 ∷ replicate ((119 - n % 64) % 64) 0
mark_set n h =
    let none : ℕ = 0 in
    let behind : drop {A = ℕ} n (replicate 64 0) ≡ replicate (64 - n) 0 = drop-replicate n 64 none in
    let front : take {A = ℕ} (56 - n) (replicate (64 - n) 0) ≡ replicate (56 - n) 0 = take-replicate (56 - n) (64 - n) none (omega arith) in
    let one : 56 - n ≡ suc ((119 - n % 64) % 64) = omega arith in
    ap (λ (xs : List ℕ). slice_set xs 0 128) (ap (take (56 - n)) behind ∙ front ∙ ap (λ k. replicate k none) one)

-- the number of bits of n bytes
pub bits_are : (n : ℕ) → n ≤ 55 → 8 * n ≡ n * 8 % 2 ^ 64
bits_are n h = omega arith
