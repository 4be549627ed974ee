-- A block whose bytes are changed one after the other.
use Rattle.std.proofs.Common.{◌≡◌, ℕ, ◌+◌, ◌<◌, List, ◌++◌, length, take, drop, bit_xor, set, get_or, ap, arith}
use Rattle.std.proofs.lemmas.List.{get_or_default, length-append, length-map, length-take, length-drop}
use Rattle.std.proofs.lemmas.List.Edits.{map_over_more}
use Rattle.aip_mac.specs.Hmac.{masked}

-- one more byte, at place i, is changed
pub masked_more : (pad : ℕ) (before now : List ℕ) (i : ℕ) → i < length before
    → now ≡ masked (take i before) pad ++ drop i before
    → set now i (bit_xor (get_or now i 0) pad) ≡ masked (take (i + 1) before) pad ++ drop (i + 1) before
masked_more pad before now i inside so_far =
    let sizes = simp (length-append, length-map, length-take, length-drop) at (ap length so_far) in
    let here : i < length now = omega arith in
    map_over_more (λ byte. bit_xor byte pad) before now i (get_or now i 0) inside so_far
    (get_or_default now i 0 (get_or now i 0) here)
