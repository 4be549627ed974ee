-- A block that is filled up behind the bytes that it begins with.
use Rattle.std.proofs.Common.{◌≡◌, ℕ, List, ◌++◌, replicate, length, drop}
use Rattle.std.proofs.lemmas.List.{drop-replicate}
use Rattle.aip_mac.specs.Hmac.{padded}

-- a block of zeros whose front is overwritten by the bytes is the bytes, filled up
pub padded_from : (bytes front back : List ℕ) → front ≡ bytes
    → back ≡ drop (length bytes) (replicate 64 0) → front ++ back ≡ padded bytes
padded_from bytes front back same zeros =
    rw (same, zeros, drop-replicate {X = ℕ} (length bytes) 64 0)
