-- What a packet hash is taken over.
use Rattle.std.proofs.Common.{◌≡◌, ℕ, ◌-◌, ◌≤◌, List, [], ◌∷◌, ◌++◌, length, take, drop, refl, ap, ◌∙◌, arith}
use Rattle.std.specs.Prelude.{IsSome, IfSome, slice_set}
use Rattle.std.proofs.lemmas.List.{take_rest}
use Rattle.sha2.specs.Sha256.{sha256}
use Rattle.aip_frame.specs.Frame.{frame_of, frame_bytes, packet_hash_of}
use Rattle.aip_frame.proofs.Frames.{if_some, long, set_spelled, with_hop}

-- the bytes with the third of them 0, of three parts
hashed_parts : (bytes : List ℕ) → 90 ≤ length bytes → (take 2 bytes ++ 0 ∷ []) ++ drop 3 bytes ≡ slice_set bytes 2 0
hashed_parts [] long = absurd (omega arith)
hashed_parts (a ∷ []) long = absurd (omega arith)
hashed_parts (a ∷ b ∷ []) long = absurd (omega arith)
hashed_parts (a ∷ b ∷ c ∷ rest) long = refl

-- the hash of these parts is the packet hash
pub hashed : (bytes digest : List ℕ) → IsSome (frame_of bytes)
    → digest ≡ sha256 ((take 2 bytes ++ 0 ∷ []) ++ take (length bytes - 3) (drop 3 bytes))
    → IfSome (frame_of bytes) (λ f. digest ≡ packet_hash_of f)
unfolding packet_hash_of
hashed bytes digest some e =
    let parts : (take 2 bytes ++ 0 ∷ []) ++ take (length bytes - 3) (drop 3 bytes) ≡ slice_set bytes 2 0 =
    ap (λ (t : List ℕ). (take 2 bytes ++ 0 ∷ []) ++ t) (take_rest bytes 3) ∙ hashed_parts bytes (long bytes some) in
    if_some (frame_of bytes) (λ f. slice_set bytes 2 0 ≡ frame_bytes (with_hop f 0)) (λ f. digest ≡ packet_hash_of f)
    (λ f s. e ∙ ap sha256 (parts ∙ s)) (set_spelled bytes 0)
