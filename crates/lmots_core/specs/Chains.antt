-- LM-OTS (RFC 8554, section 4) with SHA-256 and n = 32, as functions on lists of bytes. `id` is the key's identifier I
-- of 16 bytes, `q` the number of the leaf, and `seed` the secret SEED of 32 bytes.
use Rattle.std.specs.Prelude.{ℕ, zero, suc, ◌+◌, ◌-◌, ◌*◌, ◌/◌, ◌%◌, ◌^◌, ◌==◌, if◌then◌else◌, List, [], ◌∷◌, ◌++◌, length, take, drop, slice_index, nat_lt, bit_and, Option, None, Some}
use Rattle.std.specs.Int.{w16, w32, to_be_bytes, from_be_bytes}
use Rattle.sha2.specs.Sha256.{sha256}
use Rattle.lmots_core.specs.declared.parameters.Width.{Width}
use Rattle.lmots_core.specs.Parameters.{bits_of, chains_of, code_of, greatest_of, shift_of, signature_len_of, width_of}

-- ---- digits

-- coef(S, i, w): digit i of the string S in digits of w bits (RFC 8554, section 3.1.3)
abbrev pub coefficient : List ℕ → ℕ → ℕ → ℕ
coefficient s i w =
    bit_and (2 ^ w - 1) (slice_index s (i * w / 8) / 2 ^ (8 - (w * (i % (8 / w)) + w)))

-- how far the first n digits of S lie below the greatest digit, in sum (RFC 8554, section 4.4)
unfoldable pub shortfall : List ℕ → ℕ → ℕ → ℕ
shortfall s w zero = 0
shortfall s w (suc n) = shortfall s w n + (2 ^ w - 1 - coefficient s n w)

-- Cksm(S), the checksum of a hash of 32 bytes, which has 256 / w digits (RFC 8554, section 4.4)
abbrev pub checksum : Width → List ℕ → ℕ
checksum width s = shortfall s (bits_of width) (256 / bits_of width) * 2 ^ shift_of width

-- a[i]: digit i of a hash followed by its checksum (RFC 8554, section 4.5)
abbrev pub digit : Width → List ℕ → ℕ → ℕ
digit width hash i = coefficient (hash ++ to_be_bytes w16 (checksum width hash)) i (bits_of width)

-- ---- chains

-- what each hash of a leaf begins with: I || u32str(q) || u16str(i), where i is the number of a chain, or D_PBLC or
-- D_MESG (RFC 8554, sections 4.3 and 4.5)
abbrev pub prefix : List ℕ → ℕ → ℕ → List ℕ
prefix id q i = id ++ to_be_bytes w32 q ++ to_be_bytes w16 i

-- one step of a chain from number j on, under the chain's prefix p: H(I || u32str(q) || u16str(i) || u8str(j) || tmp)
-- (RFC 8554, section 4.3)
abbrev pub step : List ℕ → ℕ → List ℕ → List ℕ
step p j tmp = sha256 (p ++ j ∷ tmp)

-- n steps of a chain, the first of them from number a on (RFC 8554, section 4.3)
unfoldable pub steps : List ℕ → ℕ → ℕ → List ℕ → List ℕ
steps p a zero x = x
steps p a (suc n) x = steps p (a + 1) n (step p a x)

-- chain i from number a up to number b (RFC 8554, section 4.3)
abbrev pub chain : List ℕ → ℕ → ℕ → ℕ → ℕ → List ℕ → List ℕ
chain id q i a b x = steps (prefix id q i) a (b - a) x

-- the strings f 0, f 1, up to f (n - 1), one after another
unfoldable pub joined : (ℕ → List ℕ) → ℕ → List ℕ
joined f zero = []
joined f (suc n) = joined f n ++ f n

-- ---- keys and signatures

-- x[i], where chain i begins: H(I || u32str(q) || u16str(i) || u8str(0xff) || SEED) (RFC 8554, appendix A)
abbrev pub secret_of : List ℕ → List ℕ → ℕ → ℕ → List ℕ
secret_of seed id q i = sha256 (prefix id q i ++ 0xff ∷ seed)

-- C, the randomizer of a signature. RFC 8554, section 4.5, leaves its choice to the signer: here it is made
-- as an x[i] (appendix A) with 0xfffd, the number of no chain, in the place of i
abbrev pub randomizer_of : List ℕ → List ℕ → ℕ → List ℕ
randomizer_of seed id q = secret_of seed id q 0xfffd

-- Q, the hash of a message: H(I || u32str(q) || u16str(D_MESG) || C || message), where D_MESG is 0x8181
-- (RFC 8554, section 4.5)
abbrev pub message_hash : List ℕ → ℕ → List ℕ → List ℕ → List ℕ
message_hash id q randomizer message = sha256 (prefix id q 0x8181 ++ randomizer ++ message)

-- K, the key of the chains' ends: H(I || u32str(q) || u16str(D_PBLC) || y[0] || .. || y[p-1]), where D_PBLC is 0x8080
-- (RFC 8554, section 4.3)
abbrev pub key_of : List ℕ → ℕ → List ℕ → List ℕ
key_of id q ends = sha256 (prefix id q 0x8080 ++ ends)

-- y[i] of the public key: the end of the whole chain i (RFC 8554, section 4.3)
abbrev pub end_of : Width → List ℕ → List ℕ → ℕ → ℕ → List ℕ
end_of width seed id q i = chain id q i 0 (greatest_of width) (secret_of seed id q i)

-- K of a private key (RFC 8554, section 4.3)
abbrev pub public_of : Width → List ℕ → List ℕ → ℕ → List ℕ
public_of width seed id q = key_of id q (joined (end_of width seed id q) (chains_of width))

-- y[i] of a signature: chain i as far as digit i of the message's hash (RFC 8554, section 4.5)
abbrev pub signed_part : Width → List ℕ → List ℕ → ℕ → List ℕ → ℕ → List ℕ
signed_part width seed id q hash i = chain id q i 0 (digit width hash i) (secret_of seed id q i)

-- the signature u32str(type) || C || y[0] || .. || y[p-1] (RFC 8554, section 4.5)
abbrev pub signature_of : Width → List ℕ → List ℕ → ℕ → List ℕ → List ℕ
signature_of width seed id q message =
    let randomizer = randomizer_of seed id q in
    let hash = message_hash id q randomizer message in
    to_be_bytes w32 (code_of width) ++ randomizer ++ joined (signed_part width seed id q hash) (chains_of width)

-- ---- verification

-- C of a signature, its bytes 4 to 35 (RFC 8554, section 4.5)
abbrev pub randomizer_in : List ℕ → List ℕ
randomizer_in signature = take 32 (drop 4 signature)

-- y[i] of a signature, the 32 bytes from 36 + 32 * i on (RFC 8554, section 4.5)
abbrev pub part_in : List ℕ → ℕ → List ℕ
part_in signature i = take 32 (drop (36 + 32 * i) signature)

-- z[i]: chain i taken on from the signature's part to its end (RFC 8554, section 4.6, algorithm 4b)
abbrev pub candidate_part : Width → List ℕ → ℕ → List ℕ → List ℕ → ℕ → List ℕ
candidate_part width id q hash signature i =
    chain id q i (digit width hash i) (greatest_of width) (part_in signature i)

-- Kc, of a signature of this width (RFC 8554, section 4.6, algorithm 4b)
abbrev pub candidate_under : Width → List ℕ → ℕ → List ℕ → List ℕ → List ℕ
candidate_under width id q message signature =
    let hash = message_hash id q (randomizer_in signature) message in
    key_of id q (joined (candidate_part width id q hash signature) (chains_of width))

-- the width that the first four bytes of a signature name, where there are four bytes and the code is one of the table
-- (RFC 8554, section 4.6, algorithm 4b)
abbrev pub width_in : List ℕ → Option Width
width_in signature =
    if nat_lt (length signature) 4 then None else width_of (from_be_bytes w32 (take 4 signature))

-- the width, where the length is that width's (RFC 8554, section 4.6, algorithm 4b)
abbrev pub whole_width : Option Width → ℕ → Option Width
whole_width None n = None
whole_width (Some width) n = if n == signature_len_of width then Some width else None

-- the width of a signature that is well formed: that has four bytes, whose code is known, and whose length is that code's
abbrev pub whole_width_in : List ℕ → Option Width
whole_width_in signature = whole_width (width_in signature) (length signature)

-- Kc of a signature of this width, where there is one
abbrev pub candidate_for : Option Width → List ℕ → ℕ → List ℕ → List ℕ → Option (List ℕ)
candidate_for None id q message signature = None
candidate_for (Some width) id q message signature = Some (candidate_under width id q message signature)

-- Kc, the key that a signature leads to; there is none where the signature isn't well formed
-- (RFC 8554, section 4.6, algorithm 4b)
abbrev pub candidate_of : List ℕ → ℕ → List ℕ → List ℕ → Option (List ℕ)
candidate_of id q message signature = candidate_for (whole_width_in signature) id q message signature
