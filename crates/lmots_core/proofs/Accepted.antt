-- Each signature leads to the public key.
use Rattle.std.proofs.Common.{◌≡◌, ℕ, ◌+◌, ◌*◌, ◌<◌, ◌≤◌, Option, Some, None, List, ◌++◌, length, take, ap, ◌∙◌, arith, length-append, nat_lt, cond}
use Rattle.std.specs.Int.{w32, to_be_bytes, from_be_bytes}
use Rattle.std.proofs.lemmas.List.{take_at}
use Rattle.std.proofs.lemmas.Nat.{and_le_l}
use Rattle.sha2.proofs.Facts256.{length-sha256}
use Rattle.lmots_core.specs.declared.parameters.Width.{Width}
use Rattle.lmots_core.specs.declared.parameters.Width.TheVariants.{W1, W2, W4, W8}
use Rattle.lmots_core.specs.Parameters.{chains_of, code_of, greatest_of, signature_len_of, width_of}
use Rattle.lmots_core.specs.Chains.{candidate_of, candidate_part, candidate_under, candidate_for, chain, digit, end_of, joined, key_of, message_hash, part_in, prefix, public_of, randomizer_in, randomizer_of, secret_of, signature_of, signed_part, whole_width, whole_width_in}
use Rattle.lmots_core.proofs.Sizes.{parts_whole}
use Rattle.lmots_core.proofs.Steps.{length-steps, steps_through}
use Rattle.lmots_core.proofs.Joined.{joined-same, length-joined, part_at}

-- the width of a signature of n bytes that begins with a width's code
abbrev width_at : Width → List ℕ → ℕ → Option Width
width_at width rest n =
    whole_width (cond (nat_lt n 4) None (width_of (from_be_bytes w32 (take 4 (to_be_bytes w32 (code_of width) ++ rest))))) n

-- a string that begins with a width's code, and has that width's length, names that width
pub named : (width : Width) (rest : List ℕ) → length (to_be_bytes w32 (code_of width) ++ rest) ≡ signature_len_of width → whole_width_in (to_be_bytes w32 (code_of width) ++ rest) ≡ Some width
named W1 rest h = ap (width_at W1 rest) h
named W2 rest h = ap (width_at W2 rest) h
named W4 rest h = ap (width_at W4 rest) h
named W8 rest h = ap (width_at W8 rest) h

pub digit_small : (width : Width) (hash : List ℕ) (i : ℕ) → digit width hash i ≤ greatest_of width
digit_small width hash i = and_le_l _ _

pub length-signed_part : (width : Width) (seed id : List ℕ) (q : ℕ) (hash : List ℕ) (i : ℕ) → length (signed_part width seed id q hash i) ≡ 32
length-signed_part width seed id q hash i = length-steps _ _ _ _ (length-sha256 _)

-- a chain as far as a digit, and then the rest, is the whole chain
pub chain_whole : (width : Width) (seed id : List ℕ) (q : ℕ) (hash : List ℕ) (i : ℕ) → chain id q i (digit width hash i) (greatest_of width) (signed_part width seed id q hash i) ≡ end_of width seed id q i
chain_whole width seed id q hash i =
    steps_through (prefix id q i) (digit width hash i) (greatest_of width) (secret_of seed id q i) (digit_small width hash i)

-- a signature's part, taken on to its chain's end
pub candidate_part_is : (width : Width) (seed id : List ℕ) (q : ℕ) (hash signature : List ℕ) (i : ℕ) → part_in signature i ≡ signed_part width seed id q hash i → candidate_part width id q hash signature i ≡ end_of width seed id q i
candidate_part_is width seed id q hash signature i h =
    ap (λ part. chain id q i (digit width hash i) (greatest_of width) part) h ∙ chain_whole width seed id q hash i

-- a string with the parts of a signature of its own randomizer leads to the public key
pub candidate_is : (width : Width) (seed id : List ℕ) (q : ℕ) (message signature randomizer : List ℕ) → randomizer_in signature ≡ randomizer → ((i : ℕ) → i < chains_of width → part_in signature i ≡ signed_part width seed id q (message_hash id q randomizer message) i) → candidate_under width id q message signature ≡ public_of width seed id q
candidate_is width seed id q message signature randomizer e h =
    let hash = message_hash id q randomizer message in
    ap (λ r. key_of id q (joined (candidate_part width id q (message_hash id q r message) signature) (chains_of width))) e
    ∙ ap (key_of id q) (joined-same (candidate_part width id q hash signature) (end_of width seed id q) (chains_of width) (λ i b. candidate_part_is width seed id q hash signature i (h i b)))

-- the lengths of a head and of its parts
lengths_add : (a b c d : ℕ) → a ≡ 36 → b ≡ 32 * c → 36 + 32 * c ≡ d → a + b ≡ d
lengths_add a b c d h k l = omega arith

pub accepted : (width : Width) (seed id : List ℕ) (q : ℕ) (message : List ℕ) → candidate_of id q message (signature_of width seed id q message) ≡ Some (public_of width seed id q)
accepted width seed id q message =
    let randomizer = randomizer_of seed id q in
    let f = signed_part width seed id q (message_hash id q randomizer message) in
    let head = to_be_bytes w32 (code_of width) ++ randomizer in
    let parts = joined f (chains_of width) in
    let signature = signature_of width seed id q message in
    let randomizer_len : length (randomizer_of seed id q) ≡ 32 = length-sha256 _ in
    let head_len : length (to_be_bytes w32 (code_of width) ++ randomizer_of seed id q) ≡ 36 = omega (arith, length-append (to_be_bytes w32 (code_of width)) (randomizer_of seed id q)) in
    let each : (i : ℕ) → length (f i) ≡ 32 = length-signed_part width seed id q (message_hash id q randomizer message) in
    let len : length signature ≡ signature_len_of width = length-append head parts ∙ lengths_add _ _ _ _ head_len (length-joined f (chains_of width) each) (parts_whole width) in
    ap (λ w. candidate_for w id q message signature) (named width (randomizer ++ parts) len)
    ∙ ap Some (candidate_is width seed id q message signature randomizer (take_at randomizer parts 32 randomizer_len) (λ i b. part_at head f (chains_of width) i head_len each b))
