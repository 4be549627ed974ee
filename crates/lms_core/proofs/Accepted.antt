-- Each signature is valid under its public key.
use Rattle.std.proofs.Common.{◌≡◌, ℕ, zero, suc, ◌+◌, ◌-◌, ◌*◌, ◌/◌, ◌%◌, ◌^◌, ◌<◌, ◌≤◌, ◌∙◌, ◌&&◌, inl, inr, true, Some, List, ◌++◌, length, take, drop, refl, sym, ap, append_assoc, add-one, arith, length-append}
use Rattle.std.specs.Int.{w32, to_be_bytes, from_be_bytes}
use Rattle.std.specs.Prelude.{codes}
use Rattle.sha2.specs.Sha256.{sha256}
use Rattle.std.proofs.lemmas.Bool.{cases_lt, eq-eqb, lt-ltb}
use Rattle.std.proofs.lemmas.List.{drop_at, take_at, take_all, length-take-le}
use Rattle.std.proofs.lemmas.Nat.{from_be_bytes-to_be_bytes_4}
use Rattle.std.proofs.lemmas.Slice.Eq.{bytes_eq-Decides}
use Rattle.sha2.proofs.Facts256.{length-sha256}
use Rattle.lmots_core.specs.declared.parameters.Width.{Width}
use Rattle.lmots_core.specs.declared.parameters.Width.TheVariants.{W1, W2, W4, W8}
use Rattle.lmots_core.specs.Parameters.{code_of, width_of, chains_of}
use Rattle.lmots_core.specs.Parameters as parameters
use Rattle.lmots_core.specs.Chains.{candidate_of, joined, public_of, randomizer_of, signed_part, message_hash}
use Rattle.lmots_core.specs.Chains as one_time
use Rattle.lmots_core.proofs.Accepted.{accepted, length-signed_part}
use Rattle.lmots_core.proofs.Joined.{length-joined}
use Rattle.lmots_core.proofs.Sizes.{parts_whole}
use Rattle.lms_core.specs.declared.height.Height.{Height}
use Rattle.lms_core.specs.declared.height.Height.TheVariants.{H5, H10}
use Rattle.lms_core.specs.Parameters.{height_code_of, height_of, leaves_of, levels_of, signature_len_of}
use Rattle.lms_core.specs.Tree.{Key, identifier_of, inner_node, leaf_node, node_of, path_from, path_of, public_key_of, root_of, sibling_of, signature_of}
use Rattle.lms_core.specs.Verify.{candidate_root, height_in, identifier_in, is_formed, is_root_in, is_valid_signature, leaf_in, number_in, one_time_in, parent_node, path_in, root_along, root_from, root_in, width_in, IsValidSignature}
use Rattle.lms_core.proofs.Tables.{pow_more}

-- ---- the path leads to the root

length-node_of : (key : Key) (level r : ℕ) → length (node_of key level r) ≡ 32
unfolding node_of
length-node_of key zero r = length-sha256 _
length-node_of key (suc level) r = length-sha256 _

-- a node and its sibling lead to the node above them
parent_is : (key : Key) (level r : ℕ)
    → parent_node (identifier_of key.seed) r (node_of key level r) (node_of key level (sibling_of r))
    ≡ node_of key (suc level) (r / 2)
unfolding node_of
parent_is key level r =
    let id = identifier_of key.seed in
    elim (cases_lt 0 (r % 2)) [
      | inl odd ↦
          let one : r % 2 ≡ 1 = omega arith in
          let left : r - 1 ≡ 2 * (r / 2) = omega arith in
          let right : r ≡ 2 * (r / 2) + 1 = omega arith in
          rw one
          (ap (λ n. inner_node id (r / 2) (node_of key level n) (node_of key level r)) left
          ∙ ap (λ n. inner_node id (r / 2) (node_of key level (2 * (r / 2))) (node_of key level n)) right)
      | inr even ↦
          let none : r % 2 ≡ 0 = omega arith in
          let left : r ≡ 2 * (r / 2) = omega arith in
          let right : r + 1 ≡ 2 * (r / 2) + 1 = omega arith in
          rw none
          (ap (λ n. inner_node id (r / 2) (node_of key level n) (node_of key level (r + 1))) left
          ∙ ap (λ n. inner_node id (r / 2) (node_of key level (2 * (r / 2))) (node_of key level n)) right)
    ]

-- the path of a node leads to the root
root_reached : (key : Key) (n level r : ℕ) → 2 ^ n ≤ r → r < 2 ^ (n + 1)
    → root_along (identifier_of key.seed) r (node_of key level r) n (path_from key level r n) ≡ node_of key (level + n) 1
unfolding root_along path_from
root_reached key zero level r low high =
    let top : r ≡ 1 = omega arith in
    let here : level + 0 ≡ level = omega arith in
    ap (node_of key level) top ∙ ap (λ n. node_of key n 1) (sym here)
root_reached key (suc n) level r low high =
    let id = identifier_of key.seed in
    let sibling = node_of key level (sibling_of r) in
    let rest = path_from key (level + 1) (r / 2) n in
    let even : 2 ^ (n + 1) ≡ 2 * 2 ^ n = pow_more n in
    let next : 2 ^ (n + 1 + 1) ≡ 2 * 2 ^ (n + 1) = pow_more (n + 1) in
    let here : suc n ≡ n + 1 = sym (add-one n) in
    let low' : 2 ^ (n + 1) ≤ r = rw (← here) low in
    let high' : r < 2 ^ (n + 1 + 1) = rw (← here) high in
    let front = take_at sibling rest 32 (length-node_of key level (sibling_of r)) in
    let back = drop_at sibling rest 32 (length-node_of key level (sibling_of r)) in
    let up : parent_node id r (node_of key level r) (node_of key level (sibling_of r)) ≡ node_of key (level + 1) (r / 2) =
    parent_is key level r ∙ ap (λ m. node_of key m (r / 2)) (sym (add-one level)) in
    let whole : level + 1 + n ≡ level + suc n = omega arith in
    ap (λ x. root_along id (r / 2) (parent_node id r (node_of key level r) x) n (drop 32 (sibling ++ rest))) front
    ∙ ap (λ x. root_along id (r / 2) (parent_node id r (node_of key level r) sibling) n x) back
    ∙ ap (λ x. root_along id (r / 2) x n rest) up
    ∙ root_reached key n (level + 1) (r / 2) (omega arith) (omega arith)
    ∙ ap (λ m. node_of key m 1) whole

-- ---- the bytes of a public key

height_known : (height : Height) → height_of (from_be_bytes w32 (to_be_bytes w32 (height_code_of height))) ≡ Some height
height_known H5 = refl
height_known H10 = refl

width_known : (width : Width) → width_of (from_be_bytes w32 (to_be_bytes w32 (code_of width))) ≡ Some width
width_known W1 = refl
width_known W2 = refl
width_known W4 = refl
width_known W8 = refl

pub length-identifier_of : (seed : List ℕ) → length (identifier_of seed) ≡ 16
length-identifier_of seed =
    let hash = sha256 (codes "aip-I" ++ seed) in
    let whole : length (sha256 (codes "aip-I" ++ seed)) ≡ 32 = length-sha256 _ in
    length-take-le 16 hash (omega arith)

length-root_of : (key : Key) → length (root_of key) ≡ 32
length-root_of key = length-node_of key (levels_of key.height) 1

pub length-public_key_of : (key : Key) → length (public_key_of key) ≡ 56
unfolding public_key_of
length-public_key_of key =
    let id_len = length-identifier_of key.seed in
    let root_len = length-root_of key in
    let tail : length (identifier_of key.seed ++ root_of key) ≡ 48 =
    omega (arith, length-append (identifier_of key.seed) (root_of key)) in
    omega arith

identifier_found : (key : Key) → identifier_in (public_key_of key) ≡ identifier_of key.seed
unfolding public_key_of
identifier_found key = take_at (identifier_of key.seed) (root_of key) 16 (length-identifier_of key.seed)

root_found : (key : Key) → root_in (public_key_of key) ≡ root_of key
unfolding public_key_of
root_found key =
    let root_len = length-root_of key in
    ap (take 32) (drop_at (identifier_of key.seed) (root_of key) 16 (length-identifier_of key.seed))
    ∙ take_all 32 (root_of key) (omega arith)

-- ---- the bytes of a signature

length-one_time : (width : Width) (seed id : List ℕ) (q : ℕ) (message : List ℕ)
    → length (one_time.signature_of width seed id q message) ≡ parameters.signature_len_of width
length-one_time width seed id q message =
    let hash = message_hash id q (randomizer_of seed id q) message in
    let parts = joined (signed_part width seed id q hash) (chains_of width) in
    let parts_len : length parts ≡ 32 * chains_of width =
    length-joined (signed_part width seed id q hash) (chains_of width) (length-signed_part width seed id q hash) in
    let randomizer_len : length (randomizer_of seed id q) ≡ 32 = length-sha256 _ in
    let sizes : 36 + 32 * chains_of width ≡ parameters.signature_len_of width = parts_whole width in
    let tail : length (randomizer_of seed id q ++ parts) ≡ 32 + 32 * chains_of width =
    omega (arith, length-append (randomizer_of seed id q) parts) in
    omega arith

length-path_from : (key : Key) (level r n : ℕ) → length (path_from key level r n) ≡ 32 * n
unfolding path_from
length-path_from key level r zero = refl
length-path_from key level r (suc n) =
    let rest = path_from key (level + 1) (r / 2) n in
    let rest_len : length (path_from key (level + 1) (r / 2) n) ≡ 32 * n = length-path_from key (level + 1) (r / 2) n in
    let node_len : length (node_of key level (sibling_of r)) ≡ 32 = length-node_of key level (sibling_of r) in
    omega (arith, length-append (node_of key level (sibling_of r)) rest)

-- a signature of these four parts
abbrev parts_of : ℕ → List ℕ → ℕ → List ℕ → List ℕ
parts_of q ots code path = to_be_bytes w32 q ++ ots ++ to_be_bytes w32 code ++ path

length-parts_of : (q : ℕ) (ots : List ℕ) (code : ℕ) (path : List ℕ) → length (parts_of q ots code path) ≡ 8 + length ots + length path
length-parts_of q ots code path =
    let tail : length (ots ++ to_be_bytes w32 code ++ path) ≡ 4 + length ots + length path =
    omega (arith, length-append (ots ++ to_be_bytes w32 code) path, length-append ots (to_be_bytes w32 code)) in
    omega arith

one_time_found : (width : Width) (q : ℕ) (ots : List ℕ) (code : ℕ) (path : List ℕ) → length ots ≡ parameters.signature_len_of width
    → one_time_in width (parts_of q ots code path) ≡ ots
one_time_found width q ots code path whole =
    ap (take (parameters.signature_len_of width)) (append_assoc ots (to_be_bytes w32 code) path)
    ∙ take_at ots (to_be_bytes w32 code ++ path) (parameters.signature_len_of width) whole

path_found : (width : Width) (q : ℕ) (ots : List ℕ) (code : ℕ) (path : List ℕ) → length ots ≡ parameters.signature_len_of width
    → path_in width (parts_of q ots code path) ≡ path
path_found width q ots code path whole =
    let front = to_be_bytes w32 q ++ ots ++ to_be_bytes w32 code in
    let front_len : length (to_be_bytes w32 q ++ ots ++ to_be_bytes w32 code) ≡ 8 + parameters.signature_len_of width =
    omega (arith, length-append ots (to_be_bytes w32 code)) in
    drop_at front path (8 + parameters.signature_len_of width) front_len

code_found : (width : Width) (q : ℕ) (ots : List ℕ) (code : ℕ) (path : List ℕ) → length ots ≡ parameters.signature_len_of width
    → code < 2 ^ 32 → number_in (parts_of q ots code path) (4 + parameters.signature_len_of width) ≡ code
code_found width q ots code path whole small =
    let front = to_be_bytes w32 q ++ ots in
    let front_len : length (to_be_bytes w32 q ++ ots) ≡ 4 + parameters.signature_len_of width = omega arith in
    ap (λ bytes. from_be_bytes w32 (take 4 (drop (4 + parameters.signature_len_of width) bytes)))
    (append_assoc front (to_be_bytes w32 code) path)
    ∙ ap (λ bytes. from_be_bytes w32 (take 4 bytes))
    (drop_at front (to_be_bytes w32 code ++ path) (4 + parameters.signature_len_of width) front_len)
    ∙ from_be_bytes-to_be_bytes_4 code small

leaf_found : (q : ℕ) (ots : List ℕ) (code : ℕ) (path : List ℕ) → q < 2 ^ 32 → leaf_in (parts_of q ots code path) ≡ q
leaf_found q ots code path small = from_be_bytes-to_be_bytes_4 q small

-- ---- the signature is valid

leaf_small : (height : Height) (q : ℕ) → q < leaves_of height → q < 2 ^ 32
leaf_small H5 q below = omega arith
leaf_small H10 q below = omega arith

height_code_small : (height : Height) → height_code_of height < 2 ^ 32
height_code_small H5 = omega arith
height_code_small H10 = omega arith

-- the one-time key of a leaf leads along the leaf's path to the root
key_reaches_root : (key : Key) (q : ℕ) → q < leaves_of key.height
    → root_from key.height (identifier_of key.seed) q (path_of key q)
    (Some (public_of key.width key.seed (identifier_of key.seed) q))
    ≡ Some (root_of key)
unfolding node_of
key_reaches_root key q below =
    let id = identifier_of key.seed in
    let levels = levels_of key.height in
    let r = leaves_of key.height + q in
    let place : q ≡ leaves_of key.height + q - leaves_of key.height = omega arith in
    let leaf : leaf_node id r (public_of key.width key.seed id q) ≡ node_of key 0 r =
    ap (λ n. leaf_node id r (public_of key.width key.seed id n)) place in
    let double : 2 ^ (levels_of key.height + 1) ≡ 2 * 2 ^ levels_of key.height = pow_more (levels_of key.height) in
    let low : 2 ^ levels_of key.height ≤ leaves_of key.height + q = omega arith in
    let high : leaves_of key.height + q < 2 ^ (levels_of key.height + 1) = omega arith in
    let whole : 0 + levels_of key.height ≡ levels_of key.height = omega arith in
    ap (λ node. Some (root_along id r node levels (path_of key q))) leaf
    ∙ ap Some (root_reached key levels 0 r low high ∙ ap (λ n. node_of key n 1) whole)

-- a signature leads to the root
root_is : (key : Key) (q : ℕ) (message : List ℕ) → q < leaves_of key.height
    → candidate_root key.width key.height (identifier_of key.seed) message (signature_of key q message) ≡ Some (root_of key)
unfolding signature_of
root_is key q message below =
    let id = identifier_of key.seed in
    let signature = signature_of key q message in
    let ots = one_time.signature_of key.width key.seed id q message in
    let code = height_code_of key.height in
    let whole = length-one_time key.width key.seed id q message in
    let root = root_from key.height id in
    ap (λ n. root n (path_in key.width signature) (candidate_of id n message (one_time_in key.width signature)))
    (leaf_found q ots code (path_of key q) (leaf_small key.height q below))
    ∙ ap (λ path. root q path (candidate_of id q message (one_time_in key.width signature)))
    (path_found key.width q ots code (path_of key q) whole)
    ∙ ap (λ part. root q (path_of key q) (candidate_of id q message part))
    (one_time_found key.width q ots code (path_of key q) whole)
    ∙ ap (root q (path_of key q)) (accepted key.width key.seed id q message)
    ∙ key_reaches_root key q below

formed_by : (width : Width) (height : Height) (signature : List ℕ) → length signature ≡ signature_len_of width height
    → number_in signature 4 ≡ code_of width → number_in signature (4 + parameters.signature_len_of width) ≡ height_code_of height
    → leaf_in signature < leaves_of height → is_formed width height signature ≡ true
formed_by width height signature whole width_code height_code leaf =
    let a = eq-eqb _ _ whole in
    let b = eq-eqb _ _ width_code in
    let c = eq-eqb _ _ height_code in
    let d = lt-ltb _ _ leaf in
    rw (a, b, c, d)

width_code_found : (width : Width) → from_be_bytes w32 (to_be_bytes w32 (code_of width)) ≡ code_of width
width_code_found W1 = refl
width_code_found W2 = refl
width_code_found W4 = refl
width_code_found W8 = refl

-- a signature has the length of its parameter sets
pub length-signature_of : (key : Key) (q : ℕ) (message : List ℕ)
    → length (signature_of key q message) ≡ signature_len_of key.width key.height
unfolding signature_of
length-signature_of key q message =
    let ots = one_time.signature_of key.width key.seed (identifier_of key.seed) q message in
    let whole : length (one_time.signature_of key.width key.seed (identifier_of key.seed) q message)
    ≡ parameters.signature_len_of key.width = length-one_time key.width key.seed (identifier_of key.seed) q message in
    let path_len : length (path_of key q) ≡ 32 * levels_of key.height =
    length-path_from key 0 (leaves_of key.height + q) (levels_of key.height) in
    omega (arith, length-parts_of q ots (height_code_of key.height) (path_of key q))

-- a signature is formed as its parameter sets want it
formed_is : (key : Key) (q : ℕ) (message : List ℕ) → q < leaves_of key.height
    → is_formed key.width key.height (signature_of key q message) ≡ true
unfolding signature_of
formed_is key q message below =
    let ots = one_time.signature_of key.width key.seed (identifier_of key.seed) q message in
    let code = height_code_of key.height in
    let path = path_of key q in
    let whole = length-one_time key.width key.seed (identifier_of key.seed) q message in
    let found : leaf_in (signature_of key q message) ≡ q = leaf_found q ots code path (leaf_small key.height q below) in
    let leaf : leaf_in (signature_of key q message) < leaves_of key.height = rw found below in
    formed_by key.width key.height (signature_of key q message) (length-signature_of key q message)
    (width_code_found key.width) (code_found key.width q ots code path whole (height_code_small key.height)) leaf

-- whether a signature is valid under a public key whose parameter sets are known
valid_under : (key message signature : List ℕ) (width : Width) (height : Height) → length key ≡ 56
    → width_in key ≡ Some width → height_in key ≡ Some height
    → is_valid_signature key message signature
    ≡ (is_formed width height signature
    && is_root_in key (candidate_root width height (identifier_in key) message signature))
unfolding is_valid_signature
valid_under key message signature width height whole is_width is_height =
    let same = eq-eqb _ _ whole in rw (same, is_width, is_height)

-- each signature is valid under its public key
pub valid_signature : (key : Key) (q : ℕ) (message signature : List ℕ) → q < leaves_of key.height
    → signature ≡ signature_of key q message → IsValidSignature (public_key_of key) message signature
unfolding public_key_of
valid_signature key q message signature below is =
    let public = public_key_of key in
    let signed = signature_of key q message in
    let same : is_valid_signature public message signed ≡ true =
    valid_under public message signed key.width key.height (length-public_key_of key) (width_known key.width)
    (height_known key.height)
    ∙ ap (λ b. b && is_root_in public (candidate_root key.width key.height (identifier_in public) message signed))
    (formed_is key q message below)
    ∙ ap (λ id. is_root_in public (candidate_root key.width key.height id message signed)) (identifier_found key)
    ∙ ap (is_root_in public) (root_is key q message below)
    ∙ (bytes_eq-Decides (root_of key) (root_in public)).1 (sym (root_found key)) in
    rw is same
