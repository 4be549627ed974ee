-- When a signature is valid under a public key (RFC 8554, section 5.4.2), on lists of bytes
use Rattle.std.specs.Prelude.{◌≡◌, ℕ, zero, suc, ◌+◌, ◌/◌, ◌%◌, ◌==◌, ◌&&◌, Bool, false, IsTrue, IsSome, if◌then◌else◌, List, length, take, drop, nat_lt, Option, None, Some}
use Rattle.std.specs.Int.{w32, from_be_bytes}
use Rattle.std.specs.Str.{bytes_eq}
use Rattle.lmots_core.specs.declared.parameters.Width.{Width}
use Rattle.lmots_core.specs.Chains.{candidate_of}
use Rattle.lmots_core.specs.Parameters.{code_of, width_of}
use Rattle.lmots_core.specs.Parameters as one_time
use Rattle.lms_core.specs.declared.height.Height.{Height}
use Rattle.lms_core.specs.Parameters.{height_code_of, height_of, leaves_of, levels_of, signature_len_of}
use Rattle.lms_core.specs.Tree.{inner_node, leaf_node}

-- the number in the four bytes from a place on, high byte first
abbrev pub number_in : List ℕ → ℕ → ℕ
number_in bytes place = from_be_bytes w32 (take 4 (drop place bytes))

-- ---- public keys

-- the height of a public key, whose code is its bytes 0 to 3 (RFC 8554, section 5.3)
abbrev pub height_in : List ℕ → Option Height
height_in key = height_of (number_in key 0)

-- the width of a public key, whose code is its bytes 4 to 7 (RFC 8554, section 5.3)
abbrev pub width_in : List ℕ → Option Width
width_in key = width_of (number_in key 4)

-- I, its bytes 8 to 23
abbrev pub identifier_in : List ℕ → List ℕ
identifier_in key = take 16 (drop 8 key)

-- T[1], its bytes 24 to 55
abbrev pub root_in : List ℕ → List ℕ
root_in key = take 32 (drop 24 key)

-- bytes are a public key where there are 56 and both codes are known (RFC 8554, section 5.4.2, algorithm 6)
pub record IsPublicKey (key : List ℕ) : Type 0 where
  pub whole : length key ≡ 56
  pub height : IsSome (height_in key)
  pub width : IsSome (width_in key)

-- ---- the root that a signature leads to

-- the node above node r, from that node and its sibling: node r is joined on the left where r is even, on the right where
-- it is odd (RFC 8554, section 5.4.2, algorithm 6a)
abbrev pub parent_node : List ℕ → ℕ → List ℕ → List ℕ → List ℕ
parent_node id r node sibling =
    if r % 2 == 0 then inner_node id (r / 2) node sibling else inner_node id (r / 2) sibling node

-- the node n levels above node r, along a path of siblings (RFC 8554, section 5.4.2, algorithm 6a)
unfoldable pub root_along : List ℕ → ℕ → List ℕ → ℕ → List ℕ → List ℕ
root_along id r node zero path = node
root_along id r node (suc n) path = root_along id (r / 2) (parent_node id r node (take 32 path)) n (drop 32 path)

-- the leaf that signed, the first four bytes of a signature
abbrev pub leaf_in : List ℕ → ℕ
leaf_in signature = number_in signature 0

-- the one-time signature, behind the leaf's number
abbrev pub one_time_in : Width → List ℕ → List ℕ
one_time_in width signature = take (one_time.signature_len_of width) (drop 4 signature)

-- the path, behind the one-time signature and the code of the height
abbrev pub path_in : Width → List ℕ → List ℕ
path_in width signature = drop (8 + one_time.signature_len_of width) signature

-- the root that a one-time key leads to along the path of the leaf q (RFC 8554, section 5.4.2, algorithm 6a)
abbrev pub root_from : Height → List ℕ → ℕ → List ℕ → Option (List ℕ) → Option (List ℕ)
root_from height id q path None = None
root_from height id q path (Some key) =
    let r = leaves_of height + q in Some (root_along id r (leaf_node id r key) (levels_of height) path)

-- the root that a signature leads to, if its one-time signature leads to a key (RFC 8554, section 5.4.2, algorithm 6a)
abbrev pub candidate_root : Width → Height → List ℕ → List ℕ → List ℕ → Option (List ℕ)
candidate_root width height id message signature =
    let q = leaf_in signature in
    root_from height id q (path_in width signature) (candidate_of id q message (one_time_in width signature))

-- ---- valid signatures

-- whether a signature has the length of the two parameter sets, both their codes, and the number of a leaf
-- (RFC 8554, section 5.4.2, algorithm 6a)
abbrev pub is_formed : Width → Height → List ℕ → Bool
is_formed width height signature =
    (length signature == signature_len_of width height)
    && (number_in signature 4 == code_of width)
    && (number_in signature (4 + one_time.signature_len_of width) == height_code_of height)
    && nat_lt (leaf_in signature) (leaves_of height)

-- whether a root is the public key's
abbrev pub is_root_in : List ℕ → Option (List ℕ) → Bool
is_root_in key None = false
is_root_in key (Some root) = bytes_eq root (root_in key)

-- whether a signature is valid under a public key with these parameter sets (RFC 8554, section 5.4.2, algorithm 6)
abbrev pub is_valid_under : Option Width → Option Height → List ℕ → List ℕ → List ℕ → Bool
is_valid_under None height key message signature = false
is_valid_under (Some width) None key message signature = false
is_valid_under (Some width) (Some height) key message signature =
    is_formed width height signature
    && is_root_in key (candidate_root width height (identifier_in key) message signature)

-- whether a signature of the message is valid under a public key: the key is well formed, the signature is as its
-- parameter sets want it, and the root that it leads to is the key's (RFC 8554, section 5.4.2, algorithm 6)
unfoldable pub is_valid_signature : List ℕ → List ℕ → List ℕ → Bool
is_valid_signature key message signature =
    (length key == 56) && is_valid_under (width_in key) (height_in key) key message signature

-- the signature of the message is valid under the public key (RFC 8554, section 5.4.2)
abbrev pub IsValidSignature : List ℕ → List ℕ → List ℕ → Type 0
IsValidSignature key message signature = IsTrue (is_valid_signature key message signature)
