-- The tree of a key (RFC 8554, section 5) with SHA-256 and m = 32, its public key and its signatures, as functions on
-- lists of bytes. Nodes are numbered from the root, 1, downwards: below node r stand the nodes 2r and 2r + 1.
use Rattle.std.specs.Prelude.{◌≡◌, ℕ, zero, suc, ◌+◌, ◌-◌, ◌*◌, ◌/◌, ◌%◌, ◌^◌, ◌<◌, ◌≤◌, ◌==◌, if◌then◌else◌, List, [], ◌++◌, take, codes}
use Rattle.std.specs.Int.{w16, w32, to_be_bytes}
use Rattle.sha2.specs.Sha256.{sha256}
use Rattle.lmots_core.specs.declared.parameters.Width.{Width}
use Rattle.lmots_core.specs.Parameters.{code_of}
use Rattle.lmots_core.specs.Chains as one_time
use Rattle.lms_core.specs.declared.height.Height.{Height}
use Rattle.lms_core.specs.Parameters.{height_code_of, leaves_of, levels_of}

-- a private key: its secret SEED of 32 bytes, and its two parameter sets
pub record Key : Type 0 where
  pub seed : List ℕ
  pub width : Width
  pub height : Height

-- the private key with these parts
abbrev pub key_from : List ℕ → Width → Height → Key
key_from seed width height = record { seed = seed; width = width; height = height }

-- I, the identifier of a key. RFC 8554, section 5.2, leaves its choice to the maker of a key: here it is the first 16
-- bytes of H("aip-I" || SEED)
abbrev pub identifier_of : List ℕ → List ℕ
identifier_of seed = take 16 (sha256 (codes "aip-I" ++ seed))

-- ---- nodes

-- the node r of a leaf whose one-time key is K: H(I || u32str(r) || u16str(D_LEAF) || K), where D_LEAF is 0x8282
-- (RFC 8554, section 5.3)
abbrev pub leaf_node : List ℕ → ℕ → List ℕ → List ℕ
leaf_node id r key = sha256 (id ++ to_be_bytes w32 r ++ to_be_bytes w16 0x8282 ++ key)

-- the inner node r above two nodes: H(I || u32str(r) || u16str(D_INTR) || left || right), where D_INTR is 0x8383
-- (RFC 8554, section 5.3)
abbrev pub inner_node : List ℕ → ℕ → List ℕ → List ℕ → List ℕ
inner_node id r left right = sha256 (id ++ to_be_bytes w32 r ++ to_be_bytes w16 0x8383 ++ left ++ right)

-- T[r], which stands this number of levels above the leaves (RFC 8554, section 5.3). The leaf q is the node 2^h + q
unfoldable pub node_of : Key → ℕ → ℕ → List ℕ
node_of key zero r =
    let id = identifier_of key.seed in
    leaf_node id r (one_time.public_of key.width key.seed id (r - leaves_of key.height))
node_of key (suc level) r =
    inner_node (identifier_of key.seed) r (node_of key level (2 * r)) (node_of key level (2 * r + 1))

-- the node is T[r], wherever r stands in the tree: at depth d stand the nodes from 2^d on, below 2^(d+1)
abbrev pub IsNode : Key → ℕ → List ℕ → Type 0
IsNode key r node =
    (depth level : ℕ) → depth + level ≡ levels_of key.height → 2 ^ depth ≤ r → r < 2 ^ (depth + 1)
    → node ≡ node_of key level r

-- ---- keys and signatures

-- T[1], the root
abbrev pub root_of : Key → List ℕ
root_of key = node_of key (levels_of key.height) 1

-- the public key: u32str(type) || u32str(otstype) || I || T[1], of 56 bytes (RFC 8554, section 5.3)
unfoldable pub public_key_of : Key → List ℕ
public_key_of key =
    to_be_bytes w32 (height_code_of key.height) ++ to_be_bytes w32 (code_of key.width)
    ++ identifier_of key.seed ++ root_of key

-- the number of the node beside node r, below the same node
abbrev pub sibling_of : ℕ → ℕ
sibling_of r = if r % 2 == 0 then r + 1 else r - 1

-- the nodes beside node r, at this level, and beside the nodes above it, one at each of n levels
-- (RFC 8554, section 5.4)
unfoldable pub path_from : Key → ℕ → ℕ → ℕ → List ℕ
path_from key level r zero = []
path_from key level r (suc n) = node_of key level (sibling_of r) ++ path_from key (level + 1) (r / 2) n

-- the path of the leaf q: from its sibling up to the sibling below the root
abbrev pub path_of : Key → ℕ → List ℕ
path_of key q = path_from key 0 (leaves_of key.height + q) (levels_of key.height)

-- the signature of a message under the leaf q: u32str(q) || one-time signature || u32str(type) || path
-- (RFC 8554, section 5.4)
unfoldable pub signature_of : Key → ℕ → List ℕ → List ℕ
signature_of key q message =
    to_be_bytes w32 q ++ one_time.signature_of key.width key.seed (identifier_of key.seed) q message
    ++ to_be_bytes w32 (height_code_of key.height) ++ path_of key q
