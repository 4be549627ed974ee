-- The nodes of a tree, and a table of them that is filled from the leaves up.
use Rattle.std.proofs.Common.{◌≡◌, ◌≢◌, ℕ, zero, suc, ◌+◌, ◌-◌, ◌*◌, ◌^◌, ◌<◌, ◌≤◌, inl, inr, ◌∙◌, List, [], ◌++◌, length, get_or, set, arith, sym, ap, subst, refl}
use Rattle.std.specs.Int.{w32, to_be_bytes}
use Rattle.std.proofs.Math.Pow.{pow_mono}
use Rattle.std.proofs.Math.Nat.{pow-suc}
use Rattle.std.proofs.lemmas.Bool.{cases_lt}
use Rattle.std.proofs.lemmas.List.{get_or-set_same, get_or-set_other, length-set}
use Rattle.std.proofs.lemmas.Nat.{pow_pos}
use Rattle.lmots_core.specs.Parameters.{code_of}
use Rattle.lmots_core.specs.Chains as one_time
use Rattle.lms_core.specs.declared.height.Height.{Height}
use Rattle.lms_core.specs.Parameters.{height_code_of, leaves_of, levels_of}
use Rattle.lms_core.specs.Table.{HasNodesFrom}
use Rattle.lms_core.specs.Tree.{Key, identifier_of, inner_node, leaf_node, node_of, public_key_of, IsNode}

-- twice a power of two
pub pow_more : (n : ℕ) → 2 ^ (n + 1) ≡ 2 * 2 ^ n
pow_more n = let more : n + 1 ≡ suc n = omega arith in rw (more, pow-suc 2 n) (omega arith)

-- a node at the depth of the leaves is no lower than they are
at_leaves : (depth levels r : ℕ) → depth + 0 ≡ levels → 2 ^ depth ≤ r → 2 ^ levels ≤ r
at_leaves depth levels r whole low =
    let same : depth ≡ levels = omega arith in
    let floor : ℕ → Type 0 = λ n. 2 ^ n ≤ r in subst floor same low

-- a node above the leaves has a smaller number
above_leaves : (depth level levels r : ℕ) → depth + suc level ≡ levels → r < 2 ^ (depth + 1) → r < 2 ^ levels
above_leaves depth level levels r whole high =
    let higher : depth + 1 ≤ levels = omega arith in
    let grows : 2 ^ (depth + 1) ≤ 2 ^ levels = pow_mono higher in
    omega arith

-- a node above the leaves, from the two below it in the table
inner_at : (key : Key) (nodes : List (List ℕ)) (r : ℕ) → 0 < r → r < leaves_of key.height → HasNodesFrom key (r + 1) nodes
    → (depth level : ℕ) → depth + level ≡ levels_of key.height → 2 ^ depth ≤ r → r < 2 ^ (depth + 1)
    → inner_node (identifier_of key.seed) r (get_or nodes (2 * r) []) (get_or nodes (2 * r + 1) []) ≡ node_of key level r
unfolding node_of
inner_at key nodes r some inside table depth zero whole low high =
    let leaf = at_leaves depth (levels_of key.height) r whole low in absurd (omega arith)
inner_at key nodes r some inside table depth (suc level) whole low high =
    let deeper : (depth + 1) + level ≡ levels_of key.height = omega arith in
    let first : 2 ^ (depth + 1) ≡ 2 * 2 ^ depth = pow_more depth in
    let last : 2 ^ ((depth + 1) + 1) ≡ 2 * 2 ^ (depth + 1) = pow_more (depth + 1) in
    let left : get_or nodes (2 * r) [] ≡ node_of key level (2 * r) =
    table.known (2 * r) (omega arith) (depth + 1) level deeper (omega arith) (omega arith) in
    let right : get_or nodes (2 * r + 1) [] ≡ node_of key level (2 * r + 1) =
    table.known (2 * r + 1) (omega arith) (depth + 1) level deeper (omega arith) (omega arith) in
    ap (λ node. inner_node (identifier_of key.seed) r node (get_or nodes (2 * r + 1) [])) left
    ∙ ap (λ node. inner_node (identifier_of key.seed) r (node_of key level (2 * r)) node) right

-- a node above the leaves, from the two below it in the table
pub inner_is : (key : Key) (nodes : List (List ℕ)) (r : ℕ) (id left right node : List ℕ) → 0 < r → r < leaves_of key.height
    → HasNodesFrom key (r + 1) nodes → id ≡ identifier_of key.seed → left ≡ get_or nodes (2 * r) []
    → right ≡ get_or nodes (2 * r + 1) [] → node ≡ inner_node id r left right → IsNode key r node
inner_is key nodes r id left right node some inside table same is_left is_right is depth level whole low high =
    is ∙ ap (λ i. inner_node i r left right) same
    ∙ ap (λ x. inner_node (identifier_of key.seed) r x right) is_left
    ∙ ap (λ x. inner_node (identifier_of key.seed) r (get_or nodes (2 * r) []) x) is_right
    ∙ inner_at key nodes r some inside table depth level whole low high

-- a leaf, from its one-time key
leaf_at : (key : Key) (r : ℕ) → leaves_of key.height ≤ r
    → (depth level : ℕ) → depth + level ≡ levels_of key.height → 2 ^ depth ≤ r → r < 2 ^ (depth + 1)
    → leaf_node (identifier_of key.seed) r
    (one_time.public_of key.width key.seed (identifier_of key.seed) (r - leaves_of key.height)) ≡ node_of key level r
unfolding node_of
leaf_at key r leaf depth zero whole low high = refl
leaf_at key r leaf depth (suc level) whole low high =
    let above = above_leaves depth level (levels_of key.height) r whole high in absurd (omega arith)

-- a leaf, from its one-time key
pub leaf_is : (key : Key) (r q : ℕ) (id public node : List ℕ) → leaves_of key.height ≤ r → id ≡ identifier_of key.seed
    → q ≡ r - leaves_of key.height → public ≡ one_time.public_of key.width key.seed id q → node ≡ leaf_node id r public
    → IsNode key r node
leaf_is key r q id public node leaf same place is_public is depth level whole low high =
    is ∙ ap (leaf_node id r) is_public
    ∙ ap (λ n. leaf_node id r (one_time.public_of key.width key.seed id n)) place
    ∙ ap (λ i. leaf_node i r (one_time.public_of key.width key.seed i (r - leaves_of key.height))) same
    ∙ leaf_at key r leaf depth level whole low high

-- below the leaves there are no nodes
pub nodes_none : (key : Key) (nodes : List (List ℕ)) (first : ℕ) → length nodes ≡ 2 * leaves_of key.height
    → first ≡ 2 * leaves_of key.height → HasNodesFrom key first nodes
nodes_none key nodes first room end = record {
  whole = room;
  known = λ r past depth level whole low high.
      let deep : depth + 1 ≤ levels_of key.height + 1 = omega arith in
      let grows : 2 ^ (depth + 1) ≤ 2 ^ (levels_of key.height + 1) = pow_mono deep in
      let leaves : 2 ^ (levels_of key.height + 1) ≡ 2 * leaves_of key.height = pow_more (levels_of key.height) in
      absurd (omega arith);
}

-- one node more is in the table
pub nodes_more : (key : Key) (nodes : List (List ℕ)) (r : ℕ) (node : List ℕ) → r < 2 * leaves_of key.height
    → HasNodesFrom key (r + 1) nodes → IsNode key r node → HasNodesFrom key r (set nodes r node)
nodes_more key nodes r node inside table is = record {
  whole = length-set nodes r node ∙ table.whole;
  known = λ s from. elim (cases_lt r s) [
    | inl after ↦
        let other : s ≢ r = omega arith in
        let same = get_or-set_other nodes r s node [] other in
        let P : List ℕ → Type 0 = λ x. IsNode key s x in
        subst P (sym same) (table.known s (omega arith))
    | inr here ↦
        let at : r ≡ s = omega arith in
        let room : r < length nodes = omega (arith, table.whole) in
        let same = get_or-set_same nodes r node [] room in
        let P : List ℕ → Type 0 = λ x. IsNode key r x in
        let Q : ℕ → Type 0 = λ n. IsNode key n (get_or (set nodes r node) n []) in
        subst Q at (subst P (sym same) is)
  ];
}

-- the public key, from the node 1 of the tree
pub public_key_is : (key : Key) (id root bytes : List ℕ) → id ≡ identifier_of key.seed → IsNode key 1 root
    → bytes ≡ to_be_bytes w32 (height_code_of key.height) ++ to_be_bytes w32 (code_of key.width) ++ id ++ root
    → bytes ≡ public_key_of key
unfolding public_key_of
public_key_is key id root bytes same node is =
    let codes = to_be_bytes w32 (height_code_of key.height) ++ to_be_bytes w32 (code_of key.width) in
    is ∙ ap (λ i. codes ++ i ++ root) same
    ∙ ap (λ x. codes ++ identifier_of key.seed ++ x) (node 0 (levels_of key.height) (omega arith) (omega arith) (omega arith))

-- a tree has a leaf
pub leaves_many : (height : Height) → 0 < leaves_of height
leaves_many height = pow_pos (levels_of height)
