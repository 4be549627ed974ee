-- A root along a path, level by level.
use Rattle.std.proofs.Common.{◌≡◌, ℕ, suc, ◌+◌, ◌-◌, ◌*◌, ◌^◌, ◌<◌, ◌≤◌, ◌/◌, ◌∙◌, List, ◌++◌, length, take, drop, arith, ap, subst, append_assoc}
use Rattle.std.proofs.Math.Pow.{pow_mono}
use Rattle.std.proofs.lemmas.Bool.Decides.{nat_tests}
use Rattle.std.proofs.lemmas.List.{append-nil, drop-drop, take_all}
use Rattle.std.proofs.lemmas.Nat.{pow_pos}
use Rattle.lms_core.specs.Parameters.{levels_of}
use Rattle.lms_core.specs.Tree.{Key, node_of, path_from, sibling_of, IsNode}
use Rattle.lms_core.specs.Verify.{parent_node, root_along}
use Rattle.lms_core.proofs.Tables.{pow_more}

-- one level up, the path is 32 bytes shorter
pub root_along_more : (id node above path : List ℕ) (r levels level width : ℕ) → level < levels → width ≡ 32
    → above ≡ parent_node id r node (take width (drop (32 * level) path))
    → root_along id (r / 2) above (levels - (level + 1)) (drop (32 * (level + 1)) path)
    ≡ root_along id r node (levels - level) (drop (32 * level) path)
unfolding root_along
root_along_more id node above path r levels level width below whole is =
    let more : levels - level ≡ suc (levels - (level + 1)) = omega arith in
    let place : 32 * level + 32 ≡ 32 * (level + 1) = omega arith in
    let rest : drop 32 (drop (32 * level) path) ≡ drop (32 * (level + 1)) path =
    drop-drop 32 (32 * level) path ∙ ap (λ n. drop n path) place in
    rw (is, whole, more, ← rest)

-- at the root nothing of the path is left
pub root_along_end : (id node path : List ℕ) (r levels level : ℕ) → levels ≤ level
    → root_along id r node (levels - level) path ≡ node
unfolding root_along
root_along_end id node path r levels level past =
    let none : levels - level ≡ 0 = omega arith in rw none

-- ---- the path of a leaf

-- the node beside a node stands at its depth
sibling_low : (half r : ℕ) → 2 * half ≤ r → 2 * half ≤ sibling_of r
sibling_low half r low = grind (arith, nat_tests)

sibling_high : (half r : ℕ) → r < 2 * half → sibling_of r < 2 * half
sibling_high half r high = grind (arith, nat_tests)

-- the depths of the nodes of a path
at_depth : (levels level depth r : ℕ) → levels - level ≡ depth → 2 ^ (levels - level) ≤ r → r < 2 ^ (levels - level + 1)
    → (2 ^ depth ≤ r) × (r < 2 ^ (depth + 1))
at_depth levels level depth r same low high =
    let floor : ℕ → Type 0 = λ n. 2 ^ n ≤ r in
    let roof : ℕ → Type 0 = λ n. r < 2 ^ (n + 1) in
    (subst floor same low, subst roof same high)

-- the node beside a node below the root has its place in the table
pub sibling_inside : (levels level r : ℕ) → level < levels → 2 ^ (levels - level) ≤ r → r < 2 ^ (levels - level + 1)
    → (0 < sibling_of r) × (sibling_of r < 2 * 2 ^ levels)
sibling_inside levels level r below low high =
    let depth : ℕ = levels - (level + 1) in
    let same : levels - level ≡ depth + 1 = omega arith in
    let bounds = at_depth levels level (depth + 1) r same low high in
    let even : 2 ^ (depth + 1) ≡ 2 * 2 ^ depth = pow_more depth in
    let next : 2 ^ (depth + 1 + 1) ≡ 2 * 2 ^ (depth + 1) = pow_more (depth + 1) in
    let half : 2 * 2 ^ depth ≤ r = omega (arith, bounds.0) in
    let double : r < 2 * 2 ^ (depth + 1) = omega (arith, bounds.1) in
    let some : 0 < 2 ^ depth = pow_pos depth in
    let shallow : depth + 1 ≤ levels = omega arith in
    let grows : 2 ^ (depth + 1) ≤ 2 ^ levels = pow_mono shallow in
    let floor : 2 * 2 ^ depth ≤ sibling_of r = sibling_low (2 ^ depth) r half in
    let roof : sibling_of r < 2 * 2 ^ (depth + 1) = sibling_high (2 ^ (depth + 1)) r double in
    (omega arith, omega arith)

-- the node above a node stands one level up
pub parent_inside : (levels level r : ℕ) → level < levels → 2 ^ (levels - level) ≤ r → r < 2 ^ (levels - level + 1)
    → (2 ^ (levels - (level + 1)) ≤ r / 2) × (r / 2 < 2 ^ (levels - (level + 1) + 1))
parent_inside levels level r below low high =
    let depth : ℕ = levels - (level + 1) in
    let same : levels - level ≡ depth + 1 = omega arith in
    let bounds = at_depth levels level (depth + 1) r same low high in
    let even : 2 ^ (depth + 1) ≡ 2 * 2 ^ depth = pow_more depth in
    let next : 2 ^ (depth + 1 + 1) ≡ 2 * 2 ^ (depth + 1) = pow_more (depth + 1) in
    (omega (arith, bounds.0), omega (arith, bounds.1))

-- the node beside a node below the root, from the table
sibling_at : (key : Key) (node : List ℕ) (level r : ℕ) → level < levels_of key.height
    → 2 ^ (levels_of key.height - level) ≤ r → r < 2 ^ (levels_of key.height - level + 1) → IsNode key (sibling_of r) node
    → node ≡ node_of key level (sibling_of r)
sibling_at key node level r below low high is =
    let depth : ℕ = levels_of key.height - (level + 1) in
    let same : levels_of key.height - level ≡ depth + 1 = omega arith in
    let bounds = at_depth (levels_of key.height) level (depth + 1) r same low high in
    let even : 2 ^ (depth + 1) ≡ 2 * 2 ^ depth = pow_more depth in
    let next : 2 ^ (depth + 1 + 1) ≡ 2 * 2 ^ (depth + 1) = pow_more (depth + 1) in
    let half : 2 * 2 ^ depth ≤ r = omega (arith, bounds.0) in
    let double : r < 2 * 2 ^ (depth + 1) = omega (arith, bounds.1) in
    let floor : 2 * 2 ^ depth ≤ sibling_of r = sibling_low (2 ^ depth) r half in
    let roof : sibling_of r < 2 * 2 ^ (depth + 1) = sibling_high (2 ^ (depth + 1)) r double in
    let whole : depth + 1 + level ≡ levels_of key.height = omega arith in
    is (depth + 1) level whole (rw even floor) (rw next roof)

-- one node of the path more is written
pub path_more : (key : Key) (before after node : List ℕ) (level r : ℕ) → level < levels_of key.height
    → 2 ^ (levels_of key.height - level) ≤ r → r < 2 ^ (levels_of key.height - level + 1) → IsNode key (sibling_of r) node
    → take (32 * level + 32) after ≡ take (32 * level) before ++ node
    → take (32 * (level + 1)) after ++ path_from key (level + 1) (r / 2) (levels_of key.height - (level + 1))
    ≡ take (32 * level) before ++ path_from key level r (levels_of key.height - level)
unfolding path_from
path_more key before after node level r below low high is written =
    let rest = path_from key (level + 1) (r / 2) (levels_of key.height - (level + 1)) in
    let more : levels_of key.height - level ≡ suc (levels_of key.height - (level + 1)) = omega arith in
    let place : 32 * (level + 1) ≡ 32 * level + 32 = omega arith in
    let node_is : node ≡ node_of key level (sibling_of r) = sibling_at key node level r below low high is in
    let front : take (32 * (level + 1)) after ≡ take (32 * level) before ++ node_of key level (sibling_of r) =
    ap (λ n. take n after) place ∙ written ∙ ap (λ x. take (32 * level) before ++ x) node_is in
    rw more (ap (λ xs. xs ++ rest) front ∙ append_assoc (take (32 * level) before) (node_of key level (sibling_of r)) rest)

-- above the last level no node is left
pub path_end : (key : Key) (path : List ℕ) (level r : ℕ) → levels_of key.height ≤ level → length path ≤ 32 * level
    → take (32 * level) path ++ path_from key level r (levels_of key.height - level) ≡ path
unfolding path_from
path_end key path level r past room =
    let none : levels_of key.height - level ≡ 0 = omega arith in
    rw none (append-nil (take (32 * level) path) ∙ take_all (32 * level) path room)
