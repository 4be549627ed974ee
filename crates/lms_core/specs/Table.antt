-- A table of the nodes of a tree
use Rattle.std.specs.Prelude.{◌≡◌, ℕ, ◌*◌, ◌≤◌, List, [], length, slice_index_or}
use Rattle.lms_core.specs.Parameters.{leaves_of}
use Rattle.lms_core.specs.Tree.{Key, IsNode, identifier_of}

-- a table with a place for each node of the key's tree, in which the entries from one on are the nodes of their numbers
pub record HasNodesFrom (key : Key) (first : ℕ) (nodes : List (List ℕ)) : Type 0 where
  pub whole : length nodes ≡ 2 * leaves_of key.height
  pub known : (r : ℕ) → first ≤ r → IsNode key r (slice_index_or nodes r [])

-- what a tree keeps beside its key: the identifier, and a table of all nodes
pub record IsTree (key : Key) (id : List ℕ) (nodes : List (List ℕ)) : Type 0 where
  pub identifier : id ≡ identifier_of key.seed
  pub table : HasNodesFrom key 1 nodes
