-- What callers see of leases.
use Rattle.std.specs.Prelude.{ℕ, ◌+◌, Bool, true, false, List, [], ◌∷◌, Result, Ok, Err}
use Rattle.lease_disk.specs.Call.{Call}
use Rattle.lease_disk.specs.Calls.{firm_calls}
use Rattle.lease_disk.specs.declared.disk.Disk.{Ghosts}
use Rattle.leaf_lease.specs.declared.leases.Leases.{Leases}
use Rattle.leaf_lease.specs.declared.leases.LeafLease.{LeafLease}
use Rattle.leaf_lease.specs.declared.leases.LeaseEnd.{LeaseEnd}
use Rattle.leaf_lease.specs.declared.leases.LeaseEnd.TheVariants.{Dry, Failed}
use Rattle.leaf_lease.specs.LeaseFile.{head_size}

-- the leaf that a lease is for
abbrev pub leased_leaf : LeafLease → ℕ
leased_leaf lease = lease.leaf

-- the identifier of the key that a lease is for
abbrev pub leased_id : LeafLease → List ℕ
leased_id lease = lease.id

-- the calls of a lease: the leaf's byte is written and made firm
abbrev pub lease_calls : ℕ → List Call
lease_calls leaf = firm_calls (head_size + leaf) (1 ∷ [])

module _ {D : Type 0} {G : Ghosts D} where
  -- the disk that the leaves are leased on
  abbrev pub disk_of : Leases D G → D
  disk_of leases = leases.disk

  -- the identifier of the key
  abbrev pub id_of : Leases D G → List ℕ
  id_of leases = leases.id

  -- the height of the key
  abbrev pub height_of : Leases D G → ℕ
  height_of leases = leases.height

  -- the leaf that is handed out next
  abbrev pub next_of : Leases D G → ℕ
  next_of leases = leases.next

  -- the disk, which every answer of a lease gives back
  abbrev pub leased_disk : Result (Leases D G × LeafLease) (LeaseEnd D G) → D
  leased_disk (Ok given) = disk_of given.0
  leased_disk (Err (Dry leases)) = disk_of leases
  leased_disk (Err (Failed disk)) = disk

  -- whether the disk failed
  abbrev pub lease_failed : Result (Leases D G × LeafLease) (LeaseEnd D G) → Bool
  lease_failed (Ok given) = false
  lease_failed (Err (Dry leases)) = false
  lease_failed (Err (Failed disk)) = true

  -- whether no leaf was left
  abbrev pub is_dry : Result (Leases D G × LeafLease) (LeaseEnd D G) → Bool
  is_dry (Ok given) = false
  is_dry (Err (Dry leases)) = true
  is_dry (Err (Failed disk)) = false
