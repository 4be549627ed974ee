-- What callers see of a signer.
use Rattle.std.specs.Prelude.{ℕ, List}
use Rattle.lease_disk.specs.declared.disk.Disk.{Ghosts}
use Rattle.leaf_lease.specs.Leases as lease
use Rattle.lms_core.specs.Tree.{Key}
use Rattle.host_signer.specs.declared.signer.Signer.{Signer}

module _ {D : Type 0} {G : Ghosts D} where
  -- the disk that its leaves are leased on
  abbrev pub disk_of : Signer D G → D
  disk_of signer = lease.disk_of signer.leases

  -- the key that it signs with
  abbrev pub key_of : Signer D G → Key
  key_of signer = signer.tree

  -- the identifier under which its leaves are leased
  abbrev pub id_of : Signer D G → List ℕ
  id_of signer = lease.id_of signer.leases

  -- the height under which its leaves are leased
  abbrev pub height_of : Signer D G → ℕ
  height_of signer = lease.height_of signer.leases

  -- the leaf that signs next
  abbrev pub next_of : Signer D G → ℕ
  next_of signer = lease.next_of signer.leases
