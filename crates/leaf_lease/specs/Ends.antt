-- How formatting and opening end.
use Rattle.std.specs.Prelude.{◌≡◌, ◌⊎◌, ℕ, ◌<◌, Bool, true, false, List, length, slice_index, Result, Ok, Err}
use Rattle.lease_disk.specs.declared.disk.Disk.{Ghosts}
use Rattle.leaf_lease.specs.declared.leases.Leases.{Leases}
use Rattle.leaf_lease.specs.declared.opening.OpenEnd.{OpenEnd}
use Rattle.leaf_lease.specs.declared.opening.OpenEnd.TheVariants as opening
use Rattle.leaf_lease.specs.LeaseFile.{IsOpen, HasKey, IsLeaseFile, kept_id, kept_height, file_size}

module _ {D : Type 0} {G : Ghosts D} where
  -- the disk, which every answer gives back
  abbrev pub opened_disk : Result (Leases D G) (OpenEnd D) → D
  opened_disk (Ok leases) = leases.disk
  opened_disk (Err (opening.Failed disk)) = disk
  opened_disk (Err (opening.Unformatted disk size gate)) = disk
  opened_disk (Err (opening.OtherKey disk id height)) = disk

  -- whether the disk failed
  abbrev pub open_failed : Result (Leases D G) (OpenEnd D) → Bool
  open_failed (Ok leases) = false
  open_failed (Err (opening.Failed disk)) = true
  open_failed (Err (opening.Unformatted disk size gate)) = false
  open_failed (Err (opening.OtherKey disk id height)) = false

  -- What opening a file for a key says of it, where the disk did not fail: a closed gate or a short head, then
  -- another key, then a byte that lacks for some leaf, and else which leaf is the first that is free.
  abbrev pub OpenSays : List ℕ → ℕ → List ℕ → Result (Leases D G) (OpenEnd D) → Type 0
  OpenSays id height file (Ok leases) = IsLeaseFile id height leases.next file
  OpenSays id height file (Err (opening.Failed disk)) = Unit {0}
  OpenSays id height file (Err (opening.Unformatted disk size gate)) = (size ≡ length file) × (gate ≡ slice_index file 0) × ((¬ IsOpen file) ⊎ (HasKey id height file × (length file < file_size height)))
  OpenSays id height file (Err (opening.OtherKey disk id' height')) = IsOpen file × (id' ≡ kept_id file) × (height' ≡ kept_height file) × (¬ HasKey id height file)
