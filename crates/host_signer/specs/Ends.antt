-- How opening a signer and signing end.
use Rattle.std.specs.Prelude.{ℕ, Bool, true, false, List, Result, Ok, Err}
use Rattle.lease_disk.specs.declared.disk.Disk.{Ghosts}
use Rattle.leaf_lease.specs.declared.leases.Leases.{Leases}
use Rattle.leaf_lease.specs.declared.opening.OpenEnd.{OpenEnd}
use Rattle.leaf_lease.specs.Ends.{OpenSays, opened_disk, open_failed}
use Rattle.lms_core.specs.Parameters.{levels_of}
use Rattle.lms_core.specs.Tree.{Key, identifier_of}
use Rattle.host_signer.specs.declared.signer.Signer.{Signer}
use Rattle.host_signer.specs.declared.signer.SignerEnd.{SignerEnd}
use Rattle.host_signer.specs.declared.signer.SignEnd.{SignEnd}
use Rattle.host_signer.specs.declared.signer.SignEnd.TheVariants as signing
use Rattle.host_signer.specs.Signers.{disk_of, key_of}

module _ {D : Type 0} {G : Ghosts D} where
  -- how the leases of a signer were opened
  abbrev pub leases_opened : Result (Signer D G) (SignerEnd D) → Result (Leases D G) (OpenEnd D)
  leases_opened (Ok signer) = Ok signer.leases
  leases_opened (Err end) = Err end.end

  -- the disk, which every answer of an opening gives back
  abbrev pub signer_disk : Result (Signer D G) (SignerEnd D) → D
  signer_disk result = opened_disk (leases_opened result)

  -- the key, which every answer of an opening gives back
  abbrev pub signer_key : Result (Signer D G) (SignerEnd D) → Key
  signer_key (Ok signer) = key_of signer
  signer_key (Err end) = end.tree

  -- whether the disk failed when a signer was opened
  abbrev pub signer_failed : Result (Signer D G) (SignerEnd D) → Bool
  signer_failed result = open_failed (leases_opened result)

  -- What opening a signer says of the file, where the disk did not fail, is what opening the leases of its key says.
  abbrev pub SignerSays : Key → List ℕ → Result (Signer D G) (SignerEnd D) → Type 0
  SignerSays key file result = OpenSays (identifier_of key.seed) (levels_of key.height) file (leases_opened result)

  -- the disk, which every answer of a signing gives back
  abbrev pub signed_disk : Result (Signer D G × ℕ × List ℕ) (SignEnd D G) → D
  signed_disk (Ok given) = disk_of given.0
  signed_disk (Err (signing.Memory signer)) = disk_of signer
  signed_disk (Err (signing.Dry signer)) = disk_of signer
  signed_disk (Err (signing.Failed disk tree)) = disk

  -- the key, which every answer of a signing gives back
  abbrev pub signed_key : Result (Signer D G × ℕ × List ℕ) (SignEnd D G) → Key
  signed_key (Ok given) = key_of given.0
  signed_key (Err (signing.Memory signer)) = key_of signer
  signed_key (Err (signing.Dry signer)) = key_of signer
  signed_key (Err (signing.Failed disk tree)) = tree

  -- whether the disk failed when it was to sign
  abbrev pub sign_failed : Result (Signer D G × ℕ × List ℕ) (SignEnd D G) → Bool
  sign_failed (Ok given) = false
  sign_failed (Err (signing.Memory signer)) = false
  sign_failed (Err (signing.Dry signer)) = false
  sign_failed (Err (signing.Failed disk tree)) = true

  -- whether memory was wanting
  abbrev pub is_memory : Result (Signer D G × ℕ × List ℕ) (SignEnd D G) → Bool
  is_memory (Ok given) = false
  is_memory (Err (signing.Memory signer)) = true
  is_memory (Err (signing.Dry signer)) = false
  is_memory (Err (signing.Failed disk tree)) = false

  -- whether no leaf was left
  abbrev pub is_dry : Result (Signer D G × ℕ × List ℕ) (SignEnd D G) → Bool
  is_dry (Ok given) = false
  is_dry (Err (signing.Memory signer)) = false
  is_dry (Err (signing.Dry signer)) = true
  is_dry (Err (signing.Failed disk tree)) = false
