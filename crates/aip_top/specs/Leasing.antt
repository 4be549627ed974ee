-- What comes of a lease: by the topology, and by the disk.
use Rattle.std.specs.Prelude.{◌≡◌, ℕ, ◌+◌, ◌≤◌, ⊤, max, List, [], ◌∷◌, ◌++◌, codes, decimal, find, length, take, option_map, if◌then◌else◌, Option, Some, None, IfSome, Result, Ok, Err}
use Rattle.std.specs.Option.{ForSome}
use Rattle.hex.specs.Hex.{encode_lower}
use Rattle.lms_core.specs.Tree.{Key, identifier_of}
use Rattle.lms_core.specs.Parameters.{levels_of}
use Rattle.lease_disk.specs.Images.{AtEachMoment}
use Rattle.leaf_lease.specs.LeaseFile.{IsOpen, is_open, kept_id, kept_height, file_size, fresh_file}
use Rattle.lease_disk.specs.Kept.{KeepsByte}
use Rattle.leaf_lease.specs.Kept.{KeepsGone}
use Rattle.leaf_lease.specs.Format.{formatted, IsFresh}
use Rattle.aip_topo.specs.declared.topology.Domain.{Domain}
use Rattle.aip_topo.specs.declared.topology.Key as topo
use Rattle.aip_topo.specs.declared.topology.Key.TheVariants as key
use Rattle.aip_topo.specs.declared.topology.Topology.{Topology}
use Rattle.aip_topo.specs.Reading.{RefusedLine, topology_of}
use Rattle.aip_topo.specs.Steps.{names_domain}
use Rattle.aip_top.specs.Words.{Leased}
use Rattle.aip_top.specs.declared.status.Status.{Status}
use Rattle.aip_top.specs.declared.status.Status.TheVariants as status
use Rattle.aip_top.specs.declared.status.LeaseFault.TheVariants as fault

-- what a topology says of a lease: a status that refuses it, or the key of the domain
pub data Asked : Type 0 where
  Refused : Status → Asked
  Keyed : Key → Asked

-- a domain that was given by its id has no key
abbrev pub asked_of_key : topo.Key → Asked
asked_of_key key.Given = Refused (status.Lease fault.Keyless)
asked_of_key (key.Made k) = Keyed k

-- there is a domain of that name, or there is none
abbrev pub asked_of_domain : Option Domain → Asked
asked_of_domain None = Refused (status.Lease fault.Unknown)
asked_of_domain (Some domain) = asked_of_key domain.key

-- the domain of a name
abbrev pub domain_named : List ℕ → List Domain → Option Domain
domain_named name domains = find (names_domain name) domains

-- a lease for the domain of a name in a topology
abbrev pub asked_in : Topology → List ℕ → Asked
asked_in t name = asked_of_domain (domain_named name t.domains)

-- a lease for the domain of a name, by what a topology text gives: a refused line, an unknown domain, a domain without a
-- key, or else its key
abbrev pub asked_over : Result Topology RefusedLine → List ℕ → Asked
asked_over (Ok t) name = asked_in t name
asked_over (Err refused) name = Refused (status.Topology refused.line refused.fault)

-- the same by the topology text
abbrev pub asked_of : List ℕ → List ℕ → Asked
asked_of text name = asked_over (topology_of text) name

-- the status that refuses it, if it is refused
abbrev pub refusal_in : Asked → Option Status
refusal_in (Refused end) = Some end
refusal_in (Keyed k) = None

-- what holds of the key, where it isn't refused
abbrev pub OfKey : Asked → (Key → Type 0) → Type 0
OfKey (Refused end) holds = ⊤
OfKey (Keyed k) holds = holds k

-- what holds of the key that a lease is for, where the topology is told and has one
abbrev pub OfItsKey : (List ℕ → Option (List ℕ)) → Leased → (Key → Type 0) → Type 0
OfItsKey text leased holds = IfSome (text leased.topology) (λ told. OfKey (asked_of told leased.domain) holds)

-- what is written: `lease`, the identifier of the key and its height
abbrev pub lease_text : Key → List ℕ
lease_text k =
    codes "lease" ++ (32 ∷ (encode_lower (identifier_of k.seed) ++ (32 ∷ (decimal (levels_of k.height) ++ 10 ∷ []))))

-- the end of a lease over a file: it is formatted already where it has 18 bytes and an open gate
abbrev pub lease_end : List ℕ → Status
lease_end file = if is_open file then status.Lease (fault.Already (kept_id file) (kept_height file)) else status.Done

-- how a lease of a key may end, and what that says of the file as it was: it is formatted, or was already, with the key
-- that is told
abbrev pub LeaseSays : Option (List ℕ) → Status → Type 0
LeaseSays told status.Done = ForSome told (λ file. ¬ IsOpen file)
LeaseSays told status.WriteFault = ForSome told (λ file. ¬ IsOpen file)
LeaseSays told (status.Lease (fault.Already id height)) =
    ForSome told (λ file. IsOpen file × (id ≡ kept_id file) × (height ≡ kept_height file))
LeaseSays told status.ReadFault = ⊤
LeaseSays told status.DiskFault = ⊤
LeaseSays told status.Memory = ⊤
LeaseSays told status.Usage = ⊥
LeaseSays told (status.Topology line f) = ⊥
LeaseSays told (status.Schedule line f) = ⊥
LeaseSays told (status.Wrong line) = ⊥
LeaseSays told (status.Lease fault.Unknown) = ⊥
LeaseSays told (status.Lease fault.Keyless) = ⊥
LeaseSays told (status.Lease (fault.Unformatted size gate)) = ⊥
LeaseSays told (status.Lease (fault.OtherKey id height)) = ⊥
LeaseSays told (status.Lease (fault.Dry height)) = ⊥
LeaseSays told (status.Record line f) = ⊥

-- the status comes before a lease touches the disk: a refusal, a fault of reading, or want of memory
abbrev pub IsBeforeDisk : Status → Type 0
IsBeforeDisk status.ReadFault = ⊤
IsBeforeDisk status.Memory = ⊤
IsBeforeDisk (status.Topology line f) = ⊤
IsBeforeDisk (status.Lease fault.Unknown) = ⊤
IsBeforeDisk (status.Lease fault.Keyless) = ⊤
IsBeforeDisk (status.Lease (fault.Already id height)) = ⊥
IsBeforeDisk status.Done = ⊥
IsBeforeDisk status.Usage = ⊥
IsBeforeDisk status.WriteFault = ⊥
IsBeforeDisk (status.Schedule line f) = ⊥
IsBeforeDisk (status.Wrong line) = ⊥
IsBeforeDisk (status.Lease (fault.Unformatted size gate)) = ⊥
IsBeforeDisk (status.Lease (fault.OtherKey id height)) = ⊥
IsBeforeDisk (status.Lease (fault.Dry height)) = ⊥
IsBeforeDisk (status.Record line f) = ⊥
IsBeforeDisk status.DiskFault = ⊥

-- the file was formatted: all was done, or but the writing failed
abbrev pub IsFormatted : Status → Type 0
IsFormatted status.Done = ⊤
IsFormatted status.WriteFault = ⊤
IsFormatted _ = ⊥

-- the file was formatted already
abbrev pub IsAlready : Status → Type 0
IsAlready (status.Lease (fault.Already id height)) = ⊤
IsAlready _ = ⊥

-- The file is formatted for a key: what reads, and every image that a crash may leave, begins with a fresh file.
pub record HasFresh {D : Type 0} (content : D → Option (List ℕ)) (may_leave : D → List ℕ → Type 0) (id : List ℕ) (height : ℕ) (old new : D) : Type 0 where
  pub reads : content new ≡ option_map (formatted id height) (content old)
  pub fresh : (image : List ℕ) → may_leave new image → take (file_size height) image ≡ fresh_file id height
  pub firm : (image : List ℕ) → may_leave new image → content new ≡ Some image

-- What a lease leaves of a formatted file, whatever the answer: where every image at the start has an open gate, each
-- image of each moment is one of those, so no leaf that is gone comes back and every byte stays. Whatever was there, no image
-- of a moment is longer than the longest at the start, or than the file of a key of height 10, and the clock rises by at
-- most 6.
pub record KeepsOpen {D : Type 0} (may_leave : D → List ℕ → Type 0) (clock : D → ℕ) (during : D → ℕ → List ℕ → Type 0) (old new : D) : Type 0 where
  pub images : ((image : List ℕ) → may_leave old image → IsOpen image) → AtEachMoment clock during old new (may_leave old)
  pub gone : ((image : List ℕ) → may_leave old image → IsOpen image) → KeepsGone (may_leave old) (during new (clock old))
  pub bytes : ((image : List ℕ) → may_leave old image → IsOpen image) → (at : ℕ) → KeepsByte at (may_leave old) (during new (clock old))
  pub lengths : (longest : ℕ) → ((image : List ℕ) → may_leave old image → length image ≤ longest)
      → AtEachMoment clock during old new (λ image. length image ≤ max longest (file_size 10))
  pub ticks : clock new ≤ clock old + 6

-- What a lease of a key does at each moment, whatever the answer: no image is longer than the longest at the start, or
-- than the file; and where nothing was pending and the gate was closed, each image whose gate is open is fresh.
pub record Formats {D : Type 0} (content : D → Option (List ℕ)) (may_leave : D → List ℕ → Type 0) (clock : D → ℕ) (during : D → ℕ → List ℕ → Type 0) (id : List ℕ) (height : ℕ) (old new : D) : Type 0 where
  pub lengths : (longest : ℕ) → ((image : List ℕ) → may_leave old image → length image ≤ longest)
      → AtEachMoment clock during old new (λ image. length image ≤ max longest (file_size height))
  pub fresh : (file : List ℕ) → content old ≡ Some file → ((image : List ℕ) → may_leave old image → content old ≡ Some image) → (¬ IsOpen file)
      → AtEachMoment clock during old new (IsFresh id height)
