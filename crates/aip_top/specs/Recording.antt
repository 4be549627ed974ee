-- What comes of signing a record: by the topology, and by the disk.
use Rattle.std.specs.Prelude.{◌≡◌, ◌⊎◌, ℕ, ⊤, Bool, false, List, find, option_map, Option, Some, None, IfSome, Result, Ok, Err}
use Rattle.lms_core.specs.Tree.{Key}
use Rattle.lease_disk.specs.Images.{AtEachMoment}
use Rattle.leaf_lease.specs.Kept.{KeepsGone}
use Rattle.leaf_lease.specs.LeaseFile.{IsGone}
use Rattle.aip_addr.specs.declared.ids.Id.{Id}
use Rattle.aip_topo.specs.declared.topology.Domain.{Domain}
use Rattle.aip_topo.specs.declared.topology.Key as topo
use Rattle.aip_topo.specs.declared.topology.Key.TheVariants as key
use Rattle.aip_topo.specs.declared.topology.Part.{Part}
use Rattle.aip_topo.specs.declared.topology.Part.TheVariants as part
use Rattle.aip_topo.specs.declared.topology.Topology.{Topology}
use Rattle.aip_topo.specs.Reading.{RefusedLine, topology_of}
use Rattle.aip_topo.specs.Steps.{names_host}
use Rattle.aip_registry.specs.declared.records.Record.{Record}
use Rattle.aip_registry.specs.declared.records.RecordKind.{RecordKind}
use Rattle.aip_registry.specs.declared.records.RecordKind.TheVariants.{Peer, Bind}
use Rattle.record_signer.specs.declared.faults.SigningFault.{SigningFault}
use Rattle.record_signer.specs.declared.faults.SigningFault.TheVariants as signing
use Rattle.record_signer.specs.Signed.{SparesBut}
use Rattle.aip_top.specs.Leasing.{domain_named}
use Rattle.aip_top.specs.Words.{Stated}
use Rattle.aip_top.specs.declared.command.Statement.{Statement}
use Rattle.aip_top.specs.declared.status.Status.{Status}
use Rattle.aip_top.specs.declared.status.Status.TheVariants as status
use Rattle.aip_top.specs.declared.status.LeaseFault.TheVariants as fault

-- what a topology says of a record: a status that refuses it, or the key that is to sign it and what it says
pub data Drafted : Type 0 where
  Denied : Status → Drafted
  Drafts : Key → Record → Drafted

-- the id of a host
abbrev pub host_id : Option Part → Option Id
host_id None = None
host_id (Some (part.Host host)) = Some host.eid
host_id (Some (part.Link link)) = None

-- the id of a domain
abbrev pub domain_id : Option Domain → Option Id
domain_id domain = option_map (λ (d : Domain). d.ad) domain

-- the id that a record is about: that of the domain, or of the host, of this name
abbrev pub other_named : Topology → RecordKind → List ℕ → Option Id
other_named t Peer name = domain_id (domain_named name t.domains)
other_named t Bind name = host_id (find (names_host name) t.parts)

-- a domain that was given by its id has no key
abbrev pub drafted_by : topo.Key → Record → Drafted
drafted_by key.Given r = Denied (status.Lease fault.Keyless)
drafted_by (key.Made k) r = Drafts k r

-- there are a domain and a peer or a host of these names, or one of them is unknown
abbrev pub drafted_with : Statement → Option Domain → Option Id → Drafted
drafted_with said None other = Denied (status.Lease fault.Unknown)
drafted_with said (Some domain) None = Denied (status.Lease fault.Unknown)
drafted_with said (Some domain) (Some other) =
    drafted_by domain.key (record { kind = said.kind; ad = domain.ad; other = other; number = said.number; until = said.until })

-- a record in a topology
abbrev pub drafted_in : Topology → Statement → Drafted
drafted_in t said = drafted_with said (domain_named said.domain t.domains) (other_named t said.kind said.other)

-- a record by what a topology text gives: a refused line, an unknown name, a domain without a key, or else the key and what
-- the record says
abbrev pub drafted_over : Result Topology RefusedLine → Statement → Drafted
drafted_over (Ok t) said = drafted_in t said
drafted_over (Err refused) said = Denied (status.Topology refused.line refused.fault)

-- the same by the topology text
abbrev pub drafted_of : List ℕ → Statement → Drafted
drafted_of text said = drafted_over (topology_of text) said

-- the status that refuses it, if it is refused
abbrev pub denial_in : Drafted → Option Status
denial_in (Denied end) = Some end
denial_in (Drafts k r) = None

-- what holds of the key and the record, where it isn't refused
abbrev pub OfDraft : Drafted → (Key → Record → Type 0) → Type 0
OfDraft (Denied end) holds = ⊤
OfDraft (Drafts k r) holds = holds k r

-- what holds of the key and the record, where the topology is told and doesn't refuse it
abbrev pub OfItsDraft : (List ℕ → Option (List ℕ)) → Stated → (Key → Record → Type 0) → Type 0
OfItsDraft text stated holds = IfSome (text stated.topology) (λ told. OfDraft (drafted_of told stated.said) holds)

-- the status for why nothing was signed
abbrev pub status_unsigned : SigningFault → Status
status_unsigned signing.Disk = status.DiskFault
status_unsigned (signing.Unformatted size gate) = status.Lease (fault.Unformatted size gate)
status_unsigned (signing.OtherKey id height) = status.Lease (fault.OtherKey id height)
status_unsigned (signing.Dry height) = status.Lease (fault.Dry height)
status_unsigned signing.Memory = status.Memory

-- the end of a record by what the lease file gives
abbrev pub record_end : Result (List ℕ) SigningFault → Status
record_end (Ok line) = status.Done
record_end (Err f) = status_unsigned f

-- the line was to be written: all was done, or but the writing failed
abbrev pub HasWritten : Status → Type 0
HasWritten end = (end ≡ status.Done) ⊎ (end ≡ status.WriteFault)

-- the lease file refuses the record: its gate is closed, it is short or of another key, or no leaf is left
abbrev pub IsRefusedByFile : Status → Type 0
IsRefusedByFile (status.Lease (fault.Unformatted size gate)) = ⊤
IsRefusedByFile (status.Lease (fault.OtherKey id height)) = ⊤
IsRefusedByFile (status.Lease (fault.Dry height)) = ⊤
IsRefusedByFile _ = ⊥

-- a fault of reading, writing or the disk, or want of memory
abbrev pub IsFault : Status → Type 0
IsFault end = (end ≡ status.ReadFault) ⊎ ((end ≡ status.WriteFault) ⊎ ((end ≡ status.DiskFault) ⊎ (end ≡ status.Memory)))

-- What a record leaves of a disk, whatever the answer: but for the byte of one leaf each image of each moment is as it was
-- at the start, no leaf that was gone is free again, at any moment and in the disk that comes back, no image grows, and the
-- clock rises by at most 3. Where the line was to be written that leaf is gone in every image of the disk that comes back;
-- where the lease file refuses the record, that leaf's byte too is as it was.
pub record KeepsRecords {D : Type 0} (may_leave : D → List ℕ → Type 0) (clock : D → ℕ) (during : D → ℕ → List ℕ → Type 0) (end : Status) (old new : D) : Type 0 where
  pub leaf : ℕ
  pub taken : HasWritten end → (image : List ℕ) → may_leave new image → IsGone leaf image
  pub looks : IsRefusedByFile end → AtEachMoment clock during old new (may_leave old)
  pub spares : SparesBut may_leave clock during leaf old new
  pub gone : KeepsGone (may_leave old) (may_leave new)
