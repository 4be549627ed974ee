-- What each command answers, writes and leaves, where what it reads is told.
use Rattle.std.specs.Prelude.{Result, ◌≡◌, ◌⊎◌, ℕ, true, List, Option, Ok, IfSome}
use Rattle.std.specs.Option.{ForSome}
use Rattle.lms_core.specs.Tree.{Key, identifier_of}
use Rattle.lms_core.specs.Parameters.{levels_of}
use Rattle.lease_disk.specs.Images.{AtEachMoment, OnlyLooks}
use Rattle.leaf_lease.specs.LeaseFile.{IsGone}
use Rattle.aip_registry.specs.declared.records.Record.{Record}
use Rattle.record_signer.specs.Signed.{SparesBut, is_refusal, next_leaf, signed_by, signed_line, spent}
use Rattle.aip_rules.specs.Texts.{end_of, output_of}
use Rattle.aip_core.specs.Kept.{Kept}
use Rattle.aip_sim.specs.Runs.{StandsForRun, Writes}
use Rattle.aip_top.specs.declared.status.Status.{Status}
use Rattle.aip_top.specs.Statuses.{status_of}
use Rattle.aip_top.specs.Judged.{IsOrMemory}
use Rattle.aip_top.specs.Written.{CutsShort, WritesOnDone}
use Rattle.aip_top.specs.Addresses.{address_end, addresses_in}
use Rattle.aip_top.specs.Listings.{listing_end, listing_text, registry_in}
use Rattle.aip_top.specs.Workloads.{IsRefused, workload_end, workload_text}
use Rattle.aip_top.specs.Recording.{HasWritten, IsFault, IsRefusedByFile, record_end}
use Rattle.aip_top.specs.Leasing.{Formats, HasFresh, IsAlready, IsFormatted, KeepsOpen, LeaseSays, lease_end, lease_text}

-- `run` of two texts: it ends and writes as the rules say, comes to its end where nothing fails, and a core that comes back
-- stands for the trace.
pub record RunOf (topology schedule : List ℕ) (unread unwritten : Type 0) (end : Status) (core : Option Kept) (old new : Option (List ℕ)) : Type 0 where
  pub writes : Writes CutsShort (status_of (end_of topology schedule)) (output_of topology schedule) end old new
  pub complete : (unread → ⊥) → (unwritten → ⊥) → IsOrMemory (status_of (end_of topology schedule)) end
  pub stands : IfSome core (StandsForRun topology schedule)

-- `address` of a topology text: the same, for the addresses in it.
pub record AddressOf (text : List ℕ) (unread unwritten : Type 0) (end : Status) (old new : Option (List ℕ)) : Type 0 where
  pub writes : Writes CutsShort (address_end text) (addresses_in text) end old new
  pub complete : (unread → ⊥) → (unwritten → ⊥) → IsOrMemory (address_end text) end

-- `registry` of a topology text and a record file: the same, for the list of the records that are kept.
pub record RegistryOf (topology records : List ℕ) (unread unwritten : Type 0) (end : Status) (old new : Option (List ℕ)) : Type 0 where
  pub writes : Writes CutsShort (listing_end (registry_in topology records)) (listing_text (registry_in topology records)) end old new
  pub complete : (unread → ⊥) → (unwritten → ⊥) → IsOrMemory (listing_end (registry_in topology records)) end

-- `lease` for a key: how it may end, by the file as it was; where the file was formatted, it is fresh in every image that a
-- crash may leave; what a crash may leave at each moment; and the line is written.
pub record LeaseOf {D : Type 0} (content : D → Option (List ℕ)) (may_leave : D → List ℕ → Type 0) (clock : D → ℕ) (during : D → ℕ → List ℕ → Type 0) (key : Key) (unread unwritten failed : Type 0) (end : Status) (disk after : D) (old new : Option (List ℕ)) : Type 0 where
  pub says : LeaseSays (content disk) end
  pub formatted : IsFormatted end → HasFresh content may_leave (identifier_of key.seed) (levels_of key.height) disk after
  pub moments : Formats content may_leave clock during (identifier_of key.seed) (levels_of key.height) disk after
  pub writes : WritesOnDone (lease_text key) end old new
  pub complete : IfSome (content disk) (λ file. (unread → ⊥) → (unwritten → ⊥) → (failed → ⊥) → IsOrMemory (lease_end file) end)

-- `lease`, whatever is told: an open file stays as it was at each moment, and where it was formatted already the disk was
-- only looked at.
pub record KeepsLeases {D : Type 0} (content : D → Option (List ℕ)) (may_leave : D → List ℕ → Type 0) (clock : D → ℕ) (during : D → ℕ → List ℕ → Type 0) (end : Status) (disk after : D) : Type 0 where
  pub already : IsAlready end → OnlyLooks content may_leave clock during disk after
  pub keeps : KeepsOpen may_leave clock during disk after

-- `record` of a key, once the disk is met: by one leaf, which is the next where the file is told. Where the line was to be
-- written the file gives just that line, the leaf is gone in every image that a crash may leave and reads 1, and a first part of the
-- line was taken, all of it on Done; on every other answer nothing was taken. An answer that is no fault is the one that
-- the file gives. But for the leaf's byte the disk stays as it was; and where the file refuses the record, that byte too.
pub record RecordDone {D : Type 0} (content : D → Option (List ℕ)) (may_leave : D → List ℕ → Type 0) (clock : D → ℕ) (during : D → ℕ → List ℕ → Type 0) (key : Key) (r : Record) (end : Status) (disk after : D) (old new : Option (List ℕ)) : Type 0 where
  pub leaf : ℕ
  pub next : ForSome (content disk) (λ file. leaf ≡ next_leaf key file)
  pub answer : ForSome (content disk) (λ file. IsFault end ⊎ (end ≡ record_end (signed_by key r file)))
  pub signed : HasWritten end → ForSome (content disk) (λ file. signed_by key r file ≡ Ok (signed_line key leaf r))
  pub gone : HasWritten end → (image : List ℕ) → may_leave after image → IsGone leaf image
  pub reads : HasWritten end → content after ≡ spent leaf (content disk)
  pub writes : WritesOnDone (signed_line key leaf r) end old new
  pub looks : IsRefusedByFile end → AtEachMoment clock during disk after (may_leave disk)
  pub spared : ForSome (content disk) (λ file. is_refusal (signed_by key r file) ≡ true → AtEachMoment clock during disk after (may_leave disk))
  pub spares : SparesBut may_leave clock during leaf disk after

-- `record` for a key: the same, and it comes to its end where nothing fails.
pub record RecordOf {D : Type 0} (content : D → Option (List ℕ)) (may_leave : D → List ℕ → Type 0) (clock : D → ℕ) (during : D → ℕ → List ℕ → Type 0) (key : Key) (r : Record) (unread unwritten failed : Type 0) (end : Status) (disk after : D) (old new : Option (List ℕ)) : Type 0 where
  pub done : RecordDone content may_leave clock during key r end disk after old new
  pub complete : IfSome (content disk) (λ file. (unread → ⊥) → (unwritten → ⊥) → (failed → ⊥) → IsOrMemory (record_end (signed_by key r file)) end)

-- `make` of a workload that gives a text, or is refused: it ends so, and writes that text, or nothing; it comes to its end
-- where nothing fails, and to its refusal whatever fails.
pub record MakeOf (given : Result (List ℕ) Status) (unwritten : Type 0) (end : Status) (old new : Option (List ℕ)) : Type 0 where
  pub writes : Writes CutsShort (workload_end given) (workload_text given) end old new
  pub complete : (unwritten → ⊥) → IsOrMemory (workload_end given) end
  pub refused : IsRefused given → IsOrMemory (workload_end given) end
