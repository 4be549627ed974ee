-- The list of the records that are kept of a record file, by the topology.
use Rattle.std.specs.Prelude.{◌≡◌, ◌⊎◌, ℕ, ⊤, List, [], Result, Ok, Err}
use Rattle.std.proofs.Common.{Vec, Global}
use Rattle.aip_topo.specs.declared.topology.Topology.{Topology}
use Rattle.aip_topo.specs.Reading.{RefusedLine, topology_of}
use Rattle.aip_registry.specs.Kept.{kept_records}
use Rattle.aip_records.specs.Files.{RefusedRecord, records_of}
use Rattle.aip_records.specs.Listing.{list_text}
use Rattle.aip_top.specs.Judged.{IsUnread}
use Rattle.aip_top.specs.declared.status.Status.{Status}
use Rattle.aip_top.specs.declared.status.Status.TheVariants as status

-- what the records of a file give: the lines of those that are kept, or the status of the first line that is refused
abbrev pub listing_of : Result (List (List ℕ)) RefusedRecord → Result (List ℕ) Status
listing_of (Ok published) = Ok (list_text (kept_records published))
listing_of (Err refused) = Err (status.Record refused.line refused.why)

-- the same by what a topology text gives: a refused line, or else what the record file gives
abbrev pub registry_over : Result Topology RefusedLine → List ℕ → Result (List ℕ) Status
registry_over (Ok topo) records = listing_of (records_of topo.domains records)
registry_over (Err refused) records = Err (status.Topology refused.line refused.fault)

-- the same by the two texts
abbrev pub registry_in : List ℕ → List ℕ → Result (List ℕ) Status
registry_in topology records = registry_over (topology_of topology) records

-- how the writing of it ends
abbrev pub listing_end : Result (List ℕ) Status → Status
listing_end (Ok text) = status.Done
listing_end (Err end) = end

-- what is written: nothing where a file is refused
abbrev pub listing_text : Result (List ℕ) Status → List ℕ
listing_text (Ok text) = text
listing_text (Err end) = []

-- the text is the list, or the status is what refuses it, or a file couldn't be read or memory was wanting
abbrev pub IsListing : Result (List ℕ) Status → Result (Vec ℕ Global) Status → Type 0
IsListing expected (Ok text) = expected ≡ Ok text.items
IsListing expected (Err end) = IsUnread end ⊎ (expected ≡ Err end)

-- the status comes before a list is written, once the topology is there: the records couldn't be read or are refused, or
-- memory was wanting
abbrev pub IsListingEnd : Status → Type 0
IsListingEnd status.ReadFault = ⊤
IsListingEnd (status.Record line f) = ⊤
IsListingEnd status.Memory = ⊤
IsListingEnd (status.Topology line f) = ⊥
IsListingEnd status.Done = ⊥
IsListingEnd status.Usage = ⊥
IsListingEnd status.WriteFault = ⊥
IsListingEnd (status.Schedule line f) = ⊥
IsListingEnd (status.Wrong line) = ⊥
IsListingEnd status.DiskFault = ⊥
IsListingEnd (status.Lease f) = ⊥
