-- Signed records on a trace: what was published and what is kept of it, what comes of a publication, and which neighbours a
-- router trusts by the records that are kept.
use Rattle.std.specs.Prelude.{ℕ, ◌&&◌, ◌||◌, Bool, false, nat_lt, List, [], ◌∷◌, ◌++◌, slice_get, option_map, Option, Some, None}
use Rattle.aip_addr.specs.declared.ids.Id.{Id}
use Rattle.aip_event.specs.declared.input.Input.{Input}
use Rattle.aip_event.specs.declared.input.Input.TheVariants.{Publish}
use Rattle.aip_event.specs.declared.event.Event.{Event}
use Rattle.aip_event.specs.declared.event.Event.TheVariants as event
use Rattle.aip_topo.specs.declared.topology.Router.{Router}
use Rattle.aip_topo.specs.declared.topology.Topology.{Topology}
use Rattle.aip_addr.specs.Ids.{is_same_id}
use Rattle.aip_registry.specs.declared.published.Published.{Published}
use Rattle.aip_registry.specs.declared.published.Published.TheVariants as said
use Rattle.aip_registry.specs.declared.records.Record.{Record}
use Rattle.aip_registry.specs.declared.records.RecordKind.{RecordKind}
use Rattle.aip_registry.specs.declared.records.RecordKind.TheVariants.{Peer, Bind}
use Rattle.aip_registry.specs.Record.{fields_in}
use Rattle.aip_registry.specs.Kept.{kept_on, kept_records, publication, refusal_number}
use Rattle.aip_rules.specs.declared.Entry.{Entry}
use Rattle.aip_rules.specs.declared.Entry.TheVariants.{Taken, Happened}
use Rattle.aip_rules.specs.declared.Reaction.{Reaction}
use Rattle.aip_rules.specs.Reaction.{happens}

-- ---- what was published

-- the bytes that an input publishes, if it publishes some
abbrev pub published_by : Input → List (List ℕ)
published_by (Publish bytes) = bytes ∷ []
published_by _ = []

-- the byte strings that were published on a trace, the last first
abbrev pub published_on : List Entry → List (List ℕ)
published_on [] = []
published_on (Taken input ∷ tr) = published_by input ++ published_on tr
published_on (Happened event ∷ tr) = published_on tr

-- the records that are kept of those that were published on a trace
abbrev pub records_kept : List Entry → List Record
records_kept tr = kept_records (published_on tr)

-- ---- a publication

-- the event of a record that is kept from now on
abbrev pub kept_record_event : RecordKind → Record → Event
kept_record_event Peer r = event.PublishedPeer r.ad r.other r.number r.until
kept_record_event Bind r = event.PublishedBind r.ad r.other r.number r.until

-- the event of a record of which this is said: it is kept from now on, or refused with the number of the reason
abbrev pub publication_event : Record → Published → Event
publication_event r said.Ok = kept_record_event r.kind r
publication_event r said.Body = event.Unpublished (refusal_number said.Body)
publication_event r said.Key = event.Unpublished (refusal_number said.Key)
publication_event r said.Signature = event.Unpublished (refusal_number said.Signature)
publication_event r (said.Old number) = event.Unpublished (refusal_number (said.Old number))

-- what comes of a publication of bytes to the records that are kept; it puts nothing
abbrev pub publishes : List Record → List ℕ → Reaction
publishes kept bytes = happens (publication_event (fields_in bytes) (publication kept bytes))

-- ---- trust

-- there is a tick, and it is above now
abbrev pub is_ahead : (now : ℕ) → Option ℕ → Bool
is_ahead now None = false
is_ahead now (Some until) = nat_lt now until

-- the tick until which a domain's peering record for another is in force, if one is kept
abbrev pub peered_until : List Record → (own other : Id) → Option ℕ
peered_until kept own other = option_map (λ r. r.until) (kept_on Peer own other kept)

-- a router of one domain trusts a neighbour of another over a link's end: the end is marked, and the two domains are the
-- same, or a peering record of the router's domain for the neighbour's is kept and in force
abbrev pub trusts_domain : List Record → (now : ℕ) → (own other : Id) → (marked : Bool) → Bool
trusts_domain kept now own other marked = marked && (is_same_id own other || is_ahead now (peered_until kept own other))

-- a router of a domain trusts its neighbour over a link's end, if there is one
abbrev pub trusts_router : List Record → (now : ℕ) → (own : Id) → Option Router → (marked : Bool) → Bool
trusts_router kept now own None marked = false
trusts_router kept now own (Some neighbour) marked = trusts_domain kept now own neighbour.address.ad marked

-- a router trusts the router at a place, which lies at the other end of a link, over its end of the link
abbrev pub trusts : Topology → List Record → (now : ℕ) → Router → (other : ℕ) → (marked : Bool) → Bool
trusts topo kept now self other marked = trusts_router kept now self.address.ad (slice_get topo.routers other) marked
