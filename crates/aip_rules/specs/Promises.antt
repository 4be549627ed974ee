-- What holds of every trace that the rules give: each forward is justified, guards are silent, no leaf signs twice. Nothing
-- here speaks of what a node keeps.
use Rattle.std.specs.Prelude.{◌≡◌, ◌≢◌, ◌⊎◌, ⊤, ℕ, ◌+◌, ◌/◌, ◌<◌, ◌≤◌, Bool, true, false, List, [], ◌∷◌, ◌++◌, length, slice_get, slice_index, take, drop, All, Option, Some, None, Result, Ok, Err}
use Rattle.aip_addr.specs.Ids.{Owns, key_id_of}
use Rattle.aip_addr.specs.declared.ids.Id.{Id}
use Rattle.aip_addr.specs.declared.ids.KeyId.{KeyId}
use Rattle.aip_addr.specs.declared.ids.Address.{Address}
use Rattle.aip_frame.specs.declared.frame.Frame.{Frame}
use Rattle.aip_frame.specs.declared.frame.Kind.TheVariants.{Challenge, Response, ShutOff}
use Rattle.aip_frame.specs.Frame.{frame_of, packet_hash_of}
use Rattle.aip_event.specs.declared.event.Event.{Event}
use Rattle.aip_event.specs.declared.event.Event.TheVariants.{Put, Forward, Wild, Signed, Withheld, Obeyed, Halted}
use Rattle.aip_event.specs.declared.input.Input.{Input}
use Rattle.aip_event.specs.declared.input.Input.TheVariants.{Send, Raw, Deliver, Shutoff}
use Rattle.aip_event.specs.declared.input.Target.{Target}
use Rattle.aip_event.specs.declared.input.Target.TheVariants as target
use Rattle.aip_topo.specs.declared.topology.Part.{Part}
use Rattle.aip_topo.specs.declared.topology.Part.TheVariants as part
use Rattle.aip_topo.specs.declared.topology.Router.{Router}
use Rattle.aip_topo.specs.declared.topology.Topology.{Topology}
use Rattle.aip_topo.specs.Sound.{IsSound}
use Rattle.aip_topo.specs.Reading.{RefusedLine, topology_of}
use Rattle.aip_mac.specs.Hmac.{hmac_of, secret_of}
use Rattle.lms_core.specs.Tree.{Key, identifier_of}
use Rattle.lms_core.specs.Verify.{IsValidSignature}
use Rattle.sent_log.specs.Log.{is_logged}
use Rattle.verify_packet.specs.Challenge.{asked_in}
use Rattle.verify_packet.specs.Response.{challenge_in, key_in, response_text_of, signature_in}
use Rattle.shutoff_filter.specs.Body.{order_in, shutoff_text_of}
use Rattle.shutoff_filter.specs.Body as shutoff
use Rattle.aip_registry.specs.Record.{fields_in, record_text_of, key_in as record_key_in, signature_in as record_signature_in}
use Rattle.aip_rules.specs.declared.Entry.{Entry}
use Rattle.aip_rules.specs.declared.Entry.TheVariants.{Taken, Happened}
use Rattle.aip_rules.specs.declared.Flight.{Flight}
use Rattle.aip_rules.specs.declared.Neighbour.{Neighbour}
use Rattle.aip_rules.specs.declared.Neighbour.TheVariants as neighbour
use Rattle.aip_rules.specs.State.{now_of, flight_at, is_restart_of, restarts_of, delivery, delivered_by}
use Rattle.aip_rules.specs.Nodes.{neighbours_of, neighbour_at, place_of_router, key_named}
use Rattle.aip_rules.specs.Routes.{port_to}
use Rattle.aip_rules.specs.Records.{published_on}
use Rattle.aip_rules.specs.Standing.{frames_put}
use Rattle.aip_rules.specs.Step.{trace_of}
use Rattle.aip_rules.specs.Texts.{ran_over}

-- ---- every forward is justified

-- a link lies at the port
abbrev pub IsLink : Option Neighbour → Type 0
IsLink None = ⊥
IsLink (Some (neighbour.Host name)) = ⊥
IsLink (Some (neighbour.Link other far marked)) = ⊤

-- bytes are a peering record of one domain for another, signed by the first: they have at least 114 bytes, the version 1 and
-- the kind 0, and name the two; and the key in them owns the first domain's id, and signed what they say
pub record IsPeering (own other : Id) (bytes : List ℕ) : Type 0 where
  pub long : 114 ≤ length bytes
  pub version : slice_index bytes 0 ≡ 1
  pub kind : slice_index bytes 1 ≡ 0
  pub by : (fields_in bytes).ad ≡ own
  pub names : (fields_in bytes).other ≡ other
  pub owner : Owns (record_key_in bytes) own
  pub signed : IsValidSignature (record_key_in bytes) (record_text_of (fields_in bytes)) (record_signature_in bytes)

-- on a trace a domain holds another for its peer: the bytes of a peering record of the first for the second were published;
-- of all such that were published, none later has a greater number, and each earlier one has a smaller; and the tick until
-- which it is in force is still to come
pub record HasPeer (tr : List Entry) (own other : Id) : Type 0 where
  pub later : List (List ℕ)
  pub bytes : List ℕ
  pub earlier : List (List ℕ)
  pub published : published_on tr ≡ later ++ (bytes ∷ earlier)
  pub peering : IsPeering own other bytes
  pub stands : All (λ after. IsPeering own other after → (fields_in after).number ≤ (fields_in bytes).number) later
  pub replaces : All (λ before. IsPeering own other before → (fields_in before).number < (fields_in bytes).number) earlier
  pub in_force : now_of tr < (fields_in bytes).until

-- the router's end of a link is marked as trusted, and the router at the other end is of its own domain, or of one that its
-- own domain holds for its peer
pub record HasTrustedEnd (topo : Topology) (tr : List Entry) (self : Router) (other : ℕ) (marked : Bool) : Type 0 where
  pub is_marked : marked ≡ true
  pub neighbour : Router
  pub there : slice_get topo.routers other ≡ Some neighbour
  pub known : (neighbour.domain ≡ self.domain) ⊎ HasPeer tr self.address.ad neighbour.address.ad

-- the router trusts what comes over the link at the port
abbrev pub IsTrusted : Topology → List Entry → Router → Option Neighbour → Type 0
IsTrusted topo tr self None = ⊥
IsTrusted topo tr self (Some (neighbour.Host name)) = ⊥
IsTrusted topo tr self (Some (neighbour.Link other far marked)) = HasTrustedEnd topo tr self other marked

-- the target is a port of the router
abbrev pub IsAtRouter : Router → Target → Type 0
IsAtRouter self (target.Port router port) = router ≡ self.name
IsAtRouter self (target.Host host) = ⊥

-- the epoch is the current one, or the one before
abbrev pub IsTimely : (current epoch : ℕ) → Type 0
IsTimely current epoch = (current ≡ epoch) ⊎ (current ≡ epoch + 1)

-- a frame is a valid response of the source for the port at a router on a trace. It has a challenge, a key and a signature:
-- the challenge was this router's, asked its source and is of a port that the router has; its epoch is the current one or
-- the one before; its tag is the HMAC (RFC 2104) of what it asks, under the router's secret of that epoch since its last
-- restart; and the key owns the source's id and signed the challenge
pub record IsValidResponse (topo : Topology) (tr : List Entry) (place : ℕ) (self : Router) (frame : Frame) (source : Address) (port : ℕ) : Type 0 where
  pub whole : 210 ≤ length frame.body
  pub of_source : frame.from ≡ source
  pub asked_by : (asked_in (challenge_in frame.body)).router ≡ self.address
  pub asked_of : (asked_in (challenge_in frame.body)).source ≡ source
  pub asked_at : (asked_in (challenge_in frame.body)).port ≡ port
  pub has_port : port < length (neighbours_of topo place)
  pub timely : IsTimely (now_of tr / topo.settings.epoch) (asked_in (challenge_in frame.body)).epoch
  pub tagged : take 32 (drop 122 (challenge_in frame.body))
      ≡ hmac_of (secret_of self.master (restarts_of tr self.name) (asked_in (challenge_in frame.body)).epoch) (take 122 (challenge_in frame.body))
  pub owner : Owns (key_in frame.body) source.eid
  pub signed : IsValidSignature (key_in frame.body) (response_text_of (challenge_in frame.body)) (signature_in frame.body)

-- on a trace a flight brings a valid response to the router itself: it proves this source at this port
pub record Proves (topo : Topology) (tr : List Entry) (place : ℕ) (self : Router) (source : Address) (port : ℕ) (flight : Flight) : Type 0 where
  pub frame : Frame
  pub spelled : frame_of flight.bytes ≡ Some frame
  pub arrives : IsAtRouter self flight.target
  pub own : frame.to ≡ self.address
  pub response : frame.kind ≡ Response
  pub valid : IsValidResponse topo tr place self frame source port

-- the flight is there and proves the source at the port
abbrev pub IsProof : Topology → List Entry → ℕ → Router → Address → ℕ → Option Flight → Type 0
IsProof topo tr place self source port None = ⊥
IsProof topo tr place self source port (Some flight) = Proves topo tr place self source port flight

-- since the router's last restart a delivery proved the source at the port, and `now` is below its time plus `accept`
abbrev pub Answered : Topology → ℕ → Router → List Entry → Address → ℕ → (now : ℕ) → Type 0
Answered topo place self [] source port now = ⊥
Answered topo place self (Happened event ∷ tr) source port now = Answered topo place self tr source port now
Answered topo place self (Taken input ∷ tr) source port now =
    (is_restart_of input self.name ≡ false)
    × ((IsProof topo tr place self source port (delivered_by tr input) × (now < now_of tr + topo.settings.accept))
    ⊎ Answered topo place self tr source port now)

-- none of the addresses stands twice
abbrev pub AllDiffer : List Address → Type 0
AllDiffer [] = ⊤
AllDiffer (source ∷ sources) = All (λ other. source ≢ other) sources × AllDiffer sources

-- a threshold of distinct sources of the domain answered for the port
pub record ManyAnswered (topo : Topology) (place : ℕ) (self : Router) (tr : List Entry) (ad : Id) (port : ℕ) : Type 0 where
  pub sources : List Address
  pub differ : AllDiffer sources
  pub enough : topo.settings.threshold ≤ length sources
  pub of_domain : All (λ source. source.ad ≡ ad) sources
  pub answered : All (λ source. Answered topo place self tr source port (now_of tr)) sources

-- the event makes a wildcard of the domain at the router's port
abbrev pub MakesWildcard : Router → Id → ℕ → Event → Type 0
MakesWildcard self ad port (Wild router domain at) = (router ≡ self.name) × (domain ≡ ad) × (at ≡ port)
MakesWildcard self ad port _ = ⊥

-- since the router's last restart its domain was made a wildcard at the port by a threshold of answers, and `now` is below
-- the time of that plus `wild`
abbrev pub WildcardMade : Topology → ℕ → Router → List Entry → Id → ℕ → (now : ℕ) → Type 0
WildcardMade topo place self [] ad port now = ⊥
WildcardMade topo place self (Taken input ∷ tr) ad port now =
    (is_restart_of input self.name ≡ false) × WildcardMade topo place self tr ad port now
WildcardMade topo place self (Happened event ∷ tr) ad port now =
    (MakesWildcard self ad port event × (now < now_of tr + topo.settings.wild) × ManyAnswered topo place self tr ad port)
    ⊎ WildcardMade topo place self tr ad port now

-- why a checking router may forward a frame of this source that came by this port: its neighbour there is trusted; the port
-- is the one towards the source; the source answered for the port; or a threshold of sources of its domain did
pub data Justified (topo : Topology) (place : ℕ) (self : Router) (tr : List Entry) (source : Address) (port : ℕ) : Type 0 where
  ByTrust : IsTrusted topo tr self (neighbour_at topo place port) → Justified topo place self tr source port
  ByReversePath : IsLink (neighbour_at topo place port) → port_to topo tr place self source ≡ Some port → Justified topo place self tr source port
  ByAnswer : Answered topo place self tr source port (now_of tr) → Justified topo place self tr source port
  ByWildcard : IsLink (neighbour_at topo place port) → WildcardMade topo place self tr source.ad port (now_of tr) → Justified topo place self tr source port

-- a forward on a trace stands under the delivery of a frame to this router at this port; and at a checking router it is
-- justified, unless the frame is a challenge
pub record ForwardIsJustified (topo : Topology) (tr : List Entry) (name : List ℕ) (port : ℕ) : Type 0 where
  pub flight : Flight
  pub frame : Frame
  pub delivered : delivery tr ≡ Some flight
  pub arrives : flight.target ≡ target.Port name port
  pub spelled : frame_of flight.bytes ≡ Some frame
  pub justified : (place : ℕ) (self : Router) → place_of_router topo.routers name ≡ Some place → slice_get topo.routers place ≡ Some self
      → self.checking ≡ true → frame.kind ≢ Challenge → Justified topo place self tr frame.from port

-- if the event is a forward, it is justified
abbrev pub IsJustified : Topology → List Entry → Event → Type 0
IsJustified topo tr (Forward router port out cause) = ForwardIsJustified topo tr router port
IsJustified topo tr _ = ⊤

-- each forward of the trace is justified on the trace up to it
abbrev pub ForwardsAreJustified : Topology → List Entry → Type 0
ForwardsAreJustified topo [] = ⊤
ForwardsAreJustified topo (Taken input ∷ tr) = ForwardsAreJustified topo tr
ForwardsAreJustified topo (Happened event ∷ tr) = IsJustified topo tr event × ForwardsAreJustified topo tr

-- ---- guards are silent

-- the event lays on the host of this name a shut-off for the key identifier that lasts past `now`: the host obeys it, or the
-- writing of it was halted at its gate, the third or fourth call, and left the gate open, the byte 165
abbrev pub Lays : List ℕ → KeyId → (now : ℕ) → Event → Type 0
Lays name to now (Obeyed host sender until) = (host ≡ name) × (sender ≡ to) × (now < until)
Lays name to now (Halted host sender until call byte) =
    (host ≡ name) × (sender ≡ to) × (now < until) × ((call ≡ 3) ⊎ (call ≡ 4)) × (byte ≡ 165)
Lays name to now _ = ⊥

-- some event of the trace lays on the host a shut-off for the key identifier that lasts past `now`; no restart undoes it
abbrev pub WasLaid : List ℕ → KeyId → (now : ℕ) → List Entry → Type 0
WasLaid name to now [] = ⊥
WasLaid name to now (Taken input ∷ tr) = WasLaid name to now tr
WasLaid name to now (Happened event ∷ tr) = Lays name to now event ⊎ WasLaid name to now tr

-- a shut-off for the key identifier is in force at the host of this name
abbrev pub IsInForce : List Entry → List ℕ → KeyId → Type 0
IsInForce tr name to = WasLaid name to (now_of tr) tr

-- on the first of these lines that is of a host of this name, the host is guarded
abbrev pub IsGuarded : List Part → List ℕ → Type 0
IsGuarded [] name = ⊥
IsGuarded (part.Link link ∷ parts) name = IsGuarded parts name
IsGuarded (part.Host host ∷ parts) name =
    ((host.name ≡ name) × (host.guarded ≡ true)) ⊎ ((host.name ≢ name) × IsGuarded parts name)

-- the flight is there, and goes to the host of this name
abbrev pub GoesTo : Option Flight → List ℕ → Type 0
GoesTo None name = ⊥
GoesTo (Some flight) name = flight.target ≡ target.Host name

-- the input is one at which the host of this name acts: it sends, puts bytes or signs a shut-off, or a flight is delivered to it
abbrev pub LetsAct : List Entry → Input → List ℕ → Type 0
LetsAct tr (Send host node packet body) name = host ≡ name
LetsAct tr (Raw host bytes) name = host ≡ name
LetsAct tr (Shutoff host flight ttl) name = host ≡ name
LetsAct tr (Deliver flight) name = GoesTo (flight_at tr flight) name
LetsAct tr _ name = ⊥

-- the newest input is one at which the host of this name acts: what is put on it, this host puts
abbrev pub Acts : List Entry → List ℕ → Type 0
Acts [] name = ⊥
Acts (Taken input ∷ tr) name = LetsAct tr input name
Acts (Happened event ∷ tr) name = Acts tr name

-- the event puts a frame of this packet hash to the key identifier
abbrev pub PutsFrame : (hash : List ℕ) → (to : KeyId) → Event → Type 0
PutsFrame hash to (Put number target bytes) =
    (frame : Frame) × (frame_of bytes ≡ Some frame) × (packet_hash_of frame ≡ hash) × (key_id_of frame.to.eid ≡ to)
PutsFrame hash to _ = ⊥

-- since its last restart the host of this name put a frame of this packet hash to the key identifier
abbrev pub WasPut : List Entry → List ℕ → (hash : List ℕ) → (to : KeyId) → Type 0
WasPut [] name hash to = ⊥
WasPut (Taken input ∷ tr) name hash to = (is_restart_of input name ≡ false) × WasPut tr name hash to
WasPut (Happened event ∷ tr) name hash to = (Acts tr name × PutsFrame hash to event) ⊎ WasPut tr name hash to

-- what a guarded host puts on a trace is no frame to a destination under a shut-off in force
abbrev pub PutIsFree : Topology → List Entry → List ℕ → Type 0
PutIsFree topo tr bytes =
    (name : List ℕ) (frame : Frame) → Acts tr name → IsGuarded topo.parts name → frame_of bytes ≡ Some frame
    → IsInForce tr name (key_id_of frame.to.eid) → ⊥

-- a host withholds only behind a guard, and for a key identifier under a shut-off in force
pub record WithholdsRightly (topo : Topology) (tr : List Entry) (name : List ℕ) (to : KeyId) : Type 0 where
  pub guarded : IsGuarded topo.parts name
  pub shut : IsInForce tr name to

-- a shut-off stands under the delivery of its frame to the host: it is of this sender, whose key owns its id and signed it;
-- it was issued by now and lasts until then, which is still to come; and it names a packet that the host put to the sender
-- since its last restart, and that is still in its log
pub record IsShutOff (topo : Topology) (tr : List Entry) (name : List ℕ) (sender : KeyId) (until : ℕ) : Type 0 where
  pub flight : Flight
  pub frame : Frame
  pub delivered : delivery tr ≡ Some flight
  pub arrives : flight.target ≡ target.Host name
  pub spelled : frame_of flight.bytes ≡ Some frame
  pub kind : frame.kind ≡ ShutOff
  pub by_sender : key_id_of frame.from.eid ≡ sender
  pub owner : Owns (order_in frame.body).key frame.from.eid
  pub signed : IsValidSignature (order_in frame.body).key
      (shutoff_text_of frame.from frame.to (order_in frame.body).hash (order_in frame.body).issue (order_in frame.body).ttl) (shutoff.signature_in frame.body)
  pub issued : (order_in frame.body).issue ≤ now_of tr
  pub lasts : until ≡ (order_in frame.body).issue + (order_in frame.body).ttl
  pub ahead : now_of tr < until
  pub put : WasPut tr name (order_in frame.body).hash sender
  pub logged : is_logged (take topo.settings.log (frames_put tr name)) (order_in frame.body).hash sender.bytes ≡ true

-- the event is as a guard that is silent makes it
abbrev pub IsSilent : Topology → List Entry → Event → Type 0
IsSilent topo tr (Put number to bytes) = PutIsFree topo tr bytes
IsSilent topo tr (Withheld host to) = WithholdsRightly topo tr host to
IsSilent topo tr (Obeyed host sender until) = IsShutOff topo tr host sender until
IsSilent topo tr (Halted host sender until call byte) = IsShutOff topo tr host sender until
IsSilent topo tr _ = ⊤

-- no guarded host puts a frame under a shut-off in force, each that withholds does so for a key identifier under one, and
-- each shut-off that is obeyed or halted is what a shut-off must be
abbrev pub GuardsAreSilent : Topology → List Entry → Type 0
GuardsAreSilent topo [] = ⊤
GuardsAreSilent topo (Taken input ∷ tr) = GuardsAreSilent topo tr
GuardsAreSilent topo (Happened event ∷ tr) = IsSilent topo tr event × GuardsAreSilent topo tr

-- ---- no leaf signs twice

-- the identifier of a key, if there is one
abbrev pub identifier_in : Option Key → Option (List ℕ)
identifier_in None = None
identifier_in (Some key) = Some (identifier_of key.seed)

-- the identifier of the key of the host of this name
abbrev pub identifier_at : Topology → List ℕ → Option (List ℕ)
identifier_at topo name = identifier_in (key_named topo.parts name)

-- the event isn't a signature by this leaf of the key with this identifier
abbrev pub IsNotBy : Topology → Option (List ℕ) → ℕ → Event → Type 0
IsNotBy topo identifier leaf (Signed host other) = (identifier_at topo host ≡ identifier) → other ≢ leaf
IsNotBy topo identifier leaf _ = ⊤

-- no event of the trace is a signature by this leaf of the key with this identifier
abbrev pub IsUnsigned : Topology → Option (List ℕ) → ℕ → List Entry → Type 0
IsUnsigned topo identifier leaf [] = ⊤
IsUnsigned topo identifier leaf (Taken input ∷ tr) = IsUnsigned topo identifier leaf tr
IsUnsigned topo identifier leaf (Happened event ∷ tr) = IsNotBy topo identifier leaf event × IsUnsigned topo identifier leaf tr

-- if the event is a signature, its leaf has not signed on the trace up to it
abbrev pub IsFirstSignature : Topology → List Entry → Event → Type 0
IsFirstSignature topo tr (Signed host leaf) = IsUnsigned topo (identifier_at topo host) leaf tr
IsFirstSignature topo tr _ = ⊤

-- no two signatures of the trace are by one leaf of keys with one identifier
abbrev pub NoLeafSignsTwice : Topology → List Entry → Type 0
NoLeafSignsTwice topo [] = ⊤
NoLeafSignsTwice topo (Taken input ∷ tr) = NoLeafSignsTwice topo tr
NoLeafSignsTwice topo (Happened event ∷ tr) = IsFirstSignature topo tr event × NoLeafSignsTwice topo tr

-- ---- of every trace that the rules give

-- what is promised of a trace holds of every trace that the rules give over a sound topology
abbrev pub HoldsOfAll : (Topology → List Entry → Type 0) → Type 0
HoldsOfAll Promise =
    (topo : Topology) → IsSound topo → (inputs : List Input) (tr : List Entry) → trace_of topo inputs ≡ Some tr → Promise topo tr

-- what is promised holds of the trace of a run over what a topology text gives, if it gives a topology
abbrev pub HoldsOver : (Topology → List Entry → Type 0) → Result Topology RefusedLine → List ℕ → Type 0
HoldsOver Promise (Ok topo) schedule = Promise topo (ran_over (Ok topo) schedule).trace
HoldsOver Promise (Err refused) schedule = ⊤

-- what is promised holds of the trace of the run of two texts, whatever they are
abbrev pub HoldsOfRun : (Topology → List Entry → Type 0) → List ℕ → List ℕ → Type 0
HoldsOfRun Promise topology schedule = HoldsOver Promise (topology_of topology) schedule
