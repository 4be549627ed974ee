-- What backs the events of a trace: a forward is justified, a proof stands under its delivery, a wildcard under many answers.
use Rattle.std.proofs.Common.{◌≡◌, ℕ, ◌+◌, ◌<◌, List, [], ◌∷◌, ◌++◌, Option, Some, None}
use Rattle.std.specs.Prelude.{⊤, slice_get}
use Rattle.aip_addr.specs.declared.ids.Id.{Id}
use Rattle.aip_addr.specs.declared.ids.Address.{Address}
use Rattle.aip_event.specs.declared.event.Event.{Event}
use Rattle.aip_event.specs.declared.event.Event.TheVariants.{Forward, Proved, Wild}
use Rattle.aip_topo.specs.declared.topology.Router.{Router}
use Rattle.aip_topo.specs.declared.topology.Topology.{Topology}
use Rattle.aip_rules.specs.declared.Entry.{Entry}
use Rattle.aip_rules.specs.declared.Entry.TheVariants.{Taken, Happened}
use Rattle.aip_rules.specs.declared.Flight.{Flight}
use Rattle.aip_rules.specs.State.{now_of}
use Rattle.aip_rules.specs.Nodes.{place_of_router}
use Rattle.aip_rules.specs.Reaction.{put_event}
use Rattle.aip_rules.specs.Step.{with_events}
use Rattle.aip_rules.specs.Promises.{Answered, ManyAnswered, ForwardIsJustified, ForwardsAreJustified}

-- the router of this name, at its place
pub record IsRouterNamed (topo : Topology) (name : List ℕ) (place : ℕ) (self : Router) : Type 0 where
  pub named : place_of_router topo.routers name ≡ Some place
  pub there : slice_get topo.routers place ≡ Some self

-- a source that the router of this name proves on a trace answered for the port, for as long as an answer lasts
abbrev pub ProofIsBacked : Topology → List Entry → List ℕ → Address → ℕ → Type 0
ProofIsBacked topo tr name source port =
    (place : ℕ) (self : Router) → IsRouterNamed topo name place self
    → (now : ℕ) → now < now_of tr + topo.settings.accept → Answered topo place self tr source port now

-- a wildcard that the router of this name makes on a trace stands under a threshold of answers
abbrev pub WildcardIsBacked : Topology → List Entry → List ℕ → Id → ℕ → Type 0
WildcardIsBacked topo tr name ad port =
    (place : ℕ) (self : Router) → IsRouterNamed topo name place self → ManyAnswered topo place self tr ad port

-- what backs an event on a trace
abbrev pub IsBacked : Topology → List Entry → Event → Type 0
IsBacked topo tr (Forward router port out cause) = ForwardIsJustified topo tr router port
IsBacked topo tr (Proved router source port) = ProofIsBacked topo tr router source port
IsBacked topo tr (Wild router ad port) = WildcardIsBacked topo tr router ad port
IsBacked topo tr _ = ⊤

-- each event of the trace is backed on the trace up to it
abbrev pub AreBacked : Topology → List Entry → Type 0
AreBacked topo [] = ⊤
AreBacked topo (Taken input ∷ tr) = AreBacked topo tr
AreBacked topo (Happened event ∷ tr) = IsBacked topo tr event × AreBacked topo tr

-- each of the events is backed on the trace with those before it on top
abbrev pub Follow : Topology → List Entry → List Event → Type 0
Follow topo tr [] = ⊤
Follow topo tr (event ∷ events) = IsBacked topo tr event × Follow topo (Happened event ∷ tr) events

-- the event is none that wants backing
abbrev pub IsQuiet : Event → Type 0
IsQuiet (Forward router port out cause) = ⊥
IsQuiet (Proved router source port) = ⊥
IsQuiet (Wild router ad port) = ⊥
IsQuiet _ = ⊤

-- none of the events wants backing
abbrev pub AreQuiet : List Event → Type 0
AreQuiet [] = ⊤
AreQuiet (event ∷ events) = IsQuiet event × AreQuiet events

quiet_backed : (topo : Topology) (tr : List Entry) (event : Event) → IsQuiet event → IsBacked topo tr event
quiet_backed topo tr (Forward router port out cause) quiet = absurd quiet
quiet_backed topo tr (Proved router source port) quiet = absurd quiet
quiet_backed topo tr (Wild router ad port) quiet = absurd quiet
quiet_backed topo tr _ quiet = tt

-- events that want no backing may follow any trace
pub quiet_follow : (topo : Topology) (tr : List Entry) (events : List Event) → AreQuiet events → Follow topo tr events
quiet_follow topo tr [] quiet = tt
quiet_follow topo tr (event ∷ events) quiet =
    (quiet_backed topo tr event quiet.0, quiet_follow topo (Happened event ∷ tr) events quiet.1)

-- and so may the event by which a flight is put behind others
pub put_follows : (topo : Topology) (tr : List Entry) (events : List Event) (number : ℕ) (put : Option Flight) → Follow topo tr events
    → Follow topo tr (events ++ put_event number put)
put_follows topo tr [] number None follow = tt
put_follows topo tr [] number (Some flight) follow = (tt, tt)
put_follows topo tr (event ∷ events) number put follow =
    (follow.0, put_follows topo (Happened event ∷ tr) events number put follow.1)

-- events that follow a trace keep it backed
pub still_backed : (topo : Topology) (tr : List Entry) (events : List Event) → AreBacked topo tr → Follow topo tr events → AreBacked topo (with_events events tr)
still_backed topo tr [] backed follow = backed
still_backed topo tr (event ∷ events) backed follow =
    still_backed topo (Happened event ∷ tr) events (follow.0, backed) follow.1

-- the forwards of a backed trace are justified
pub forwards_backed : (topo : Topology) (tr : List Entry) → AreBacked topo tr → ForwardsAreJustified topo tr
forwards_backed topo [] backed = tt
forwards_backed topo (Taken input ∷ tr) backed = forwards_backed topo tr backed
forwards_backed topo (Happened (Forward router port out cause) ∷ tr) backed = (backed.0, forwards_backed topo tr backed.1)
forwards_backed topo (Happened event ∷ tr) backed = (tt, forwards_backed topo tr backed.1)
