-- A host that stands for a trace does what the rules say on it, and stands for the trace with what it did.
use Rattle.std.specs.Prelude.{◌≡◌, ℕ, Bool, true, List, Option}
use Rattle.aip_event.specs.declared.input.Input.{Input}
use Rattle.aip_event.specs.declared.input.Input.TheVariants.{Restart, Stop, Halt}
use Rattle.aip_event.specs.declared.input.Target.{Target}
use Rattle.aip_event.specs.declared.input.Target.TheVariants as target
use Rattle.aip_topo.specs.declared.topology.Settings.{Settings}
use Rattle.aip_topo.specs.declared.topology.Topology.{Topology}
use Rattle.lms_core.specs.Tree.{Key}
use Rattle.aip_rules.specs.declared.Entry.{Entry}
use Rattle.aip_rules.specs.declared.Reaction.{Reaction}
use Rattle.aip_rules.specs.declared.Seat.{Seat}
use Rattle.aip_rules.specs.Nodes.{name_at, key_named, is_guarded}
use Rattle.aip_rules.specs.Reaction.{events_on}
use Rattle.aip_rules.specs.Standing.{Standing, standing, lets_act}
use Rattle.aip_rules.specs.State.{now_of}
use Rattle.aip_rules.specs.Step.{after_step}
use Rattle.aip_host.specs.HostState.{HostState}
use Rattle.aip_host.specs.StandsFor.{HostStandsFor}

-- ---- the inputs by which something is asked of the host of a name

-- the input asks it to act
abbrev pub AsksItToAct : List Entry → List ℕ → Input → Type 0
AsksItToAct tr name input = lets_act tr input name ≡ true

-- the input arms this stop of its signings
abbrev pub ArmsStop : (call byte : ℕ) → List Entry → List ℕ → Input → Type 0
ArmsStop call byte tr name input = input ≡ Stop name call byte

-- the input arms this halt of its guard
abbrev pub ArmsHalt : (call byte : ℕ) → List Entry → List ℕ → Input → Type 0
ArmsHalt call byte tr name input = input ≡ Halt name call byte

-- the input starts it anew
abbrev pub StartsAnew : List Entry → List ℕ → Input → Type 0
StartsAnew tr name input = input ≡ Restart name

-- ---- a call

-- What a host does on a trace is what the rules say of it there; and after each input of this kind, with what it did, it stands
-- for the longer trace.
pub record IsRuled (topo : Topology) (tr : List Entry) (at : Seat) (asks : List Entry → List ℕ → Input → Type 0)
    (rule : Standing → Reaction) (reaction : Reaction) (new : HostState) : Type 0 where
  pub ruled : reaction ≡ rule (standing topo tr at)
  pub stands : (input : Input) → asks tr at.name input → HostStandsFor topo (after_step tr input (events_on tr reaction)) at new

-- the host does what the rules say and stands on: so it is for every trace of this time for which it stood
abbrev pub StandsOn : ℕ → HostState → (List Entry → List ℕ → Input → Type 0) → (Standing → Reaction) → Reaction → HostState → Type 0
StandsOn now old asks rule reaction new =
    (topo : Topology) (tr : List Entry) (at : Seat) → now_of tr ≡ now → HostStandsFor topo tr at old → IsRuled topo tr at asks rule reaction new

-- ---- at first

-- a host of this seat, port, settings, key and guard is one of the topology
pub record IsSeated (topo : Topology) (seat : Seat) (towards : Target) (settings : Settings) (key : Option Key) (guard : Bool) : Type 0 where
  pub port : towards ≡ target.Port (name_at topo.routers seat.router) seat.port
  pub rooms : settings ≡ topo.settings
  pub private : key ≡ key_named topo.parts seat.name
  pub guarded : guard ≡ is_guarded topo.parts seat.name
