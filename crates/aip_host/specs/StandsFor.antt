-- The trace that a host stands for.
use Rattle.std.specs.Prelude.{◌≡◌, ⊤, ℕ, false, if◌then◌else◌, List, [], take, Option, Some, None, is_some}
use Rattle.aip_event.specs.declared.input.Target.TheVariants as target
use Rattle.aip_topo.specs.declared.topology.Topology.{Topology}
use Rattle.shutoff_filter.specs.Entries.{SameInForce}
use Rattle.aip_rules.specs.declared.Entry.{Entry}
use Rattle.aip_rules.specs.declared.Seat.{Seat}
use Rattle.aip_rules.specs.State.{now_of, is_down, armed_stop, armed_halt}
use Rattle.aip_rules.specs.Nodes.{name_at, key_named, is_guarded}
use Rattle.aip_rules.specs.Standing.{frames_put, next_leaf, told_to}
use Rattle.aip_host.specs.Signing.{KeyState, Spends}
use Rattle.aip_host.specs.Guarding.{GuardState, Keeps}
use Rattle.aip_host.specs.HostState.{HostState, key_in, next_in, stop_in, halt_in, shut_in, down_of}

-- of a key's disk: just the leaves below the next are spent, in every image that a crash may leave while it is up, and in the
-- bytes that its restart gives while it is down
abbrev pub DiskSpends : Option KeyState → Type 0
DiskSpends None = ⊤
DiskSpends (Some kept) = Spends kept

-- of a guard's disk: it has this room, and what the guard was told is kept on it, in every image that a crash may leave while it
-- is up, and in the bytes that its restart gives while it is down
abbrev pub DiskKeeps : ℕ → Option GuardState → Type 0
DiskKeeps room None = ⊤
DiskKeeps room (Some kept) = (kept.room ≡ room) × Keeps kept

-- of the disks of a host: its leaves are spent on the one, and what its guard was told is kept on the other
pub record DisksServe (kept : HostState) : Type 0 where
  pub spends : DiskSpends kept.key
  pub keeps : DiskKeeps kept.room kept.guard

-- What a host keeps stands for a trace: its log is the last frames that it put since its restart, its next leaf and whether it
-- is down are those of the trace, and so are the stop and the halt while it is up. A guard is there exactly where the topology
-- has one, and withholds by what the trace told the host, now and at each later time; a plain host is told nothing. Its leaves
-- are spent and what it was told is kept on its disks.
pub record HostStandsFor (topo : Topology) (tr : List Entry) (at : Seat) (kept : HostState) : Type 0 where
  pub seat : kept.seat ≡ at
  pub towards : kept.towards ≡ target.Port (name_at topo.routers at.router) at.port
  pub room : kept.room ≡ topo.settings.filter
  pub key : key_in kept.key ≡ key_named topo.parts at.name
  pub guarded : is_some kept.guard ≡ is_guarded topo.parts at.name
  pub down : down_of kept ≡ is_down tr at.name
  pub log_room : kept.log.room ≡ topo.settings.log
  pub log : kept.log.frames ≡ take topo.settings.log (frames_put tr at.name)
  pub next : next_in kept.key ≡ next_leaf tr at.name
  pub stop : down_of kept ≡ false → stop_in kept.key ≡ armed_stop tr at.name
  pub halt : down_of kept ≡ false → halt_in kept.guard ≡ (if is_guarded topo.parts at.name then armed_halt tr at.name else None)
  pub told : SameInForce (now_of tr) (told_to tr at.name) (shut_in kept.guard)
  pub untold : is_guarded topo.parts at.name ≡ false → told_to tr at.name ≡ []
  pub disks : DisksServe kept
