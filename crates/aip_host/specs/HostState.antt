-- What callers see of a host, and what stands for it by that.
use Rattle.std.specs.Prelude.{ℕ, Bool, false, ◌||◌, List, [], Option, Some, None, is_some}
use Rattle.lms_core.specs.Tree.{Key}
use Rattle.sent_log.specs.Log.{Log}
use Rattle.shutoff_filter.specs.declared.entries.ShutOffEntry.{ShutOffEntry as ShutOff}
use Rattle.shutoff_filter.specs.Entries.{in_force}
use Rattle.aip_event.specs.declared.input.Target.{Target}
use Rattle.aip_rules.specs.declared.Arming.{Arming}
use Rattle.aip_rules.specs.declared.Seat.{Seat}
use Rattle.aip_rules.specs.Standing.{Standing}
use Rattle.aip_host.specs.Signing.{KeyState}
use Rattle.aip_host.specs.Guarding.{GuardState}

-- a host: where it stands, its port of its router, for how many key identifiers its guard has room or would have, the log of
-- what it put, its key with the disk on which that is spent, and its guard with the disk on which that keeps what it was told
pub record HostState : Type 0 where
  pub seat : Seat
  pub towards : Target
  pub room : ℕ
  pub log : Log
  pub key : Option KeyState
  pub guard : Option GuardState

-- the private key of a host, if it has one
abbrev pub key_in : Option KeyState → Option Key
key_in None = None
key_in (Some kept) = Some kept.key

-- the leaf that signs next; 0 without a key
abbrev pub next_in : Option KeyState → ℕ
next_in None = 0
next_in (Some kept) = kept.next

-- the stop of a signing that is armed
abbrev pub stop_in : Option KeyState → Option Arming
stop_in None = None
stop_in (Some kept) = kept.stop

-- whether a stop brought the key down
abbrev pub down_in : Option KeyState → Bool
down_in None = false
down_in (Some kept) = kept.is_down

-- the halt of a guard's disk that is armed
abbrev pub halt_in : Option GuardState → Option Arming
halt_in None = None
halt_in (Some kept) = kept.halt

-- whether a halt brought the guard down
abbrev pub fell_in : Option GuardState → Bool
fell_in None = false
fell_in (Some kept) = kept.is_down

-- the shut-offs that a guard keeps
abbrev pub shut_in : Option GuardState → List ShutOff
shut_in None = []
shut_in (Some kept) = kept.entries

-- whether a stop or a halt brought the host down
abbrev pub down_of : HostState → Bool
down_of kept = down_in kept.key || fell_in kept.guard

-- what stands for a host by what it keeps, at a time
abbrev pub standing_of : HostState → ℕ → Standing
standing_of kept now = record {
  seat = kept.seat;
  towards = kept.towards;
  key = key_in kept.key;
  guarded = is_some kept.guard;
  room = kept.room;
  now = now;
  down = down_of kept;
  log = kept.log.frames;
  next = next_in kept.key;
  stop = stop_in kept.key;
  halt = halt_in kept.guard;
  shut = in_force now (shut_in kept.guard);
}
