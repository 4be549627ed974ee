-- The verdicts at a host's port.
use Rattle.std.specs.Prelude.{Bool, true, false, if◌then◌else◌}
use Rattle.first_hop.specs.declared.HostVerdict.{HostVerdict}
use Rattle.first_hop.specs.declared.HostVerdict.TheVariants.{Foreign, Proved, Ask}

-- the first that applies: the source is of another domain; it is fresh at the port; it is asked
abbrev pub host_verdict : (foreign fresh : Bool) → HostVerdict
host_verdict foreign fresh = (if foreign then Foreign else (if fresh then Proved else Ask))

-- the frame passes because its source is proved
abbrev pub is_proved : HostVerdict → Bool
is_proved Foreign = false
is_proved Proved = true
is_proved Ask = false
