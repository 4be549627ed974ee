-- The verdicts at a link's port.
use Rattle.std.specs.Prelude.{ℕ, Bool, true, false, ◌==◌, if◌then◌else◌, Option, Some, None}
use Rattle.border_check.specs.declared.PortVerdict.{PortVerdict}
use Rattle.border_check.specs.declared.PortVerdict.TheVariants.{Trusted, Reverse, Proved, Wild, Ask}

-- the first that applies: the neighbour is trusted; the port leads back to the source; the source is fresh there; its domain is; it is asked
abbrev pub port_verdict : (trusted reverse fresh wild : Bool) → PortVerdict
port_verdict trusted reverse fresh wild =
    (if trusted then Trusted else (if reverse then Reverse else (if fresh then Proved else (if wild then Wild else Ask))))

-- the port towards the source, if there is one, is this port
abbrev pub leads_back : Option ℕ → ℕ → Bool
leads_back None port = false
leads_back (Some back) port = back == port

-- the frame passes because its source is proved
abbrev pub is_proved : PortVerdict → Bool
is_proved Trusted = false
is_proved Reverse = false
is_proved Proved = true
is_proved Wild = false
is_proved Ask = false

-- the frame passes because its source's domain is a wildcard
abbrev pub is_wild : PortVerdict → Bool
is_wild Trusted = false
is_wild Reverse = false
is_wild Proved = false
is_wild Wild = true
is_wild Ask = false
