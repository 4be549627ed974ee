-- What a checking router has accepted: the uses of sources and of wildcards at its ports since its last restart.
use Rattle.std.specs.Prelude.{ℕ, if◌then◌else◌, List, [], ◌∷◌, ◌++◌, Option, Some}
use Rattle.std.specs.Str.{bytes_eq}
use Rattle.aip_frame.specs.declared.frame.Frame.{Frame}
use Rattle.aip_event.specs.declared.event.Event.{Event}
use Rattle.aip_event.specs.declared.event.Event.TheVariants as event
use Rattle.aip_event.specs.declared.event.Cause.{Cause}
use Rattle.aip_event.specs.declared.event.Cause.TheVariants as cause
use Rattle.aip_topo.specs.declared.topology.Settings.{Settings}
use Rattle.accept_cache.specs.declared.keys.Limits.{Limits}
use Rattle.accept_cache.specs.Keys.{pair_of, wildcard_of}
use Rattle.accept_cache.specs.Recency.{Proved, Hit}
use Rattle.accept_cache.specs.Accepted.{PairUses, WildcardUses}
use Rattle.aip_rules.specs.declared.Entry.{Entry}
use Rattle.aip_rules.specs.declared.Entry.TheVariants.{Taken, Happened}
use Rattle.aip_rules.specs.State.{now_of, is_restart_of, delivered_frame}

-- the limits of a router's caches
abbrev pub limits_of : Settings → Limits
limits_of settings = record {
  cache = settings.cache;
  wildcache = settings.wildcache;
  threshold = settings.threshold;
  accept = settings.accept;
  wild = settings.wild;
}

-- the source of a frame that is forwarded because it is proved is hit at the port by which it came
abbrev pub hit_of_pair : Cause → Option Frame → ℕ → PairUses
hit_of_pair cause.Proved (Some frame) port = Hit (pair_of frame.from port) ∷ []
hit_of_pair _ frame port = []

-- how an event on a trace uses a source at a port of the router of this name
abbrev pub pair_use : List Entry → Event → List ℕ → PairUses
pair_use tr (event.Proved router source port) name = if bytes_eq router name then Proved (pair_of source port) (now_of tr) ∷ [] else []
pair_use tr (event.Forward router port out cause) name = if bytes_eq router name then hit_of_pair cause (delivered_frame tr) port else []
pair_use tr _ name = []

-- the uses of sources at the ports of the router of this name since its last restart, newest first
abbrev pub pair_uses : List Entry → List ℕ → PairUses
pair_uses [] name = []
pair_uses (Taken input ∷ tr) name = if is_restart_of input name then [] else pair_uses tr name
pair_uses (Happened event ∷ tr) name = pair_use tr event name ++ pair_uses tr name

-- the domain of a frame that is forwarded because its domain is a wildcard is hit at the port by which it came
abbrev pub hit_of_wildcard : Cause → Option Frame → ℕ → WildcardUses
hit_of_wildcard cause.Wild (Some frame) port = Hit (wildcard_of frame.from.ad port) ∷ []
hit_of_wildcard _ frame port = []

-- how an event on a trace uses a wildcard at a port of the router of this name
abbrev pub wildcard_use : List Entry → Event → List ℕ → WildcardUses
wildcard_use tr (event.Wild router ad port) name = if bytes_eq router name then Proved (wildcard_of ad port) (now_of tr) ∷ [] else []
wildcard_use tr (event.Forward router port out cause) name = if bytes_eq router name then hit_of_wildcard cause (delivered_frame tr) port else []
wildcard_use tr _ name = []

-- the uses of wildcards at the ports of the router of this name since its last restart, newest first
abbrev pub wildcard_uses : List Entry → List ℕ → WildcardUses
wildcard_uses [] name = []
wildcard_uses (Taken input ∷ tr) name = if is_restart_of input name then [] else wildcard_uses tr name
wildcard_uses (Happened event ∷ tr) name = wildcard_use tr event name ++ wildcard_uses tr name
