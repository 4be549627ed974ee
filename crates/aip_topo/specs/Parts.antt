-- Hosts and links, and how many of each there may be.
use Rattle.std.specs.Prelude.{Bool, true, false, List, nat_lt, count_by}
use Rattle.aip_topo.specs.declared.topology.Part.{Part}
use Rattle.aip_topo.specs.declared.topology.Part.TheVariants as part

-- a host, and not a link
abbrev pub is_host : Part → Bool
is_host (part.Host _) = true
is_host (part.Link _) = false

-- a link, and not a host
abbrev pub is_link : Part → Bool
is_link (part.Host _) = false
is_link (part.Link _) = true

-- there is room for one more of its kind
abbrev pub has_room : List Part → Part → Bool
has_room parts (part.Host _) = nat_lt (count_by is_host parts) 1024
has_room parts (part.Link _) = nat_lt (count_by is_link parts) 4096
