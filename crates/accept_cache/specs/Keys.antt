-- Pairs and wildcards, and when two are the same.
use Rattle.std.specs.Prelude.{ℕ, Bool, ◌&&◌, ◌==◌}
use Rattle.aip_addr.specs.declared.ids.Id.{Id}
use Rattle.aip_addr.specs.Ids.{is_same_id, is_same_address}
use Rattle.aip_addr.specs.declared.ids.Address.{Address}
use Rattle.accept_cache.specs.declared.keys.Pair.{Pair}
use Rattle.accept_cache.specs.declared.keys.Wildcard.{Wildcard}

-- two pairs have the same source and the same port
abbrev pub same_pair : Pair → Pair → Bool
same_pair a b = is_same_address a.source b.source && (a.port == b.port)

-- two wildcards have the same domain and the same port
abbrev pub same_wildcard : Wildcard → Wildcard → Bool
same_wildcard a b = is_same_id a.ad b.ad && (a.port == b.port)

-- the source at the port
abbrev pub pair_of : Address → ℕ → Pair
pair_of source port = record { source = source; port = port }

-- the domain at the port
abbrev pub wildcard_of : Id → ℕ → Wildcard
wildcard_of ad port = record { ad = ad; port = port }

-- the pair's source is of the wildcard's domain, at its port
abbrev pub is_of : Wildcard → Pair → Bool
is_of wildcard pair = is_same_id pair.source.ad wildcard.ad && (pair.port == wildcard.port)
