-- The text of a made topology.
use Rattle.std.specs.Prelude.{ℕ, ◌+◌, ◌/◌, ◌%◌, ◌==◌, Bool, if◌then◌else◌, List, [], ◌∷◌, ◌++◌, codes, decimal}
use Rattle.aip_gen.specs.Draws.{Drawn, given, numbered, secret, ◌>>=◌}
use Rattle.aip_gen.specs.declared.topology.Part.{Part}
use Rattle.aip_gen.specs.declared.topology.Part.TheVariants as part

-- the name of a domain, by its number
abbrev pub domain_name : ℕ → List ℕ
domain_name number = codes "d" ++ decimal number

-- the name of a router, by its number
abbrev pub router_name : ℕ → List ℕ
router_name number = codes "r" ++ decimal number

-- the name of a host, by its number
abbrev pub host_name : ℕ → List ℕ
host_name number = codes "h" ++ decimal number

-- the lines of the settings: room for 32 sources, and a wildcard after two sources of a domain
abbrev pub settings : List ℕ
settings = codes "set cache 32" ++ 10 ∷ codes "set threshold 2" ++ 10 ∷ []

-- a domain by a key, of a drawn seed
abbrev pub domain_line : ℕ → Drawn (List ℕ)
domain_line number = do
  seed ← secret
  given (codes "domain " ++ domain_name number ++ 32 ∷ codes "seed W4 H5 " ++ seed ++ 10 ∷ [])

-- a checking router with a drawn master secret; two routers a domain
abbrev pub router_line : ℕ → Drawn (List ℕ)
router_line number = do
  master ← secret
  given (codes "router " ++ router_name number ++ 32 ∷ domain_name (number / 2) ++ 32 ∷ codes "checking " ++ master ++ 10 ∷ [])

-- how both ends of a link take what comes over it: trusted within a domain, checked between two
abbrev pub ends_words : Bool → List ℕ
ends_words within = if within then codes "trusted trusted" else codes "checked checked"

-- a link of each router and the next, in a ring of eight
abbrev pub link_line : ℕ → List ℕ
link_line number = codes "link " ++ router_name number ++ 32 ∷ router_name ((number + 1) % 8) ++ 32 ∷ ends_words (number % 2 == 0) ++ 10 ∷ []

-- a guarded host by a key, of a drawn seed; the eight routers take turns
abbrev pub host_line : ℕ → Drawn (List ℕ)
host_line number = do
  seed ← secret
  given (codes "host " ++ host_name number ++ 32 ∷ router_name (number % 8) ++ 32 ∷ codes "guarded seed W2 H10 0 " ++ seed ++ 10 ∷ [])

-- the line of a part of the network, by its number; a link takes no word
abbrev pub part_line : Part → ℕ → Drawn (List ℕ)
part_line part.Domain number = domain_line number
part_line part.Router number = router_line number
part_line part.Link number = given (link_line number)
part_line part.Host number = host_line number

-- the text of the topology: two settings, four domains, eight routers, eight links and 24 hosts
abbrev pub topology_text : Drawn (List ℕ)
topology_text = do
  domains ← numbered (part_line part.Domain) 4
  routers ← numbered (part_line part.Router) 8
  links ← numbered (part_line part.Link) 8
  hosts ← numbered (part_line part.Host) 24
  given (settings ++ domains ++ routers ++ links ++ hosts)
