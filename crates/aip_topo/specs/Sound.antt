-- What holds of every topology that is read.
use Rattle.std.specs.Prelude.{◌≡◌, ℕ, ◌<◌, ◌≤◌, ◌==◌, Bool, false, List, [], ◌∷◌, ◌++◌, length, map, take, count_by, slice_index, Some}
use Rattle.std.specs.List.{list_any, AllByRecursion}
use Rattle.std.specs.Str.{bytes_eq}
use Rattle.aip_addr.specs.Ids.{id_of_key, id_of_router}
use Rattle.aip_addr.specs.Naming.{IsName}
use Rattle.aip_addr.specs.declared.ids.Id.{Id}
use Rattle.lms_core.specs.Tree.{identifier_of, public_key_of}
use Rattle.aip_topo.specs.Canonical.{values_of}
use Rattle.aip_text.specs.Fields.{IsId, IsSized}
use Rattle.aip_topo.specs.Steps.{ad_at, has_interface, has_version_0, is_host, is_link, is_out_of_range}
use Rattle.aip_topo.specs.declared.lines.Setting.{Setting}
use Rattle.aip_topo.specs.declared.lines.Line.TheVariants as line
use Rattle.aip_topo.specs.declared.topology.Domain.{Domain}
use Rattle.aip_topo.specs.declared.topology.Key.{Key}
use Rattle.aip_topo.specs.declared.topology.Key.TheVariants as key
use Rattle.aip_topo.specs.declared.topology.Router.{Router}
use Rattle.aip_topo.specs.declared.topology.Part.{Part}
use Rattle.aip_topo.specs.declared.topology.Part.TheVariants as part
use Rattle.aip_topo.specs.declared.topology.Topology.{Topology}

-- the text is one of these
abbrev pub has_text : List ℕ → List (List ℕ) → Bool
has_text text texts = list_any (λ other. bytes_eq other text) texts

-- no two of these texts are the same
abbrev pub AreDistinct : List (List ℕ) → Type 0
AreDistinct [] = Unit {0}
AreDistinct (text ∷ texts) = (has_text text texts ≡ false) × AreDistinct texts

-- the names of the hosts, in their order
abbrev pub host_names : List Part → List (List ℕ)
host_names [] = []
host_names (part.Host host ∷ parts) = host.name ∷ host_names parts
host_names (part.Link _ ∷ parts) = host_names parts

-- the key identifiers of the hosts: their ids without the interface byte
abbrev pub host_key_ids : List Part → List (List ℕ)
host_key_ids [] = []
host_key_ids (part.Host host ∷ parts) = take 19 host.eid.bytes ∷ host_key_ids parts
host_key_ids (part.Link _ ∷ parts) = host_key_ids parts

-- the identifier of a key, where it was made
abbrev pub identifiers_in : Key → List (List ℕ)
identifiers_in key.Given = []
identifiers_in (key.Made k) = identifier_of k.seed ∷ []

-- the identifiers of the domains' keys, in their order
abbrev pub domain_identifiers : List Domain → List (List ℕ)
domain_identifiers [] = []
domain_identifiers (domain ∷ domains) = identifiers_in domain.key ++ domain_identifiers domains

-- the identifiers of the hosts' keys, in their order
abbrev pub host_identifiers : List Part → List (List ℕ)
host_identifiers [] = []
host_identifiers (part.Host host ∷ parts) = identifiers_in host.key ++ host_identifiers parts
host_identifiers (part.Link _ ∷ parts) = host_identifiers parts

-- the identifiers of all keys
abbrev pub identifiers_of : Topology → List (List ℕ)
identifiers_of t = domain_identifiers t.domains ++ host_identifiers t.parts

-- the names of all domains, routers and hosts
abbrev pub names_of : Topology → List (List ℕ)
names_of t = map (λ domain. domain.name) t.domains ++ (map (λ router. router.name) t.routers ++ host_names t.parts)

-- the value of a setting is in its range
abbrev pub IsInRange : Setting × ℕ → Type 0
IsInRange pair = is_out_of_range (line.Set pair.0 pair.1) ≡ false

-- a key that was made has a seed of 32 bytes, and the id is that of its public key, with the interface that the id
-- itself has; an id that was given may be any
abbrev pub IsIdOf : Key → Id → Type 0
IsIdOf key.Given id = Unit {0}
IsIdOf (key.Made k) id = IsSized 32 k.seed × (id ≡ id_of_key (public_key_of k) (slice_index id.bytes 19))

-- a domain with a name and an id that is in range, which is its key's
abbrev pub IsDomain : Domain → Type 0
IsDomain domain =
    IsName domain.name × IsId domain.ad × (has_version_0 domain.ad ≡ false)
    × (has_interface domain.ad ≡ false) × IsIdOf domain.key domain.ad

-- a router of one of the domains, with that domain's id and the id of its own name
abbrev pub IsRouterOf : List Domain → Router → Type 0
IsRouterOf domains router =
    IsName router.name × IsSized 32 router.master × (ad_at router.domain domains ≡ Some router.address.ad) × (router.address.eid ≡ id_of_router router.name)

-- a host at one of so many routers, with an id that is in range, which is its key's; or a link from one of the
-- routers to another
abbrev pub IsPartOf : ℕ → Part → Type 0
IsPartOf routers (part.Host host) =
    IsName host.name × IsId host.eid × (host.router < routers) × (has_version_0 host.eid ≡ false)
    × IsIdOf host.key host.eid
IsPartOf routers (part.Link link) =
    (link.a < routers) × (link.b < routers) × ((link.a == link.b) ≡ false)

-- a topology that has no more of a kind than there may be, whose settings, ids and places are in range, whose made
-- keys own their ids, and in which no two have one name, no two domains or routers one id, no two hosts one key
-- identifier, and no two keys one identifier
pub record IsSound (t : Topology) : Type 0 where
  pub few_domains : length t.domains ≤ 64
  pub few_routers : length t.routers ≤ 256
  pub few_hosts : count_by is_host t.parts ≤ 1024
  pub few_links : count_by is_link t.parts ≤ 4096
  pub settings : AllByRecursion IsInRange (values_of t.settings)
  pub domains : AllByRecursion IsDomain t.domains
  pub routers : AllByRecursion (IsRouterOf t.domains) t.routers
  pub parts : AllByRecursion (IsPartOf (length t.routers)) t.parts
  pub names_differ : AreDistinct (names_of t)
  pub ads_differ : AreDistinct (map (λ domain. domain.ad.bytes) t.domains)
  pub eids_differ : AreDistinct (map (λ router. router.address.eid.bytes) t.routers)
  pub key_ids_differ : AreDistinct (host_key_ids t.parts)
  pub identifiers_differ : AreDistinct (identifiers_of t)
