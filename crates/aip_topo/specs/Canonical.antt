-- The canonical text of a topology: the settings, the domains, the routers, then the hosts and links.
use Rattle.std.specs.Prelude.{ℕ, List, [], ◌∷◌, ◌++◌, unwrap_or, option_map, slice_get, slice_index, flat_map}
use Rattle.aip_addr.specs.declared.ids.Id.{Id}
use Rattle.aip_topo.specs.Lines.{line_text}
use Rattle.aip_topo.specs.declared.lines.Line.{Line}
use Rattle.aip_topo.specs.declared.lines.Line.TheVariants as line
use Rattle.aip_topo.specs.declared.lines.Origin.{Origin}
use Rattle.aip_topo.specs.declared.lines.Origin.TheVariants as origin
use Rattle.aip_topo.specs.declared.lines.Setting.{Setting}
use Rattle.aip_topo.specs.declared.lines.Setting.TheVariants as setting
use Rattle.aip_topo.specs.declared.topology.Settings.{Settings}
use Rattle.aip_topo.specs.declared.topology.Domain.{Domain}
use Rattle.aip_topo.specs.declared.topology.Router.{Router}
use Rattle.aip_topo.specs.declared.topology.Part.{Part}
use Rattle.aip_topo.specs.declared.topology.Part.TheVariants as part
use Rattle.aip_topo.specs.declared.topology.Key.{Key}
use Rattle.aip_topo.specs.declared.topology.Key.TheVariants as key
use Rattle.aip_topo.specs.declared.topology.Topology.{Topology}

-- the eight settings with their values, in their order
abbrev pub values_of : Settings → List (Setting × ℕ)
values_of s =
    (setting.Accept, s.accept) ∷ (setting.Cache, s.cache) ∷ (setting.Epoch, s.epoch) ∷ (setting.Filter, s.filter)
    ∷ (setting.Log, s.log) ∷ (setting.Threshold, s.threshold) ∷ (setting.Wild, s.wild) ∷ (setting.Wildcache, s.wildcache) ∷ []

-- how a line gives the id of a domain: by the id, or by the seed of its key
abbrev pub ad_origin : Key → Id → Origin
ad_origin key.Given ad = origin.Given ad
ad_origin (key.Made k) ad = origin.Seed k.width k.height 0 k.seed

-- how a line gives the id of a host: by the id, or by the seed of its key with the interface of the id
abbrev pub eid_origin : Key → Id → Origin
eid_origin key.Given eid = origin.Given eid
eid_origin (key.Made k) eid = origin.Seed k.width k.height (slice_index eid.bytes 19) k.seed

-- the name of the domain at a place
abbrev pub domain_name : List Domain → ℕ → List ℕ
domain_name domains place = unwrap_or (option_map (λ domain. domain.name) (slice_get domains place)) []

-- the name of the router at a place
abbrev pub router_name : List Router → ℕ → List ℕ
router_name routers place = unwrap_or (option_map (λ router. router.name) (slice_get routers place)) []

-- the line of a setting with its value
abbrev pub value_line : Setting × ℕ → Line
value_line pair = line.Set pair.0 pair.1

-- the line of a domain
abbrev pub domain_line : Domain → Line
domain_line domain = line.Domain domain.name (ad_origin domain.key domain.ad)

-- the line of a router
abbrev pub router_line : List Domain → Router → Line
router_line domains router = line.Router router.name (domain_name domains router.domain) router.checking router.master

-- the line of a host or a link
abbrev pub part_line : List Router → Part → Line
part_line routers (part.Host host) = line.Host host.name (router_name routers host.router) host.guarded (eid_origin host.key host.eid)
part_line routers (part.Link link) = line.Link (router_name routers link.a) (router_name routers link.b) link.a_trusts link.b_trusts

-- the lines of these, each ended by a line feed
abbrev pub lines_text : {A : Type 0} → (A → Line) → List A → List ℕ
lines_text says xs = flat_map (λ x. line_text (says x) ++ 10 ∷ []) xs

-- the lines of the eight settings
unfoldable pub settings_text : Settings → List ℕ
settings_text s = lines_text value_line (values_of s)

-- the canonical text: the eight settings, the domains, the routers, then the hosts and links
abbrev pub canonical_text : Topology → List ℕ
canonical_text t =
    settings_text t.settings
    ++ (lines_text domain_line t.domains ++ (lines_text (router_line t.domains) t.routers ++ lines_text (part_line t.routers) t.parts))
