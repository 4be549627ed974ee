-- The topology that lines give: each line stands for itself, and names are looked up among all lines.
use Rattle.std.specs.Prelude.{◌≡◌, ℕ, ◌==◌, not, List, [], ◌∷◌, map, flat_map, if◌then◌else◌}
use Rattle.std.specs.List.{AllByRecursion, filter}
use Rattle.aip_text.specs.Lines.{is_skipped, lines_of}
use Rattle.aip_topo.specs.Lines.{IsLine, line_text}
use Rattle.aip_topo.specs.Steps.{default_of, domain_from, host_from, link_from, place_of, router_from, settings_with}
use Rattle.aip_topo.specs.declared.lines.Line.{Line}
use Rattle.aip_topo.specs.declared.lines.Line.TheVariants as line
use Rattle.aip_topo.specs.declared.lines.Setting.{Setting}
use Rattle.aip_topo.specs.declared.topology.Settings.{Settings}
use Rattle.aip_topo.specs.declared.topology.Domain.{Domain}
use Rattle.aip_topo.specs.declared.topology.Router.{Router}
use Rattle.aip_topo.specs.declared.topology.Part.{Part}
use Rattle.aip_topo.specs.declared.topology.Topology.{Topology}

-- the value of a setting behind a line, from that before it: the line's where it sets it
abbrev pub value_by : Line → Setting → ℕ → ℕ
value_by (line.Set s value) setting before = if place_of s == place_of setting then value else before
value_by (line.Domain _ _) setting before = before
value_by (line.Router _ _ _ _) setting before = before
value_by (line.Host _ _ _ _) setting before = before
value_by (line.Link _ _ _ _) setting before = before

-- the value of a setting behind lines: that of a line that sets it, else that before them
abbrev pub value_behind : Setting → ℕ → List Line → ℕ
value_behind setting before [] = before
value_behind setting before (l ∷ ls) = value_behind setting (value_by l setting before) ls

-- the settings that lines give: each by a line that sets it, else its default
abbrev pub settings_said : List Line → Settings
settings_said ls = settings_with (λ setting. value_behind setting (default_of setting) ls)

-- the domain of a line
abbrev pub domain_by : Line → List Domain
domain_by (line.Set _ _) = []
domain_by (line.Domain name from) = domain_from name from ∷ []
domain_by (line.Router _ _ _ _) = []
domain_by (line.Host _ _ _ _) = []
domain_by (line.Link _ _ _ _) = []

-- the router of a line
abbrev pub router_by : List Domain → Line → List Router
router_by domains (line.Set _ _) = []
router_by domains (line.Domain _ _) = []
router_by domains (line.Router name domain checking master) = router_from domains name domain checking master ∷ []
router_by domains (line.Host _ _ _ _) = []
router_by domains (line.Link _ _ _ _) = []

-- the host or the link of a line
abbrev pub part_by : List Router → Line → List Part
part_by routers (line.Set _ _) = []
part_by routers (line.Domain _ _) = []
part_by routers (line.Router _ _ _ _) = []
part_by routers (line.Host name router guarded from) = host_from routers name router guarded from ∷ []
part_by routers (line.Link a b a_trusts b_trusts) = link_from routers a b a_trusts b_trusts ∷ []

-- the domains that lines give, in their order
abbrev pub domains_said : List Line → List Domain
domains_said ls = flat_map domain_by ls

-- the routers that lines give, in their order, with the places of their domains
abbrev pub routers_said : List Line → List Router
routers_said ls = flat_map (router_by (domains_said ls)) ls

-- the hosts and links that lines give, in their order, with the places of their routers
abbrev pub parts_said : List Line → List Part
parts_said ls = flat_map (part_by (routers_said ls)) ls

-- the topology that lines give
abbrev pub topology_said : List Line → Topology
topology_said ls =
    record { settings = settings_said ls; domains = domains_said ls; routers = routers_said ls; parts = parts_said ls }

-- the lines of a text that readers don't skip
abbrev pub saying : List (List ℕ) → List (List ℕ)
saying texts = filter (λ text. not (is_skipped text)) texts

-- a text's lines but those that are skipped are the spellings of well-formed lines, which give this topology
pub record IsSaid (text : List ℕ) (t : Topology) : Type 0 where
  pub lines : List Line
  pub formed : AllByRecursion IsLine lines
  pub spelled : map line_text lines ≡ saying (lines_of text)
  pub same : topology_said lines ≡ t
