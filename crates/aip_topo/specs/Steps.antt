-- What a line does to what stands: the faults that keep it out, in their order, and what it adds.
use Rattle.std.specs.Prelude.{ℕ, ◌==◌, ◌||◌, Bool, true, false, not, nat_lt, nat_le, List, [], ◌∷◌, ◌++◌, length, take, count_by, position, slice_get, slice_set, slice_index, unwrap_or, option_map, replicate, if◌then◌else◌, Option, Result, Ok, Err}
use Rattle.std.specs.List.{list_any}
use Rattle.std.specs.Option.{is_none, is_some}
use Rattle.std.specs.Str.{bytes_eq}
use Rattle.aip_addr.specs.Ids.{id_of_key, id_of_router, is_same_id}
use Rattle.aip_addr.specs.declared.ids.Id.{Id}
use Rattle.lms_core.specs.Tree.{identifier_of, key_from, public_key_of}
pub use Rattle.aip_topo.specs.Parts.{is_host, is_link}
use Rattle.aip_topo.specs.Parts.{has_room}
use Rattle.aip_topo.specs.declared.faults.TopoFault.{TopoFault}
use Rattle.aip_topo.specs.declared.faults.TopoFault.TheVariants as fault
use Rattle.aip_topo.specs.declared.lines.Line.{Line}
use Rattle.aip_topo.specs.declared.lines.Line.TheVariants as line
use Rattle.aip_topo.specs.declared.lines.Origin.{Origin}
use Rattle.aip_topo.specs.declared.lines.Origin.TheVariants as origin
use Rattle.aip_topo.specs.declared.lines.Setting.{Setting}
use Rattle.aip_topo.specs.declared.lines.Setting.TheVariants as setting
use Rattle.aip_topo.specs.declared.additions.Addition.{Addition}
use Rattle.aip_topo.specs.declared.additions.Addition.TheVariants as addition
use Rattle.aip_topo.specs.declared.steps.Draft.{Draft}
use Rattle.aip_topo.specs.declared.topology.Settings.{Settings}
use Rattle.aip_topo.specs.declared.topology.Domain.{Domain}
use Rattle.aip_topo.specs.declared.topology.Router.{Router}
use Rattle.aip_topo.specs.declared.topology.Part.{Part}
use Rattle.aip_topo.specs.declared.topology.Part.TheVariants as part
use Rattle.aip_topo.specs.declared.topology.Key.{Key}
use Rattle.aip_topo.specs.declared.topology.Key.TheVariants as key
use Rattle.aip_topo.specs.declared.topology.Topology.{Topology}

-- the settings' places in their table
abbrev pub place_of : Setting → ℕ
place_of setting.Accept = 0
place_of setting.Cache = 1
place_of setting.Epoch = 2
place_of setting.Filter = 3
place_of setting.Log = 4
place_of setting.Threshold = 5
place_of setting.Wild = 6
place_of setting.Wildcache = 7

-- the greatest value of each setting; the least is 1
abbrev pub most_of : Setting → ℕ
most_of setting.Accept = 4294967295
most_of setting.Cache = 4096
most_of setting.Epoch = 4294967295
most_of setting.Filter = 256
most_of setting.Log = 4096
most_of setting.Threshold = 4096
most_of setting.Wild = 4294967295
most_of setting.Wildcache = 4096

-- the value of each setting where no line sets it
abbrev pub default_of : Setting → ℕ
default_of setting.Accept = 600
default_of setting.Cache = 64
default_of setting.Epoch = 60
default_of setting.Filter = 16
default_of setting.Log = 128
default_of setting.Threshold = 8
default_of setting.Wild = 600
default_of setting.Wildcache = 8

-- the settings with these values
abbrev pub settings_with : (Setting → ℕ) → Settings
settings_with value =
    record { accept = value setting.Accept; cache = value setting.Cache; epoch = value setting.Epoch; filter = value setting.Filter; log = value setting.Log; threshold = value setting.Threshold; wild = value setting.Wild; wildcache = value setting.Wildcache }

-- the settings with this one at this value
abbrev pub with_setting : Setting → ℕ → Settings → Settings
with_setting setting.Accept value s = record s { accept = value }
with_setting setting.Cache value s = record s { cache = value }
with_setting setting.Epoch value s = record s { epoch = value }
with_setting setting.Filter value s = record s { filter = value }
with_setting setting.Log value s = record s { log = value }
with_setting setting.Threshold value s = record s { threshold = value }
with_setting setting.Wild value s = record s { wild = value }
with_setting setting.Wildcache value s = record s { wildcache = value }

-- there are already 64 domains, 256 routers, 1024 hosts or 4096 links, of the line's kind
abbrev pub is_many : Topology → Line → Bool
is_many t (line.Set _ _) = false
is_many t (line.Domain _ _) = nat_le 64 (length t.domains)
is_many t (line.Router _ _ _ _) = nat_le 256 (length t.routers)
is_many t (line.Host _ _ _ _) = nat_le 1024 (count_by is_host t.parts)
is_many t (line.Link _ _ _ _) = nat_le 4096 (count_by is_link t.parts)

-- the domain has this name
abbrev pub names_domain : List ℕ → Domain → Bool
names_domain name domain = bytes_eq domain.name name

-- the router has this name
abbrev pub names_router : List ℕ → Router → Bool
names_router name router = bytes_eq router.name name

-- it is a host of this name
abbrev pub names_host : List ℕ → Part → Bool
names_host name (part.Host host) = bytes_eq host.name name
names_host name (part.Link _) = false

-- the place of the domain that has this name
abbrev pub domain_place : List ℕ → List Domain → Option ℕ
domain_place name domains = position (names_domain name) domains

-- the place of the router that has this name
abbrev pub router_place : List ℕ → List Router → Option ℕ
router_place name routers = position (names_router name) routers

-- the name is that of a domain, a router or a host
abbrev pub is_named : List ℕ → Topology → Bool
is_named name t =
    is_some (domain_place name t.domains) || (is_some (router_place name t.routers) || list_any (names_host name) t.parts)

-- the setting was set before
abbrev pub was_set : Setting → Draft → Bool
was_set s draft = unwrap_or (slice_get draft.given (place_of s)) false

-- the name is already that of a domain, a router or a host, or the setting was set before
abbrev pub is_twice : Draft → Line → Bool
is_twice draft (line.Set s _) = was_set s draft
is_twice draft (line.Domain name _) = is_named name draft.topology
is_twice draft (line.Router name _ _ _) = is_named name draft.topology
is_twice draft (line.Host name _ _ _) = is_named name draft.topology
is_twice draft (line.Link _ _ _ _) = false

-- the domain or a router that the line names isn't there
abbrev pub is_unknown : Topology → Line → Bool
is_unknown t (line.Set _ _) = false
is_unknown t (line.Domain _ _) = false
is_unknown t (line.Router _ domain _ _) = is_none (domain_place domain t.domains)
is_unknown t (line.Host _ router _ _) = is_none (router_place router t.routers)
is_unknown t (line.Link a b _ _) = is_none (router_place a t.routers) || is_none (router_place b t.routers)

-- the version byte of an id is 0
abbrev pub has_version_0 : Id → Bool
has_version_0 id = slice_index id.bytes 0 == 0

-- the interface byte of an id isn't 0
abbrev pub has_interface : Id → Bool
has_interface id = not (slice_index id.bytes 19 == 0)

-- no id of a host: one whose version is 0, or an interface that is no byte
abbrev pub is_no_eid : Origin → Bool
is_no_eid (origin.Given id) = has_version_0 id
is_no_eid (origin.Seed _ _ interface _) = nat_lt 255 interface

-- no id of a domain: one whose version is 0, or an interface that isn't 0
abbrev pub is_no_ad : Origin → Bool
is_no_ad (origin.Given id) = has_version_0 id || has_interface id
is_no_ad (origin.Seed _ _ interface _) = not (interface == 0)

-- a setting out of its range, an id or an interface that can't be, a link from a router to itself
abbrev pub is_out_of_range : Line → Bool
is_out_of_range (line.Set s value) = nat_lt value 1 || nat_lt (most_of s) value
is_out_of_range (line.Domain _ from) = is_no_ad from
is_out_of_range (line.Router _ _ _ _) = false
is_out_of_range (line.Host _ _ _ from) = is_no_eid from
is_out_of_range (line.Link a b _ _) = bytes_eq a b

-- the key that a line gives: that of its seed, where it has one
abbrev pub key_of : Origin → Key
key_of (origin.Given _) = key.Given
key_of (origin.Seed width height _ seed) = key.Made (key_from seed width height)

-- the id that a line gives: the id itself, or that of the public key, with the interface
abbrev pub id_from : Origin → Id
id_from (origin.Given id) = id
id_from (origin.Seed width height interface seed) = id_of_key (public_key_of (key_from seed width height)) interface

-- the id of the domain at a place
abbrev pub ad_at : ℕ → List Domain → Option Id
ad_at place domains = option_map (λ domain. domain.ad) (slice_get domains place)

-- the id of the domain at a place where there is one, and else an id of zeros
abbrev pub ad_or_zeros : ℕ → List Domain → Id
ad_or_zeros place domains = unwrap_or (ad_at place domains) (record { bytes = replicate 20 0 })

-- a router of the domain at a place
abbrev pub router_at : ℕ → List Domain → List ℕ → Bool → List ℕ → Router
router_at place domains name checking master =
    record { name = name; domain = place; checking = checking; master = master; address = record { ad = ad_or_zeros place domains; eid = id_of_router name } }

-- a domain of this name, with the id and the key that its line gives
abbrev pub domain_from : List ℕ → Origin → Domain
domain_from name from = record { name = name; ad = id_from from; key = key_of from }

-- a router of this name in the domain of that name
abbrev pub router_from : List Domain → List ℕ → List ℕ → Bool → List ℕ → Router
router_from domains name domain checking master = router_at (unwrap_or (domain_place domain domains) 0) domains name checking master

-- a host of this name at the router of that name, with the id and the key that its line gives
abbrev pub host_from : List Router → List ℕ → List ℕ → Bool → Origin → Part
host_from routers name router guarded from =
    part.Host (record { name = name; router = unwrap_or (router_place router routers) 0; guarded = guarded; eid = id_from from; key = key_of from })

-- a link of the routers of these names
abbrev pub link_from : List Router → List ℕ → List ℕ → Bool → Bool → Part
link_from routers a b a_trusts b_trusts =
    part.Link (record { a = unwrap_or (router_place a routers) 0; b = unwrap_or (router_place b routers) 0; a_trusts = a_trusts; b_trusts = b_trusts })

-- what a line adds
abbrev pub addition_of : Topology → Line → Addition
addition_of t (line.Set s value) = addition.Set s value
addition_of t (line.Domain name from) = addition.Domain (domain_from name from)
addition_of t (line.Router name domain checking master) = addition.Router (router_from t.domains name domain checking master)
addition_of t (line.Host name router guarded from) = addition.Part (host_from t.routers name router guarded from)
addition_of t (line.Link a b a_trusts b_trusts) = addition.Part (link_from t.routers a b a_trusts b_trusts)

-- the domain has this id
abbrev pub has_ad : Id → Domain → Bool
has_ad ad domain = is_same_id domain.ad ad

-- the router has this id
abbrev pub has_eid : Id → Router → Bool
has_eid eid router = is_same_id router.address.eid eid

-- it is a host whose key identifier is that of this id, whatever the interface
abbrev pub has_key_id : Id → Part → Bool
has_key_id eid (part.Host host) = bytes_eq (take 19 host.eid.bytes) (take 19 eid.bytes)
has_key_id eid (part.Link _) = false

-- the key was made, and has this identifier
abbrev pub is_identified : List ℕ → Key → Bool
is_identified id key.Given = false
is_identified id (key.Made k) = bytes_eq (identifier_of k.seed) id

-- the key of the domain has this identifier
abbrev pub is_domain_identified : List ℕ → Domain → Bool
is_domain_identified id domain = is_identified id domain.key

-- it is a host whose key has this identifier
abbrev pub is_host_identified : List ℕ → Part → Bool
is_host_identified id (part.Host host) = is_identified id host.key
is_host_identified id (part.Link _) = false

-- the key was made, and its identifier is that of the key of a domain or a host
abbrev pub is_key_taken : Topology → Key → Bool
is_key_taken t key.Given = false
is_key_taken t (key.Made k) =
    list_any (is_domain_identified (identifier_of k.seed)) t.domains
    || list_any (is_host_identified (identifier_of k.seed)) t.parts

-- a domain with the id of another, a router with the id of another, a host with the key identifier of another, a key
-- with the identifier of another
abbrev pub is_twin : Topology → Addition → Bool
is_twin t (addition.Set _ _) = false
is_twin t (addition.Domain domain) = list_any (has_ad domain.ad) t.domains || is_key_taken t domain.key
is_twin t (addition.Router router) = list_any (has_eid router.address.eid) t.routers
is_twin t (addition.Part (part.Host host)) = list_any (has_key_id host.eid) t.parts || is_key_taken t host.key
is_twin t (addition.Part (part.Link _)) = false

-- the topology with what a line adds, behind what is there
abbrev pub with_addition : Topology → Addition → Topology
with_addition t (addition.Set s value) = record t { settings = with_setting s value t.settings }
with_addition t (addition.Domain domain) = record t { domains = t.domains ++ domain ∷ [] }
with_addition t (addition.Router router) = record t { routers = t.routers ++ router ∷ [] }
with_addition t (addition.Part p) = record t { parts = t.parts ++ p ∷ [] }

-- which settings were set, once this line was taken
abbrev pub given_with : List Bool → Addition → List Bool
given_with given (addition.Set s _) = slice_set given (place_of s) true
given_with given (addition.Domain _) = given
given_with given (addition.Router _) = given
given_with given (addition.Part _) = given

-- the draft with what a line adds
abbrev pub draft_with : Draft → Addition → Draft
draft_with draft e = record { topology = with_addition draft.topology e; given = given_with draft.given e }

-- the draft with what a line adds, or the first fault of the line
abbrev pub with_line : Draft → Line → Result Draft TopoFault
with_line draft l =
    if is_many draft.topology l then Err fault.Many
    else if is_twice draft l then Err fault.Twice
    else if is_unknown draft.topology l then Err fault.Unknown
    else if is_out_of_range l then Err fault.Range
    else if is_twin draft.topology (addition_of draft.topology l) then Err fault.Twin
    else Ok (draft_with draft (addition_of draft.topology l))

-- there is room for the addition, and a setting's value isn't above its range
abbrev pub fits : Topology → Addition → Bool
fits t (addition.Set s value) = nat_le value (most_of s)
fits t (addition.Domain _) = nat_lt (length t.domains) 64
fits t (addition.Router _) = nat_lt (length t.routers) 256
fits t (addition.Part p) = has_room t.parts p
