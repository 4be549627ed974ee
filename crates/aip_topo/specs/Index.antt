-- Where a draft finds the names and the key identifiers of its lists.
use Rattle.std.specs.Prelude.{◌≡◌, ℕ, List}
use Rattle.std.specs.BTreeMap.{get}
use Rattle.std.specs.BTreeSet.{contains}
use Rattle.std.specs.List.{list_any}
use Rattle.std.specs.Ordering.{nat_cmp}
use Rattle.std.specs.Cmp.Lexicographic.{slice_cmp}
use Rattle.std.specs.declared.cmp.Ordering.{Ordering}
use Rattle.aip_addr.specs.Ids.{key_id_of}
use Rattle.aip_addr.specs.declared.ids.Id.{Id}
use Rattle.aip_addr.specs.declared.ids.KeyId.{KeyId}
use Rattle.aip_topo.specs.Steps.{domain_place, has_key_id, names_host, router_place}
use Rattle.aip_topo.specs.declared.indexed.IndexedDraft.TheInside.{Inside}

-- the order of names
abbrev pub name_cmp : List ℕ → List ℕ → Ordering
name_cmp a b = slice_cmp nat_cmp a b

-- the order of key identifiers
abbrev pub key_id_cmp : KeyId → KeyId → Ordering
key_id_cmp a b = slice_cmp nat_cmp a.bytes b.bytes

-- each name is found where it stands, and so is the key identifier of each id
pub record FindsNames (draft : Inside) : Type 0 where
  pub domains : (name : List ℕ) → get name_cmp draft.domains name ≡ domain_place name draft.draft.topology.domains
  pub routers : (name : List ℕ) → get name_cmp draft.routers name ≡ router_place name draft.draft.topology.routers
  pub hosts : (name : List ℕ) → contains name_cmp draft.hosts name ≡ list_any (names_host name) draft.draft.topology.parts
  pub keys : (eid : Id) → contains key_id_cmp draft.keys (key_id_of eid) ≡ list_any (has_key_id eid) draft.draft.topology.parts
