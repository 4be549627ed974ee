use Rattle.std.proofs.Common.{◌≡◌, ℕ, List, length, cond, Some, None, subst}
use Rattle.std.specs.BTreeMap.{get}
use Rattle.std.specs.Option.{option_or}
use Rattle.std.specs.Str.{bytes_eq}
use Rattle.aip_topo.specs.Index.{name_cmp}
use Rattle.aip_topo.specs.declared.topology.Router.{Router}
use Rattle.aip_topo.proofs.Indexing.{places_more}
use Rattle.aip_topo.proofs.indexed.IndexedDraft.with_router.Goals as goal

pub invariant_of-self : goal.invariant_of-self
invariant_of-self c =
    let was = c.self.invariant in
    let before = c.self.inside.draft.topology.routers in
    let put : List Router → Type 0 = λ routers. (name : List ℕ) →
    get name_cmp c.put.new.places name ≡ option_or (get name_cmp c.self.inside.routers name) (cond (bytes_eq c.args.router.name name) (Some (length routers)) None) in
    record {
      routers = places_more (λ (router : Router). router.name) c.self.inside.routers c.put.new.places before c.push.new.self c.args.router was.routers (subst put c.as_slice.ensures.routers c.in_ok-put.ensures) c.in_ok-push.ensures.ok;
      domains = was.domains;
      hosts = was.hosts;
      keys = was.keys;
    }
