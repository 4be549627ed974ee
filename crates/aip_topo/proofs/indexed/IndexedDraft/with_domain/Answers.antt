use Rattle.std.proofs.Common.{◌≡◌, ℕ, List, length, cond, Some, None, subst}
use Rattle.std.specs.BTreeMap.{get}
use Rattle.std.specs.Option.{option_or}
use Rattle.std.specs.Str.{bytes_eq}
use Rattle.aip_topo.specs.Index.{name_cmp}
use Rattle.aip_topo.specs.declared.topology.Domain.{Domain}
use Rattle.aip_topo.proofs.Indexing.{places_more}
use Rattle.aip_topo.proofs.indexed.IndexedDraft.with_domain.Goals as goal

pub invariant_of-self : goal.invariant_of-self
invariant_of-self c =
    let was = c.self.invariant in
    let before = c.self.inside.draft.topology.domains in
    let put : List Domain → Type 0 = λ domains. (name : List ℕ) →
    get name_cmp c.put.new.places name ≡ option_or (get name_cmp c.self.inside.domains name) (cond (bytes_eq c.args.domain.name name) (Some (length domains)) None) in
    record {
      domains = places_more (λ (domain : Domain). domain.name) c.self.inside.domains c.put.new.places before c.push.new.self c.args.domain was.domains (subst put c.as_slice.ensures.domains c.in_ok-put.ensures) c.in_ok-push.ensures.ok;
      routers = was.routers;
      hosts = was.hosts;
      keys = was.keys;
    }
