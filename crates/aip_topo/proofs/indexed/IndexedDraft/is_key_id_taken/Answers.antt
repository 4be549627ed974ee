use Rattle.std.proofs.Common.{◌≡◌, ◌∙◌, ap, subst}
use Rattle.std.specs.BTreeSet.{contains}
use Rattle.std.specs.List.{list_any}
use Rattle.aip_topo.specs.Index.{key_id_cmp}
use Rattle.aip_topo.specs.Steps.{has_key_id}
use Rattle.aip_topo.specs.declared.steps.Draft.{Draft}
use Rattle.aip_topo.proofs.indexed.IndexedDraft.is_key_id_taken.Goals as goal

pub returns : goal.returns
returns c =
    let found = c.contains.ensures ∙ ap (contains key_id_cmp c.self.inside.keys) c.key_id.ensures ∙ c.self.invariant.keys c.args.eid.now in
    subst (λ (draft : Draft). c.contains.result ≡ list_any (has_key_id c.args.eid.now) draft.topology.parts) c.self.view_is found
