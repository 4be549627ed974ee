use Rattle.std.proofs.Common.{◌≡◌, ◌∙◌, subst}
use Rattle.std.specs.List.{list_any}
use Rattle.aip_topo.specs.Steps.{names_host}
use Rattle.aip_topo.specs.declared.steps.Draft.{Draft}
use Rattle.aip_topo.proofs.indexed.IndexedDraft.names_host.Goals as goal

pub returns : goal.returns
returns c =
    subst (λ (draft : Draft). c.contains.result ≡ list_any (names_host c.args.name.now) draft.topology.parts) c.self.view_is
    (c.contains.ensures ∙ c.self.invariant.hosts c.args.name.now)
