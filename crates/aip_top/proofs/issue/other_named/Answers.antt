use Rattle.std.proofs.Common.{ap, sym, ◌∙◌}
use Rattle.aip_registry.specs.declared.records.RecordKind.{RecordKind}
use Rattle.aip_top.specs.Leasing.{domain_named}
use Rattle.aip_top.specs.Recording.{domain_id, other_named}
use Rattle.aip_top.proofs.issue.other_named.Goals as goal

pub returns-in-Peer : goal.returns-in-Peer
returns-in-Peer c =
    let t = c.args.topology.now in
    let name = c.args.name.now in
    c.domain_id.ensures ∙ ap domain_id (c.domain_named.ensures ∙ ap (domain_named name) c.as_slice.ensures.domains)
    ∙ ap (λ (kind : RecordKind). other_named t kind name) (sym c.in-Peer.is)
