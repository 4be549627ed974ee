use Rattle.std.proofs.Common.{◌∙◌, refl}
use Rattle.aip_topo.specs.Steps.{has_key_id, names_host}
use Rattle.aip_topo.specs.declared.topology.Part.TheVariants as part
use Rattle.aip_topo.proofs.Indexing.{link_more}
use Rattle.aip_topo.proofs.indexed.IndexedDraft.with_link.Goals as goal

pub invariant_of-self : goal.invariant_of-self
invariant_of-self c =
    let was = c.self.invariant in
    let parts = c.self.inside.draft.topology.parts in
    let link = part.Link c.args.link in
    let is = c.in_ok-push.ensures.ok in
    record {
      domains = was.domains;
      routers = was.routers;
      hosts = λ name. was.hosts name ∙ link_more (names_host name) parts c.push.new.self link refl is;
      keys = λ eid. was.keys eid ∙ link_more (has_key_id eid) parts c.push.new.self link refl is;
    }
