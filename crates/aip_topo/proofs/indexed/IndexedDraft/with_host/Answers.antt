use Rattle.aip_topo.proofs.Indexing.{hosts_more, keys_more}
use Rattle.aip_topo.proofs.indexed.IndexedDraft.with_host.Goals as goal

pub invariant_of-self : goal.invariant_of-self
invariant_of-self c =
    let was = c.self.invariant in
    let parts = c.self.inside.draft.topology.parts in
    let noted = c.in_ok-note.ensures in
    let pushed = c.in_ok-push.ensures.ok in
    record {
      domains = was.domains;
      routers = was.routers;
      hosts = hosts_more c.self.inside.hosts c.note.new.hosts parts c.push.new.self c.args.host was.hosts noted.name pushed;
      keys = keys_more c.self.inside.keys c.note.new.keys parts c.push.new.self c.args.host was.keys noted.key pushed;
    }
