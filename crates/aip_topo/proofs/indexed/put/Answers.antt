use Rattle.std.proofs.Common.{◌∙◌, sym}
use Rattle.aip_topo.proofs.Indexing.{put_new}
use Rattle.aip_topo.proofs.indexed.put.Goals as goal

pub returns-in_ok-insert : goal.returns-in_ok-insert
returns-in_ok-insert c =
    let fresh = sym c.contains_key.ensures ∙ c.if-not-contains_key.true in
    put_new c.args.places.now c.insert.new.self c.args.name c.args.place fresh c.in_ok-insert.ensures.updates
