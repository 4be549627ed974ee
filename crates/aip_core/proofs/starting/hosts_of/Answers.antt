use Rattle.std.proofs.Common.{◌≡◌, ◌+◌, List, ◌∷◌, drop, sym, subst, add-one}
use Rattle.std.proofs.Math.Seq.{drop-cons}
use Rattle.aip_topo.specs.declared.topology.Part.{Part}
use Rattle.aip_core.specs.Starting.{AreBegun, hosts_on}
use Rattle.aip_core.proofs.starting.hosts_of.Goals as goal

pub parts-preserved : goal.parts-preserved
parts-preserved c =
    let parts = c.args.parts.now in
    let i = c.parts.part-index in
    let left : drop i parts ≡ c.part-item.result ∷ drop (i + 1) parts =
    subst (λ (p : Part). drop i parts ≡ p ∷ drop (i + 1) parts) (sym c.part-item.is) (rw add-one (drop-cons parts i c.part-item.result c.parts-test.true)) in
    c.in_ok-add_host.ensures (hosts_on parts) (drop (i + 1) parts)
    (subst (λ (ls : List Part). AreBegun c.args.settings.now c.args.routers.now c.args.seats.now (hosts_on parts) ls c.parts.hosts.items) left c.parts.invariant)
