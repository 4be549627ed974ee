use Rattle.std.proofs.Common.{◌≡◌, ◌+◌, ◌<◌, ◌≤◌, List, [], ◌∷◌, ◌++◌, length, sym, subst, arith, rules}
use Rattle.std.proofs.lemmas.Grind.{common_steps}
use Rattle.aip_topo.specs.declared.topology.Part.{Part}
use Rattle.aip_topo.specs.declared.topology.Part.TheVariants.{Host}
use Rattle.aip_host.specs.HostState.{HostState}
use Rattle.aip_core.specs.Starting.{AreBegun, hosts_on}
use Rattle.aip_core.proofs.Begins.{begun_more}
use Rattle.aip_core.proofs.starting.add_host.Goals as goal

pub returns-in_ok-push-in-Host : goal.returns-in_ok-push-in-Host
returns-in_ok-push-in-Host c = λ lines rest begun.
    let hosts = c.args.hosts.now.items in
    let seats = c.args.seats.now in
    let seat = c.index-seats-len.result in
    let room : length hosts + 1 ≤ length seats = subst (λ (p : Part). length hosts + length (hosts_on (p ∷ [])) ≤ length seats) c.in-Host.is c.requires.room in
    let low : length hosts < length seats = omega arith in
    let here : AreBegun c.args.settings.now c.args.routers.now seats lines (Host c.in-Host.host ∷ rest) hosts =
    subst (λ (p : Part). AreBegun c.args.settings.now c.args.routers.now seats lines (p ∷ rest) hosts) c.in-Host.is begun in
    subst (λ (hs : List HostState). AreBegun c.args.settings.now c.args.routers.now seats lines rest hs) (sym c.in_ok-push-in-Host.ensures.items)
    (begun_more c.args.settings.now c.args.routers.now seats lines c.in-Host.host rest hosts seat c.in_ok-new_host-in-Host.field-0 low
    (first_of (cc, search rules, grind (arith, common_steps))) c.in_ok-new_host-in-Host.ensures here)
