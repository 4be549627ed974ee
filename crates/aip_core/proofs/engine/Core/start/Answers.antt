use Rattle.std.proofs.Common.{◌≡◌, ◌∙◌, ◌<◌, ◌≤◌, ◌^◌, ℕ, List, Option, [], length, ap, sym, subst, refl, lit<, lit≤, replicate}
use Rattle.std.specs.Prelude.{All}
use Rattle.lms_core.specs.Tree.{Key as PrivateKey}
use Rattle.aip_topo.specs.declared.topology.Part.{Part}
use Rattle.aip_topo.specs.declared.topology.Router.{Router}
use Rattle.aip_topo.specs.declared.topology.Topology.{Topology}
use Rattle.aip_topo.specs.Sound.{IsSound}
use Rattle.aip_rules.specs.declared.Seat.{Seat}
use Rattle.aip_rules.specs.declared.Flight.{Flight}
use Rattle.aip_rules.specs.Nodes.{seats_after, seats_of, links_after, neighbours_after}
use Rattle.aip_rules.specs.Routes.{domains_of_routers}
use Rattle.aip_core.specs.Directory.{SitsBelow}
use Rattle.aip_core.specs.Rooms.{IsBootedUpTo}
use Rattle.aip_core.specs.RouterMachine.{RouterState, router_at_start}
use Rattle.aip_core.specs.Starting.{AreNewHosts, hosts_on}
use Rattle.aip_core.specs.Wiring.{Wired, IsWiringOf}
use Rattle.aip_core.proofs.Stands.{few_parts, few_seats, seated, sound_graph, wiring_of}
use Rattle.aip_core.proofs.Begins.{hosts_count, new_seated, replicate_count, all_same}
use Rattle.aip_core.proofs.engine.Core.start.Goals as goal

pub places_of-requires-clause-few : goal.places_of-requires-clause-few
places_of-requires-clause-few c = subst (λ (ps : List Part). length ps ≤ 5120) (sym c.as_slice-parts.ensures) (few_parts c.args.topology c.requires)

pub hosts_of-requires-clause-seated : goal.hosts_of-requires-clause-seated
hosts_of-requires-clause-seated c =
    let seats : c.deref.result.now ≡ seats_of c.args.topology =
    c.deref.ensures.value ∙ c.in_ok-seats.ensures.seats ∙ ap (λ (rs : List Router). seats_after rs [] c.as_slice-parts.result.now) c.as_slice-routers.ensures.routers
    ∙ ap (λ (ps : List Part). seats_after c.args.topology.routers [] ps) c.as_slice-parts.ensures in
    subst (λ (rs : List Router). All (SitsBelow (length rs)) c.deref.result.now) (sym c.as_slice-routers.ensures.routers)
    (subst (λ (ss : List Seat). All (SitsBelow (length c.args.topology.routers)) ss) (sym seats) (seated c.args.topology c.requires))

pub hosts_of-requires-clause-each : goal.hosts_of-requires-clause-each
hosts_of-requires-clause-each c =
    let seats : c.deref.result.now ≡ seats_of c.args.topology =
    c.deref.ensures.value ∙ c.in_ok-seats.ensures.seats ∙ ap (λ (rs : List Router). seats_after rs [] c.as_slice-parts.result.now) c.as_slice-routers.ensures.routers
    ∙ ap (λ (ps : List Part). seats_after c.args.topology.routers [] ps) c.as_slice-parts.ensures in
    ap (λ (ss : List Seat). length ss) seats ∙ hosts_count c.args.topology.routers [] c.args.topology.parts
    ∙ ap (λ (ps : List Part). length (hosts_on ps)) (sym c.as_slice-parts.ensures)

pub new-requires-clause-few : goal.new-requires-clause-few
new-requires-clause-few c =
    let seats : c.in_ok-seats.field-0.seats.items ≡ seats_of c.args.topology =
    c.in_ok-seats.ensures.seats ∙ ap (λ (rs : List Router). seats_after rs [] c.as_slice-parts.result.now) c.as_slice-routers.ensures.routers
    ∙ ap (λ (ps : List Part). seats_after c.args.topology.routers [] ps) c.as_slice-parts.ensures in
    subst (λ (ss : List Seat). length ss ≤ 65536) (sym seats) (few_seats c.args.topology c.requires)

pub new-requires-clause-seated : goal.new-requires-clause-seated
new-requires-clause-seated c =
    let seats : c.in_ok-seats.field-0.seats.items ≡ seats_of c.args.topology =
    c.in_ok-seats.ensures.seats ∙ ap (λ (rs : List Router). seats_after rs [] c.as_slice-parts.result.now) c.as_slice-routers.ensures.routers
    ∙ ap (λ (ps : List Part). seats_after c.args.topology.routers [] ps) c.as_slice-parts.ensures in
    subst (λ (ss : List Seat). All (SitsBelow (length c.args.topology.routers)) ss) (sym seats) (seated c.args.topology c.requires)

pub new-requires-2-clause-sound : goal.new-requires-2-clause-sound
new-requires-2-clause-sound c =
    sound_graph c.args.topology c.in_ok-domains.domains.items c.in_ok-seats.field-0.links.items c.requires
    (c.in_ok-domains.ensures ∙ ap domains_of_routers c.as_slice-routers.ensures.routers)
    (c.in_ok-seats.ensures.links ∙ ap (links_after []) c.as_slice-parts.ensures)

pub invariant_of-result : goal.invariant_of-result
invariant_of-result c =
    let wired : Wired = record { domains = c.in_ok-domains.domains.items; links = c.in_ok-seats.field-0.links.items; rows = c.in_ok-seats.field-0.rows.items } in
    let wiring = wiring_of c.args.topology wired c.requires
    (c.in_ok-domains.ensures ∙ ap domains_of_routers c.as_slice-routers.ensures.routers)
    (λ router. c.in_ok-seats.ensures.rows router ∙ ap (λ (ps : List Part). neighbours_after [] ps router) c.as_slice-parts.ensures) in
    let seats : c.deref.result.now ≡ seats_of c.args.topology =
    c.deref.ensures.value ∙ c.in_ok-seats.ensures.seats ∙ ap (λ (rs : List Router). seats_after rs [] c.as_slice-parts.result.now) c.as_slice-routers.ensures.routers
    ∙ ap (λ (ps : List Part). seats_after c.args.topology.routers [] ps) c.as_slice-parts.ensures in
    let fresh = router_at_start c.args.topology.settings in
    let each : length c.deref.result.now ≡ length (hosts_on c.as_slice-parts.result.now) =
    ap (λ (ss : List Seat). length ss) seats ∙ hosts_count c.args.topology.routers [] c.args.topology.parts
    ∙ ap (λ (ps : List Part). length (hosts_on ps)) (sym c.as_slice-parts.ensures) in
    record {
      sound = subst IsSound (sym c.in_ok-new.ensures) c.requires;
      wired = subst (λ (topo : Topology). IsWiringOf topo c.new-2.result) (sym c.in_ok-new.ensures)
          (subst (λ (w : Wired). IsWiringOf c.args.topology w) (sym c.new-2.ensures) wiring);
      hosts =
          new_seated c.args.topology.settings c.as_slice-routers.result.now c.deref.result.now (hosts_on c.as_slice-parts.result.now) c.in_ok-hosts.hosts.items c.in_ok-hosts.ensures.count
          (sym each) c.in_ok-hosts.ensures.new ∙ seats ∙ ap (λ (t : Topology). seats_of t) (sym c.in_ok-new.ensures);
      routers =
          ap (λ (ss : List RouterState). length ss) c.in_ok-checks.ensures ∙ replicate_count (length c.as_slice-routers.result.now) fresh
          ∙ ap (λ (rs : List Router). length rs) c.as_slice-routers.ensures.routers ∙ ap (λ (t : Topology). length t.routers) (sym c.in_ok-new.ensures);
      early = lit< tt;
      few = lit≤ tt;
      put = subst (λ (fs : List Flight). length fs ≤ 0) (sym c.new-4.ensures) (lit≤ tt);
      boots = subst (λ (ss : List RouterState). All (IsBootedUpTo 0) ss) (sym c.in_ok-checks.ensures)
          (all_same (IsBootedUpTo 0) (length c.as_slice-routers.result.now) fresh (lit≤ tt));
    }

pub returns : goal.returns
returns c =
    let seats : c.deref.result.now ≡ seats_of c.args.topology =
    c.deref.ensures.value ∙ c.in_ok-seats.ensures.seats ∙ ap (λ (rs : List Router). seats_after rs [] c.as_slice-parts.result.now) c.as_slice-routers.ensures.routers
    ∙ ap (λ (ps : List Part). seats_after c.args.topology.routers [] ps) c.as_slice-parts.ensures in
    let hosts : AreNewHosts c.args.topology.settings c.args.topology.routers (seats_of c.args.topology) (hosts_on c.args.topology.parts) c.in_ok-hosts.hosts.items =
    subst (λ (ps : List Part). AreNewHosts c.args.topology.settings c.args.topology.routers (seats_of c.args.topology) (hosts_on ps) c.in_ok-hosts.hosts.items) c.as_slice-parts.ensures
    (subst (λ (rs : List Router). AreNewHosts c.args.topology.settings rs (seats_of c.args.topology) (hosts_on c.as_slice-parts.result.now) c.in_ok-hosts.hosts.items) c.as_slice-routers.ensures.routers
    (subst (λ (ss : List Seat). AreNewHosts c.args.topology.settings c.as_slice-routers.result.now ss (hosts_on c.as_slice-parts.result.now) c.in_ok-hosts.hosts.items) seats c.in_ok-hosts.ensures.new)) in
    record {
      topology = c.in_ok-new.ensures;
      links = ap (λ (w : Wired). w.links) c.new-2.ensures ∙ c.in_ok-seats.ensures.links ∙ ap (links_after []) c.as_slice-parts.ensures;
      flights = c.new-4.ensures;
      count = c.in_ok-hosts.ensures.count ∙ ap (λ (ss : List Seat). length ss) seats;
      hosts = hosts;
      routers = c.in_ok-checks.ensures ∙ ap (λ (rs : List Router). replicate (length rs) (router_at_start c.args.topology.settings)) c.as_slice-routers.ensures.routers;
      records = c.new-3.ensures.nothing;
      ticks = refl;
      inputs = refl;
    }
