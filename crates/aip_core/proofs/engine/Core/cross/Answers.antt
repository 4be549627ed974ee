use Rattle.std.proofs.Common.{◌≡◌, ◌∙◌, length, subst, sym, ap, Some}
use Rattle.std.specs.Prelude.{slice_get, option_copied}
use Rattle.aip_core.specs.Kept.{Kept}
use Rattle.aip_core.specs.Moves.{MovesAt}
use Rattle.aip_core.specs.RouterMachine.{RouterState, after_place, basis_of, kept_at_place}
use Rattle.aip_core.specs.declared.network.Network.{Network}
use Rattle.aip_core.proofs.Acting.{crosses_in_core}
use Rattle.aip_core.proofs.engine.Core.cross.Goals as goal

pub returns-in_ok-arrive_at-in-Some : goal.returns-in_ok-arrive_at-in-Some
returns-in_ok-arrive_at-in-Some c =
    let core : Network → Kept = λ network. record {
      topo = network.directory;
      links = network.wiring.links;
      flights = c.self.inside.flights;
      hosts = c.self.inside.hosts.items;
      routers = c.arrive_at.new.routers.items;
      records = network.registry;
      ticks = c.self.inside.ticks;
      inputs = c.self.inside.inputs;
    } in
    let basis = λ (state : RouterState). basis_of c.self.inside.network state c.self.inside.ticks in
    let self = slice_get c.self.inside.network.directory.routers c.args.place in
    crosses_in_core _ c.args.self.now _ c.args.flight c.args.place c.args.port c.in-Some.found.now c.in_ok-arrive_at-in-Some.field-0 c.self.view_is
    (ap core c.arrive_at.ensures.same)
    (subst (λ (k : Kept). length k.routers ≡ length k.topo.routers) c.self.view_is c.self.invariant.routers)
    c.requires.there c.requires.port
    (sym c.find.ensures ∙ ap option_copied c.in-Some.is)
    (λ state at. subst (λ bytes. c.in_ok-arrive_at-in-Some.field-0 ≡ kept_at_place (basis state) c.args.place self c.args.port bytes)
    c.as_slice.ensures (c.in_ok-arrive_at-in-Some.ensures.reaction state at))
    (subst (λ bytes. MovesAt RouterState (Some c.args.place) (λ old new. new ≡ after_place (basis old) c.args.place self c.args.port bytes)
    c.self.inside.routers.items c.arrive_at.new.routers.items) c.as_slice.ensures c.in_ok-arrive_at-in-Some.ensures.after)
