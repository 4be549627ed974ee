use Rattle.std.proofs.Common.{◌≡◌, ◌≤◌, ◌++◌, ◌∙◌, ◌+◌, List, length, ap, sym, subst, arith}
use Rattle.std.specs.Prelude.{All}
use Rattle.std.proofs.lemmas.List.{length-append}
use Rattle.aip_rules.specs.State.{ticks_of}
use Rattle.aip_rules.specs.Reaction.{in_put}
use Rattle.aip_core.specs.Kept.{Kept}
use Rattle.aip_core.specs.Moves.{routers_with}
use Rattle.aip_core.specs.Rooms.{IsBootedUpTo}
use Rattle.aip_core.specs.RouterMachine.{RouterState}
use Rattle.aip_core.specs.Wiring.{Wired, IsWiringOf}
use Rattle.aip_core.proofs.Modest.{in_put_one}
use Rattle.aip_core.proofs.Accepted.{boots_with, count_with}
use Rattle.aip_core.proofs.engine.Core.with.Goals as goal

pub invariant_of-core : goal.invariant_of-core
invariant_of-core c =
    let ticks : c.self.inside.ticks ≡ c.args.self.ticks = ap (λ (k : Kept). k.ticks) c.self.view_is in
    let inputs : c.self.inside.inputs ≡ c.args.self.inputs = ap (λ (k : Kept). k.inputs) c.self.view_is in
    let moved : c.ticks_of.result ≡ ticks_of c.args.input.now = c.ticks_of.ensures in
    let count : length c.put_behind.new.flights ≡ length (c.self.inside.flights ++ in_put c.args.reaction.put) = ap length c.in_ok-put_behind.ensures.flights in
    let before : length c.self.inside.flights ≤ c.self.inside.inputs = c.self.invariant.put in
    let early = c.requires.early in
    let few = c.requires.few in
    record {
      sound = c.self.invariant.sound;
      wired = subst (λ (w : Wired). IsWiringOf c.self.inside.network.directory w) (sym c.linked.ensures)
          (record { domains = c.self.invariant.wired.domains; rows = c.self.invariant.wired.rows; leads = c.self.invariant.wired.leads });
      hosts = c.self.invariant.hosts;
      routers =
          ap (λ (ss : List RouterState). length ss) c.started-routers.ensures ∙ count_with c.self.inside.network.directory c.args.input.now c.self.inside.routers.items
          ∙ c.self.invariant.routers;
      early = omega arith;
      few = omega arith;
      put = omega (arith, length-append c.self.inside.flights (in_put c.args.reaction.put), in_put_one c.args.reaction.put);
      boots = subst (λ (ss : List RouterState). All (IsBootedUpTo (c.self.inside.inputs + 1)) ss) (sym c.started-routers.ensures)
          (boots_with c.self.inside.inputs c.self.inside.network.directory c.args.input.now c.self.inside.routers.items c.self.invariant.boots);
    }
