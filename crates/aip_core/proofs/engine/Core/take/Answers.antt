use Rattle.std.proofs.Common.{◌≡◌, ◌<◌, ap, subst, sym, arith}
use Rattle.aip_topo.specs.Sound.{IsSound}
use Rattle.aip_core.specs.Kept.{Kept}
use Rattle.aip_core.specs.Machine.{AreSeated}
use Rattle.aip_core.proofs.Accepted.{taken_step}
use Rattle.aip_core.proofs.engine.Core.take.Goals as goal

pub returns-in-Ok-clause-taken : goal.returns-in-Ok-clause-taken
returns-in-Ok-clause-taken c =
    let inputs : c.self.inside.inputs ≡ c.args.self.inputs = ap (λ (k : Kept). k.inputs) c.self.view_is in
    let some : c.self.inside.inputs < 65536 = c.if-self-ge-MOST_INPUTS.false in
    let few : c.args.self.inputs < 65536 = omega arith in
    taken_step c.args.self c.outcome.new.self c.in_ok-with-in-Ok.field-0.0 c.args.input c.in-Ok.reaction c.in_ok-with-in-Ok.field-0.1 few c.in-Ok.ensures.0 c.in-Ok.ensures.1
    c.in_ok-with-in-Ok.ensures.core c.in_ok-with-in-Ok.ensures.events

pub returns-in-Err-Fault-clause-sound : goal.returns-in-Err-Fault-clause-sound
returns-in-Err-Fault-clause-sound c = subst IsSound (ap (λ (k : Kept). k.topo) c.self.view_is) c.self.invariant.sound

pub returns-clause-sound : goal.returns-clause-sound
returns-clause-sound c = subst IsSound (ap (λ (k : Kept). k.topo) c.self.view_is) c.self.invariant.sound

pub returns-in-Err-Fault-clause-seated : goal.returns-in-Err-Fault-clause-seated
returns-in-Err-Fault-clause-seated c = subst (λ (k : Kept). AreSeated k.topo k.hosts) c.self.view_is c.self.invariant.hosts

pub returns-clause-seated : goal.returns-clause-seated
returns-clause-seated c = subst (λ (k : Kept). AreSeated k.topo k.hosts) c.self.view_is c.self.invariant.hosts
