use Rattle.std.proofs.Common.{refl, Err}
use Rattle.aip_event.specs.declared.input.Input.TheVariants.{Send, Raw, Shutoff, Stop, Halt}
use Rattle.aip_rules.specs.declared.StepFault.TheVariants as fault
use Rattle.aip_core.proofs.Acting.{named_outcome}
use Rattle.aip_core.proofs.engine.Core.outcome.Goals as goal

pub returns-in-Send : goal.returns-in-Send
returns-in-Send c =
    named_outcome c.args.self.now c.act_named.new.self c.args.input.now (Send c.in-Send.host c.in-Send.node c.in-Send.packet c.in-Send.body) c.in-Send.host (Err fault.Unknown) c.act_named.result c.in-Send.is refl c.act_named.ensures

pub returns-in-Raw : goal.returns-in-Raw
returns-in-Raw c =
    named_outcome c.args.self.now c.act_named-in-Raw.new.self c.args.input.now (Raw c.in-Raw.host c.in-Raw.bytes) c.in-Raw.host (Err fault.Unknown) c.act_named-in-Raw.result c.in-Raw.is refl c.act_named-in-Raw.ensures

pub returns-in-Shutoff : goal.returns-in-Shutoff
returns-in-Shutoff c =
    named_outcome c.args.self.now c.act_named-in-Shutoff.new.self c.args.input.now (Shutoff c.in-Shutoff.host c.in-Shutoff.flight c.in-Shutoff.ttl) c.in-Shutoff.host (Err fault.Unknown) c.act_named-in-Shutoff.result c.in-Shutoff.is refl c.act_named-in-Shutoff.ensures

pub returns-in-Stop : goal.returns-in-Stop
returns-in-Stop c =
    named_outcome c.args.self.now c.act_named-in-Stop.new.self c.args.input.now (Stop c.in-Stop.host c.in-Stop.call c.in-Stop.byte) c.in-Stop.host (Err fault.Unknown) c.act_named-in-Stop.result c.in-Stop.is refl c.act_named-in-Stop.ensures

pub returns-in-Halt : goal.returns-in-Halt
returns-in-Halt c =
    named_outcome c.args.self.now c.act_named-in-Halt.new.self c.args.input.now (Halt c.in-Halt.host c.in-Halt.call c.in-Halt.byte) c.in-Halt.host (Err fault.Unknown) c.act_named-in-Halt.result c.in-Halt.is refl c.act_named-in-Halt.ensures
