use Rattle.std.proofs.Common.{arith}
use Rattle.std.proofs.lemmas.Grind.{common_steps}
use Rattle.aip_host.specs.HostState.{standing_of}
use Rattle.aip_host.proofs.Signed.{taken_challenge, taken_shutoff}
use Rattle.aip_host.proofs.host.Host.take.Goals as goal

pub returns-in-Challenge-clause-reaction : goal.returns-in-Challenge-clause-reaction
returns-in-Challenge-clause-reaction c =
    taken_challenge c.weigh.result (standing_of c.args.self.now c.args.now) c.args.frame.now (grind (arith, common_steps)) c.in-Challenge.is c.weigh.ensures.reaction

pub returns-in-ShutOff-clause-reaction : goal.returns-in-ShutOff-clause-reaction
returns-in-ShutOff-clause-reaction c =
    taken_shutoff c.heed.result (standing_of c.args.self.now c.args.now) c.args.frame.now (grind (arith, common_steps)) c.in-ShutOff.is (c.heed.ensures.reaction c.args.frame.now c.requires.bytes)
