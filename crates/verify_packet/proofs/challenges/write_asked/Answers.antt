use Rattle.std.proofs.Common.{rules, ◌≡◌}
use Rattle.verify_packet.proofs.challenges.write_asked.Goals as goal

pub returns-clause-fits : goal.returns-clause-fits
returns-clause-fits c = record {
  router = record { ad = c.write_address.ensures.ad; eid = c.write_address.ensures.eid };
  source = record { ad = c.write_address-2.ensures.ad; eid = c.write_address-2.ensures.eid };
  hash = search rules;
  port = search rules;
  epoch = search rules;
}
