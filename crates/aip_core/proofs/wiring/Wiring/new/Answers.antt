use Rattle.aip_core.proofs.wiring.Wiring.new.Goals as goal

pub invariant_of-result : goal.invariant_of-result
invariant_of-result c = record { sound = c.requires.sound; short = c.requires.short; routes = c.new.ensures c.args.domains.items c.args.links.items }
