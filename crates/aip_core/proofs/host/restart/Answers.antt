use Rattle.std.proofs.Common.{◌≡◌, Ok, Result, ap, sym}
use Rattle.aip_rules.specs.declared.Reaction.{Reaction}
use Rattle.aip_core.proofs.host.restart.Goals as goal

pub returns-clause-does : goal.returns-clause-does
returns-clause-does c = (ap (λ (r : Reaction). Ok r) (sym c.in_ok-restart.ensures.reaction), record { anew = c.restart.ensures.restarted; disks = c.restart.ensures.disks })
