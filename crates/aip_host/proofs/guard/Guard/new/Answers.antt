use Rattle.std.proofs.Common.{[], sym, subst}
use Rattle.aip_host.specs.Guarded.{IsFilterAtRest}
use Rattle.aip_host.proofs.guard.Guard.new.Goals as goal

pub returns-clause-entries : goal.returns-clause-entries
returns-clause-entries c =
    c.opened-store.ensures.entries [] (subst (λ room. IsFilterAtRest room [] c.in_ok-fresh_disk.field-0) (sym c.in_ok-slots.ensures.0) c.in_ok-fresh_disk.ensures.rest)
