use Rattle.std.proofs.Common.{refl, arith}
use Rattle.std.specs.Prelude.{Some, None}
use Rattle.shutoff_filter.specs.Entries.{entries_of}
use Rattle.shutoff_filter.specs.InForce.{few_in_force}
use Rattle.aip_host.specs.declared.guard.State.TheVariants.{Ready, Fallen}
use Rattle.aip_host.specs.Guarded.{guard_in}
use Rattle.aip_host.proofs.Orders.{done_written}
use Rattle.aip_host.proofs.guard.written.Goals as goal

pub readied-store-requires-clause-few : goal.readied-store-requires-clause-few
readied-store-requires-clause-few c =
    omega (arith, few_in_force c.args.now c.args.to.now (entries_of c.args.store.slots.slots.items), c.requires.few)

pub returns-in-None : goal.returns-in-None
returns-in-None c =
    done_written c.args.now (guard_in (Ready c.args.store c.args.halt)) (guard_in (Ready c.readied-store.result None)) (guard_in (Ready c.added-store.result None)) None c.args.to.now c.args.until
    c.in-None.is c.requires.untold c.readied-store.ensures.same c.readied-store.ensures.same_room c.added-store.ensures refl refl

pub returns-in-Some : goal.returns-in-Some
returns-in-Some c =
    done_written c.args.now (guard_in (Ready c.args.store c.args.halt)) (guard_in (Ready c.readied-store.result None)) (guard_in (Fallen c.cut_off-disk.result.0 c.cut_off-disk.result.1)) (Some c.in-Some.arming) c.args.to.now c.args.until
    c.in-Some.is c.requires.untold c.readied-store.ensures.same c.readied-store.ensures.same_room c.cut_off-disk.ensures refl refl
