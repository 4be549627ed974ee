use Rattle.std.proofs.Common.{◌≡◌, ◌<◌, length, sym, ap, subst, ◌∙◌, arith}
use Rattle.std.specs.Prelude.{None, IsSome}
use Rattle.lease_disk.specs.Images.{AtEachMoment}
use Rattle.shutoff_filter.specs.Entries.{SameInForce, entries_of, in_force}
use Rattle.shutoff_filter.specs.Keeping.{IsImageOf}
use Rattle.shutoff_filter.specs.SlotLaws.{spare_there}
use Rattle.shutoff_filter.specs.Spare.{spare_in}
use Rattle.shutoff_filter.proofs.Held.{still_moments}
use Rattle.shutoff_filter.proofs.store.FilterStore.ready.Goals as goal

pub returns-in-None-clause-found : goal.returns-in-None-clause-found
returns-in-None-clause-found g c = λ few.
    let self = c.args.self in
    let there : length (in_force c.args.now (entries_of self.slots.slots.items)) < length self.slots.slots.items = omega (arith, few, self.slots.whole) in
    let none : spare_in c.args.now self.slots.slots.items ≡ None = ap (spare_in c.args.now) (sym c.deref.ensures.value) ∙ sym c.spare_slot.ensures.spare ∙ c.in-None.is in
    let is : spare_in c.args.now self.slots.slots.items ≡ c.with_spare.result.spare = none ∙ sym c.with_spare.ensures.spare in
    subst IsSome is (spare_there c.args.now self.slots.slots.items there)

pub returns-in-None-clause-moments : goal.returns-in-None-clause-moments
returns-in-None-clause-moments g c =
    let self = c.args.self in
    subst (λ disk. AtEachMoment g.D.Disk.clock g.D.Disk.during self.disk disk (IsImageOf self.slots.room (g.D.Disk.may_leave self.disk) (SameInForce c.args.now (entries_of self.slots.slots.items)))) (sym c.with_spare.ensures.disk)
    (still_moments g.D.Disk.now g.D.Disk.may_leave g.D.Disk.clock g.D.Disk.during g.met.D.Disk.only_now g.met.D.Disk.content_is_image
    self.slots.room c.args.now self.slots.slots.items self.disk self.slots.whole self.firm self.same)

pub returns-else-index-clause-moments : goal.returns-else-index-clause-moments
returns-else-index-clause-moments g c =
    let self = c.args.self in
    subst (λ disk. AtEachMoment g.D.Disk.clock g.D.Disk.during self.disk disk (IsImageOf self.slots.room (g.D.Disk.may_leave self.disk) (SameInForce c.args.now (entries_of self.slots.slots.items)))) (sym c.with_spare-else-index.ensures.disk)
    (still_moments g.D.Disk.now g.D.Disk.may_leave g.D.Disk.clock g.D.Disk.during g.met.D.Disk.only_now g.met.D.Disk.content_is_image
    self.slots.room c.args.now self.slots.slots.items self.disk self.slots.whole self.firm self.same)
