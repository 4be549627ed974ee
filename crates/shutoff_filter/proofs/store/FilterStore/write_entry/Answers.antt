use Rattle.std.proofs.Common.{◌≡◌, ◌≤◌, ◌∷◌, List, true, false, set, refl, sym, ap, subst, ◌∙◌, arith}
use Rattle.lease_disk.specs.Calls.{Ran}
use Rattle.lease_disk.specs.Kept.{gated}
use Rattle.shutoff_filter.specs.Entries.{SameInForce, entries_of, is_withheld}
use Rattle.shutoff_filter.specs.FilterFile.{IsFilterOf, open_gate, slot_in, slot_start}
use Rattle.shutoff_filter.specs.ImageLaws.{entry_written}
use Rattle.shutoff_filter.specs.Keeping.{entry_bytes, keep_calls, open_slot}
use Rattle.shutoff_filter.specs.SlotLaws.{opened_in_force}
use Rattle.shutoff_filter.specs.Slots.{closed_slot}
use Rattle.shutoff_filter.specs.declared.slots.Slot.{Slot}
use Rattle.shutoff_filter.proofs.Held.{if_some, keep_moments, of_some, told_after}
use Rattle.shutoff_filter.proofs.store.FilterStore.write_entry.Goals as goal

pub invariant_of-result : goal.invariant_of-result
invariant_of-result g c =
    let self = c.args.self in
    let number = c.unwrap-number.result in
    let closed = of_some self.spare number (λ s. (s ≤ self.slots.room) × ((slot_in self.slots.slots.items s).is_open ≡ false)) c.unwrap-number.ensures self.closed in
    let written = told_after (g.D.Disk.now self.disk) (g.D.Disk.now c.write_slot.new.disk) (gated (slot_start number) open_gate (entry_bytes c.args.to.now c.args.until))
    (IsFilterOf self.slots.room self.slots.slots.items) (IsFilterOf self.slots.room c.put_slot.new.slots.slots.items) c.in-Ok.ensures.content self.same (λ file is.
    subst (λ (l : List Slot). IsFilterOf self.slots.room l (gated (slot_start number) open_gate (entry_bytes c.args.to.now c.args.until) file)) (sym c.put_slot.ensures.slots)
    (entry_written self.slots.room c.args.now number c.args.to.now c.args.until self.slots.slots.items file self.slots.whole closed.0 c.write_slot.ensures.key c.ranges.until.fits is closed.1)) in
    record {
      firm = c.in-Ok.ensures.firm;
      same = λ file told. subst (λ room. IsFilterOf room c.put_slot.new.slots.slots.items file) (sym c.put_slot.ensures.room) (written file told);
      closed = tt;
    }

pub returns-in-Ok-clause-added : goal.returns-in-Ok-clause-added
returns-in-Ok-clause-added g c =
    let self = c.args.self in
    let number = c.unwrap-number.result in
    let closed = of_some self.spare number (λ s. (s ≤ self.slots.room) × ((slot_in self.slots.slots.items s).is_open ≡ false)) c.unwrap-number.ensures self.closed in
    let written : List Slot = set self.slots.slots.items number (open_slot c.args.to.now c.args.until) in
    let added : SameInForce c.args.now (record { to = c.args.to.now; until = c.args.until } ∷ entries_of self.slots.slots.items) (entries_of written) =
    opened_in_force c.args.now self.slots.slots.items number closed_slot (open_slot c.args.to.now c.args.until) (omega (arith, closed.0, self.slots.whole)) closed.1 refl in
    λ to time later. added to time later ∙ ap (λ (l : List Slot). is_withheld time to (entries_of l)) (sym {A = List Slot} {a = c.put_slot.new.slots.slots.items} {b = written} c.put_slot.ensures.slots)

pub returns-in-Ok-clause-moments : goal.returns-in-Ok-clause-moments
returns-in-Ok-clause-moments g c =
    let self = c.args.self in
    let number = c.unwrap-number.result in
    let closed = of_some self.spare number (λ s. (s ≤ self.slots.room) × ((slot_in self.slots.slots.items s).is_open ≡ false)) c.unwrap-number.ensures self.closed in
    keep_moments g.D.Disk.now g.D.Disk.may_leave g.D.Disk.clock g.D.Disk.during g.met.D.Disk.only_now g.met.D.Disk.content_is_image
    self.slots.room c.args.now self.slots.slots.items self.disk self.slots.whole self.firm self.same
    number c.args.to.now c.args.until closed.0 c.write_slot.ensures.key c.ranges.until.fits closed.1 c.write_slot.new.disk (entry_bytes c.args.to.now c.args.until) refl c.write_slot.ensures.moments

pub returns-in-Err-clause-moments : goal.returns-in-Err-clause-moments
returns-in-Err-clause-moments g c =
    let self = c.args.self in
    let number = c.unwrap-number.result in
    let closed = of_some self.spare number (λ s. (s ≤ self.slots.room) × ((slot_in self.slots.slots.items s).is_open ≡ false)) c.unwrap-number.ensures self.closed in
    keep_moments g.D.Disk.now g.D.Disk.may_leave g.D.Disk.clock g.D.Disk.during g.met.D.Disk.only_now g.met.D.Disk.content_is_image
    self.slots.room c.args.now self.slots.slots.items self.disk self.slots.whole self.firm self.same
    number c.args.to.now c.args.until closed.0 c.write_slot.ensures.key c.ranges.until.fits closed.1 c.write_slot.new.disk (entry_bytes c.args.to.now c.args.until) refl c.write_slot.ensures.moments

pub returns-in-Ok-clause-calls : goal.returns-in-Ok-clause-calls
returns-in-Ok-clause-calls g c =
    let number = c.unwrap-number.result in
    if_some c.args.self.spare number (λ n. Ran g.D.Disk.led c.args.self.disk (keep_calls n c.args.to.now c.args.until) true c.write_slot.new.disk) c.unwrap-number.ensures c.in-Ok.ensures.calls

pub returns-in-Err-clause-calls : goal.returns-in-Err-clause-calls
returns-in-Err-clause-calls g c =
    let number = c.unwrap-number.result in
    if_some c.args.self.spare number (λ n. Ran g.D.Disk.led c.args.self.disk (keep_calls n c.args.to.now c.args.until) false c.write_slot.new.disk) c.unwrap-number.ensures c.in-Err.ensures.calls
