use Rattle.std.proofs.Common.{◌≡◌, ◌<◌, ◌+◌, suc, false, [], ◌∷◌, List, ℕ, length, set, take, drop, sym, ap, subst, refl, ◌∙◌, arith}
use Rattle.std.proofs.lemmas.List.{get_or_default}
use Rattle.lease_disk.specs.Images.{overwritten}
use Rattle.shutoff_filter.specs.Entries.{entries_of, is_withheld}
use Rattle.shutoff_filter.specs.FilterFile.{IsFilterOf, slot_in, slot_start}
use Rattle.shutoff_filter.specs.ImageLaws.{closing_written}
use Rattle.shutoff_filter.specs.Keeping.{shut_slot}
use Rattle.shutoff_filter.specs.SlotLaws.{closed_in_force}
use Rattle.shutoff_filter.specs.Slots.{closed_slot}
use Rattle.shutoff_filter.specs.Spare.{holds_entry}
use Rattle.shutoff_filter.specs.declared.slots.Slot.{Slot}
use Rattle.shutoff_filter.proofs.Held.{shut_moments, shut_there, told_after}
use Rattle.shutoff_filter.proofs.store.FilterStore.shut.Goals as goal

pub invariant_of-result : goal.invariant_of-result
invariant_of-result g c =
    let self = c.args.self in
    let number = c.args.number in
    let there : number < length self.slots.slots.items = omega (arith, c.requires.there, self.slots.whole) in
    let slot : Slot = c.index-slot.result.now in
    let old : slot ≡ slot_in self.slots.slots.items number = c.index-slot.ensures ∙ get_or_default self.slots.slots.items number slot closed_slot there in
    let items : c.put_slot.new.slots.slots.items ≡ set self.slots.slots.items number (shut_slot (slot_in self.slots.slots.items number)) =
    c.put_slot.ensures.slots ∙ ap (λ (s : Slot). set self.slots.slots.items number (shut_slot s)) old in
    let written = told_after (g.D.Disk.now self.disk) (g.D.Disk.now c.shut_gate.new.disk) (λ (file : List ℕ). overwritten file (slot_start number) (0 ∷ []))
    (IsFilterOf self.slots.room self.slots.slots.items) (IsFilterOf self.slots.room c.put_slot.new.slots.slots.items) c.in-Ok.ensures.content self.same (λ file is.
    subst (λ (l : List Slot). IsFilterOf self.slots.room l (overwritten file (slot_start number) (0 ∷ []))) (sym items)
    (closing_written self.slots.room number self.slots.slots.items file self.slots.whole c.requires.there is)) in
    record {
      firm = c.in-Ok.ensures.firm;
      same = λ file told. subst (λ room. IsFilterOf room c.put_slot.new.slots.slots.items file) (sym c.put_slot.ensures.room) (written file told);
      closed = (
        omega (arith, c.requires.there, c.put_slot.ensures.room),
        ap (λ (l : List Slot). (slot_in l number).is_open) items ∙ shut_there self.slots.slots.items number (shut_slot (slot_in self.slots.slots.items number)) there refl,
      );
    }

pub returns-in-Ok-clause-same : goal.returns-in-Ok-clause-same
returns-in-Ok-clause-same g c =
    let self = c.args.self in
    let number = c.args.number in
    let there : number < length self.slots.slots.items = omega (arith, c.requires.there, self.slots.whole) in
    let slot : Slot = c.index-slot.result.now in
    let next : number + 1 ≡ suc number = omega arith in
    let free : holds_entry c.args.now (take number self.slots.slots.items) (slot_in self.slots.slots.items number) (drop (suc number) self.slots.slots.items) ≡ false =
    ap (λ n. holds_entry c.args.now (take number self.slots.slots.items) (slot_in self.slots.slots.items number) (drop n self.slots.slots.items)) (sym next) ∙ c.requires.free in
    let same = closed_in_force c.args.now self.slots.slots.items number closed_slot (shut_slot slot) there free refl in
    λ to time later. same to time later ∙ ap (λ (l : List Slot). is_withheld time to (entries_of l)) (sym {A = List Slot} {a = c.put_slot.new.slots.slots.items} {b = set self.slots.slots.items number (shut_slot slot)} c.put_slot.ensures.slots)

pub returns-in-Ok-clause-moments : goal.returns-in-Ok-clause-moments
returns-in-Ok-clause-moments g c =
    let self = c.args.self in
    shut_moments g.D.Disk.now g.D.Disk.may_leave g.D.Disk.clock g.D.Disk.during g.met.D.Disk.only_now g.met.D.Disk.content_is_image
    self.slots.room c.args.now self.slots.slots.items self.disk self.slots.whole self.firm self.same
    c.shut_gate.new.disk c.args.number c.requires.there c.requires.opened c.requires.free c.shut_gate.ensures.moments

pub returns-in-Err-clause-moments : goal.returns-in-Err-clause-moments
returns-in-Err-clause-moments g c =
    let self = c.args.self in
    shut_moments g.D.Disk.now g.D.Disk.may_leave g.D.Disk.clock g.D.Disk.during g.met.D.Disk.only_now g.met.D.Disk.content_is_image
    self.slots.room c.args.now self.slots.slots.items self.disk self.slots.whole self.firm self.same
    c.shut_gate.new.disk c.args.number c.requires.there c.requires.opened c.requires.free c.shut_gate.ensures.moments
