use Rattle.std.proofs.Common.{◌≡◌, ℕ, true, false, length, refl, ◌∙◌, sym, ap, subst, arith}
use Rattle.std.specs.Prelude.{Option, Some, None, IfSome}
use Rattle.aip_addr.specs.declared.ids.KeyId.{KeyId}
use Rattle.lease_disk.specs.Calls.{Ran}
use Rattle.lease_disk.specs.MemDisk.{DiskState, Leads, restarted}
use Rattle.shutoff_filter.specs.Entries.{entries_of}
use Rattle.shutoff_filter.specs.Keeping.{entries_in, keep_calls}
use Rattle.shutoff_filter.specs.declared.slots.Slots.{Slots}
use Rattle.aip_host.specs.Guarding.{GuardState, entries_with}
use Rattle.aip_host.specs.Guarded.{IsWritten}
use Rattle.aip_host.proofs.Orders.{keep_falls, fallen_down}
use Rattle.aip_host.proofs.guard.cut_off.Goals as goal

pub unreachable-requires : goal.unreachable-requires
unreachable-requires c =
    let store = c.args.store in
    let ready = c.requires.ready in
    let nineteen : length c.sized-to.result.bytes ≡ 19 = ap (λ (k : KeyId). length k.bytes) c.sized-to.ensures.key ∙ c.sized-to.ensures.size in
    let end = c.in-Ok.field-0.disk in
    let spared = subst (λ (spare : Option ℕ). IfSome spare (λ number. Ran Leads c.stop_at.new.self.disk (keep_calls number c.sized-to.result c.args.until) true end)) c.stop_at.ensures.same.1 c.in-Ok.ensures.calls in
    let ran = subst (λ (disk : DiskState). IfSome store.spare (λ number. Ran Leads disk (keep_calls number c.sized-to.result c.args.until) true end)) c.stop_at.ensures.disk spared in
    let ends = keep_falls c.args.now store.slots.room c.args.until c.sized-to.result store.spare store.slots.slots.items store.disk end c.args.arming true ready.ready store.slots.whole nineteen (omega arith) c.requires.halting ready.spared store.same store.closed ran in
    let failed = ends.0 in
    absurd (cc)

pub returns : goal.returns
returns c =
    let store = c.args.store in
    let ready = c.requires.ready in
    let nineteen : length c.sized-to.result.bytes ≡ 19 = ap (λ (k : KeyId). length k.bytes) c.sized-to.ensures.key ∙ c.sized-to.ensures.size in
    let end = c.in-Err.field-0.disk in
    let same_room : c.in-Err.field-0.slots.room ≡ store.slots.room = c.in-Err.ensures.room ∙ ap (λ (s : Slots). s.room) c.stop_at.ensures.same.0 in
    let spared = subst (λ (spare : Option ℕ). IfSome spare (λ number. Ran Leads c.stop_at.new.self.disk (keep_calls number c.sized-to.result c.args.until) false end)) c.stop_at.ensures.same.1 c.in-Err.ensures.calls in
    let ran = subst (λ (disk : DiskState). IfSome store.spare (λ number. Ran Leads disk (keep_calls number c.sized-to.result c.args.until) false end)) c.stop_at.ensures.disk spared in
    let ends = keep_falls c.args.now store.slots.room c.args.until c.sized-to.result store.spare store.slots.slots.items store.disk end c.args.arming false ready.ready store.slots.whole nineteen (omega arith) c.requires.halting ready.spared store.same store.closed ran in
    let kept : GuardState = record { room = store.slots.room; entries = entries_of store.slots.slots.items; halt = None; is_down = false; disk = store.disk } in
    let entries = λ (k : KeyId). entries_with (Some c.args.arming) (record { to = k; until = c.args.until }) (entries_of store.slots.slots.items) in
    let here : IsWritten c.args.now kept (entries c.sized-to.result) (record { room = store.slots.room; entries = entries_in store.slots.room (restarted end).base; halt = None; is_down = true; disk = end })
    = record {
      same = ends.1.same;
      same_room = refl;
      keeps = fallen_down c.args.now store.slots.room _ _ end ends.2 (omega (arith, ready.ready.holds, ends.3)) ready.long ends.1;
    } in
    subst (λ room. IsWritten c.args.now kept (entries c.args.to.now) (record { room = room; entries = entries_in room (restarted end).base; halt = None; is_down = true; disk = end })) (sym same_room)
    (subst (λ (k : KeyId). IsWritten c.args.now kept (entries k) (record { room = store.slots.room; entries = entries_in store.slots.room (restarted end).base; halt = None; is_down = true; disk = end })) c.sized-to.ensures.key here)
