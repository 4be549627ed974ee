use Rattle.std.proofs.Common.{◌≡◌, ◌≤◌, ◌∷◌, true, false, length, ◌∙◌, sym, ap, subst, arith}
use Rattle.aip_addr.specs.declared.ids.KeyId.{KeyId}
use Rattle.shutoff_filter.specs.Entries.{SameInForce, entries_of}
use Rattle.shutoff_filter.specs.FilterFile.{file_size}
use Rattle.aip_host.proofs.Orders.{firm_length, keep_serves, same_length, written_up}
use Rattle.aip_host.proofs.guard.added.Goals as goal

pub unreachable-requires : goal.unreachable-requires
unreachable-requires c =
    let store = c.args.store in
    let ready = c.requires.ready in
    let nineteen : length c.sized-to.result.bytes ≡ 19 = ap (λ (k : KeyId). length k.bytes) c.sized-to.ensures.key ∙ c.sized-to.ensures.size in
    let ends = keep_serves store.slots.room c.args.until c.sized-to.result store.spare store.slots.slots.items store.disk c.in-Err.field-0.disk false ready.ready nineteen ready.spared store.closed c.in-Err.ensures.calls in
    let failed = ends.0 in
    absurd (cc)

pub returns : goal.returns
returns c =
    let store = c.args.store in
    let after = c.in-Ok.store in
    let ready = c.requires.ready in
    let nineteen : length c.sized-to.result.bytes ≡ 19 = ap (λ (k : KeyId). length k.bytes) c.sized-to.ensures.key ∙ c.sized-to.ensures.size in
    let ends = keep_serves store.slots.room c.args.until c.sized-to.result store.spare store.slots.slots.items store.disk after.disk true ready.ready nineteen ready.spared store.closed c.in-Ok.ensures.calls in
    let same_room = c.in-Ok.ensures.room in
    let holds : file_size after.slots.room ≤ after.disk.room = omega (arith, ready.ready.holds, ends.2, same_room) in
    let long : length _ ≡ file_size after.slots.room
    = same_length store.slots.room (file_size store.slots.room) _ store.disk after.disk (firm_length (file_size store.slots.room) store.disk store.firm ready.long) c.in-Ok.ensures.moments
    ∙ ap file_size (sym same_room) in
    record {
      same = subst (λ (k : KeyId). SameInForce c.args.now (record { to = k; until = c.args.until } ∷ entries_of store.slots.slots.items) (entries_of after.slots.slots.items)) c.sized-to.ensures.key c.in-Ok.ensures.added;
      same_room = same_room;
      keeps = written_up after.slots.room after.slots.slots.items after.disk ends.1 holds after.slots.whole after.same long;
    }
