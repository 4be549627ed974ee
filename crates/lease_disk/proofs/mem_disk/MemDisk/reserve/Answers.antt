use Rattle.std.proofs.Common.{◌≡◌, ◌+◌, max, length, refl, ◌∙◌, ap, arith}
use Rattle.std.proofs.lemmas.Grind.{common_steps}
use Rattle.lease_disk.proofs.Kept.{reserved_view}
use Rattle.lease_disk.proofs.mem_disk.MemDisk.reserve.Goals as goal

pub returns-clause-ok : goal.returns-clause-ok
returns-clause-ok c =
    let marks = c.self.inside.marks.ok in
    let written = c.self.inside.written.ok in
    let entries : c.in_ok-entry_place.entry_place ≡ length c.self.inside.marks.items + c.args.calls = grind (arith, common_steps) in
    let bytes : c.in_ok-byte_place.byte_place ≡ length c.self.inside.written.items + c.args.bytes = grind (arith, common_steps) in
    reserved_view c.self.inside (record { base = c.self.inside.base; firm_marks = c.self.inside.firm_marks; firm_length = c.self.inside.firm_length; stop = c.self.inside.stop; content = c.self.inside.content; marks = c.reserve.new.self; written = c.reserve-2.new.self; calls = c.self.inside.calls; failing = c.self.inside.failing; room = c.self.inside.room; entry_place = c.max-self-inside.result; byte_place = c.max-self-inside-2.result; faults = c.self.inside.faults }) c.args.self.now c.args.calls c.args.bytes c.self.invariant c.self.view_is
    c.reserve.ensures.items c.reserve-2.ensures.items refl refl refl refl refl refl
    (c.max-self-inside.ensures ∙ ap (λ n. max c.self.inside.entry_place n) entries)
    (c.max-self-inside-2.ensures ∙ ap (λ n. max c.self.inside.byte_place n) bytes)
