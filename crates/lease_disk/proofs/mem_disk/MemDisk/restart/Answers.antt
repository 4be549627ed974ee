use Rattle.std.proofs.Common.{◌≡◌, ◌++◌, length, drop, refl, ◌∙◌, ap, arith}
use Rattle.std.proofs.lemmas.List.{take_rest, take_at}
use Rattle.std.specs.Vec.{with_items}
use Rattle.lease_disk.specs.declared.stop.Stop.TheVariants.{Unarmed}
use Rattle.lease_disk.proofs.Kept.{left_kept, restarted_view}
use Rattle.lease_disk.proofs.Restart.{restart_firm, restart_met, restart_other}
use Rattle.lease_disk.proofs.mem_disk.MemDisk.restart.Goals as goal

pub returns-clause-disk : goal.returns-clause-disk
returns-clause-disk c =
    let disk = c.self.inside in
    let marks = take_rest c.deref.result.now disk.firm_marks ∙ ap (drop disk.firm_marks) c.deref.ensures.value in
    let left = left_kept disk c.self.invariant c.deref_mut.result.now c.leave.new.content _ c.deref_mut.ensures.value marks c.leave.auto.content c.leave.ensures.met c.leave.ensures.unmet in
    let whole : length c.leave.new.content ≡ disk.content.len = omega (arith, c.leave.auto.content, c.deref_mut.ensures.len) in
    let base = c.append.ensures.items ∙ ap (λ l. l ++ c.deref-2.result.now) c.clear.ensures.items ∙ c.deref-2.ensures.value ∙ take_at c.leave.new.content _ disk.content.len whole ∙ left in
    restarted_view disk (record { base = c.append.new.written; content = with_items disk.content c.leave.new.content; marks = c.clear-2.new.self; written = c.clear-3.new.self; firm_marks = 0; firm_length = c.len.result; calls = disk.calls; failing = disk.failing; stop = Unarmed; room = disk.room; entry_place = disk.entry_place; byte_place = disk.byte_place; faults = disk.faults }) c.args.self c.self.view_is base c.clear-2.ensures.items c.clear-3.ensures.items refl refl refl refl refl refl refl

pub returns-clause-firm : goal.returns-clause-firm
returns-clause-firm c = restart_firm c.args.self _ (returns-clause-disk c)

pub returns-clause-met : goal.returns-clause-met
returns-clause-met c = restart_met c.args.self _ (returns-clause-disk c)

pub returns-clause-other_bytes : goal.returns-clause-other_bytes
returns-clause-other_bytes c = restart_other c.args.self _ (returns-clause-disk c)
