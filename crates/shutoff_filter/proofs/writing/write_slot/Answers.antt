use Rattle.std.proofs.Common.{ℕ, List, is_ok, subst}
use Rattle.lease_disk.specs.Calls.{Ran, gated_calls}
use Rattle.shutoff_filter.specs.FilterFile.{open_gate, slot_start}
use Rattle.shutoff_filter.proofs.writing.write_slot.Goals as goal

pub returns-clause-calls : goal.returns-clause-calls
returns-clause-calls g c =
    let served = is_ok c.write_gated.result in
    subst (λ (body : List ℕ). Ran g.D.Disk.led c.args.disk.now (gated_calls (slot_start c.args.number) open_gate body) served c.write_gated.new.disk) c.entry_bytes-body.ensures.bytes
    (subst (λ n. Ran g.D.Disk.led c.args.disk.now (gated_calls n open_gate c.entry_bytes-body.result) served c.write_gated.new.disk) c.slot_start-start.ensures c.write_gated.ensures.calls)
