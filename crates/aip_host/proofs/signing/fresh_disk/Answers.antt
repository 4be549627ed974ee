use Rattle.std.proofs.Common.{◌≡◌, length, ◌∙◌, ap, arith}
use Rattle.lease_disk.specs.MemDisk.{new_disk}
use Rattle.lms_core.specs.Parameters.{levels_of}
use Rattle.aip_host.proofs.Fresh.{format_serves, format_rests}
use Rattle.aip_host.proofs.signing.fresh_disk.Goals as goal

pub unreachable-requires : goal.unreachable-requires
unreachable-requires c =
    let size : length c.id.result ≡ 16 = omega (arith, c.id.type_inv) in
    format_serves c.id.result c.levels-height.result c.in_ok-disk.disk c.in-Err.field-0 size
    (c.in_ok-disk.ensures.disk ∙ ap (λ n. new_disk n c.new.result.items) c.file_size.ensures.size ∙ ap (new_disk _) c.new.ensures.items)
    c.in-Err.ensures.says c.in-Err.ensures.calls

pub returns : goal.returns
returns c =
    let size : length c.id.result ≡ 16 = omega (arith, c.id.type_inv) in
    record {
      rest = format_rests c.args.tree.now c.id.result c.levels-height.result c.in_ok-disk.disk c.in-Ok.disk c.id.ensures (c.levels-height.ensures ∙ ap levels_of c.height.ensures) size
          (c.in_ok-disk.ensures.disk ∙ ap (λ n. new_disk n c.new.result.items) c.file_size.ensures.size ∙ ap (new_disk _) c.new.ensures.items)
          c.in-Ok.ensures.calls c.in-Ok.ensures.fresh;
    }
