use Rattle.std.proofs.Common.{◌∙◌, ap, arith}
use Rattle.lease_disk.specs.MemDisk.{new_disk}
use Rattle.shutoff_filter.specs.FilterFile.{file_size}
use Rattle.aip_host.proofs.Filed.{format_serves, format_rests}
use Rattle.aip_host.proofs.guard.fresh_disk.Goals as goal

pub unreachable-requires : goal.unreachable-requires
unreachable-requires c =
    format_serves c.args.room c.in_ok-disk.disk c.in-Err.field-0
    (c.in_ok-disk.ensures.disk ∙ ap (λ n. new_disk n c.new.result.items) c.file_size.ensures.size ∙ ap (new_disk (file_size c.args.room)) c.new.ensures.items)
    c.in-Err.ensures.says c.in-Err.ensures.calls

pub returns : goal.returns
returns c = record {
  rest = format_rests c.args.room c.in_ok-disk.disk c.in-Ok.disk (omega arith)
      (c.in_ok-disk.ensures.disk ∙ ap (λ n. new_disk n c.new.result.items) c.file_size.ensures.size ∙ ap (new_disk (file_size c.args.room)) c.new.ensures.items)
      c.in-Ok.ensures.calls c.in-Ok.ensures.content;
}
