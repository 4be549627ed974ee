use Rattle.aip_text.specs.Lines.{lines_of}
use Rattle.aip_io.specs.Lines.{left_of}
use Rattle.aip_records.proofs.Turning.{on_bytes}
use Rattle.aip_records.proofs.reading.take_line.Goals as goal

pub returns-in-Bytes-clause-told : goal.returns-in-Bytes-clause-told
returns-in-Bytes-clause-told g c =
    on_bytes (g.S.Shelf.text c.args.shelf.now c.args.name.now) c.args.domains.now (λ text. lines_of (left_of text c.args.lines.now)) (λ text. lines_of (left_of text c.next_written.new.lines))
    c.next_written.new.lines.line c.in-Bytes.bytes c.as_slice.result.now c.args.number c.args.registry.now c.publish.new.registry c.publish.result
    c.in-Bytes.ensures.told c.as_slice.ensures c.publish.ensures.told
