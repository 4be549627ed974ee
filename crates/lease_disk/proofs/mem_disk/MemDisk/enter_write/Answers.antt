use Rattle.std.proofs.Common.{length, sym, ◌∙◌, ap, arith, if◌then◌else◌, length-append}
use Rattle.std.proofs.lemmas.List.{length_push}
use Rattle.lease_disk.specs.Images.{overwritten}
use Rattle.lease_disk.specs.Past.{content_of, synced_of, is_written_at, kept_bytes}
use Rattle.lease_disk.specs.MemDisk.{DiskState}
use Rattle.lease_disk.proofs.Kept.{fits_of, unpacked-write, covered-write}
use Rattle.lease_disk.proofs.Bytes.{over_within}
use Rattle.lease_disk.proofs.mem_disk.MemDisk.enter_write.Goals as goal

pub push_reserved-requires : goal.push_reserved-requires
push_reserved-requires c =
    let fits = fits_of c.self.inside c.args.self.now c.self.invariant c.self.view_is (length c.args.bytes.now) c.requires.place in
    omega (arith, fits.0, c.self.invariant.entry_room, c.self.inside.marks.ok)

pub invariant_of-self : goal.invariant_of-self
invariant_of-self c =
    let fits = fits_of c.self.inside c.args.self.now c.self.invariant c.self.view_is (length c.args.bytes.now) c.requires.place in
    let kept = c.self.invariant in
    let new = c.args.bytes.now in
    let base = c.self.inside.base.items in
    let joined = unpacked-write c.self.inside.marks.items c.push_reserved.new.self.items c.self.inside.written.items new c.append.new.written.items c.args.at c.args.done c.push_reserved.ensures.items c.append.ensures.items in
    let longer = ap length c.push_reserved.ensures.items ∙ length_push c.self.inside.marks.items _ in
    let more = ap length c.append.ensures.items ∙ length-append c.self.inside.written.items new in
    let room = ap (λ (d : DiskState). d.room) c.self.view_is in
    record {
      content = c.write_over.ensures.items ∙ ap (λ l. if c.args.done then overwritten l c.args.at new else l) kept.content ∙ ap (content_of base) (sym joined);
      bytes = more ∙ omega (arith, kept.bytes) ∙ ap kept_bytes (sym joined);
      within = over_within c.args.done c.self.inside.content.items c.args.at new c.write_over.new.content.items c.self.inside.room c.write_over.ensures.items kept.within (omega (arith, c.requires.room, room));
      content_room = omega (arith, kept.content_room, c.write_over.ensures.capacity);
      base_room = kept.base_room;
      firm_marks = omega (arith, longer, kept.firm_marks);
      firm_length = kept.firm_length ∙ ap (λ p. length (synced_of base p)) (sym joined);
      written = λ k. ap (λ p. is_written_at p k) joined ∙ covered-write c.self.inside kept c.push_reserved.new.self.items c.args.at new c.args.done k c.push_reserved.ensures.items;
      entries_fit = omega (arith, longer, fits.0);
      entry_room = omega (arith, kept.entry_room, c.push_reserved.ensures.capacity);
      bytes_fit = omega (arith, more, fits.1);
      byte_room = omega (arith, kept.byte_room, c.append.ensures.capacity);
    }
