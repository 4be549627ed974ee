use Rattle.std.proofs.Common.{◌≡◌, length, sym, ◌∙◌, ap, arith}
use Rattle.std.proofs.lemmas.List.{length_push}
use Rattle.lease_disk.specs.Past.{content_of, synced_of, is_written_at, kept_bytes}
use Rattle.lease_disk.proofs.Kept.{fits_of, unpacked-sync, covered-none}
use Rattle.lease_disk.proofs.mem_disk.MemDisk.enter_sync.Goals as goal

pub push_reserved-requires : goal.push_reserved-requires
push_reserved-requires c =
    let fits = fits_of c.self.inside c.args.self.now c.self.invariant c.self.view_is 0 c.requires.place in
    omega (arith, fits.0, c.self.invariant.entry_room, c.self.inside.marks.ok)

pub invariant_of-self : goal.invariant_of-self
invariant_of-self c =
    let fits = fits_of c.self.inside c.args.self.now c.self.invariant c.self.view_is 0 c.requires.place in
    let kept = c.self.invariant in
    let base = c.self.inside.base.items in
    let marks = c.push_reserved.new.self.items in
    let joined = unpacked-sync c.self.inside.marks.items marks c.self.inside.written.items c.push_reserved.ensures.items in
    let length_is : c.len-self-inside-2.result ≡ length c.self.inside.content.items = omega arith in
    let longer = ap length c.push_reserved.ensures.items ∙ length_push c.self.inside.marks.items _ in
    record {
      content = kept.content ∙ ap (content_of base) (sym joined);
      bytes = kept.bytes ∙ ap kept_bytes (sym joined);
      within = kept.within;
      content_room = kept.content_room;
      base_room = kept.base_room;
      firm_marks = omega arith;
      firm_length = length_is ∙ ap length kept.content ∙ ap (λ p. length (synced_of base p)) (sym joined);
      written = λ k. ap (λ p. is_written_at p k) joined ∙ sym (covered-none k marks c.len-self-inside.result (omega arith));
      entries_fit = omega (arith, longer, fits.0);
      entry_room = omega (arith, kept.entry_room, c.push_reserved.ensures.capacity);
      bytes_fit = kept.bytes_fit;
      byte_room = omega (arith, kept.byte_room);
    }
