use Rattle.std.proofs.Common.{◌≡◌, ◌+◌, ◌&&◌, nat_lt, nat_le, length, sym, ◌∙◌, ap, arith}
use Rattle.std.proofs.lemmas.Bool.Decides.{nat_tests}
use Rattle.lease_disk.specs.MemDisk.{has_place}
use Rattle.lease_disk.proofs.Kept.{place_of}
use Rattle.lease_disk.proofs.mem_disk.MemDisk.has_place.Goals as goal

pub returns-then-len-self : goal.returns-then-len-self
returns-then-len-self c =
    let place : has_place c.args.self.now c.args.count ≡ (nat_lt (length c.self.inside.marks.items) c.self.inside.entry_place && nat_le (length c.self.inside.written.items + c.args.count) c.self.inside.byte_place) =
    ap (λ d. has_place d c.args.count) (sym c.self.view_is) ∙ place_of c.self.inside c.self.invariant c.args.count in
    let marks = c.self.inside.marks.ok in
    let written = c.self.inside.written.ok in
    let fits = c.self.invariant.bytes_fit in
    record { place = grind (arith, nat_tests) }

pub returns-else-len-self : goal.returns-else-len-self
returns-else-len-self c =
    let place : has_place c.args.self.now c.args.count ≡ (nat_lt (length c.self.inside.marks.items) c.self.inside.entry_place && nat_le (length c.self.inside.written.items + c.args.count) c.self.inside.byte_place) =
    ap (λ d. has_place d c.args.count) (sym c.self.view_is) ∙ place_of c.self.inside c.self.invariant c.args.count in
    let marks = c.self.inside.marks.ok in
    record { place = grind (arith, nat_tests) }
