use Rattle.std.proofs.Common.{◌≡◌, ◌∙◌, length, arith, refl}
use Rattle.aip_io.proofs.Places.{cause_by}
use Rattle.aip_io.proofs.mem_shelf.MemShelfShelf.read.Goals as goal

pub returns-then-is_failing-clause-fails : goal.returns-then-is_failing-clause-fails
returns-then-is_failing-clause-fails c =
    let all : c.len.result ≡ length c.deref.result.now = omega arith in
    let cause = cause_by (c.if-is_failing.ensures.0 refl) (λ (is : c.place_of-place.result ≡ c.len.result). c.place_of-place.ensures.absent.0 (is ∙ all)) in
    let shown = rw (c.deref-2.ensures.value, c.deref.ensures.value, c.one_more-self-inside.ensures) at cause in
    (λ _. rw (← c.self.view_is) shown, λ _. refl)
