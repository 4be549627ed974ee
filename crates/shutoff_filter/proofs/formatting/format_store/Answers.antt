use Rattle.std.proofs.Common.{◌≡◌, ◌≤◌, [], ◌∷◌, refl, length, max, true, false, sym, ap, subst, arith}
use Rattle.std.specs.Prelude.{if◌then◌else◌}
use Rattle.lease_disk.specs.Call.{Len, Read}
use Rattle.lease_disk.specs.Calls.{Ran, ran_then}
use Rattle.lease_disk.specs.Moments.{at_start, looks_on, joined}
use Rattle.lease_disk.specs.Shows.{shows_of}
use Rattle.shutoff_filter.specs.FilterFile.{file_size, is_open}
use Rattle.shutoff_filter.specs.Format.{fresh_calls}
use Rattle.shutoff_filter.proofs.Fresh.{closed_is, formatted_front, open_is}
use Rattle.shutoff_filter.proofs.formatting.format_store.Goals as goal

pub returns-in-Formatted-clause-says : goal.returns-in-Formatted-clause-says
returns-in-Formatted-clause-says g c = λ file told. c.in-Formatted.ensures.says file (shows_of 7199 file _ c.inspect.new.into c.in-Ok.seen.count 3 refl (c.in-Ok.ensures.count file told) (c.in-Ok.ensures.bytes file told))

pub returns-in-Formatted-clause-lengths : goal.returns-in-Formatted-clause-lengths
returns-in-Formatted-clause-lengths g c = λ longest all.
    looks_on g.D.Disk.may_leave g.D.Disk.clock g.D.Disk.during g.D.Disk.now c.args.disk c.args.disk c.inspect.new.disk (λ image. length image ≤ max longest (file_size c.args.room)) (at_start g.D.Disk.may_leave g.D.Disk.clock g.D.Disk.during c.args.disk (λ image. length image ≤ max longest (file_size c.args.room)) (g.met.D.Disk.only_now c.args.disk) (λ image left. omega (arith, all image left))) c.in-Ok.ensures.looks

pub returns-in-Formatted-clause-calls : goal.returns-in-Formatted-clause-calls
returns-in-Formatted-clause-calls g c = λ file told.
    let says = c.in-Formatted.ensures.says file (shows_of 7199 file _ c.inspect.new.into c.in-Ok.seen.count 3 refl (c.in-Ok.ensures.count file told) (c.in-Ok.ensures.bytes file told)) in
    let tail : [] ≡ (if is_open file then [] else fresh_calls c.args.room) = sym (ap (λ b. if b then [] else fresh_calls c.args.room) (open_is file says.0)) in
    subst (λ calls. Ran g.D.Disk.led c.args.disk (Len ∷ Read 0 3 ∷ calls) true c.inspect.new.disk) tail c.in-Ok.ensures.calls

pub returns-in-Ok-write_fresh-clause-says : goal.returns-in-Ok-write_fresh-clause-says
returns-in-Ok-write_fresh-clause-says g c = λ file told. c.in-Unformatted.ensures.says file (shows_of 7199 file _ c.inspect.new.into c.in-Ok.seen.count 3 refl (c.in-Ok.ensures.count file told) (c.in-Ok.ensures.bytes file told))

pub returns-in-Ok-write_fresh-clause-fresh : goal.returns-in-Ok-write_fresh-clause-fresh
returns-in-Ok-write_fresh-clause-fresh g c = λ image left.
    formatted_front (g.D.Disk.now c.inspect.new.disk) (g.D.Disk.now c.write_fresh.new.disk) c.args.room image c.in-Ok-write_fresh.ensures.content (c.in-Ok-write_fresh.ensures.firm image left)

pub returns-in-Ok-write_fresh-clause-lengths : goal.returns-in-Ok-write_fresh-clause-lengths
returns-in-Ok-write_fresh-clause-lengths g c = λ longest all.
    joined g.D.Disk.may_leave g.D.Disk.clock g.D.Disk.during c.args.disk c.inspect.new.disk c.write_fresh.new.disk (λ image. length image ≤ max longest (file_size c.args.room))
    (looks_on g.D.Disk.may_leave g.D.Disk.clock g.D.Disk.during g.D.Disk.now c.args.disk c.args.disk c.inspect.new.disk (λ image. length image ≤ max longest (file_size c.args.room)) (at_start g.D.Disk.may_leave g.D.Disk.clock g.D.Disk.during c.args.disk (λ image. length image ≤ max longest (file_size c.args.room)) (g.met.D.Disk.only_now c.args.disk) (λ image left. omega (arith, all image left))) c.in-Ok.ensures.looks)
    (c.write_fresh.ensures.lengths longest (λ image left. all image ((c.in-Ok.ensures.looks.same_images image).0 left)))

pub returns-in-Ok-write_fresh-clause-calls : goal.returns-in-Ok-write_fresh-clause-calls
returns-in-Ok-write_fresh-clause-calls g c = λ file told.
    let says = c.in-Unformatted.ensures.says file (shows_of 7199 file _ c.inspect.new.into c.in-Ok.seen.count 3 refl (c.in-Ok.ensures.count file told) (c.in-Ok.ensures.bytes file told)) in
    let tail : fresh_calls c.args.room ≡ (if is_open file then [] else fresh_calls c.args.room) = sym (ap (λ b. if b then [] else fresh_calls c.args.room) (closed_is file says)) in
    subst (λ calls. Ran g.D.Disk.led c.args.disk (Len ∷ Read 0 3 ∷ calls) true c.write_fresh.new.disk) tail
    (ran_then g.D.Disk.led c.args.disk c.inspect.new.disk c.write_fresh.new.disk (Len ∷ Read 0 3 ∷ []) (fresh_calls c.args.room) true c.in-Ok.ensures.calls c.in-Ok-write_fresh.ensures.calls)

pub returns-in-Err-write_fresh-clause-lengths : goal.returns-in-Err-write_fresh-clause-lengths
returns-in-Err-write_fresh-clause-lengths g c = λ longest all.
    joined g.D.Disk.may_leave g.D.Disk.clock g.D.Disk.during c.args.disk c.inspect.new.disk c.write_fresh.new.disk (λ image. length image ≤ max longest (file_size c.args.room))
    (looks_on g.D.Disk.may_leave g.D.Disk.clock g.D.Disk.during g.D.Disk.now c.args.disk c.args.disk c.inspect.new.disk (λ image. length image ≤ max longest (file_size c.args.room)) (at_start g.D.Disk.may_leave g.D.Disk.clock g.D.Disk.during c.args.disk (λ image. length image ≤ max longest (file_size c.args.room)) (g.met.D.Disk.only_now c.args.disk) (λ image left. omega (arith, all image left))) c.in-Ok.ensures.looks)
    (c.write_fresh.ensures.lengths longest (λ image left. all image ((c.in-Ok.ensures.looks.same_images image).0 left)))

pub returns-in-Err-write_fresh-clause-calls : goal.returns-in-Err-write_fresh-clause-calls
returns-in-Err-write_fresh-clause-calls g c = λ file told.
    let says = c.in-Unformatted.ensures.says file (shows_of 7199 file _ c.inspect.new.into c.in-Ok.seen.count 3 refl (c.in-Ok.ensures.count file told) (c.in-Ok.ensures.bytes file told)) in
    let tail : fresh_calls c.args.room ≡ (if is_open file then [] else fresh_calls c.args.room) = sym (ap (λ b. if b then [] else fresh_calls c.args.room) (closed_is file says)) in
    subst (λ calls. Ran g.D.Disk.led c.args.disk (Len ∷ Read 0 3 ∷ calls) false c.write_fresh.new.disk) tail
    (ran_then g.D.Disk.led c.args.disk c.inspect.new.disk c.write_fresh.new.disk (Len ∷ Read 0 3 ∷ []) (fresh_calls c.args.room) false c.in-Ok.ensures.calls c.in-Err-write_fresh.ensures.calls)
