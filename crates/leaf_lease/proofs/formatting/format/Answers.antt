use Rattle.std.proofs.Common.{◌≡◌, ◌≤◌, ℕ, List, [], ◌∷◌, ◌++◌, refl, length, max, true, false, sym, ◌∙◌, ap, subst, arith}
use Rattle.std.specs.Prelude.{if◌then◌else◌}
use Rattle.lease_disk.specs.Call.{Len, Read}
use Rattle.lease_disk.specs.Moments.{at_start, looks_on, joined, weakened}
use Rattle.lease_disk.specs.Calls.{Ran, ran_then}
use Rattle.leaf_lease.specs.LeaseFile.{IsOpen, file_size, fresh_rest, is_open, needs_shut}
use Rattle.leaf_lease.specs.Format.{shut_calls, fill_calls, IsFresh}
use Rattle.lease_disk.specs.Shows.{shows_of}
use Rattle.leaf_lease.proofs.Moments.{told_bytes, some_same, open_is, closed_is, closed_by, formatted_front}
use Rattle.leaf_lease.proofs.formatting.format.Goals as goal

pub returns-in-Formatted-clause-says : goal.returns-in-Formatted-clause-says
returns-in-Formatted-clause-says g c = λ file told. c.in-Formatted.ensures.says file (shows_of 1042 file _ c.inspect.new.into c.in-Ok.seen.count 18 refl (c.in-Ok.ensures.count file told) (c.in-Ok.ensures.bytes file told))

pub returns-in-Formatted-clause-keeps_gone : goal.returns-in-Formatted-clause-keeps_gone
returns-in-Formatted-clause-keeps_gone g c = λ opened leaf all image left. all image (g.met.D.Disk.only_now c.args.disk image ((c.in-Ok.ensures.looks.same_past (g.D.Disk.clock c.args.disk) image).0 left))

pub returns-in-Formatted-clause-keeps_bytes : goal.returns-in-Formatted-clause-keeps_bytes
returns-in-Formatted-clause-keeps_bytes g c = λ opened at byte all image left. all image (g.met.D.Disk.only_now c.args.disk image ((c.in-Ok.ensures.looks.same_past (g.D.Disk.clock c.args.disk) image).0 left))

pub returns-in-Formatted-clause-lengths : goal.returns-in-Formatted-clause-lengths
returns-in-Formatted-clause-lengths g c = λ longest all. looks_on g.D.Disk.may_leave g.D.Disk.clock g.D.Disk.during g.D.Disk.now c.args.disk c.args.disk c.inspect.new.disk (λ image. length image ≤ max longest (file_size c.args.height)) (at_start g.D.Disk.may_leave g.D.Disk.clock g.D.Disk.during c.args.disk (λ image. length image ≤ max longest (file_size c.args.height)) (g.met.D.Disk.only_now c.args.disk) (λ image left. omega (arith, all image left))) c.in-Ok.ensures.looks

pub returns-in-Formatted-clause-fresh_moments : goal.returns-in-Formatted-clause-fresh_moments
returns-in-Formatted-clause-fresh_moments g c = λ file told firm closed. absurd (closed (c.in-Formatted.ensures.says file (shows_of 1042 file _ c.inspect.new.into c.in-Ok.seen.count 18 refl (c.in-Ok.ensures.count file told) (c.in-Ok.ensures.bytes file told))).0)

pub returns-in-Formatted-clause-calls : goal.returns-in-Formatted-clause-calls
returns-in-Formatted-clause-calls g c = λ file told.
    let says = c.in-Formatted.ensures.says file (shows_of 1042 file _ c.inspect.new.into c.in-Ok.seen.count 18 refl (c.in-Ok.ensures.count file told) (c.in-Ok.ensures.bytes file told)) in
    let tail : [] ≡ (if is_open file then [] else shut_calls (needs_shut file) ++ fill_calls (fresh_rest c.args.id c.args.height)) =
    sym (ap (λ b. if b then [] else shut_calls (needs_shut file) ++ fill_calls (fresh_rest c.args.id c.args.height)) (open_is file says.0)) in
    subst (λ calls. Ran g.D.Disk.led c.args.disk (Len ∷ Read 0 18 ∷ calls) true c.inspect.new.disk) tail c.in-Ok.ensures.calls

pub returns-in-Ok-write_fresh-clause-says : goal.returns-in-Ok-write_fresh-clause-says
returns-in-Ok-write_fresh-clause-says g c = λ file told. (c.in-Unformatted.ensures.says file (shows_of 1042 file _ c.inspect.new.into c.in-Ok.seen.count 18 refl (c.in-Ok.ensures.count file told) (c.in-Ok.ensures.bytes file told))).0

pub returns-in-Ok-write_fresh-clause-fresh : goal.returns-in-Ok-write_fresh-clause-fresh
returns-in-Ok-write_fresh-clause-fresh g c = λ image left.
    formatted_front (g.D.Disk.now c.inspect.new.disk) (g.D.Disk.now c.write_fresh.new.disk) c.args.id c.args.height image c.write_fresh.ensures.size c.in-Ok-write_fresh.ensures.content (c.in-Ok-write_fresh.ensures.firm image left)

pub returns-in-Ok-write_fresh-clause-open_stays : goal.returns-in-Ok-write_fresh-clause-open_stays
returns-in-Ok-write_fresh-clause-open_stays g c = λ opened.
    joined g.D.Disk.may_leave g.D.Disk.clock g.D.Disk.during c.args.disk c.inspect.new.disk c.write_fresh.new.disk (g.D.Disk.may_leave c.args.disk)
    (looks_on g.D.Disk.may_leave g.D.Disk.clock g.D.Disk.during g.D.Disk.now c.args.disk c.args.disk c.inspect.new.disk (g.D.Disk.may_leave c.args.disk) (at_start g.D.Disk.may_leave g.D.Disk.clock g.D.Disk.during c.args.disk (g.D.Disk.may_leave c.args.disk) (g.met.D.Disk.only_now c.args.disk) (λ image left. left)) c.in-Ok.ensures.looks)
    (weakened g.D.Disk.may_leave g.D.Disk.clock g.D.Disk.during c.inspect.new.disk c.write_fresh.new.disk (λ image. (before : List ℕ) × g.D.Disk.may_leave c.inspect.new.disk before) (g.D.Disk.may_leave c.args.disk) c.write_fresh.ensures.from (λ image. (λ has.
    let start = (c.in-Ok.ensures.looks.same_images has.0).0 has.1 in
    let some = told_bytes (g.D.Disk.now c.args.disk) (g.met.D.Disk.untold c.args.disk (g.D.Disk.clock c.args.disk) has.0 (g.met.D.Disk.counts_now c.args.disk (g.D.Disk.clock c.args.disk) has.0 (omega arith) start)) in
    let file = some.0 in
    let told = some.1 in
    absurd ((c.in-Unformatted.ensures.says file (shows_of 1042 file _ c.inspect.new.into c.in-Ok.seen.count 18 refl (c.in-Ok.ensures.count file told) (c.in-Ok.ensures.bytes file told))).0 (opened file (g.met.D.Disk.content_is_image c.args.disk file told))))))

pub returns-in-Ok-write_fresh-clause-keeps_gone : goal.returns-in-Ok-write_fresh-clause-keeps_gone
returns-in-Ok-write_fresh-clause-keeps_gone g c = λ opened leaf all image left.
    all image ((joined g.D.Disk.may_leave g.D.Disk.clock g.D.Disk.during c.args.disk c.inspect.new.disk c.write_fresh.new.disk (g.D.Disk.may_leave c.args.disk)
    (looks_on g.D.Disk.may_leave g.D.Disk.clock g.D.Disk.during g.D.Disk.now c.args.disk c.args.disk c.inspect.new.disk (g.D.Disk.may_leave c.args.disk) (at_start g.D.Disk.may_leave g.D.Disk.clock g.D.Disk.during c.args.disk (g.D.Disk.may_leave c.args.disk) (g.met.D.Disk.only_now c.args.disk) (λ image left. left)) c.in-Ok.ensures.looks)
    (weakened g.D.Disk.may_leave g.D.Disk.clock g.D.Disk.during c.inspect.new.disk c.write_fresh.new.disk (λ image. (before : List ℕ) × g.D.Disk.may_leave c.inspect.new.disk before) (g.D.Disk.may_leave c.args.disk) c.write_fresh.ensures.from (λ image. (λ has.
    let start = (c.in-Ok.ensures.looks.same_images has.0).0 has.1 in
    let some = told_bytes (g.D.Disk.now c.args.disk) (g.met.D.Disk.untold c.args.disk (g.D.Disk.clock c.args.disk) has.0 (g.met.D.Disk.counts_now c.args.disk (g.D.Disk.clock c.args.disk) has.0 (omega arith) start)) in
    let file = some.0 in
    let told = some.1 in
    absurd ((c.in-Unformatted.ensures.says file (shows_of 1042 file _ c.inspect.new.into c.in-Ok.seen.count 18 refl (c.in-Ok.ensures.count file told) (c.in-Ok.ensures.bytes file told))).0 (opened file (g.met.D.Disk.content_is_image c.args.disk file told))))))).each image left)

pub returns-in-Ok-write_fresh-clause-keeps_bytes : goal.returns-in-Ok-write_fresh-clause-keeps_bytes
returns-in-Ok-write_fresh-clause-keeps_bytes g c = λ opened at byte all image left.
    all image ((joined g.D.Disk.may_leave g.D.Disk.clock g.D.Disk.during c.args.disk c.inspect.new.disk c.write_fresh.new.disk (g.D.Disk.may_leave c.args.disk)
    (looks_on g.D.Disk.may_leave g.D.Disk.clock g.D.Disk.during g.D.Disk.now c.args.disk c.args.disk c.inspect.new.disk (g.D.Disk.may_leave c.args.disk) (at_start g.D.Disk.may_leave g.D.Disk.clock g.D.Disk.during c.args.disk (g.D.Disk.may_leave c.args.disk) (g.met.D.Disk.only_now c.args.disk) (λ image left. left)) c.in-Ok.ensures.looks)
    (weakened g.D.Disk.may_leave g.D.Disk.clock g.D.Disk.during c.inspect.new.disk c.write_fresh.new.disk (λ image. (before : List ℕ) × g.D.Disk.may_leave c.inspect.new.disk before) (g.D.Disk.may_leave c.args.disk) c.write_fresh.ensures.from (λ image. (λ has.
    let start = (c.in-Ok.ensures.looks.same_images has.0).0 has.1 in
    let some = told_bytes (g.D.Disk.now c.args.disk) (g.met.D.Disk.untold c.args.disk (g.D.Disk.clock c.args.disk) has.0 (g.met.D.Disk.counts_now c.args.disk (g.D.Disk.clock c.args.disk) has.0 (omega arith) start)) in
    let file = some.0 in
    let told = some.1 in
    absurd ((c.in-Unformatted.ensures.says file (shows_of 1042 file _ c.inspect.new.into c.in-Ok.seen.count 18 refl (c.in-Ok.ensures.count file told) (c.in-Ok.ensures.bytes file told))).0 (opened file (g.met.D.Disk.content_is_image c.args.disk file told))))))).each image left)

pub returns-in-Ok-write_fresh-clause-lengths : goal.returns-in-Ok-write_fresh-clause-lengths
returns-in-Ok-write_fresh-clause-lengths g c = λ longest all.
    joined g.D.Disk.may_leave g.D.Disk.clock g.D.Disk.during c.args.disk c.inspect.new.disk c.write_fresh.new.disk (λ image. length image ≤ max longest (file_size c.args.height))
    (looks_on g.D.Disk.may_leave g.D.Disk.clock g.D.Disk.during g.D.Disk.now c.args.disk c.args.disk c.inspect.new.disk (λ image. length image ≤ max longest (file_size c.args.height)) (at_start g.D.Disk.may_leave g.D.Disk.clock g.D.Disk.during c.args.disk (λ image. length image ≤ max longest (file_size c.args.height)) (g.met.D.Disk.only_now c.args.disk) (λ image left. omega (arith, all image left))) c.in-Ok.ensures.looks)
    (c.write_fresh.ensures.lengths longest (λ image left. all image ((c.in-Ok.ensures.looks.same_images image).0 left)))

pub returns-in-Ok-write_fresh-clause-fresh_moments : goal.returns-in-Ok-write_fresh-clause-fresh_moments
returns-in-Ok-write_fresh-clause-fresh_moments g c = λ file told firm closed.
    let says = c.in-Unformatted.ensures.says file (shows_of 1042 file _ c.inspect.new.into c.in-Ok.seen.count 18 refl (c.in-Ok.ensures.count file told) (c.in-Ok.ensures.bytes file told)) in
    joined g.D.Disk.may_leave g.D.Disk.clock g.D.Disk.during c.args.disk c.inspect.new.disk c.write_fresh.new.disk (IsFresh c.args.id c.args.height)
    (looks_on g.D.Disk.may_leave g.D.Disk.clock g.D.Disk.during g.D.Disk.now c.args.disk c.args.disk c.inspect.new.disk (IsFresh c.args.id c.args.height) (at_start g.D.Disk.may_leave g.D.Disk.clock g.D.Disk.during c.args.disk (IsFresh c.args.id c.args.height) (g.met.D.Disk.only_now c.args.disk) (λ image left opened. absurd (closed (subst IsOpen (sym (some_same file image (sym told ∙ firm image left))) opened)))) c.in-Ok.ensures.looks)
    (c.write_fresh.ensures.fresh file (c.in-Ok.ensures.looks.same_content ∙ told)
    (λ image left. c.in-Ok.ensures.looks.same_content ∙ firm image ((c.in-Ok.ensures.looks.same_images image).0 left))
    (closed_by file c.in-Unformatted.shut closed says.1))

pub returns-in-Ok-write_fresh-clause-calls : goal.returns-in-Ok-write_fresh-clause-calls
returns-in-Ok-write_fresh-clause-calls g c = λ file told.
    let says = c.in-Unformatted.ensures.says file (shows_of 1042 file _ c.inspect.new.into c.in-Ok.seen.count 18 refl (c.in-Ok.ensures.count file told) (c.in-Ok.ensures.bytes file told)) in
    let tail : shut_calls c.in-Unformatted.shut ++ fill_calls (fresh_rest c.args.id c.args.height) ≡ (if is_open file then [] else shut_calls (needs_shut file) ++ fill_calls (fresh_rest c.args.id c.args.height)) =
    ap (λ shut. shut_calls shut ++ fill_calls (fresh_rest c.args.id c.args.height)) says.1
    ∙ sym (ap (λ b. if b then [] else shut_calls (needs_shut file) ++ fill_calls (fresh_rest c.args.id c.args.height)) (closed_is file says.0)) in
    subst (λ calls. Ran g.D.Disk.led c.args.disk (Len ∷ Read 0 18 ∷ calls) true c.write_fresh.new.disk) tail
    (ran_then g.D.Disk.led c.args.disk c.inspect.new.disk c.write_fresh.new.disk (Len ∷ Read 0 18 ∷ []) (shut_calls c.in-Unformatted.shut ++ fill_calls (fresh_rest c.args.id c.args.height)) true c.in-Ok.ensures.calls c.in-Ok-write_fresh.ensures.calls)

pub returns-in-Err-write_fresh-clause-open_stays : goal.returns-in-Err-write_fresh-clause-open_stays
returns-in-Err-write_fresh-clause-open_stays g c = λ opened.
    joined g.D.Disk.may_leave g.D.Disk.clock g.D.Disk.during c.args.disk c.inspect.new.disk c.write_fresh.new.disk (g.D.Disk.may_leave c.args.disk)
    (looks_on g.D.Disk.may_leave g.D.Disk.clock g.D.Disk.during g.D.Disk.now c.args.disk c.args.disk c.inspect.new.disk (g.D.Disk.may_leave c.args.disk) (at_start g.D.Disk.may_leave g.D.Disk.clock g.D.Disk.during c.args.disk (g.D.Disk.may_leave c.args.disk) (g.met.D.Disk.only_now c.args.disk) (λ image left. left)) c.in-Ok.ensures.looks)
    (weakened g.D.Disk.may_leave g.D.Disk.clock g.D.Disk.during c.inspect.new.disk c.write_fresh.new.disk (λ image. (before : List ℕ) × g.D.Disk.may_leave c.inspect.new.disk before) (g.D.Disk.may_leave c.args.disk) c.write_fresh.ensures.from (λ image. (λ has.
    let start = (c.in-Ok.ensures.looks.same_images has.0).0 has.1 in
    let some = told_bytes (g.D.Disk.now c.args.disk) (g.met.D.Disk.untold c.args.disk (g.D.Disk.clock c.args.disk) has.0 (g.met.D.Disk.counts_now c.args.disk (g.D.Disk.clock c.args.disk) has.0 (omega arith) start)) in
    let file = some.0 in
    let told = some.1 in
    absurd ((c.in-Unformatted.ensures.says file (shows_of 1042 file _ c.inspect.new.into c.in-Ok.seen.count 18 refl (c.in-Ok.ensures.count file told) (c.in-Ok.ensures.bytes file told))).0 (opened file (g.met.D.Disk.content_is_image c.args.disk file told))))))

pub returns-in-Err-write_fresh-clause-keeps_gone : goal.returns-in-Err-write_fresh-clause-keeps_gone
returns-in-Err-write_fresh-clause-keeps_gone g c = λ opened leaf all image left.
    all image ((joined g.D.Disk.may_leave g.D.Disk.clock g.D.Disk.during c.args.disk c.inspect.new.disk c.write_fresh.new.disk (g.D.Disk.may_leave c.args.disk)
    (looks_on g.D.Disk.may_leave g.D.Disk.clock g.D.Disk.during g.D.Disk.now c.args.disk c.args.disk c.inspect.new.disk (g.D.Disk.may_leave c.args.disk) (at_start g.D.Disk.may_leave g.D.Disk.clock g.D.Disk.during c.args.disk (g.D.Disk.may_leave c.args.disk) (g.met.D.Disk.only_now c.args.disk) (λ image left. left)) c.in-Ok.ensures.looks)
    (weakened g.D.Disk.may_leave g.D.Disk.clock g.D.Disk.during c.inspect.new.disk c.write_fresh.new.disk (λ image. (before : List ℕ) × g.D.Disk.may_leave c.inspect.new.disk before) (g.D.Disk.may_leave c.args.disk) c.write_fresh.ensures.from (λ image. (λ has.
    let start = (c.in-Ok.ensures.looks.same_images has.0).0 has.1 in
    let some = told_bytes (g.D.Disk.now c.args.disk) (g.met.D.Disk.untold c.args.disk (g.D.Disk.clock c.args.disk) has.0 (g.met.D.Disk.counts_now c.args.disk (g.D.Disk.clock c.args.disk) has.0 (omega arith) start)) in
    let file = some.0 in
    let told = some.1 in
    absurd ((c.in-Unformatted.ensures.says file (shows_of 1042 file _ c.inspect.new.into c.in-Ok.seen.count 18 refl (c.in-Ok.ensures.count file told) (c.in-Ok.ensures.bytes file told))).0 (opened file (g.met.D.Disk.content_is_image c.args.disk file told))))))).each image left)

pub returns-in-Err-write_fresh-clause-keeps_bytes : goal.returns-in-Err-write_fresh-clause-keeps_bytes
returns-in-Err-write_fresh-clause-keeps_bytes g c = λ opened at byte all image left.
    all image ((joined g.D.Disk.may_leave g.D.Disk.clock g.D.Disk.during c.args.disk c.inspect.new.disk c.write_fresh.new.disk (g.D.Disk.may_leave c.args.disk)
    (looks_on g.D.Disk.may_leave g.D.Disk.clock g.D.Disk.during g.D.Disk.now c.args.disk c.args.disk c.inspect.new.disk (g.D.Disk.may_leave c.args.disk) (at_start g.D.Disk.may_leave g.D.Disk.clock g.D.Disk.during c.args.disk (g.D.Disk.may_leave c.args.disk) (g.met.D.Disk.only_now c.args.disk) (λ image left. left)) c.in-Ok.ensures.looks)
    (weakened g.D.Disk.may_leave g.D.Disk.clock g.D.Disk.during c.inspect.new.disk c.write_fresh.new.disk (λ image. (before : List ℕ) × g.D.Disk.may_leave c.inspect.new.disk before) (g.D.Disk.may_leave c.args.disk) c.write_fresh.ensures.from (λ image. (λ has.
    let start = (c.in-Ok.ensures.looks.same_images has.0).0 has.1 in
    let some = told_bytes (g.D.Disk.now c.args.disk) (g.met.D.Disk.untold c.args.disk (g.D.Disk.clock c.args.disk) has.0 (g.met.D.Disk.counts_now c.args.disk (g.D.Disk.clock c.args.disk) has.0 (omega arith) start)) in
    let file = some.0 in
    let told = some.1 in
    absurd ((c.in-Unformatted.ensures.says file (shows_of 1042 file _ c.inspect.new.into c.in-Ok.seen.count 18 refl (c.in-Ok.ensures.count file told) (c.in-Ok.ensures.bytes file told))).0 (opened file (g.met.D.Disk.content_is_image c.args.disk file told))))))).each image left)

pub returns-in-Err-write_fresh-clause-lengths : goal.returns-in-Err-write_fresh-clause-lengths
returns-in-Err-write_fresh-clause-lengths g c = λ longest all.
    joined g.D.Disk.may_leave g.D.Disk.clock g.D.Disk.during c.args.disk c.inspect.new.disk c.write_fresh.new.disk (λ image. length image ≤ max longest (file_size c.args.height))
    (looks_on g.D.Disk.may_leave g.D.Disk.clock g.D.Disk.during g.D.Disk.now c.args.disk c.args.disk c.inspect.new.disk (λ image. length image ≤ max longest (file_size c.args.height)) (at_start g.D.Disk.may_leave g.D.Disk.clock g.D.Disk.during c.args.disk (λ image. length image ≤ max longest (file_size c.args.height)) (g.met.D.Disk.only_now c.args.disk) (λ image left. omega (arith, all image left))) c.in-Ok.ensures.looks)
    (c.write_fresh.ensures.lengths longest (λ image left. all image ((c.in-Ok.ensures.looks.same_images image).0 left)))

pub returns-in-Err-write_fresh-clause-fresh_moments : goal.returns-in-Err-write_fresh-clause-fresh_moments
returns-in-Err-write_fresh-clause-fresh_moments g c = λ file told firm closed.
    let says = c.in-Unformatted.ensures.says file (shows_of 1042 file _ c.inspect.new.into c.in-Ok.seen.count 18 refl (c.in-Ok.ensures.count file told) (c.in-Ok.ensures.bytes file told)) in
    joined g.D.Disk.may_leave g.D.Disk.clock g.D.Disk.during c.args.disk c.inspect.new.disk c.write_fresh.new.disk (IsFresh c.args.id c.args.height)
    (looks_on g.D.Disk.may_leave g.D.Disk.clock g.D.Disk.during g.D.Disk.now c.args.disk c.args.disk c.inspect.new.disk (IsFresh c.args.id c.args.height) (at_start g.D.Disk.may_leave g.D.Disk.clock g.D.Disk.during c.args.disk (IsFresh c.args.id c.args.height) (g.met.D.Disk.only_now c.args.disk) (λ image left opened. absurd (closed (subst IsOpen (sym (some_same file image (sym told ∙ firm image left))) opened)))) c.in-Ok.ensures.looks)
    (c.write_fresh.ensures.fresh file (c.in-Ok.ensures.looks.same_content ∙ told)
    (λ image left. c.in-Ok.ensures.looks.same_content ∙ firm image ((c.in-Ok.ensures.looks.same_images image).0 left))
    (closed_by file c.in-Unformatted.shut closed says.1))

pub returns-in-Err-write_fresh-clause-calls : goal.returns-in-Err-write_fresh-clause-calls
returns-in-Err-write_fresh-clause-calls g c = λ file told.
    let says = c.in-Unformatted.ensures.says file (shows_of 1042 file _ c.inspect.new.into c.in-Ok.seen.count 18 refl (c.in-Ok.ensures.count file told) (c.in-Ok.ensures.bytes file told)) in
    let tail : shut_calls c.in-Unformatted.shut ++ fill_calls (fresh_rest c.args.id c.args.height) ≡ (if is_open file then [] else shut_calls (needs_shut file) ++ fill_calls (fresh_rest c.args.id c.args.height)) =
    ap (λ shut. shut_calls shut ++ fill_calls (fresh_rest c.args.id c.args.height)) says.1
    ∙ sym (ap (λ b. if b then [] else shut_calls (needs_shut file) ++ fill_calls (fresh_rest c.args.id c.args.height)) (closed_is file says.0)) in
    subst (λ calls. Ran g.D.Disk.led c.args.disk (Len ∷ Read 0 18 ∷ calls) false c.write_fresh.new.disk) tail
    (ran_then g.D.Disk.led c.args.disk c.inspect.new.disk c.write_fresh.new.disk (Len ∷ Read 0 18 ∷ []) (shut_calls c.in-Unformatted.shut ++ fill_calls (fresh_rest c.args.id c.args.height)) false c.in-Ok.ensures.calls c.in-Err-write_fresh.ensures.calls)
