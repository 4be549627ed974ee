use Rattle.std.proofs.Common.{◌≡◌, ◌+◌, ◌^◌, length, sym, ap, subst, is_ok, arith}
use Rattle.lease_disk.specs.Calls.{Ran, ran_then}
use Rattle.lease_disk.specs.Shows.{zeros_of}
use Rattle.leaf_lease.specs.LeaseFile.{file_size, fresh_rest}
use Rattle.leaf_lease.specs.Format.{shut_calls, fill_calls}
use Rattle.leaf_lease.proofs.Moments.{on_ok_then, fresh_told, fill_from, fill_lengths, fill_fresh, fill_refused}
use Rattle.leaf_lease.proofs.formatting.write_fresh.Goals as goal

pub lay_rest-requires : goal.lay_rest-requires
lay_rest-requires g c = record {
  zeros = zeros_of 1042 c.split_at_mut-rest.result.0.now _ (17 + 2 ^ c.args.height) c.split_at_mut-rest.ensures.front (omega (arith, c.leaf_count.ensures.count)) (omega (arith, c.leaf_count.ensures.count, c.leaf_count.ensures.most));
}

pub returns-clause-size : goal.returns-clause-size
returns-clause-size g c = omega (arith, sym (ap length c.lay_rest.ensures.rest), c.lay_rest.auto.rest, c.split_at_mut-rest.ensures.front_len, c.leaf_count.ensures.count)

pub returns-in_err-shut_gate-clause-size : goal.returns-in_err-shut_gate-clause-size
returns-in_err-shut_gate-clause-size g c = omega (arith, sym (ap length c.lay_rest.ensures.rest), c.lay_rest.auto.rest, c.split_at_mut-rest.ensures.front_len, c.leaf_count.ensures.count)

pub returns-clause-content : goal.returns-clause-content
returns-clause-content g c =
    let size : 1 + length c.lay_rest.new.rest ≡ file_size c.args.height = omega (arith, c.lay_rest.auto.rest, c.split_at_mut-rest.ensures.front_len, c.leaf_count.ensures.count) in
    on_ok_then c.fill.result _ _ c.fill.ensures.content (λ content.
    fresh_told (g.D.Disk.now c.args.disk.now) (g.D.Disk.now c.shut_gate.new.disk) (g.D.Disk.now c.fill.new.disk) c.args.shut c.args.id c.args.height c.lay_rest.new.rest c.lay_rest.ensures.rest size c.in_ok-shut_gate.ensures.content content)

pub returns-clause-from : goal.returns-clause-from
returns-clause-from g c =
    fill_from g.D.Disk.now g.D.Disk.may_leave g.D.Disk.clock g.D.Disk.during g.met.D.Disk.counts_now g.met.D.Disk.only_now g.met.D.Disk.content_is_image
    c.args.disk.now c.shut_gate.new.disk c.fill.new.disk c.lay_rest.new.rest c.shut_gate.ensures.moments c.fill.ensures.moments

pub returns-clause-lengths : goal.returns-clause-lengths
returns-clause-lengths g c = λ longest all.
    let size : 1 + length c.lay_rest.new.rest ≡ file_size c.args.height = omega (arith, c.lay_rest.auto.rest, c.split_at_mut-rest.ensures.front_len, c.leaf_count.ensures.count) in
    fill_lengths g.D.Disk.now g.D.Disk.may_leave g.D.Disk.clock g.D.Disk.during g.met.D.Disk.counts_now g.met.D.Disk.only_now g.met.D.Disk.content_is_image
    c.args.disk.now c.shut_gate.new.disk c.fill.new.disk c.lay_rest.new.rest longest (file_size c.args.height) size all c.shut_gate.ensures.moments c.fill.ensures.moments

pub returns-clause-fresh : goal.returns-clause-fresh
returns-clause-fresh g c = λ file told firm by.
    let size : 1 + length c.lay_rest.new.rest ≡ file_size c.args.height = omega (arith, c.lay_rest.auto.rest, c.split_at_mut-rest.ensures.front_len, c.leaf_count.ensures.count) in
    fill_fresh g.D.Disk.now g.D.Disk.may_leave g.D.Disk.clock g.D.Disk.during g.met.D.Disk.counts_now g.met.D.Disk.only_now g.met.D.Disk.content_is_image
    c.args.disk.now c.shut_gate.new.disk c.fill.new.disk c.args.shut file c.args.id c.args.height c.lay_rest.new.rest c.lay_rest.ensures.rest size told firm by
    c.in_ok-shut_gate.ensures.content c.in_ok-shut_gate.ensures.firm c.shut_gate.ensures.left_open c.shut_gate.ensures.moments c.fill.ensures.moments

pub returns-in_err-shut_gate-clause-fresh : goal.returns-in_err-shut_gate-clause-fresh
returns-in_err-shut_gate-clause-fresh g c = λ file told firm by.
    fill_refused g.D.Disk.now g.D.Disk.may_leave g.D.Disk.clock g.D.Disk.during g.met.D.Disk.counts_now g.met.D.Disk.only_now g.met.D.Disk.content_is_image
    c.args.disk.now c.shut_gate.new.disk c.args.shut file c.args.id c.args.height told firm by c.shut_gate.ensures.moments c.shut_gate.ensures.left_open

pub returns-clause-calls : goal.returns-clause-calls
returns-clause-calls g c =
    ran_then g.D.Disk.led c.args.disk.now c.shut_gate.new.disk c.fill.new.disk (shut_calls c.args.shut) (fill_calls (fresh_rest c.args.id c.args.height)) (is_ok c.fill.result)
    c.in_ok-shut_gate.ensures.calls
    (subst (λ rest. Ran g.D.Disk.led c.shut_gate.new.disk (fill_calls rest) (is_ok c.fill.result) c.fill.new.disk) c.lay_rest.ensures.rest c.fill.ensures.calls)
