use Rattle.std.proofs.Common.{◌≡◌, ◌+◌, ◌*◌, [], ◌∷◌, length, subst, is_ok, arith}
use Rattle.lease_disk.specs.Calls.{Ran, firm_calls, gated_calls, ran_then}
use Rattle.lease_disk.specs.Shows.{zeros_of}
use Rattle.shutoff_filter.specs.FilterFile.{file_size, open_gate}
use Rattle.shutoff_filter.specs.Format.{fresh_rest}
use Rattle.shutoff_filter.proofs.Fresh.{fresh_lengths, fresh_told, on_ok_then, shut_lengths}
use Rattle.shutoff_filter.proofs.formatting.write_fresh.Goals as goal

pub lay_rest-requires : goal.lay_rest-requires
lay_rest-requires g c = record {
  zeros = zeros_of 7199 c.split_at_mut-rest.result.0.now _ (2 + 28 * (c.args.room + 1)) c.split_at_mut-rest.ensures.front (omega (arith, c.file_size.ensures.size)) (omega (arith, c.file_size.ensures.size, c.file_size.ensures.most));
}

pub returns-clause-content : goal.returns-clause-content
returns-clause-content g c =
    on_ok_then c.write_gated.result _ _ c.write_gated.ensures.content (λ content.
    fresh_told (g.D.Disk.now c.args.disk.now) (g.D.Disk.now c.write_firm.new.disk) (g.D.Disk.now c.write_gated.new.disk) c.args.room c.lay_rest.new.rest c.lay_rest.ensures.rest c.in_ok-write_firm.ensures.content content)

pub returns-clause-lengths : goal.returns-clause-lengths
returns-clause-lengths g c = λ longest all.
    let size : 1 + length c.lay_rest.new.rest ≡ file_size c.args.room = omega (arith, c.lay_rest.auto.rest, c.split_at_mut-rest.ensures.front_len, c.file_size.ensures.size) in
    fresh_lengths g.D.Disk.now g.D.Disk.may_leave g.D.Disk.clock g.D.Disk.during g.met.D.Disk.counts_now g.met.D.Disk.content_is_image
    c.args.disk.now c.write_firm.new.disk c.write_gated.new.disk c.lay_rest.new.rest longest (file_size c.args.room) size all c.write_firm.ensures.moments c.write_gated.ensures.moments

pub returns-in_err-write_firm-clause-lengths : goal.returns-in_err-write_firm-clause-lengths
returns-in_err-write_firm-clause-lengths g c = λ longest all.
    shut_lengths g.D.Disk.now g.D.Disk.may_leave g.D.Disk.clock g.D.Disk.during g.met.D.Disk.counts_now g.met.D.Disk.content_is_image
    c.args.disk.now c.write_firm.new.disk longest (file_size c.args.room) (omega arith) all c.write_firm.ensures.moments

pub returns-clause-calls : goal.returns-clause-calls
returns-clause-calls g c =
    ran_then g.D.Disk.led c.args.disk.now c.write_firm.new.disk c.write_gated.new.disk (firm_calls 0 (0 ∷ [])) (gated_calls 0 open_gate (fresh_rest c.args.room)) (is_ok c.write_gated.result)
    c.in_ok-write_firm.ensures.calls
    (subst (λ rest. Ran g.D.Disk.led c.write_firm.new.disk (gated_calls 0 open_gate rest) (is_ok c.write_gated.result) c.write_gated.new.disk) c.lay_rest.ensures.rest c.write_gated.ensures.calls)
