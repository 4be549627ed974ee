use Rattle.std.proofs.Common.{◌≡◌, inl, inr, true, ◌+◌, ◌^◌, ◌≤◌, [], ◌∷◌, length, sym, ◌∙◌, subst, arith}
use Rattle.lease_disk.specs.Call.{Len, Read, Sync}
use Rattle.lease_disk.specs.Calls.{Ran}
use Rattle.lease_disk.specs.Shows.{shows_of}
use Rattle.leaf_lease.proofs.Files.{gone_below}
use Rattle.leaf_lease.proofs.opening.open.Goals as goal

pub invariant_of-result : goal.invariant_of-result
invariant_of-result g c =
    let tall : c.args.height ≤ 10 = elim c.requires.height [ inl five ↦ omega arith | inr ten ↦ omega arith ] in
    record {
      tall = tall;
      within = c.in-Free.ensures.within;
      ready = λ file told.
          let first = sym c.in-Ok.ensures.content ∙ told in
          c.in-Free.ensures.says file (shows_of 1042 file c.split_at_mut-bytes.result.0.now c.inspect_firm.new.into c.in-Ok.seen.count _ c.split_at_mut-bytes.ensures.front (c.in-Ok.ensures.count file first) (c.in-Ok.ensures.bytes file first));
    }

pub returns-in-Free-clause-calls : goal.returns-in-Free-clause-calls
returns-in-Free-clause-calls g c =
    let size : length c.split_at_mut-bytes.result.0.now ≡ 18 + 2 ^ c.args.height = omega (arith, c.split_at_mut-bytes.ensures.front_len, c.file_size.ensures.size) in
    subst (λ n. Ran g.D.Disk.led c.args.disk (Sync ∷ Len ∷ Read 0 n ∷ []) true c.inspect_firm.new.disk) size c.in-Ok.ensures.calls

pub returns-in-Unformatted-clause-calls : goal.returns-in-Unformatted-clause-calls
returns-in-Unformatted-clause-calls g c =
    let size : length c.split_at_mut-bytes.result.0.now ≡ 18 + 2 ^ c.args.height = omega (arith, c.split_at_mut-bytes.ensures.front_len, c.file_size.ensures.size) in
    subst (λ n. Ran g.D.Disk.led c.args.disk (Sync ∷ Len ∷ Read 0 n ∷ []) true c.inspect_firm.new.disk) size c.in-Ok.ensures.calls

pub returns-in-OtherKey-clause-calls : goal.returns-in-OtherKey-clause-calls
returns-in-OtherKey-clause-calls g c =
    let size : length c.split_at_mut-bytes.result.0.now ≡ 18 + 2 ^ c.args.height = omega (arith, c.split_at_mut-bytes.ensures.front_len, c.file_size.ensures.size) in
    subst (λ n. Ran g.D.Disk.led c.args.disk (Sync ∷ Len ∷ Read 0 n ∷ []) true c.inspect_firm.new.disk) size c.in-Ok.ensures.calls

pub returns-in-Unformatted-clause-says : goal.returns-in-Unformatted-clause-says
returns-in-Unformatted-clause-says g c = λ file told.
    let says = c.in-Unformatted.ensures.says file (shows_of 1042 file c.split_at_mut-bytes.result.0.now c.inspect_firm.new.into c.in-Ok.seen.count _ c.split_at_mut-bytes.ensures.front (c.in-Ok.ensures.count file told) (c.in-Ok.ensures.bytes file told)) in
    (c.in-Ok.ensures.length file told, says.0, says.1)

pub returns-in-OtherKey-clause-says : goal.returns-in-OtherKey-clause-says
returns-in-OtherKey-clause-says g c = λ file told.
    c.in-OtherKey.ensures.says file (shows_of 1042 file c.split_at_mut-bytes.result.0.now c.inspect_firm.new.into c.in-Ok.seen.count _ c.split_at_mut-bytes.ensures.front (c.in-Ok.ensures.count file told) (c.in-Ok.ensures.bytes file told))

pub returns-in-Free-clause-none_twice : goal.returns-in-Free-clause-none_twice
returns-in-Free-clause-none_twice g c = λ file told.
    gone_below c.args.id c.args.height c.in-Free.next file
    (c.in-Free.ensures.says file (shows_of 1042 file c.split_at_mut-bytes.result.0.now c.inspect_firm.new.into c.in-Ok.seen.count _ c.split_at_mut-bytes.ensures.front (c.in-Ok.ensures.count file told) (c.in-Ok.ensures.bytes file told)))
