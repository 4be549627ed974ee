use Rattle.std.proofs.Common.{◌≡◌, true, [], ◌∷◌, length, refl, sym, ◌∙◌, subst, arith}
use Rattle.lease_disk.specs.Call.{Len, Read, Sync}
use Rattle.lease_disk.specs.Calls.{Ran}
use Rattle.lease_disk.specs.Shows.{shows_of}
use Rattle.shutoff_filter.specs.FilterFile.{file_size}
use Rattle.shutoff_filter.proofs.Shown.{loaded}
use Rattle.shutoff_filter.proofs.store.FilterStore.open.Goals as goal

pub invariant_of-result : goal.invariant_of-result
invariant_of-result g c = record {
  firm = c.in-Ok.ensures.firm;
  same = λ file told.
      let first = sym c.in-Ok.ensures.content ∙ told in
      let shows = shows_of 7199 file c.split_at_mut-bytes.result.0.now c.inspect_firm.new.into c.in-Ok.seen.count _ c.split_at_mut-bytes.ensures.front (c.in-Ok.ensures.count file first) (c.in-Ok.ensures.bytes file first) in
      loaded file c.inspect_firm.new.into c.in-Ok.seen.count shows c.args.slots.room c.read_slots.new.slots.items (omega (arith, c.split_at_mut-bytes.ensures.front_len, c.file_size.ensures.size, c.inspect_firm.auto.into)) (c.in-Whole.ensures.says file shows)
      (λ i below. c.read_slots.ensures.each i (omega (arith, below, c.args.slots.whole)));
  closed = tt;
}

pub returns-in-Whole-clause-calls : goal.returns-in-Whole-clause-calls
returns-in-Whole-clause-calls g c =
    let size : length c.split_at_mut-bytes.result.0.now ≡ file_size c.args.slots.room = omega (arith, c.split_at_mut-bytes.ensures.front_len, c.file_size.ensures.size) in
    subst (λ n. Ran g.D.Disk.led c.args.disk (Sync ∷ Len ∷ Read 0 n ∷ []) true c.inspect_firm.new.disk) size c.in-Ok.ensures.calls

pub returns-in-Unformatted-clause-calls : goal.returns-in-Unformatted-clause-calls
returns-in-Unformatted-clause-calls g c =
    let size : length c.split_at_mut-bytes.result.0.now ≡ file_size c.args.slots.room = omega (arith, c.split_at_mut-bytes.ensures.front_len, c.file_size.ensures.size) in
    subst (λ n. Ran g.D.Disk.led c.args.disk (Sync ∷ Len ∷ Read 0 n ∷ []) true c.inspect_firm.new.disk) size c.in-Ok.ensures.calls

pub returns-in-OtherRoom-clause-calls : goal.returns-in-OtherRoom-clause-calls
returns-in-OtherRoom-clause-calls g c =
    let size : length c.split_at_mut-bytes.result.0.now ≡ file_size c.args.slots.room = omega (arith, c.split_at_mut-bytes.ensures.front_len, c.file_size.ensures.size) in
    subst (λ n. Ran g.D.Disk.led c.args.disk (Sync ∷ Len ∷ Read 0 n ∷ []) true c.inspect_firm.new.disk) size c.in-Ok.ensures.calls

pub returns-in-Unformatted-clause-says : goal.returns-in-Unformatted-clause-says
returns-in-Unformatted-clause-says g c = λ file told.
    let says = c.in-Unformatted.ensures.says file (shows_of 7199 file c.split_at_mut-bytes.result.0.now c.inspect_firm.new.into c.in-Ok.seen.count _ c.split_at_mut-bytes.ensures.front (c.in-Ok.ensures.count file told) (c.in-Ok.ensures.bytes file told)) in
    (c.in-Ok.ensures.length file told, says.0, says.1)

pub returns-in-OtherRoom-clause-says : goal.returns-in-OtherRoom-clause-says
returns-in-OtherRoom-clause-says g c = λ file told.
    c.in-OtherRoom.ensures.says file (shows_of 7199 file c.split_at_mut-bytes.result.0.now c.inspect_firm.new.into c.in-Ok.seen.count _ c.split_at_mut-bytes.ensures.front (c.in-Ok.ensures.count file told) (c.in-Ok.ensures.bytes file told))

pub returns-in-Whole-clause-says : goal.returns-in-Whole-clause-says
returns-in-Whole-clause-says g c = λ file told.
    let shows = shows_of 7199 file c.split_at_mut-bytes.result.0.now c.inspect_firm.new.into c.in-Ok.seen.count _ c.split_at_mut-bytes.ensures.front (c.in-Ok.ensures.count file told) (c.in-Ok.ensures.bytes file told) in (
      refl,
      refl,
      loaded file c.inspect_firm.new.into c.in-Ok.seen.count shows c.args.slots.room c.read_slots.new.slots.items (omega (arith, c.split_at_mut-bytes.ensures.front_len, c.file_size.ensures.size, c.inspect_firm.auto.into)) (c.in-Whole.ensures.says file shows)
          (λ i below. c.read_slots.ensures.each i (omega (arith, below, c.args.slots.whole))),
    )
