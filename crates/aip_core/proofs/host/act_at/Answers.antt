use Rattle.std.proofs.Common.{◌≡◌, ◌∙◌, length, set, Some, sym, subst, ap}
use Rattle.std.specs.Prelude.{slice_get}
use Rattle.aip_host.specs.HostState.{HostState}
use Rattle.aip_core.specs.Machine.{host_outcome}
use Rattle.aip_core.specs.Moves.{Does, HostMoves, MovesAt}
use Rattle.aip_core.proofs.Acting.{does_at, read_at, set_seated}
use Rattle.aip_core.proofs.host.act_at.Goals as goal

pub returns-clause-acts : goal.returns-clause-acts
returns-clause-acts c = λ host at.
    let read = read_at c.args.hosts.now.items c.args.place c.index_mut.result.now c.requires.there c.index_mut.ensures.value in
    let some : Some c.index_mut.result.now ≡ Some host = sym read ∙ at in
    let same : c.index_mut.result.now ≡ host = cc in
    subst (λ (h : HostState). Does (host_outcome c.args.directory.now c.args.flights.now c.args.now h c.args.input.now)
    (λ reaction old new. MovesAt HostState (Some c.args.place) (HostMoves c.args.now c.args.input.now reaction) old new) c.args.hosts.now.items c.act.result (set c.args.hosts.now.items c.args.place c.act.new.host)) same
    (does_at HostState (host_outcome c.args.directory.now c.args.flights.now c.args.now c.index_mut.result.now c.args.input.now) (HostMoves c.args.now c.args.input.now)
    c.args.hosts.now.items c.args.place c.index_mut.result.now c.act.new.host c.act.result read c.index_mut.ensures.value c.act.ensures.does)

pub returns-clause-seats : goal.returns-clause-seats
returns-clause-seats c = set_seated c.args.hosts.now.items c.args.place c.index_mut.result.now c.act.new.host c.index_mut.ensures.value c.act.ensures.seat
