use Rattle.std.proofs.Common.{ℕ}
use Rattle.std.specs.Prelude.{slice_get}
use Rattle.aip_core.specs.RouterMachine.{RouterState, after_place, basis_of, kept_at_place}
use Rattle.aip_core.proofs.Acting.{read_at, boots_at, reacts_at, moves_at}
use Rattle.aip_core.proofs.routers.arrive_at.Goals as goal

pub returns-clause-boots : goal.returns-clause-boots
returns-clause-boots c = λ n all.
    boots_at n c.args.routers.now.items c.args.place c.index_mut.result.now c.arrive.new.checks
    (read_at c.args.routers.now.items c.args.place c.index_mut.result.now c.requires.there c.index_mut.ensures.value) c.arrive.ensures.boot all

pub returns-clause-reaction : goal.returns-clause-reaction
returns-clause-reaction c =
    reacts_at c.arrive.result c.args.routers.now.items c.args.place c.index_mut.result.now
    (λ (state : RouterState). kept_at_place (basis_of c.args.network.now state c.args.now) c.args.place (slice_get c.args.network.now.directory.routers c.args.place) c.args.port c.args.bytes.now)
    (read_at c.args.routers.now.items c.args.place c.index_mut.result.now c.requires.there c.index_mut.ensures.value) c.arrive.ensures.reaction

pub returns-clause-after : goal.returns-clause-after
returns-clause-after c =
    moves_at c.arrive.result c.args.routers.now.items c.args.place c.index_mut.result.now c.arrive.new.checks
    (λ (state : RouterState). after_place (basis_of c.args.network.now state c.args.now) c.args.place (slice_get c.args.network.now.directory.routers c.args.place) c.args.port c.args.bytes.now)
    (read_at c.args.routers.now.items c.args.place c.index_mut.result.now c.requires.there c.index_mut.ensures.value) c.arrive.ensures.after
