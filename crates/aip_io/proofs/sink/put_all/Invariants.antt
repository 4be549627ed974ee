use Rattle.std.proofs.Common.{length, ◌-◌, ◌≡◌, ◌≤◌, take}
use Rattle.aip_io.specs.Sink.{and_then}
use Rattle.aip_io.proofs.sink.put_all.Given as goal

abbrev pub invariant-pieces : goal.invariant-pieces
invariant-pieces g l =
    (l.at ≤ length l.bytes)
    × (g.K.Sink.taken l.sink ≡ and_then (g.K.Sink.taken l.initial.sink) (take l.at l.bytes))
    × (g.K.Sink.faults l.sink ≡ g.K.Sink.faults l.initial.sink)

abbrev pub decreases-pieces : goal.decreases-pieces
decreases-pieces g l = length l.bytes - l.at
