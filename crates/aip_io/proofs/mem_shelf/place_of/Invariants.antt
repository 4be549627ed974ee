use Rattle.aip_io.proofs.Places.{NoneBefore}
use Rattle.aip_io.proofs.mem_shelf.place_of.Given as goal

abbrev pub invariant-loop-i : goal.invariant-loop-i
invariant-loop-i l = NoneBefore l.files l.name l.i
