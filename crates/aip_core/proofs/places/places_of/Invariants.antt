use Rattle.std.proofs.Common.{◌≡◌, ℕ, ◌*◌, ◌≤◌, List, [], ◌++◌, length, drop, slice_index}
use Rattle.aip_topo.specs.declared.topology.Part.{Part}
use Rattle.aip_rules.specs.Nodes.{seats_after, links_after, neighbours_after}
use Rattle.aip_core.specs.Places.{CountPorts, row_of}
use Rattle.aip_core.proofs.places.places_of.Given as goal

-- the ports of the lines so far are counted, and the places so far with those of the lines that are left are all
abbrev pub invariant-parts : goal.invariant-parts
invariant-parts l = record {
  counted : length l.counts.items ≡ length l.routers;
  bound : (k : ℕ) → slice_index l.counts.items k ≤ 2 * l.part-index;
  all : length l.places.rows.items ≡ length l.routers;
  rest : (before : List Part) × CountPorts before l.counts.items
      × (l.places.seats.items ++ seats_after l.routers before (drop l.part-index l.parts) ≡ seats_after l.routers [] l.parts)
      × (l.places.links.items ++ links_after before (drop l.part-index l.parts) ≡ links_after [] l.parts)
      × ((router : ℕ) → row_of l.places.rows.items router ++ neighbours_after before (drop l.part-index l.parts) router ≡ neighbours_after [] l.parts router);
}
