-- What is read of a topology's text decides what it gives.
use Rattle.std.proofs.Common.{◌≡◌, ℕ, List, take, Option, Some, None, Ok, Err, ◌≢◌, ◌∙◌, sym, subst}
use Rattle.std.specs.Prelude.{IfSome, Result}
use Rattle.aip_topo.specs.declared.topology.Topology.{Topology}
use Rattle.aip_topo.specs.declared.faults.TopoEnd.{TopoEnd}
use Rattle.aip_topo.specs.declared.faults.TopoEnd.TheVariants as topo_end
use Rattle.aip_topo.specs.Reading.{topology_of, Tells}
use Rattle.aip_sim.specs.declared.topologies.TopologyEnd.{TopologyEnd}
use Rattle.aip_sim.specs.declared.topologies.TopologyEnd.TheVariants.{ReadFault, Refused, Memory}
use Rattle.aip_sim.specs.Topologies.{IsReadOf}
use Rattle.aip_sim.specs.Unread.{topology_refused}

-- a text is refused as its reader says
pub refuses : (text : List ℕ) (end : TopoEnd) (r : TopologyEnd) → r ≡ topology_refused end → Tells end (topology_of text) → IsReadOf text (Err r)
refuses text (topo_end.Line line f) r is tells = subst (λ e. IsReadOf text (Err e)) (sym is) tells
refuses text topo_end.Memory r is tells = subst (λ e. IsReadOf text (Err e)) (sym is) tt

-- it is no fault of reading
pub not_unread : (end : TopoEnd) (r : TopologyEnd) (result : Result Topology TopologyEnd) → result ≡ Err r → r ≡ topology_refused end → result ≢ Err ReadFault
not_unread (topo_end.Line line f) r result is said = λ same. cc
not_unread topo_end.Memory r result is said = λ same. cc

same_reading : (bytes text : List ℕ) (r : Result Topology TopologyEnd) → topology_of text ≡ topology_of bytes → IsReadOf bytes r → IsReadOf text r
same_reading bytes text (Ok topo) same read = same ∙ read
same_reading bytes text (Err (Refused line f)) same read = same ∙ read
same_reading bytes text (Err ReadFault) same read = tt
same_reading bytes text (Err Memory) same read = tt

-- what is read of the first bytes of a text gives what the whole text gives
pub reads_whole : (told : Option (List ℕ)) (bytes : List ℕ) (r : Result Topology TopologyEnd) → IfSome told (λ text. bytes ≡ take 1048577 text)
    → ((whole : List ℕ) → bytes ≡ take 1048577 whole → topology_of whole ≡ topology_of bytes) → IsReadOf bytes r → IfSome told (λ text. IsReadOf text r)
reads_whole None bytes r first decided read = tt
reads_whole (Some text) bytes r first decided read = same_reading bytes text r (decided text first) read
