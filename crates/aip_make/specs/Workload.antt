-- The run of a made workload: its topology, and its lines taken one by one.
use Rattle.std.specs.Prelude.{ℕ, zero, suc, ◌+◌, List, [], Result, Ok, Err}
use Rattle.aip_event.specs.declared.input.Input.{Input}
use Rattle.aip_gen.specs.Lines.{line_input}
use Rattle.aip_gen.specs.Network.{topology_text}
use Rattle.aip_topo.specs.declared.topology.Topology.{Topology}
use Rattle.aip_topo.specs.Reading.{RefusedLine, topology_of}
use Rattle.aip_rules.specs.declared.Entry.{Entry}
use Rattle.aip_rules.specs.State.{flight_count}
use Rattle.aip_rules.specs.Step.{step_of}
use Rattle.aip_rules.specs.Texts.{Done, Topology_refused, EndedRun, by_step}

-- how many lines a workload has
abbrev pub made_lines : ℕ
made_lines = 60000

-- the text of the topology of workload number n
unfoldable pub made_topology : ℕ → List ℕ
made_topology n = (topology_text n).0

-- the state of the generator behind the words of the topology
unfoldable pub state_behind : ℕ → ℕ
state_behind n = (topology_text n).1

-- the input of the line with this index, where so many flights have left, from a state of the generator
unfoldable pub made_input : ℕ → ℕ → ℕ → Input
made_input index flights state = (line_input index flights state).0

-- the state of the generator behind the words of that line
unfoldable pub next_state : ℕ → ℕ → ℕ → ℕ
next_state index flights state = (line_input index flights state).1

-- the run of so many made lines from a trace on, the first with this index and from this state: it ends at the first line
-- that is refused
abbrev pub made_from : Topology → List Entry → ℕ → ℕ → ℕ → EndedRun
made_from topo tr state index zero = record { trace = tr; ending = Done }
made_from topo tr state index (suc left) =
    by_step tr (index + 1) (made_input index (flight_count tr) state)
    (λ after. made_from topo after (next_state index (flight_count tr) state) (index + 1) left)
    (step_of topo tr (made_input index (flight_count tr) state))

-- the run of so many made lines over what the topology's text gives; nothing is run where it is refused
abbrev pub made_over : Result Topology RefusedLine → ℕ → ℕ → EndedRun
made_over (Ok topo) state lines = made_from topo [] state 0 lines
made_over (Err refused) state lines = record { trace = []; ending = Topology_refused refused.line refused.fault }

-- the run of the first so many lines of workload number n
abbrev pub made_run : ℕ → ℕ → EndedRun
made_run n lines = made_over (topology_of (made_topology n)) (state_behind n) lines
