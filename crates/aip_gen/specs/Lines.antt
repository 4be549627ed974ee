-- The inputs of a made workload.
use Rattle.std.specs.Prelude.{ℕ, ◌+◌, ◌-◌, ◌==◌, if◌then◌else◌, nat_lt, min, List, [], ◌∷◌}
use Rattle.aip_event.specs.declared.input.Input.{Input}
use Rattle.aip_event.specs.declared.input.Input.TheVariants as input
use Rattle.aip_gen.specs.Draws.{Drawn, below, given, ◌>>=◌}
use Rattle.aip_gen.specs.Network.{host_name, router_name}

-- the name of one of the 24 hosts
abbrev pub some_host : Drawn (List ℕ)
some_host = do
  number ← below 24
  given (host_name number)

-- the name of one of the eight routers
abbrev pub some_router : Drawn (List ℕ)
some_router = do
  number ← below 8
  given (router_name number)

-- one of the last 64 flights, or of all where there are fewer
abbrev pub some_flight : ℕ → Drawn ℕ
some_flight flights = do
  back ← below (min flights 64)
  given (flights - 1 - back)

-- time moves by one to five ticks
abbrev pub tick_input : Drawn Input
tick_input = do
  more ← below 5
  given (input.Tick (1 + more))

-- a host sends a packet of one zero byte to a host; its id is the line's number
abbrev pub send_input : ℕ → Drawn Input
send_input index = do
  from ← some_host
  to ← some_host
  given (input.Send from to index (0 ∷ []))

-- a host asks the sender of a flight to stop for 40 ticks; one tick where there is no flight
abbrev pub shutoff_input : ℕ → Drawn Input
shutoff_input flights = if flights == 0 then given (input.Tick 1) else do
  host ← some_host
  flight ← some_flight flights
  given (input.Shutoff host flight 40)

-- a router starts anew
abbrev pub router_restart : Drawn Input
router_restart = do
  router ← some_router
  given (input.Restart router)

-- a host starts anew
abbrev pub host_restart : Drawn Input
host_restart = do
  host ← some_host
  given (input.Restart host)

-- a link goes down
abbrev pub cut_input : Drawn Input
cut_input = do
  link ← below 8
  given (input.Cut link)

-- a link comes up
abbrev pub mend_input : Drawn Input
mend_input = do
  link ← below 8
  given (input.Mend link)

-- a flight arrives; one tick where there is no flight
abbrev pub deliver_input : ℕ → Drawn Input
deliver_input flights = if flights == 0 then given (input.Tick 1) else do
  flight ← some_flight flights
  given (input.Deliver flight)

-- the input that a number below 256 chooses
abbrev pub chosen_input : ℕ → ℕ → ℕ → Drawn Input
chosen_input index flights x =
    if nat_lt x 8 then tick_input
    else if nat_lt x 72 then send_input index
    else if nat_lt x 76 then shutoff_input flights
    else if x == 76 then router_restart
    else if x == 77 then host_restart
    else if x == 78 then cut_input
    else if x == 79 then mend_input
    else deliver_input flights

-- the input of a line, where so many flights have left
abbrev pub line_input : ℕ → ℕ → Drawn Input
line_input index flights = do
  x ← below 256
  chosen_input index flights x
