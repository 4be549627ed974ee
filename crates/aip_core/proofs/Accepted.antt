-- What holds of an input that isn't refused.
use Rattle.std.proofs.Common.{◌≡◌, ℕ, zero, suc, ◌<◌, ◌≤◌, ◌+◌, ◌^◌, ◌==◌, ◌||◌, Bool, true, false, cond, List, [], ◌∷◌, length, Option, Some, None, Result, Ok, Err, refl, ap, ◌∙◌, arith}
use Rattle.std.specs.Prelude.{All, nat_le, nat_lt}
use Rattle.std.proofs.lemmas.List.Elements.{All-nil, All-cons, All-head, All-tail}
use Rattle.std.proofs.lemmas.Bool.Decides.{nat_tests}
use Rattle.domain_routes.specs.declared.Edge.{Edge}
use Rattle.aip_event.specs.declared.input.Input.{Input}
use Rattle.aip_event.specs.declared.event.Event.{Event}
use Rattle.aip_event.specs.declared.input.Input.TheVariants.{Tick, Cut, Mend, Restart}
use Rattle.aip_topo.specs.declared.topology.Topology.{Topology}
use Rattle.aip_rules.specs.declared.Flight.{Flight}
use Rattle.aip_rules.specs.declared.Reaction.{Reaction}
use Rattle.aip_rules.specs.declared.StepFault.{StepFault}
use Rattle.aip_rules.specs.declared.StepFault.TheVariants as fault
use Rattle.aip_rules.specs.State.{ticks_of}
use Rattle.aip_rules.specs.Nodes.{seats_of, place_of_router}
use Rattle.aip_rules.specs.Reaction.{nothing, numbered}
use Rattle.aip_rules.specs.Step.{refused_if}
use Rattle.aip_core.specs.Kept.{Kept}
use Rattle.aip_core.specs.Machine.{seat_place, kept_outcome, kept_relinked}
use Rattle.aip_core.specs.Moves.{LinkIsThere, Moved, IsKeptStep, anew_at, anew_if, kept_after, router_unless, routers_with}
use Rattle.aip_core.specs.Rooms.{IsBootedUpTo}
use Rattle.aip_core.specs.RouterMachine.{RouterState, started_anew}
use Rattle.aip_core.proofs.Stays.{anew_count}

-- a test that refuses an outcome didn't
not_refused : (test : Bool) (f : StepFault) (outcome : Result Reaction StepFault) (reaction : Reaction) → refused_if test f outcome ≡ Ok reaction → test ≡ false
not_refused true f outcome reaction e = absurd cc
not_refused false f outcome reaction e = refl

tick_early : (now ticks : ℕ) → ((ticks == 0) || nat_le (2 ^ 48) (now + ticks)) ≡ false → now + ticks < 2 ^ 48
tick_early now ticks e = grind (arith, nat_tests)

-- an input that is taken leaves the time below 2^48
pub taken_early : (kept : Kept) (input : Input) (reaction : Reaction) → kept_outcome kept input ≡ Ok reaction → kept.ticks < 2 ^ 48 → kept.ticks + ticks_of input < 2 ^ 48
taken_early kept (Tick ticks) reaction e early = tick_early kept.ticks ticks (not_refused ((ticks == 0) || nat_le (2 ^ 48) (kept.ticks + ticks)) fault.Range (Ok nothing) reaction e)
taken_early kept input reaction e early = omega arith

-- a test that allows an outcome did
allowed : (test : Bool) (f : StepFault) (outcome : Result Reaction StepFault) (reaction : Reaction) → cond test outcome (Err f) ≡ Ok reaction → test ≡ true
allowed true f outcome reaction e = refl
allowed false f outcome reaction e = absurd cc

below : (link n : ℕ) → nat_lt link n ≡ true → link < n
below link n e = grind (arith, nat_tests)

relinked_there : (links : List Edge) (link : ℕ) (reaction : Reaction) → kept_relinked links link ≡ Ok reaction → link < length links
relinked_there links link reaction e = below link (length links) (allowed (nat_lt link (length links)) fault.Range (Ok nothing) reaction e)

-- a link that is cut or mended is there
pub taken_there : (kept : Kept) (input : Input) (reaction : Reaction) → kept_outcome kept input ≡ Ok reaction → LinkIsThere (length kept.links) input
taken_there kept (Cut link) reaction e = relinked_there kept.links link reaction e
taken_there kept (Mend link) reaction e = relinked_there kept.links link reaction e
taken_there kept input reaction e = tt

few_inputs : (inputs : ℕ) → inputs < 65536 → nat_le 65536 inputs ≡ false
few_inputs inputs few = grind (arith, nat_tests)

-- an input that comes to a reaction, by which the core moved, is taken
pub taken_step : (kept core next : Kept) (input : Input) (reaction : Reaction) (told : List Event) → kept.inputs < 65536 → kept_outcome kept input ≡ Ok reaction → Moved kept input reaction core
    → next ≡ kept_after core input reaction → told ≡ numbered (length core.flights) reaction → IsKeptStep kept input next told
taken_step kept core next input reaction told few given moved after events = record {
  reaction = reaction;
  given = ap (λ test. refused_if test fault.Many (kept_outcome kept input)) (few_inputs kept.inputs few) ∙ given;
  core = core;
  moved = moved;
  after = after;
  events = events ∙ ap (λ (fs : List Flight). numbered (length fs) reaction) moved.flights;
}

-- ---- how often routers were started anew

boots_more : (n : ℕ) (states : List RouterState) → All (IsBootedUpTo n) states → All (IsBootedUpTo (n + 1)) states
boots_more n [] all = All-nil (IsBootedUpTo (n + 1))
boots_more n (s ∷ states) all =
    let first : s.boot ≤ n = All-head (IsBootedUpTo n) s states all in
    All-cons (IsBootedUpTo (n + 1)) s states (omega arith) (boots_more n states (All-tail (IsBootedUpTo n) s states all))

boots_anew : (n : ℕ) (states : List RouterState) (q : ℕ) → All (IsBootedUpTo n) states → All (IsBootedUpTo (n + 1)) (anew_at states q)
boots_anew n [] q all = All-nil (IsBootedUpTo (n + 1))
boots_anew n (s ∷ states) zero all =
    let first : s.boot ≤ n = All-head (IsBootedUpTo n) s states all in
    All-cons (IsBootedUpTo (n + 1)) (started_anew s) states (omega arith) (boots_more n states (All-tail (IsBootedUpTo n) s states all))
boots_anew n (s ∷ states) (suc q) all =
    let first : s.boot ≤ n = All-head (IsBootedUpTo n) s states all in
    All-cons (IsBootedUpTo (n + 1)) s (anew_at states q) (omega arith) (boots_anew n states q (All-tail (IsBootedUpTo n) s states all))

boots_if : (n : ℕ) (states : List RouterState) (place : Option ℕ) → All (IsBootedUpTo n) states → All (IsBootedUpTo (n + 1)) (anew_if states place)
boots_if n states None all = boots_more n states all
boots_if n states (Some q) all = boots_anew n states q all

-- an input starts each router anew at most once
pub boots_with : (n : ℕ) (topo : Topology) (input : Input) (states : List RouterState) → All (IsBootedUpTo n) states → All (IsBootedUpTo (n + 1)) (routers_with topo input states)
boots_with n topo (Restart node) states all = boots_if n states (router_unless (seat_place (seats_of topo) node) (place_of_router topo.routers node)) all
boots_with n topo input states all = boots_more n states all

count_if : (states : List RouterState) (place : Option ℕ) → length (anew_if states place) ≡ length states
count_if states None = refl
count_if states (Some q) = anew_count states q

-- and there are as many routers as before
pub count_with : (topo : Topology) (input : Input) (states : List RouterState) → length (routers_with topo input states) ≡ length states
count_with topo (Restart node) states = count_if states (router_unless (seat_place (seats_of topo) node) (place_of_router topo.routers node))
count_with topo input states = refl
