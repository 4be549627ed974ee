-- The core of a sound topology before any input: its hosts are new, and what it keeps stands for the empty trace.
use Rattle.std.proofs.Common.{◌≡◌, ℕ, zero, suc, ◌+◌, ◌<◌, ◌≤◌, ◌||◌, ◌&&◌, ◌⊎◌, inl, inr, Bool, true, false, cond, List, [], ◌∷◌, ◌++◌, length, drop, map, set, get_or, replicate, Option, Some, None, refl, sym, ◌∙◌, ap, subst, arith}
use Rattle.std.specs.Prelude.{All, IsTrue, nat_lt, slice_get}
use Rattle.std.proofs.lemmas.List.Elements.{All-nil, All-cons}
use Rattle.std.specs.Str.{bytes_eq}
use Rattle.std.proofs.lemmas.Bool.Decides.{nat_tests}
use Rattle.std.proofs.lemmas.List.{length-append}
use Rattle.std.proofs.lemmas.Slice.Eq.{bytes_eq-Decides}
use Rattle.aip_event.specs.declared.input.Target.TheVariants as target
use Rattle.aip_topo.specs.Sound.{IsSound, AreDistinct, has_text, host_names}
use Rattle.aip_topo.specs.declared.topology.HostPart.{HostPart}
use Rattle.aip_topo.specs.declared.topology.Part.{Part}
use Rattle.aip_topo.specs.declared.topology.Part.TheVariants.{Host, Link}
use Rattle.aip_topo.specs.declared.topology.Router.{Router}
use Rattle.aip_topo.specs.declared.topology.Settings.{Settings}
use Rattle.aip_topo.specs.declared.topology.Topology.{Topology}
use Rattle.aip_rules.specs.declared.Seat.{Seat}
use Rattle.aip_rules.specs.Nodes.{seats_after, seats_of, name_at, host_named, is_guarded_host, key_of_host}
use Rattle.aip_host.specs.After.{IsNew}
use Rattle.aip_host.specs.HostState.{HostState}
use Rattle.aip_host.proofs.Corresponds.{starts}
use Rattle.aip_core.specs.Kept.{Kept}
use Rattle.aip_core.specs.RouterMachine.{RouterState, router_at_start, started_anew}
use Rattle.aip_core.specs.Moves.{anew_at}
use Rattle.aip_core.specs.RouterStands.{RoutersStand}
use Rattle.aip_core.specs.StandsFor.{HostsStand, StandsFor}
use Rattle.aip_core.specs.Starting.{AreBegun, AreNewHosts, IsKeptAtStart, IsNewHost, hosts_on}
use Rattle.aip_core.proofs.Acting.{read_at}
use Rattle.aip_core.proofs.LinksNow.{links_at_start}
use Rattle.aip_core.proofs.Names.{absent_at, hosts_distinct, seat_names, turned}
use Rattle.aip_core.proofs.RouterAll.{all_start}

-- ---- lists that grow

-- what stands in a list with one thing more stood there, or is that thing at its end
pushed : {A : Type 0} (xs : List A) (y z : A) (k : ℕ) → slice_get (xs ++ y ∷ []) k ≡ Some z → (slice_get xs k ≡ Some z) ⊎ ((k ≡ length xs) × (y ≡ z))
pushed [] y z zero at = inr (refl, cc)
pushed [] y z (suc k) at = absurd cc
pushed (x ∷ xs) y z zero at = inl at
pushed (x ∷ xs) y z (suc k) at = later (pushed xs y z k at) where
  later : (slice_get xs k ≡ Some z) ⊎ ((k ≡ length xs) × (y ≡ z)) → (slice_get xs k ≡ Some z) ⊎ ((suc k ≡ suc (length xs)) × (y ≡ z))
  later (inl e) = inl e
  later (inr p) = inr (ap suc p.0, p.1)

left_head : {A : Type 0} (xs ys : List A) (y : A) (k : ℕ) → drop k xs ≡ y ∷ ys → slice_get xs k ≡ Some y
left_head [] ys y zero e = absurd cc
left_head [] ys y (suc k) e = absurd cc
left_head (x ∷ xs) ys y zero e = cc
left_head (x ∷ xs) ys y (suc k) e = left_head xs ys y k e

left_tail : {A : Type 0} (xs ys : List A) (y : A) (k : ℕ) → drop k xs ≡ y ∷ ys → drop (suc k) xs ≡ ys
left_tail [] ys y zero e = absurd cc
left_tail [] ys y (suc k) e = absurd cc
left_tail (x ∷ xs) ys y zero e = cc
left_tail (x ∷ xs) ys y (suc k) e = left_tail xs ys y k e

replicate_at : {A : Type 0} (n k : ℕ) (x y : A) → slice_get (replicate n x) k ≡ Some y → y ≡ x
replicate_at zero k x y at = absurd cc
replicate_at (suc n) zero x y at = cc
replicate_at (suc n) (suc k) x y at = replicate_at n k x y at

pub replicate_count : {A : Type 0} (n : ℕ) (x : A) → length (replicate n x) ≡ n
replicate_count zero x = refl
replicate_count (suc n) x = ap suc (replicate_count n x)

-- a router that starts anew in its place
pub set_is_anew : (states : List RouterState) (k : ℕ) (x y : RouterState) → k < length states → x ≡ get_or states k x → y ≡ started_anew x → set states k y ≡ anew_at states k
set_is_anew [] k x y low is anew = absurd (omega arith)
set_is_anew (s ∷ states) zero x y low is anew = ap (λ (z : RouterState). z ∷ states) (anew ∙ ap started_anew is)
set_is_anew (s ∷ states) (suc k) x y low is anew = ap (λ (zs : List RouterState). s ∷ zs) (set_is_anew states k x y (omega arith) is anew)

-- ---- the hosts

-- there are as many seats as lines of hosts
pub hosts_count : (routers : List Router) (before parts : List Part) → length (seats_after routers before parts) ≡ length (hosts_on parts)
hosts_count routers before [] = refl
hosts_count routers before (Host host ∷ parts) = ap suc (hosts_count routers (Host host ∷ before) parts)
hosts_count routers before (Link link ∷ parts) = hosts_count routers (Link link ∷ before) parts

-- one host more is new
pub begun_more : (settings : Settings) (routers : List Router) (seats : List Seat) (lines : List HostPart) (host : HostPart) (rest : List Part) (hosts : List HostState) (seat : Seat) (new : HostState)
    → length hosts < length seats → seat ≡ get_or seats (length hosts) seat → IsNewHost settings routers seat host new
    → AreBegun settings routers seats lines (Host host ∷ rest) hosts → AreBegun settings routers seats lines rest (hosts ++ new ∷ [])
begun_more settings routers seats lines host rest hosts seat new low is fresh begun = record {
  each = λ place s line h at_seat at_line at_host. here place s line h at_seat at_line (pushed hosts new h place at_host);
  left = ap (λ n. drop n lines) more ∙ left_tail lines (hosts_on rest) host (length hosts) begun.left;
  room = let room : length hosts + suc (length (hosts_on rest)) ≡ length seats = begun.room in let n = more in omega arith;
} where
  more : length (hosts ++ new ∷ []) ≡ suc (length hosts)
  more = omega (arith, length-append hosts (new ∷ []))

  here : (place : ℕ) (s : Seat) (line : HostPart) (h : HostState) → slice_get seats place ≡ Some s → slice_get lines place ≡ Some line
      → (slice_get hosts place ≡ Some h) ⊎ ((place ≡ length hosts) × (new ≡ h)) → IsNewHost settings routers s line h
  here place s line h at_seat at_line (inl old) = begun.each place s line h at_seat at_line old
  here place s line h at_seat at_line (inr last) =
      let seat_there : Some seat ≡ Some s = sym (read_at seats (length hosts) seat low is) ∙ ap (λ n. slice_get seats n) (sym last.0) ∙ at_seat in
      let line_there : Some host ≡ Some line =
      sym (left_head lines (hosts_on rest) host (length hosts) begun.left) ∙ ap (λ n. slice_get lines n) (sym last.0) ∙ at_line in
      let same_seat : seat ≡ s = cc in
      let same_line : host ≡ line = cc in
      subst (λ (x : HostState). IsNewHost settings routers s line x) last.1
      (subst (λ (l : HostPart). IsNewHost settings routers s l new) same_line (subst (λ (x : Seat). IsNewHost settings routers x host new) same_seat fresh))

-- new hosts stand at their seats
pub new_seated : (settings : Settings) (routers : List Router) (seats : List Seat) (lines : List HostPart) (hosts : List HostState) → length hosts ≡ length seats → length lines ≡ length seats
    → AreNewHosts settings routers seats lines hosts → map (λ host. host.seat) hosts ≡ seats
new_seated settings routers [] lines [] count all new = refl
new_seated settings routers [] lines (host ∷ hosts) count all new = absurd (omega arith)
new_seated settings routers (seat ∷ seats) lines [] count all new = absurd (omega arith)
new_seated settings routers (seat ∷ seats) [] (host ∷ hosts) count all new = absurd (omega arith)
new_seated settings routers (seat ∷ seats) (line ∷ lines) (host ∷ hosts) count all new =
    let here = (new 0 seat line host refl refl refl).begun.place in
    let rest = new_seated settings routers seats lines hosts (omega arith) (omega arith) (λ place s l h a b d. new (suc place) s l h a b d) in
    ap (λ (s : Seat). s ∷ map (λ h. h.seat) hosts) here ∙ ap (λ (ss : List Seat). seat ∷ ss) rest

-- ---- what stands for the empty trace

-- the line of the host at a place is the line of its name
line_at : (routers : List Router) (before parts : List Part) (k : ℕ) (seat : Seat) → AreDistinct (host_names parts) → slice_get (seats_after routers before parts) k ≡ Some seat
    → slice_get (hosts_on parts) k ≡ host_named parts seat.name
line_at routers before [] k seat distinct there = absurd cc
line_at routers before (Host host ∷ parts) zero seat distinct there =
    let named : Some host.name ≡ Some seat.name = seat_names routers before (Host host ∷ parts) zero seat there in
    let same : host.name ≡ seat.name = cc in
    ap (λ b. cond b (Some host) (host_named parts seat.name)) (sym ((bytes_eq-Decides host.name seat.name).1 same))
line_at routers before (Host host ∷ parts) (suc k) seat distinct there =
    let other : bytes_eq seat.name host.name ≡ false =
    absent_at host.name seat.name (host_names parts) k distinct.0 (seat_names routers before (Host host ∷ parts) (suc k) seat there) in
    line_at routers (Host host ∷ before) parts k seat distinct.1 there
    ∙ ap (λ b. cond b (Some host) (host_named parts seat.name)) (sym (turned seat.name host.name other))
line_at routers before (Link link ∷ parts) k seat distinct there = line_at routers (Link link ∷ before) parts k seat distinct there

-- a seat has a line
line_there : (routers : List Router) (before parts : List Part) (k : ℕ) (seat : Seat) → slice_get (seats_after routers before parts) k ≡ Some seat → (line : HostPart) × (slice_get (hosts_on parts) k ≡ Some line)
line_there routers before [] k seat there = absurd cc
line_there routers before (Host host ∷ parts) zero seat there = (host, refl)
line_there routers before (Host host ∷ parts) (suc k) seat there = line_there routers (Host host ∷ before) parts k seat there
line_there routers before (Link link ∷ parts) k seat there = line_there routers (Link link ∷ before) parts k seat there

-- new hosts stand for the empty trace
hosts_start : (topo : Topology) (hosts : List HostState) → IsSound topo → length hosts ≡ length (seats_of topo)
    → AreNewHosts topo.settings topo.routers (seats_of topo) (hosts_on topo.parts) hosts → HostsStand topo [] hosts
hosts_start topo hosts sound count new = record {
  count = count;
  each = λ place seat host there at.
      let line = line_there topo.routers [] topo.parts place seat there in
      let fresh = new place seat line.0 host there line.1 at in
      let named : Some line.0 ≡ host_named topo.parts seat.name = sym line.1 ∙ line_at topo.routers [] topo.parts place seat (hosts_distinct topo sound) there in
      let to = target.Port (name_at topo.routers seat.router) seat.port in
      starts topo seat host
      (subst (λ (o : Option HostPart). IsNew seat to topo.settings (key_of_host o) (is_guarded_host o) host) named fresh.begun) fresh.disks;
}

-- what is kept before any input stands for the empty trace
pub starts_at : (topo : Topology) (kept : Kept) → IsSound topo → IsKeptAtStart topo kept → StandsFor topo [] kept
starts_at topo kept sound start = record {
  topology = start.topology;
  links = start.links ∙ links_at_start [] topo.parts 0;
  flights = start.flights;
  records = start.records;
  time = start.ticks;
  inputs = start.inputs;
  hosts = hosts_start topo kept.hosts sound start.count start.hosts;
  routers = all_start topo kept.routers sound
      (ap length start.routers ∙ replicate_count (length topo.routers) (router_at_start topo.settings))
      (λ place state at. replicate_at (length topo.routers) place (router_at_start topo.settings) state (sym (ap (λ (ss : List RouterState). slice_get ss place) start.routers) ∙ at));
}

-- what is so of a thing is so of many of it
pub all_same : {A : Type 0} (P : A → Type 0) (n : ℕ) (x : A) → P x → All P (replicate n x)
all_same P zero x h = All-nil P
all_same P (suc n) x h = All-cons P x (replicate n x) h (all_same P n x h)
