-- On the ports of routers: they are fewer than 16 bits number, and two bytes tell one.
use Rattle.std.proofs.Common.{◌≡◌, ℕ, ◌+◌, ◌*◌, ◌<◌, ◌≤◌, ◌^◌, ◌%◌, ◌/◌, Bool, true, false, cond, List, [], ◌∷◌, ◌++◌, length, Option, Some, None, sym, ap, ◌∙◌, arith, eqb}
use Rattle.std.specs.Prelude.{IfSome, slice_get}
use Rattle.std.proofs.lemmas.List.{length-append}
use Rattle.std.proofs.lemmas.Option.{slice_get_within}
use Rattle.byteorder.specs.Endian.{big_bytes}
use Rattle.aip_addr.specs.Ids.{address_bytes}
use Rattle.aip_addr.specs.declared.ids.Address.{Address}
use Rattle.aip_frame.specs.declared.frame.Frame.{Frame}
use Rattle.aip_frame.specs.Frame.{packet_hash_of}
use Rattle.aip_topo.specs.declared.topology.Part.{Part}
use Rattle.aip_topo.specs.declared.topology.Part.TheVariants.{Host, Link}
use Rattle.verify_packet.specs.Challenge.{challenge_of, epoch_at, tag_of}
use Rattle.verify_packet.specs.declared.challenges.RouterKey.{RouterKey}
use Rattle.aip_rules.specs.declared.Neighbour.{Neighbour}
use Rattle.aip_rules.specs.declared.Neighbour.TheVariants as neighbour
use Rattle.aip_rules.specs.Nodes.{neighbours_by, neighbours_after, ports_in}

-- a port at which something lies is one of a short row
pub port_is_low : (row : List Neighbour) (port : ℕ) (found : Option Neighbour) → found ≡ slice_get row port → length row < 2 ^ 16 → IfSome found (λ _. port < 2 ^ 16)
port_is_low row port None is short = tt
port_is_low row port (Some neighbour) is short = let within = slice_get_within row port neighbour (sym is) in omega arith

one_if : (b : Bool) (x : Neighbour) → length (cond b (x ∷ []) []) ≤ 1
one_if true x = omega arith
one_if false x = omega arith

-- a line takes at most two ports of a router
two_by : (before : List Part) (part : Part) (router : ℕ) → length (neighbours_by before part router) ≤ 2
two_by before (Host host) router =
    let one : length (neighbours_by before (Host host) router) ≤ 1 = one_if (eqb host.router router) (neighbour.Host host.name) in omega arith
two_by before (Link link) router =
    let there = cond (eqb link.a router) (neighbour.Link link.b (ports_in before link.b) link.a_trusts ∷ []) [] in
    let back = cond (eqb link.b router) (neighbour.Link link.a (ports_in before link.a) link.b_trusts ∷ []) [] in
    let one : length there ≤ 1 = one_if (eqb link.a router) (neighbour.Link link.b (ports_in before link.b) link.a_trusts) in
    let other : length back ≤ 1 = one_if (eqb link.b router) (neighbour.Link link.a (ports_in before link.a) link.b_trusts) in
    let both : length (there ++ back) ≡ length there + length back = length-append there back in
    let all : length (there ++ back) ≤ 2 = omega arith in
    all

-- so a router has at most two ports for each line
few_neighbours : (before parts : List Part) (router : ℕ) → length (neighbours_after before parts router) ≤ 2 * length parts
few_neighbours before [] router = omega arith
few_neighbours before (part ∷ parts) router =
    omega (arith, length-append (neighbours_by before part router) (neighbours_after (part ∷ before) parts router), two_by before part router, few_neighbours (part ∷ before) parts router)

-- a row that the lines that are left make whole is short
pub short_row : (before rest parts : List Part) (row : List Neighbour) (router : ℕ)
    → row ++ neighbours_after before rest router ≡ neighbours_after [] parts router → length parts ≤ 5120 → length row < 2 ^ 16
short_row before rest parts row router whole few =
    let same : length (row ++ neighbours_after before rest router) ≡ length (neighbours_after [] parts router) = ap length whole in
    omega (arith, length-append row (neighbours_after before rest router), few_neighbours [] parts router)

-- the two bytes of a number are those of its lowest 16 bits
pub low_bytes : (port : ℕ) → big_bytes 2 (port % 65536) ≡ big_bytes 2 port
low_bytes port =
    let high : port % 65536 / 256 % 256 ≡ port / 256 % 256 = omega arith in
    let low : port % 65536 % 256 ≡ port % 256 = omega arith in
    λ i. high i ∷ low i ∷ []

-- challenges that tell their ports by the same bytes are the same
same_ports : (key : RouterKey) (router source : Address) (hash : List ℕ) (told port epoch : ℕ) → big_bytes 2 told ≡ big_bytes 2 port
    → challenge_of key (record { router = router; source = source; hash = hash; port = told; epoch = epoch })
    ≡ challenge_of key (record { router = router; source = source; hash = hash; port = port; epoch = epoch })
unfolding challenge_of
same_ports key router source hash told port epoch same =
    ap (λ (bytes : List ℕ).
    (address_bytes router ++ (address_bytes source ++ (hash ++ (bytes ++ big_bytes 8 epoch))))
    ++ tag_of key epoch (address_bytes router ++ (address_bytes source ++ (hash ++ (bytes ++ big_bytes 8 epoch))))) same

-- a challenge that tells the port by its two bytes is the one that asks the source of a frame
pub same_challenge : (key : RouterKey) (spelled : Option Frame) (source : Address) (hash body : List ℕ) (told port time : ℕ)
    → IfSome spelled (λ f. source ≡ f.from) → IfSome spelled (λ f. hash ≡ packet_hash_of f) → big_bytes 2 told ≡ big_bytes 2 port
    → body ≡ challenge_of key (record { router = key.address; source = source; hash = hash; port = told; epoch = epoch_at key time })
    → IfSome spelled (λ f. body ≡ challenge_of key (record { router = key.address; source = f.from; hash = packet_hash_of f; port = port; epoch = epoch_at key time }))
same_challenge key None source hash body told port time from hashed same is = tt
same_challenge key (Some f) source hash body told port time from hashed same is =
    is
    ∙ ap (λ (s : Address). challenge_of key (record { router = key.address; source = s; hash = hash; port = told; epoch = epoch_at key time })) from
    ∙ ap (λ (h : List ℕ). challenge_of key (record { router = key.address; source = f.from; hash = h; port = told; epoch = epoch_at key time })) hashed
    ∙ same_ports key key.address f.from (packet_hash_of f) told port (epoch_at key time) same
