-- No leaf signs twice: a host signs with its next leaf, which is past all that signed, and no two hosts have keys with one
-- identifier.
use Rattle.std.proofs.Common.{◌≡◌, ◌≢◌, ℕ, ◌+◌, ◌≤◌, Bool, true, false, cond, List, [], ◌∷◌, ◌++◌, Option, Some, None, Result, Ok, Err, refl, sym, ap, ◌∙◌, arith}
use Rattle.std.specs.Prelude.{IfOk, max}
use Rattle.std.specs.Str.{bytes_eq}
use Rattle.std.specs.Cmp.Lexicographic.{bytes_decides}
use Rattle.std.proofs.lemmas.Bool.{or_left, or_right, both_ways, cond-true}
use Rattle.aip_addr.specs.declared.ids.KeyId.{KeyId}
use Rattle.aip_frame.specs.Frame.{frame_of}
use Rattle.aip_event.specs.declared.event.Event.{Event}
use Rattle.aip_event.specs.declared.event.Event.TheVariants.{Signed}
use Rattle.aip_event.specs.declared.input.Input.{Input}
use Rattle.aip_topo.specs.Sound.{IsSound, AreDistinct, has_text, domain_identifiers, host_identifiers, identifiers_in}
use Rattle.aip_topo.specs.declared.topology.Key.{Key}
use Rattle.aip_topo.specs.declared.topology.Key.TheVariants as key
use Rattle.aip_topo.specs.declared.topology.Part.{Part}
use Rattle.aip_topo.specs.declared.topology.Part.TheVariants.{Host, Link}
use Rattle.aip_topo.specs.declared.topology.Topology.{Topology}
use Rattle.lms_core.specs.Tree.{Key as PrivateKey, identifier_of}
use Rattle.aip_rules.specs.declared.Entry.{Entry}
use Rattle.aip_rules.specs.declared.Entry.TheVariants.{Taken, Happened}
use Rattle.aip_rules.specs.declared.Flight.{Flight}
use Rattle.aip_rules.specs.declared.Reaction.{Reaction}
use Rattle.aip_rules.specs.declared.StepFault.{StepFault}
use Rattle.aip_rules.specs.State.{flight_count}
use Rattle.aip_rules.specs.Nodes.{made_key, host_named, key_of_host, key_named}
use Rattle.aip_rules.specs.Reaction.{put_event, numbered, events_on}
use Rattle.aip_rules.specs.Standing.{Standing, standing, past_leaf, next_leaf}
use Rattle.aip_rules.specs.Host.{withheld_key, handed_to}
use Rattle.aip_rules.specs.Step.{outcome_of}
use Rattle.aip_rules.specs.Promises.{identifier_in, identifier_at, IsNotBy, IsUnsigned, IsFirstSignature, NoLeafSignsTwice, HoldsOfAll}
use Rattle.aip_rules.proofs.SilentEvents.{IsPlain, ArePlain, Adds, past_plain, of_trace}
use Rattle.aip_rules.proofs.SilentSteps.{Comes, Plainly, ByOther, ByHand, BySignature, ByObeying, ByHalting, outcome_comes}

-- the identifier of the key of the host of this name on these lines
abbrev identifier_on : List Part → List ℕ → Option (List ℕ)
identifier_on parts name = identifier_in (key_named parts name)

-- the identifier of a key that has one stands among those of the key
own_identifier : (own : Key) (texts : List (List ℕ)) (id : List ℕ) → identifier_in (made_key own) ≡ Some id → has_text id (identifiers_in own ++ texts) ≡ true
own_identifier key.Given texts id e = absurd cc
own_identifier (key.Made k) texts id e =
    let same : identifier_of k.seed ≡ id = cc in
    or_left (bytes_eq (identifier_of k.seed) id) (has_text id texts) ((bytes_decides (identifier_of k.seed) id).1 same)

-- and no other text behind it is the same
own_alone : (own : Key) (texts : List (List ℕ)) (id : List ℕ) → identifier_in (made_key own) ≡ Some id → AreDistinct (identifiers_in own ++ texts) → has_text id texts ≡ false
own_alone key.Given texts id e distinct = absurd cc
own_alone (key.Made k) texts id e distinct =
    let same : identifier_of k.seed ≡ id = cc in
    ap (λ (text : List ℕ). has_text text texts) (sym same) ∙ distinct.0

-- a text behind others
behind_texts : (before texts : List (List ℕ)) (id : List ℕ) → has_text id texts ≡ true → has_text id (before ++ texts) ≡ true
behind_texts [] texts id h = h
behind_texts (text ∷ before) texts id h = or_right (bytes_eq text id) (has_text id (before ++ texts)) (behind_texts before texts id h)

-- the texts behind others differ too
rest_distinct : (before texts : List (List ℕ)) → AreDistinct (before ++ texts) → AreDistinct texts
rest_distinct [] texts h = h
rest_distinct (text ∷ before) texts h = rest_distinct before texts h.1

-- the identifier of the key of a host is among the identifiers of the hosts' keys
is_among : (parts : List Part) (name id : List ℕ) → identifier_on parts name ≡ Some id → has_text id (host_identifiers parts) ≡ true
is_among [] name id e = absurd cc
is_among (Link link ∷ parts) name id e = is_among parts name id e
is_among (Host host ∷ parts) name id e = by (bytes_eq host.name name) (is_among parts name id) e
  where
    by : (b : Bool) → (identifier_on parts name ≡ Some id → has_text id (host_identifiers parts) ≡ true)
        → identifier_in (key_of_host (cond b (Some host) (host_named parts name))) ≡ Some id → has_text id (identifiers_in host.key ++ host_identifiers parts) ≡ true
    by true rest e = own_identifier host.key (host_identifiers parts) id e
    by false rest e = behind_texts (identifiers_in host.key) (host_identifiers parts) id (rest e)

-- hosts whose keys have one identifier have one name
one_name : (parts : List Part) (a b id : List ℕ) → AreDistinct (host_identifiers parts) → identifier_on parts a ≡ Some id → identifier_on parts b ≡ Some id → a ≡ b
one_name [] a b id distinct p q = absurd cc
one_name (Link link ∷ parts) a b id distinct p q = one_name parts a b id distinct p q
one_name (Host host ∷ parts) a b id distinct p q =
    by (bytes_eq host.name a) (bytes_eq host.name b) refl refl p q (one_name parts a b id (rest_distinct (identifiers_in host.key) (host_identifiers parts) distinct))
  where
    by : (c d : Bool) → bytes_eq host.name a ≡ c → bytes_eq host.name b ≡ d
        → identifier_in (key_of_host (cond c (Some host) (host_named parts a))) ≡ Some id → identifier_in (key_of_host (cond d (Some host) (host_named parts b))) ≡ Some id
        → (identifier_on parts a ≡ Some id → identifier_on parts b ≡ Some id → a ≡ b) → a ≡ b
    by true true c d p q rest = sym ((bytes_decides host.name a).0 c) ∙ (bytes_decides host.name b).0 d
    by true false c d p q rest = absurd (both_ways (has_text id (host_identifiers parts)) (own_alone host.key (host_identifiers parts) id p distinct) (is_among parts b id q))
    by false true c d p q rest = absurd (both_ways (has_text id (host_identifiers parts)) (own_alone host.key (host_identifiers parts) id q distinct) (is_among parts a id p))
    by false false c d p q rest = rest p q

-- on a sound topology hosts whose keys have one identifier have one name
one_host : (topo : Topology) → IsSound topo → (a b id : List ℕ) → identifier_at topo a ≡ Some id → identifier_at topo b ≡ Some id → a ≡ b
one_host topo sound a b id p q =
    one_name topo.parts a b id (rest_distinct (domain_identifiers topo.domains) (host_identifiers topo.parts) sound.identifiers_differ) p q

-- ---- the leaves of a trace

module _ (topo : Topology) (name : List ℕ) (leaf : ℕ) (one : (host : List ℕ) → identifier_at topo host ≡ identifier_at topo name → host ≡ name) where
  -- a signature by another leaf
  other_leaf : (host : List ℕ) (other rest : ℕ) → max (past_leaf (Signed host other) name) rest ≤ leaf → identifier_at topo host ≡ identifier_at topo name → other ≢ leaf
  other_leaf host other rest below e =
      let own : bytes_eq host name ≡ true = (bytes_decides host name).1 (one host e) in
      let past : past_leaf (Signed host other) name ≡ other + 1 = cond-true (bytes_eq host name) (other + 1) 0 own in
      omega arith

  not_by : (event : Event) (rest : ℕ) → max (past_leaf event name) rest ≤ leaf → IsNotBy topo (identifier_at topo name) leaf event
  not_by (Signed host other) rest below = other_leaf host other rest below
  not_by _ rest below = tt

  -- no leaf from the next one on has signed
  unsigned : (tr : List Entry) → next_leaf tr name ≤ leaf → IsUnsigned topo (identifier_at topo name) leaf tr
  unsigned [] below = tt
  unsigned (Taken input ∷ tr) below = unsigned tr below
  unsigned (Happened event ∷ tr) below = (not_by event (next_leaf tr name) below, unsigned tr (omega arith))

-- the next leaf of a host with a key has not signed, nor has it with another key of its identifier
fresh_leaf : (topo : Topology) → IsSound topo → (name : List ℕ) (own : PrivateKey) (tr : List Entry) → key_named topo.parts name ≡ Some own
    → IsUnsigned topo (identifier_at topo name) (next_leaf tr name) tr
fresh_leaf topo sound name own tr e =
    let known : identifier_at topo name ≡ Some (identifier_of own.seed) = ap identifier_in e in
    unsigned topo name (next_leaf tr name) (λ host same. one_host topo sound host name (identifier_of own.seed) (same ∙ known) known) tr (omega arith)

-- ---- the steps

module _ (topo : Topology) (sound : IsSound topo) where
  plain_first : (tr : List Entry) (event : Event) → IsPlain event → IsFirstSignature topo tr event
  plain_first tr (Signed host leaf) plain = absurd plain
  plain_first tr _ plain = tt

  -- the events add first signatures alone
  abbrev AddsFirst : List Entry → List Event → Type 0
  AddsFirst = Adds (IsFirstSignature topo)

  -- plain events and others
  past : (events rest : List Event) (tr : List Entry) → ArePlain events → ((after : List Entry) → AddsFirst after rest) → AddsFirst tr (events ++ rest)
  past events rest tr plain behind =
      past_plain (IsFirstSignature topo) plain_first (λ tr. Unit {0}) (λ event tr still. tt) events rest tr plain tt (λ after still. behind after)

  put_first : (put : Option Flight) (number : ℕ) (tr : List Entry) → AddsFirst tr (put_event number put)
  put_first None number tr = tt
  put_first (Some flight) number tr = (tt, tt)

  handed_first : (s : Standing) (bytes : List ℕ) (withheld : Option KeyId) (number : ℕ) (tr : List Entry) → AddsFirst tr (numbered number (handed_to s bytes withheld))
  handed_first s bytes None number tr = (tt, tt)
  handed_first s bytes (Some to) number tr = (tt, tt)

  comes_first : (tr : List Entry) (input : Input) (number : ℕ) (reaction : Reaction) → Comes topo tr input reaction → AddsFirst (Taken input ∷ tr) (numbered number reaction)
  comes_first tr input number reaction (Plainly events plain) = past events [] (Taken input ∷ tr) plain (λ after. tt)
  comes_first tr input number reaction (ByOther other none plain) = past other.events (put_event number other.put) (Taken input ∷ tr) plain (put_first other.put number)
  comes_first tr input number reaction (ByHand seat by bytes) =
      let s = standing topo tr seat in handed_first s bytes (withheld_key s (frame_of bytes)) number (Taken input ∷ tr)
  comes_first tr input number reaction (BySignature seat by own known bytes) =
      let s = standing topo tr seat in
      (fresh_leaf topo sound seat.name own tr known, handed_first s bytes (withheld_key s (frame_of bytes)) number (Happened (Signed seat.name (next_leaf tr seat.name)) ∷ (Taken input ∷ tr)))
  comes_first tr input number reaction (ByObeying seat by flight frame until ordered) = (tt, tt)
  comes_first tr input number reaction (ByHalting seat by flight frame until call byte ordered) = (tt, tt)

  outcome_first : (tr : List Entry) (input : Input) (outcome : Result Reaction StepFault) → IfOk outcome (Comes topo tr input)
      → IfOk outcome (λ reaction. AddsFirst (Taken input ∷ tr) (events_on tr reaction))
  outcome_first tr input (Ok reaction) comes = comes_first tr input (flight_count tr) reaction comes
  outcome_first tr input (Err f) comes = tt

pub none_twice : HoldsOfAll NoLeafSignsTwice
none_twice = λ topo sound inputs tr e.
    of_trace (IsFirstSignature topo) (NoLeafSignsTwice topo) (λ input tr p. p) (λ event tr h p. (h, p)) topo
    (λ tr input. outcome_first topo sound tr input (outcome_of topo tr input) (outcome_comes topo tr input)) inputs [] tr tt e
