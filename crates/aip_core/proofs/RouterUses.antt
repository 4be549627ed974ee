-- What a router keeps, at the start, through events and inputs that don't concern it, and through its restart.
use Rattle.std.proofs.Common.{◌≡◌, ℕ, ◌+◌, ◌<◌, ◌||◌, true, false, cond, List, [], ◌∷◌, ◌++◌, refl, sym, ap, subst, ◌∙◌, zero-add, arith}
use Rattle.std.specs.Prelude.{nat_lt}
use Rattle.std.proofs.lemmas.Bool.Decides.{nat_tests}
use Rattle.aip_event.specs.declared.event.Event.{Event}
use Rattle.aip_event.specs.declared.event.Event.TheVariants.{Forward, Proved, Wild}
use Rattle.aip_event.specs.declared.input.Input.{Input}
use Rattle.aip_topo.specs.Sound.{IsSound}
use Rattle.aip_topo.specs.declared.topology.Router.{Router}
use Rattle.aip_topo.specs.declared.topology.Topology.{Topology}
use Rattle.accept_cache.specs.Accepted.{PairUses, WildcardUses}
use Rattle.accept_cache.specs.Kept.{HasRoom}
use Rattle.accept_cache.specs.Recency.{Proved as ProvedUse}
use Rattle.accept_cache.specs.Keys.{pair_of, wildcard_of}
use Rattle.accept_cache.specs.StandsFor.{CacheStandsFor}
use Rattle.accept_cache.proofs.Laws.{nothing_stands}
use Rattle.aip_rules.specs.declared.Entry.{Entry}
use Rattle.aip_rules.specs.declared.Entry.TheVariants.{Taken, Happened}
use Rattle.aip_rules.specs.Accepted.{limits_of, hit_of_pair, hit_of_wildcard, pair_uses, wildcard_uses}
use Rattle.aip_rules.specs.State.{now_of, is_restart_of, restarts_of, delivered_frame}
use Rattle.aip_rules.specs.Step.{with_events, after_step}
use Rattle.aip_core.specs.RouterMachine.{RouterState, router_at_start, started_anew}
use Rattle.aip_core.specs.RouterStands.{RouterStands, is_use_of, AreNoUses}

-- ---- at the start

at_least_one : (value most : ℕ) → (nat_lt value 1 || nat_lt most value) ≡ false → 0 < value
at_least_one value most e = grind (arith, nat_tests)

-- the settings of a sound topology leave room for what is accepted
pub has_room : (topo : Topology) → IsSound topo → HasRoom (limits_of topo.settings)
has_room topo sound = record {
  accept = at_least_one topo.settings.accept _ sound.settings.0;
  cache = at_least_one topo.settings.cache _ sound.settings.1.0;
  threshold = at_least_one topo.settings.threshold _ sound.settings.1.1.1.1.1.0;
  wild = at_least_one topo.settings.wild _ sound.settings.1.1.1.1.1.1.0;
  wildcache = at_least_one topo.settings.wildcache _ sound.settings.1.1.1.1.1.1.1.0;
}

-- what any router keeps before any input stands for the empty trace
pub starts : (topo : Topology) (self : Router) → IsSound topo → RouterStands topo [] self (router_at_start topo.settings)
starts topo self sound = record {
  boot = refl;
  limits = refl;
  accepts = nothing_stands (limits_of topo.settings) (has_room topo sound);
}

-- ---- through events that use nothing at the router

pairs_same : (event : Event) (tr : List Entry) (name : List ℕ) → is_use_of event name ≡ false → pair_uses (Happened event ∷ tr) name ≡ pair_uses tr name
pairs_same (Proved router source port) tr name e = ap (λ b. cond b (ProvedUse (pair_of source port) (now_of tr) ∷ []) [] ++ pair_uses tr name) e
pairs_same (Forward router port out cause) tr name e = ap (λ b. cond b (hit_of_pair cause (delivered_frame tr) port) [] ++ pair_uses tr name) e
pairs_same event tr name e = refl

wilds_same : (event : Event) (tr : List Entry) (name : List ℕ) → is_use_of event name ≡ false → wildcard_uses (Happened event ∷ tr) name ≡ wildcard_uses tr name
wilds_same (Wild router ad port) tr name e = ap (λ b. cond b (ProvedUse (wildcard_of ad port) (now_of tr) ∷ []) [] ++ wildcard_uses tr name) e
wilds_same (Forward router port out cause) tr name e = ap (λ b. cond b (hit_of_wildcard cause (delivered_frame tr) port) [] ++ wildcard_uses tr name) e
wilds_same event tr name e = refl

-- the cache accepts by uses that are the same
pub accepts_same : (state : RouterState) (uses others : PairUses) (wilds more : WildcardUses) → uses ≡ others → wilds ≡ more → CacheStandsFor uses wilds state.cache → CacheStandsFor others more state.cache
accepts_same state uses others wilds more pairs doms h =
    subst (λ (ws : WildcardUses). CacheStandsFor others ws state.cache) doms (subst (λ (us : PairUses). CacheStandsFor us wilds state.cache) pairs h)

module _ (topo : Topology) (self : Router) (state : RouterState) where
  -- an event that uses nothing at the router leaves what it keeps standing
  pub unused : (event : Event) (tr : List Entry) → is_use_of event self.name ≡ false → RouterStands topo tr self state → RouterStands topo (Happened event ∷ tr) self state
  unused event tr e stands = record {
    boot = stands.boot;
    limits = stands.limits;
    accepts = accepts_same state _ _ _ _ (sym (pairs_same event tr self.name e)) (sym (wilds_same event tr self.name e)) stands.accepts;
  }

  -- and so do many
  pub all_unused : (events : List Event) (tr : List Entry) → AreNoUses self.name events → RouterStands topo tr self state → RouterStands topo (with_events events tr) self state
  all_unused [] tr none stands = stands
  all_unused (event ∷ events) tr none stands = all_unused events (Happened event ∷ tr) none.1 (unused event tr none.0 stands)

  -- ---- through inputs

  -- an input that doesn't start the router anew leaves what it keeps standing
  pub taken : (input : Input) (tr : List Entry) → is_restart_of input self.name ≡ false → RouterStands topo tr self state → RouterStands topo (Taken input ∷ tr) self state
  taken input tr e stands = record {
    boot = stands.boot ∙ sym (ap (λ b. cond b 1 0 + restarts_of tr self.name) e ∙ zero-add (restarts_of tr self.name));
    limits = stands.limits;
    accepts = accepts_same state _ _ _ _ (sym (ap (λ b. cond b [] (pair_uses tr self.name)) e)) (sym (ap (λ b. cond b [] (wildcard_uses tr self.name)) e)) stands.accepts;
  }

  -- a step that doesn't start the router anew, and whose events use nothing at it, leaves what it keeps standing
  pub others_stay : (input : Input) (events : List Event) (tr : List Entry) → is_restart_of input self.name ≡ false → AreNoUses self.name events
      → RouterStands topo tr self state → RouterStands topo (after_step tr input events) self state
  others_stay input events tr e none stands = all_unused events (Taken input ∷ tr) none (taken input tr e stands)

one_more : (a b : ℕ) → a ≡ b → a + 1 ≡ 1 + b
one_more a b e = omega arith

-- what a router keeps once it was started anew stands for the trace with that input and events that use nothing at it
pub restarts : (topo : Topology) (self : Router) (state : RouterState) (input : Input) (events : List Event) (tr : List Entry) → is_restart_of input self.name ≡ true → AreNoUses self.name events
    → RouterStands topo tr self state → RouterStands topo (after_step tr input events) self (started_anew state)
restarts topo self state input events tr e none stands =
    let again : RouterStands topo (Taken input ∷ tr) self (started_anew state) = record {
      boot = one_more state.boot (restarts_of tr self.name) stands.boot ∙ sym (ap (λ b. cond b 1 0 + restarts_of tr self.name) e);
      limits = stands.limits;
      accepts = accepts_same (started_anew state) _ _ _ _ (sym (ap (λ b. cond b [] (pair_uses tr self.name)) e)) (sym (ap (λ b. cond b [] (wildcard_uses tr self.name)) e))
          (nothing_stands state.cache.limits stands.accepts.room);
    } in
    all_unused topo self (started_anew state) events (Taken input ∷ tr) none again
