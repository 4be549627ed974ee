-- A pair that is fresh on a backed trace has an answer, and a fresh wildcard was made by many.
use Rattle.std.proofs.Common.{◌≡◌, ◌⊎◌, ℕ, ◌+◌, ◌<◌, ◌≤◌, Bool, true, false, cond, List, [], ◌∷◌, ◌++◌, Option, Some, None, refl, sym, subst, ◌∙◌, inl, inr, arith, true≢false}
use Rattle.std.proofs.lemmas.Bool.Decides.{nat_tests}
use Rattle.std.proofs.lemmas.Slice.Eq.{bytes_eq-Decides}
use Rattle.std.specs.Cmp.{second_so}
use Rattle.std.specs.Str.{bytes_eq}
use Rattle.aip_addr.specs.declared.ids.Id.{Id}
use Rattle.aip_addr.specs.declared.ids.Address.{Address}
use Rattle.aip_frame.specs.declared.frame.Frame.{Frame}
use Rattle.aip_event.specs.declared.event.Cause.{Cause}
use Rattle.aip_event.specs.declared.event.Cause.TheVariants as cause
use Rattle.aip_event.specs.declared.event.Event.{Event}
use Rattle.aip_event.specs.declared.event.Event.TheVariants as event
use Rattle.accept_cache.specs.declared.keys.Pair.{Pair}
use Rattle.accept_cache.specs.declared.keys.Wildcard.{Wildcard}
use Rattle.accept_cache.specs.Keys.{same_pair, same_wildcard, pair_of, wildcard_of}
use Rattle.accept_cache.specs.Recency.{Proved, touched, last_proved, is_held, is_within}
use Rattle.accept_cache.specs.Accepted.{PairUses, WildcardUses, is_fresh_pair, is_fresh_wildcard, fresh_sources}
use Rattle.accept_cache.proofs.KeyLemmas.{same_pair_decides, same_wildcard_decides}
use Rattle.aip_topo.specs.declared.topology.Router.{Router}
use Rattle.aip_topo.specs.declared.topology.Topology.{Topology}
use Rattle.aip_rules.specs.declared.Entry.{Entry}
use Rattle.aip_rules.specs.declared.Entry.TheVariants.{Taken, Happened}
use Rattle.aip_rules.specs.State.{now_of, is_restart_of, delivered_frame}
use Rattle.aip_rules.specs.Accepted.{limits_of, hit_of_pair, pair_use, pair_uses, hit_of_wildcard, wildcard_use, wildcard_uses}
use Rattle.aip_rules.specs.Promises.{Answered, ManyAnswered, MakesWildcard, WildcardMade}
use Rattle.aip_rules.proofs.JustifiedBacked.{IsRouterNamed, IsBacked, AreBacked}
use Rattle.aip_rules.proofs.JustifiedSources.{many_answered}

-- a time that is within reach is a time, and reaches past now
within : (lasting now : ℕ) (last : Option ℕ) → is_within lasting now last ≡ true → (time : ℕ) × (last ≡ Some time) × (now < time + lasting)
within lasting now None t = absurd (true≢false (sym t))
within lasting now (Some time) t = (time, refl, grind (arith, nat_tests))

-- a hit is no proof
past_pair_hit : (own : Bool) (why : Cause) (frame : Option Frame) (port : ℕ) (uses : PairUses) (pair : Pair)
    → last_proved same_pair (cond own (hit_of_pair why frame port) [] ++ uses) pair ≡ last_proved same_pair uses pair
past_pair_hit false why frame port uses pair = refl
past_pair_hit true cause.Proved (Some frame) port uses pair = refl
past_pair_hit true cause.Proved None port uses pair = refl
past_pair_hit true _ frame port uses pair = refl

past_wildcard_hit : (own : Bool) (why : Cause) (frame : Option Frame) (port : ℕ) (uses : WildcardUses) (wildcard : Wildcard)
    → last_proved same_wildcard (cond own (hit_of_wildcard why frame port) [] ++ uses) wildcard ≡ last_proved same_wildcard uses wildcard
past_wildcard_hit false why frame port uses wildcard = refl
past_wildcard_hit true cause.Wild (Some frame) port uses wildcard = refl
past_wildcard_hit true cause.Wild None port uses wildcard = refl
past_wildcard_hit true _ frame port uses wildcard = refl

module _ (topo : Topology) (place : ℕ) (self : Router) (named : IsRouterNamed topo self.name place self) where
  -- the last proof of a source at a port is an earlier one, or this event's
  proved_by : (tr : List Entry) (source : Address) (port time now : ℕ) (event : Event) → IsBacked topo tr event → now < time + topo.settings.accept
      → last_proved same_pair (pair_use tr event self.name ++ pair_uses tr self.name) (pair_of source port) ≡ Some time
      → (last_proved same_pair (pair_uses tr self.name) (pair_of source port) ≡ Some time) ⊎ Answered topo place self tr source port now
  proved_by tr source port time now (event.Proved router other at) backed before e =
      by (bytes_eq router self.name) refl (same_pair (pair_of source port) (pair_of other at)) refl e
    where
      by : (own : Bool) → bytes_eq router self.name ≡ own → (same : Bool) → same_pair (pair_of source port) (pair_of other at) ≡ same
          → last_proved same_pair (cond own (Proved (pair_of other at) (now_of tr) ∷ []) [] ++ pair_uses tr self.name) (pair_of source port) ≡ Some time
          → (last_proved same_pair (pair_uses tr self.name) (pair_of source port) ≡ Some time) ⊎ Answered topo place self tr source port now
      by false o same s l = inl l
      by true o false s l = inl (subst (λ b. cond b (Some (now_of tr)) (last_proved same_pair (pair_uses tr self.name) (pair_of source port)) ≡ Some time) s l)
      by true o true s l =
          let name : router ≡ self.name = (bytes_eq-Decides router self.name).0 o in
          let pair : pair_of source port ≡ pair_of other at = (same_pair_decides (pair_of source port) (pair_of other at)).0 s in
          let found : Some (now_of tr) ≡ Some time = subst (λ b. cond b (Some (now_of tr)) (last_proved same_pair (pair_uses tr self.name) (pair_of source port)) ≡ Some time) s l in
          let time_is : now_of tr ≡ time = cc in
          let answered : Answered topo place self tr other at now =
          backed place self (subst (λ n. IsRouterNamed topo n place self) (sym name) named) now (subst (λ n. now < n + topo.settings.accept) (sym time_is) before) in
          inr (subst (λ (p : Pair). Answered topo place self tr p.source p.port now) (sym pair) answered)
  proved_by tr source port time now (event.Forward router at out why) backed before e =
      inl (sym (past_pair_hit (bytes_eq router self.name) why (delivered_frame tr) at (pair_uses tr self.name) (pair_of source port)) ∙ e)
  proved_by tr source port time now _ backed before e = inl e

  -- a source that was proved at a port answered for it, for as long as the last answer lasts
  proved_answered : (tr : List Entry) → AreBacked topo tr → (source : Address) (port time now : ℕ) → now < time + topo.settings.accept
      → last_proved same_pair (pair_uses tr self.name) (pair_of source port) ≡ Some time → Answered topo place self tr source port now
  proved_answered [] backed source port time now before e = absurd cc
  proved_answered (Taken input ∷ tr) backed source port time now before e =
      by (is_restart_of input self.name) refl e (proved_answered tr backed source port time now before)
    where
      by : (anew : Bool) → is_restart_of input self.name ≡ anew → last_proved same_pair (cond anew [] (pair_uses tr self.name)) (pair_of source port) ≡ Some time
          → (last_proved same_pair (pair_uses tr self.name) (pair_of source port) ≡ Some time → Answered topo place self tr source port now)
          → Answered topo place self (Taken input ∷ tr) source port now
      by true a l rest = absurd cc
      by false a l rest = (a, inr (rest l))
  proved_answered (Happened event ∷ tr) backed source port time now before e =
      by (proved_by tr source port time now event backed.0 before e) (proved_answered tr backed.1 source port time now before)
    where
      by : (last_proved same_pair (pair_uses tr self.name) (pair_of source port) ≡ Some time) ⊎ Answered topo place self tr source port now
          → (last_proved same_pair (pair_uses tr self.name) (pair_of source port) ≡ Some time → Answered topo place self tr source port now)
          → Answered topo place self tr source port now
      by (inl l) rest = rest l
      by (inr answered) rest = answered

  -- a source that is fresh at a port answered for it
  pub fresh_answered : (tr : List Entry) → AreBacked topo tr → (source : Address) (port now : ℕ)
      → is_fresh_pair (limits_of topo.settings) (pair_uses tr self.name) now (pair_of source port) ≡ true → Answered topo place self tr source port now
  fresh_answered tr backed source port now t =
      let pair = pair_of source port in
      let last = within topo.settings.accept now (last_proved same_pair (pair_uses tr self.name) pair)
      (second_so (is_held same_pair topo.settings.cache (touched (pair_uses tr self.name)) pair) (is_within topo.settings.accept now (last_proved same_pair (pair_uses tr self.name) pair)) t) in
      proved_answered tr backed source port last.0 now last.2 last.1

  -- a threshold of fresh sources of a domain gives a threshold of answers
  pub enough_answered : (tr : List Entry) → AreBacked topo tr → (ad : Id) (port : ℕ)
      → topo.settings.threshold ≤ fresh_sources (limits_of topo.settings) (pair_uses tr self.name) (now_of tr) (wildcard_of ad port)
      → ManyAnswered topo place self tr ad port
  enough_answered tr backed ad port enough =
      many_answered topo place self tr ad port (is_fresh_pair (limits_of topo.settings) (pair_uses tr self.name) (now_of tr))
      (λ pair fresh here.
      let at : pair ≡ pair_of pair.source port = λ i. record { source = pair.source; port = here i } in
      fresh_answered tr backed pair.source port (now_of tr)
      (subst (λ (p : Pair). is_fresh_pair (limits_of topo.settings) (pair_uses tr self.name) (now_of tr) p ≡ true) at fresh))
      (touched (pair_uses tr self.name)) enough

  -- the last making of a wildcard at a port is an earlier one, or this event's
  made_by : (tr : List Entry) (ad : Id) (port time now : ℕ) (event : Event) → IsBacked topo tr event → now < time + topo.settings.wild
      → last_proved same_wildcard (wildcard_use tr event self.name ++ wildcard_uses tr self.name) (wildcard_of ad port) ≡ Some time
      → (MakesWildcard self ad port event × (now < now_of tr + topo.settings.wild) × ManyAnswered topo place self tr ad port)
      ⊎ (last_proved same_wildcard (wildcard_uses tr self.name) (wildcard_of ad port) ≡ Some time)
  made_by tr ad port time now (event.Wild router other at) backed before e =
      by (bytes_eq router self.name) refl (same_wildcard (wildcard_of ad port) (wildcard_of other at)) refl e
    where
      by : (own : Bool) → bytes_eq router self.name ≡ own → (same : Bool) → same_wildcard (wildcard_of ad port) (wildcard_of other at) ≡ same
          → last_proved same_wildcard (cond own (Proved (wildcard_of other at) (now_of tr) ∷ []) [] ++ wildcard_uses tr self.name) (wildcard_of ad port) ≡ Some time
          → (MakesWildcard self ad port (event.Wild router other at) × (now < now_of tr + topo.settings.wild) × ManyAnswered topo place self tr ad port)
          ⊎ (last_proved same_wildcard (wildcard_uses tr self.name) (wildcard_of ad port) ≡ Some time)
      by false o same s l = inr l
      by true o false s l = inr (subst (λ b. cond b (Some (now_of tr)) (last_proved same_wildcard (wildcard_uses tr self.name) (wildcard_of ad port)) ≡ Some time) s l)
      by true o true s l =
          let name : router ≡ self.name = (bytes_eq-Decides router self.name).0 o in
          let wildcard : wildcard_of ad port ≡ wildcard_of other at = (same_wildcard_decides (wildcard_of ad port) (wildcard_of other at)).0 s in
          let found : Some (now_of tr) ≡ Some time = subst (λ b. cond b (Some (now_of tr)) (last_proved same_wildcard (wildcard_uses tr self.name) (wildcard_of ad port)) ≡ Some time) s l in
          let time_is : now_of tr ≡ time = cc in
          let domain_is : other ≡ ad = λ i. (sym wildcard i).ad in
          let port_is : at ≡ port = λ i. (sym wildcard i).port in
          let many : ManyAnswered topo place self tr other at = backed place self (subst (λ n. IsRouterNamed topo n place self) (sym name) named) in
          inl (
            (name, domain_is, port_is),
            subst (λ n. now < n + topo.settings.wild) (sym time_is) before,
            subst (λ (w : Wildcard). ManyAnswered topo place self tr w.ad w.port) (sym wildcard) many,
          )
  made_by tr ad port time now (event.Forward router at out why) backed before e =
      inr (sym (past_wildcard_hit (bytes_eq router self.name) why (delivered_frame tr) at (wildcard_uses tr self.name) (wildcard_of ad port)) ∙ e)
  made_by tr ad port time now _ backed before e = inr e

  -- a wildcard that was made at a port stands under a threshold of answers, for as long as the last making lasts
  made_many : (tr : List Entry) → AreBacked topo tr → (ad : Id) (port time now : ℕ) → now < time + topo.settings.wild
      → last_proved same_wildcard (wildcard_uses tr self.name) (wildcard_of ad port) ≡ Some time → WildcardMade topo place self tr ad port now
  made_many [] backed ad port time now before e = absurd cc
  made_many (Taken input ∷ tr) backed ad port time now before e =
      by (is_restart_of input self.name) refl e (made_many tr backed ad port time now before)
    where
      by : (anew : Bool) → is_restart_of input self.name ≡ anew → last_proved same_wildcard (cond anew [] (wildcard_uses tr self.name)) (wildcard_of ad port) ≡ Some time
          → (last_proved same_wildcard (wildcard_uses tr self.name) (wildcard_of ad port) ≡ Some time → WildcardMade topo place self tr ad port now)
          → WildcardMade topo place self (Taken input ∷ tr) ad port now
      by true a l rest = absurd cc
      by false a l rest = (a, rest l)
  made_many (Happened event ∷ tr) backed ad port time now before e =
      by (made_by tr ad port time now event backed.0 before e) (made_many tr backed.1 ad port time now before)
    where
      by : (MakesWildcard self ad port event × (now < now_of tr + topo.settings.wild) × ManyAnswered topo place self tr ad port)
          ⊎ (last_proved same_wildcard (wildcard_uses tr self.name) (wildcard_of ad port) ≡ Some time)
          → (last_proved same_wildcard (wildcard_uses tr self.name) (wildcard_of ad port) ≡ Some time → WildcardMade topo place self tr ad port now)
          → WildcardMade topo place self (Happened event ∷ tr) ad port now
      by (inl made) rest = inl made
      by (inr l) rest = inr (rest l)

  -- a wildcard that is fresh at a port was made by a threshold of answers
  pub fresh_made : (tr : List Entry) → AreBacked topo tr → (ad : Id) (port now : ℕ)
      → is_fresh_wildcard (limits_of topo.settings) (wildcard_uses tr self.name) now (wildcard_of ad port) ≡ true → WildcardMade topo place self tr ad port now
  fresh_made tr backed ad port now t =
      let wildcard = wildcard_of ad port in
      let last = within topo.settings.wild now (last_proved same_wildcard (wildcard_uses tr self.name) wildcard)
      (second_so (is_held same_wildcard topo.settings.wildcache (touched (wildcard_uses tr self.name)) wildcard)
      (is_within topo.settings.wild now (last_proved same_wildcard (wildcard_uses tr self.name) wildcard)) t) in
      made_many tr backed ad port last.0 now last.2 last.1
