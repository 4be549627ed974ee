-- What a line, and the end of a file, lead to by the event that is due next, if one is.
use Rattle.std.proofs.Common.{◌≡◌, inl, inr, ℕ, zero, suc, ◌+◌, ◌<◌, ◌≤◌, Bool, true, false, List, [], ◌∷◌, ◌++◌, length, drop, Some, None, get_or, refl, sym, ap, ◌∙◌, subst, arith, true≢false}
use Rattle.std.specs.Prelude.{codes}
use Rattle.std.specs.Str.{bytes_eq}
use Rattle.std.specs.Cmp.Lexicographic.{bytes_decides}
use Rattle.std.proofs.lemmas.List.{drop_more, length-append}
use Rattle.aip_event.specs.declared.event.Event.{Event}
use Rattle.aip_event.specs.declared.input.Input.{Input}
use Rattle.aip_event.specs.Lines.{event_line}
use Rattle.aip_topo.specs.Sound.{IsSound}
use Rattle.aip_topo.specs.declared.topology.Topology.{Topology}
use Rattle.aip_rules.specs.declared.StepFault.{StepFault}
use Rattle.aip_core.specs.Answers.{IsRefusal}
use Rattle.aip_core.specs.Kept.{Kept}
use Rattle.aip_core.specs.declared.ends.StepEnd.TheVariants.{Refused}
use Rattle.aip_replay.specs.Answers.{IsFirstWrong}
use Rattle.aip_replay.specs.Lines.{IsReadOn}
use Rattle.aip_replay.specs.Marks.{event_mark}
use Rattle.aip_replay.specs.Texts.{IsTraceLine, IsTraceText, is_marked}
use Rattle.aip_replay.specs.Turns.{HasCome}
use Rattle.aip_replay.proofs.Judging.{ended, no_input, other_line, refused_input, saw_event, stopped, unmarked_line}

-- none is due where all were seen
pub none_due : (due : List Event) (seen : ℕ) → length due ≤ seen → drop seen due ≡ []
none_due [] zero le = refl
none_due [] (suc seen) le = refl
none_due (event ∷ due) zero le = absurd (omega arith)
none_due (event ∷ due) (suc seen) le = none_due due seen (omega arith)

module _ (topo : Topology) (sound : IsSound topo) (core : Kept) (all due : List Event) (seen number : ℕ) (file left line : List ℕ) (event : Event) (same : all ≡ due) (less : seen < length due) (is : event ≡ get_or all seen event) where
  -- the event that is due next stands first among those that are due
  first_due : drop seen due ≡ event ∷ drop (seen + 1) due
  first_due =
      drop_more due seen event less ∙ ap (λ (e : Event). e ∷ drop (seen + 1) due) (sym (subst (λ (l : List Event). event ≡ get_or l seen event) same is))

  -- its line leads on
  pub took_event : IsTraceLine line → bytes_eq (event_mark event) line ≡ true → HasCome topo core (drop seen due) number file (line ++ 10 ∷ left)
      → HasCome topo core (drop (seen + 1) due) (number + 1) file left
  took_event plain so came =
      saw_event topo sound core number file left line plain event (drop (seen + 1) due)
      (subst (λ (l : List Event). HasCome topo core l number file (line ++ 10 ∷ left)) first_due came)
      (sym ((bytes_decides (event_mark event) line).0 so))

  -- any other is wrong
  pub missed_event : IsTraceLine line → bytes_eq (event_mark event) line ≡ false → HasCome topo core (drop seen due) number file (line ++ 10 ∷ left) → IsFirstWrong topo file number
  missed_event plain other came =
      other_line topo sound core number file left line plain event (drop (seen + 1) due)
      (subst (λ (l : List Event). HasCome topo core l number file (line ++ 10 ∷ left)) first_due came)
      (λ so. true≢false (sym ((bytes_decides (event_mark event) line).1 (sym so)) ∙ other))

-- where all were seen the replay has come to its line with none due
pub none_comes : (topo : Topology) (core : Kept) (due : List Event) (seen number : ℕ) (file left : List ℕ) → length due ≤ seen → HasCome topo core (drop seen due) number file left → HasCome topo core [] number file left
none_comes topo core due seen number file left le came = subst (λ (l : List Event). HasCome topo core l number file left) (none_due due seen le) came

module _ (topo : Topology) (sound : IsSound topo) (core : Kept) (number : ℕ) (file left line : List ℕ) (plain : IsTraceLine line) (came : HasCome topo core [] number file (line ++ 10 ∷ left)) where
  -- a line that has no input is wrong
  pub missed_input : IsReadOn line None → IsFirstWrong topo file number
  missed_input (inl unmarked) = unmarked_line topo sound core number file left line plain came unmarked
  missed_input (inr none) = by (is_marked line) refl
    where
      by : (b : Bool) → is_marked line ≡ b → IsFirstWrong topo file number
      by true e = no_input topo sound core number file left line plain came e none
      by false e = unmarked_line topo sound core number file left line plain came e

  -- so is one whose input the core refuses
  pub refused_here : (input : Input) (other : Kept) (f : StepFault) → IsReadOn line (Some input) → IsRefusal core input (Refused other f) → IsFirstWrong topo file number
  refused_here input other f read refused = refused_input topo sound core number file left line plain came input f read.1 read.2 refused.1

-- an event is due where not all were seen
record IsDue (due : List Event) (seen : ℕ) : Type 0 where
  event : Event
  first : drop seen due ≡ event ∷ drop (seen + 1) due

some_due : (due : List Event) (seen : ℕ) → seen < length due → IsDue due seen
some_due [] seen less = absurd (omega arith)
some_due (event ∷ due) seen less = record { event = get_or (event ∷ due) seen event; first = drop_more (event ∷ due) seen event less }

-- a file that ends there only stops too early
pub stopped_early : (topo : Topology) → IsSound topo → (core : Kept) (due : List Event) (seen number : ℕ) (file : List ℕ) → seen < length due → HasCome topo core (drop seen due) number file []
    → IsFirstWrong topo file number
stopped_early topo sound core due seen number file less came =
    let d = some_due due seen less in
    stopped topo sound core d.event (drop (seen + 1) due) number file (subst (λ (l : List Event). HasCome topo core l number file []) d.first came)

-- a file that ends where all events were seen is a trace text
pub came_to_end : (topo : Topology) → IsSound topo → (core : Kept) (due : List Event) (seen number : ℕ) (file : List ℕ) → length due ≤ seen → HasCome topo core (drop seen due) number file [] → IsTraceText topo file
came_to_end topo sound core due seen number file le came =
    ended topo sound core number file (subst (λ (l : List Event). HasCome topo core l number file []) (none_due due seen le) came)
