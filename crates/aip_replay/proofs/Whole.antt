-- A line, and a whole replay, from what their parts answer, where the texts are told.
use Rattle.std.proofs.Common.{◌≡◌, ℕ, zero, suc, ◌+◌, ◌≤◌, true, false, List, [], ◌∷◌, ◌++◌, length, drop, Option, Some, None, Result, Ok, refl, sym, ap, ◌∙◌, subst, ◌⊎◌, inl, inr, true≢false}
use Rattle.std.specs.Prelude.{IfSome}
use Rattle.aip_text.specs.Lines.{has_no_line_feed}
use Rattle.aip_io.specs.Lines.{Gives, IsLine, IsLong}
use Rattle.aip_io.specs.declared.got.Got.{Got}
use Rattle.aip_io.specs.declared.got.Got.TheVariants as got
use Rattle.aip_event.specs.declared.event.Event.{Event}
use Rattle.aip_topo.specs.Reading.{RefusedLine, topology_of}
use Rattle.aip_topo.specs.Sound.{IsSound}
use Rattle.aip_topo.specs.declared.topology.Topology.{Topology}
use Rattle.aip_core.specs.StandsFor.{StandsFor}
use Rattle.aip_sim.specs.Judged.{IsOrUnread}
use Rattle.aip_replay.specs.Answers.{Answers, IsRight, IsUnread}
use Rattle.aip_replay.specs.Judged.{JudgesReplay, end_by, end_over, is_topology_refused}
use Rattle.aip_replay.specs.Texts.{IsTraceLine}
use Rattle.aip_replay.specs.Turns.{HasCome, IsOpened, IsTurn, IsUnopened, JudgesAt}
use Rattle.aip_replay.specs.declared.ends.ReplayEnd.{ReplayEnd}
use Rattle.aip_replay.specs.declared.ends.ReplayEnd.TheVariants as replay_end
use Rattle.aip_replay.specs.declared.turns.Judge.{Judge}
use Rattle.aip_replay.specs.declared.turns.Turn.{Turn}
use Rattle.aip_replay.specs.declared.turns.Turn.TheVariants.{Ends, Goes}
use Rattle.aip_replay.proofs.Coming.{last_wrong, long_wrong}

-- ## The next line

-- what a line leads to, where a text is told of which this was left before it and this after it
abbrev pub LeadsTo : Option (List ℕ) → (before after : List ℕ → List ℕ) → ℕ → Judge → Turn → Type 0
LeadsTo t before after number judge turn =
    IfSome t (λ told. (topo : Topology) (file : List ℕ) → IsSound topo → JudgesAt topo judge number file (before told) → IsTurn topo number file (after told) turn)

-- a line that a line feed ends is judged
pub on_line : (t : Option (List ℕ)) (before after : List ℕ → List ℕ) (most : ℕ) (line read : List ℕ) (number : ℕ) (judge : Judge) (g : Got) (turn : Turn) → g ≡ got.Line → most ≡ 20000
    → IfSome t (λ told. Gives g most (before told) line (after told)) → read ≡ line → has_no_line_feed line ≡ true → length line ≤ most
    → ((topo : Topology) (file left : List ℕ) → IsSound topo → IsTraceLine read → JudgesAt topo judge number file (read ++ 10 ∷ left) → IsTurn topo number file left turn)
    → LeadsTo t before after number judge turn
on_line None before after most line read number judge g turn which is gives same one short judged = tt
on_line (Some told) before after most line read number judge g turn which is gives same one short judged = λ topo file sound came.
    let first : IsLine (before told) line (after told) = subst (λ (x : Got). Gives x most (before told) line (after told)) which gives in
    judged topo file (after told) sound (subst IsTraceLine (sym same) (record { one = one; short = subst (λ n. length line ≤ n) is short }))
    (subst (λ (left : List ℕ). JudgesAt topo judge number file left) (first.whole ∙ ap (λ (l : List ℕ). l ++ 10 ∷ after told) (sym same)) came)

-- one that none ends, or that is too long, is wrong
pub on_wrong : (t : Option (List ℕ)) (before after : List ℕ → List ℕ) (most : ℕ) (line : List ℕ) (number : ℕ) (judge : Judge) (g : Got) → (g ≡ got.Last) ⊎ (g ≡ got.Long) → most ≡ 20000
    → IfSome t (λ told. Gives g most (before told) line (after told)) → LeadsTo t before after number judge (Ends (replay_end.Wrong number))
on_wrong None before after most line number judge g which is gives = tt
on_wrong (Some told) before after most line number judge g (inl last) is gives = λ topo file sound came.
    inr (last_wrong topo sound judge.core (drop judge.seen judge.due) number file (before told) came line (after told)
    (subst (λ (x : Got). Gives x most (before told) line (after told)) last gives))
on_wrong (Some told) before after most line number judge g (inr long) is gives = λ topo file sound came.
    let given = subst (λ (x : Got). Gives x most (before told) line (after told)) long gives in
    inr (long_wrong topo sound judge.core (drop judge.seen judge.due) number file (before told) came (subst (λ n. IsLong n (before told)) is given.0))

-- the file ends here
pub on_end : (t : Option (List ℕ)) (before after : List ℕ → List ℕ) (most : ℕ) (line : List ℕ) (number : ℕ) (judge : Judge) (g : Got) (end : ReplayEnd) → g ≡ got.End
    → IfSome t (λ told. Gives g most (before told) line (after told))
    → ((topo : Topology) (file : List ℕ) → IsSound topo → JudgesAt topo judge number file [] → IsRight topo file end) → LeadsTo t before after number judge (Ends end)
on_end None before after most line number judge g end which gives right = tt
on_end (Some told) before after most line number judge g end which gives right = λ topo file sound came.
    let none = subst (λ (x : Got). Gives x most (before told) line (after told)) which gives in
    inr (right topo file sound (subst (λ (left : List ℕ). JudgesAt topo judge number file left) none.0 came))

-- ## The loop

none_left : (n : ℕ) (due : List Event) → due ≡ [] → drop n due ≡ []
none_left zero due none = none
none_left (suc n) due none = ap (λ (l : List Event). drop (suc n) l) none

-- a replay at its first line
pub at_first : (t : Option (List ℕ)) (judge : Judge) (left : List ℕ → List ℕ) → ((text : List ℕ) → left text ≡ text)
    → IfSome t (λ told. (topo : Topology) → IsSound topo → StandsFor topo [] judge.core → judge.due ≡ [] → JudgesAt topo judge 1 told (left told))
at_first None judge left whole = tt
at_first (Some told) judge left whole = λ topo sound stands none.
    subst (λ (due : List Event). HasCome topo judge.core due 1 told (left told)) (sym (none_left judge.seen judge.due none)) (record {
      inputs = [];
      trace = [];
      lines = [];
      formed = tt;
      given = refl;
      stands = stands;
      plain = tt;
      read = refl;
      count = refl;
      whole = sym (whole told);
    })

-- a line that leads on leads to the next
pub went_on : (t now : Option (List ℕ)) (first judge next : Judge) (number : ℕ) (before after : List ℕ → List ℕ) → now ≡ t
    → IfSome t (λ told. (topo : Topology) → IsSound topo → StandsFor topo [] first.core → first.due ≡ [] → JudgesAt topo judge number told (before told))
    → LeadsTo now before after number judge (Goes next)
    → IfSome t (λ told. (topo : Topology) → IsSound topo → StandsFor topo [] first.core → first.due ≡ [] → JudgesAt topo next (number + 1) told (after told))
went_on None now first judge next number before after same came leads = tt
went_on (Some told) now first judge next number before after same came leads = λ topo sound stands none.
    subst (λ (o : Option (List ℕ)). LeadsTo o before after number judge (Goes next)) same leads topo told sound (came topo sound stands none)

-- ## The whole

-- a judge at its start over what a text gives
pub opened_at : (t : Option (List ℕ)) (topo : Topology) (judge : Judge) → IfSome t (λ text. topology_of text ≡ Ok topo) → IsSound topo → StandsFor topo [] judge.core → judge.due ≡ []
    → IfSome t (λ text. IsOpened text judge)
opened_at None topo judge given sound stands none = tt
opened_at (Some text) topo judge given sound stands none =
    record { topo = topo; given = given; sound = sound; stands = stands; none = none }

-- ## The topology
