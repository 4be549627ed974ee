-- A run, from what its parts answer.
use Rattle.std.proofs.Common.{◌≡◌, ◌≢◌, ◌≤◌, ◌⊎◌, IsSome, inl, inr, ℕ, ◌+◌, true, false, List, [], ◌∷◌, ◌++◌, Option, Some, None, Ok, Err, refl, ap, sym, ◌∙◌, subst}
use Rattle.std.specs.Prelude.{IfSome, Result}
use Rattle.std.proofs.lemmas.List.{append-nil}
use Rattle.fault_counts.specs.Causes.{HasCause, Rose}
use Rattle.aip_text.specs.Lines.{lines_of}
use Rattle.aip_io.specs.Causes.{ReadsOnly}
use Rattle.aip_io.specs.Sink.{and_then, TookPart}
use Rattle.aip_topo.specs.declared.topology.Topology.{Topology}
use Rattle.aip_topo.specs.Reading.{RefusedLine, topology_of}
use Rattle.aip_rules.specs.Texts.{EndedRun, ran, ran_from, ran_over, end_of, output_of, text_of_run}
use Rattle.aip_rules.proofs.Lines.{of_lines}
use Rattle.aip_core.specs.Kept.{Kept}
use Rattle.aip_core.specs.StandsFor.{StandsFor}
use Rattle.aip_sim.specs.declared.ends.RunEnd.{RunEnd}
use Rattle.aip_sim.specs.declared.ends.RunEnd.TheVariants as run_end
use Rattle.aip_sim.specs.declared.turns.Turn.{Turn}
use Rattle.aip_sim.specs.Ends.{IsCutShort, run_end_of, is_topology_refused}
use Rattle.aip_sim.specs.Judged.{end_by, end_over, IsOrUnread, IsUnopened, JudgesRun}
use Rattle.aip_sim.specs.Runs.{StandsForRun, Writes}
use Rattle.aip_sim.specs.Turns.{HasCome, HasEnded, IsOpened, IsTurn}
use Rattle.aip_sim.proofs.Turning.{not_cut_short}

-- ## Counts

-- no call before this one failed, and it reads only files that are named
pub reads_on : (named wide : List ℕ → Type 0) (fault cause : Type 0) (text0 text1 : List ℕ → Option (List ℕ)) (before mid now : List ℕ → ℕ) → ((name : List ℕ) → named name → wide name)
    → (fault → cause) → (cause → fault) → ((name : List ℕ) → text1 name ≡ text0 name) → ((name : List ℕ) → mid name ≡ before name) → ReadsOnly named fault text1 mid now
    → ReadsOnly wide cause text0 before now
reads_on named wide fault cause text0 text1 before mid now wider to from same still reads = record {
  never_fall = λ name. subst (λ n. n ≤ now name) (still name) (reads.never_fall name);
  rose = λ failed. let rose = reads.rose (from failed) in (rose.0, (wider rose.0 rose.1.0, subst (λ n. Rose n (now rose.0)) (still rose.0) rose.1.1));
  stay = λ fine name. reads.stay (λ failed. fine (to failed)) name ∙ still name;
  others = λ name other told. reads.others name (λ is. other (wider name is)) (subst (λ o. IsSome o) (sym (same name)) told) ∙ still name;
}

-- to take nothing is to stay
and_nothing : (taken : Option (List ℕ)) → and_then taken [] ≡ taken
and_nothing None = refl
and_nothing (Some xs) = ap Some (append-nil xs)

-- ## A whole run

-- over a topology the run is that of the schedule
ran_is : (r : Result Topology RefusedLine) (topo : Topology) (schedule : List ℕ) → r ≡ Ok topo → ran_over r schedule ≡ ran topo schedule
ran_is r topo schedule given = ap (λ x. ran_over x schedule) given

-- what was played is the run of the two texts
pub wrote : (t s mid : Option (List ℕ)) (core : Kept) (end : RunEnd) (kept : Option Kept) (old new : Option (List ℕ)) → mid ≡ s → IfSome t (λ told. IsOpened told core)
    → IfSome mid (λ lines. (topo : Topology) → StandsFor topo [] core → HasEnded topo (ran topo lines) old new end kept)
    → IfSome t (λ told. IfSome s (λ lines. Writes IsCutShort (run_end_of (end_of told lines)) (output_of told lines) end old new))
wrote None s mid core end kept old new same opened played = tt
wrote (Some told) None mid core end kept old new same opened played = tt
wrote (Some told) (Some lines) mid core end kept old new same opened played =
    let ended = subst (λ o. IfSome o (λ lines. (topo : Topology) → StandsFor topo [] core → HasEnded topo (ran topo lines) old new end kept)) same played in
    subst (λ (r : EndedRun). Writes IsCutShort (run_end_of r.ending) (text_of_run r) end old new) (sym (ran_is (topology_of told) opened.topo lines opened.given))
    (ended opened.topo opened.stands).writes

-- the core that comes back stands for its trace
pub stood : (t s mid : Option (List ℕ)) (core : Kept) (end : RunEnd) (kept : Option Kept) (old new : Option (List ℕ)) → mid ≡ s → IfSome t (λ told. IsOpened told core)
    → IfSome mid (λ lines. (topo : Topology) → StandsFor topo [] core → HasEnded topo (ran topo lines) old new end kept)
    → IfSome kept (λ last. IfSome t (λ told. IfSome s (λ lines. StandsForRun told lines last)))
stood t s mid core end None old new same opened played = tt
stood None s mid core end (Some last) old new same opened played = tt
stood (Some told) None mid core end (Some last) old new same opened played = tt
stood (Some told) (Some lines) mid core end (Some last) old new same opened played =
    let ended = subst (λ o. IfSome o (λ lines. (topo : Topology) → StandsFor topo [] core → HasEnded topo (ran topo lines) old new end (Some last))) same played in
    record { topo = opened.topo; given = opened.given; stands = (ended opened.topo opened.stands).stands; lines = of_lines opened.topo lines }

-- a topology that was opened ends no run by itself
ends_none : (r : Result Topology RefusedLine) (topo : Topology) → r ≡ Ok topo → end_over r ≡ None
ends_none r topo given = ap end_over given

pub judges_opened : (t : Option (List ℕ)) (core : Kept) (unread unwritten : Type 0) (end : RunEnd) → IfSome t (λ told. IsOpened told core) → is_topology_refused end ≡ false
    → IfSome t (λ told. JudgesRun told unread unwritten end)
judges_opened None core unread unwritten end opened passed = tt
judges_opened (Some told) core unread unwritten end opened passed = record {
  comes = subst (λ o. IfSome o (λ expected. unwritten × IsOrUnread run_end.Memory run_end.ReadFault expected unread end)) (sym (ends_none (topology_of told) opened.topo opened.given)) tt;
  only = λ refused. absurd (differ (sym refused ∙ passed));
}
  where
    differ : true ≡ false → ⊥
    differ is = cc

-- a run that ends every run over the topology
decided_by : (r : Result Topology RefusedLine) (lines : List ℕ) (end : RunEnd) → end_over r ≡ Some end → (run_end_of (ran_over r lines).ending ≡ end) × (text_of_run (ran_over r lines) ≡ [])
decided_by (Ok topo) lines end e = absurd cc
decided_by (Err refused) lines end e = (cc, refl)

-- nothing was taken, which is a first part of anything
took_nothing : (taken : Option (List ℕ)) (bytes : List ℕ) → TookPart taken taken bytes
took_nothing taken bytes = record { part = []; rest = bytes; whole = refl; took = sym (and_nothing taken) }

-- a run that was never opened has written nothing
pub unopened : (t s : Option (List ℕ)) (end : RunEnd) (old : Option (List ℕ)) → IfSome t (λ told. IsUnopened told end)
    → IfSome t (λ told. IfSome s (λ lines. Writes IsCutShort (run_end_of (end_of told lines)) (output_of told lines) end old old))
unopened None s end old h = tt
unopened (Some told) None end old h = tt
unopened (Some told) (Some lines) end old (inl short) = record {
  answer = inl short;
  whole = λ is. absurd (not_cut_short (end_of told lines) (subst IsCutShort is short));
  part = took_nothing old (output_of told lines);
}
unopened (Some told) (Some lines) end old (inr by) =
    let decided = decided_by (topology_of told) lines end by in record {
      answer = inr (sym decided.0);
      whole = λ is. sym (ap (and_then old) decided.1 ∙ and_nothing old);
      part = took_nothing old (output_of told lines);
    }

cut_or : (end : RunEnd) (expected : RunEnd) (unread : Type 0) → IsCutShort end → (end ≡ run_end.ReadFault → unread) → end ≢ run_end.WriteFault → IsOrUnread run_end.Memory run_end.ReadFault expected unread end
cut_or run_end.ReadFault expected unread short rose unwritten = inr (inr (refl, rose refl))
cut_or run_end.WriteFault expected unread short rose unwritten = absurd (unwritten refl)
cut_or run_end.Memory expected unread short rose unwritten = inr (inl refl)
cut_or run_end.Done expected unread short rose unwritten = absurd short
cut_or (run_end.Topology line f) expected unread short rose unwritten = absurd short
cut_or (run_end.Schedule line f) expected unread short rose unwritten = absurd short

-- a refused topology cuts nothing short
not_both : (end : RunEnd) → IsCutShort end → is_topology_refused end ≡ true → ⊥
not_both run_end.ReadFault short is = cc
not_both run_end.WriteFault short is = cc
not_both run_end.Memory short is = cc
not_both run_end.Done short is = short
not_both (run_end.Topology line f) short is = short
not_both (run_end.Schedule line f) short is = short

-- how the topology text decides a run that was never opened
pub judges_unopened : (t : Option (List ℕ)) (unread unwritten : Type 0) (end : RunEnd) → unwritten → (end ≡ run_end.ReadFault → unread) → end ≢ run_end.WriteFault → IfSome t (λ told. IsUnopened told end)
    → IfSome t (λ told. JudgesRun told unread unwritten end)
judges_unopened None unread unwritten end still rose fine h = tt
judges_unopened (Some told) unread unwritten end still rose fine (inl short) = record {
  comes = each (end_by told);
  only = λ is. absurd (not_both end short is);
}
  where
    each : (o : Option RunEnd) → IfSome o (λ expected. unwritten × IsOrUnread run_end.Memory run_end.ReadFault expected unread end)
    each None = tt
    each (Some expected) = (still, cut_or end expected unread short rose fine)
judges_unopened (Some told) unread unwritten end still rose fine (inr by) = record {
  comes = subst (λ o. IfSome o (λ expected. unwritten × IsOrUnread run_end.Memory run_end.ReadFault expected unread end)) (sym by) (still, inl refl);
  only = λ is. by;
}

-- a core at its start over what a text gives
pub opened_at : (told : Option (List ℕ)) (topo : Topology) (core : Kept) → IfSome told (λ text. topology_of text ≡ Ok topo) → StandsFor topo [] core
    → IfSome told (λ text. IsOpened text core)
opened_at None topo core given stands = tt
opened_at (Some text) topo core given stands = record { topo = topo; given = given; stands = stands }

-- a turn that goes on leads from what has come to what has come then
pub went_on : (told now : Option (List ℕ)) (first core after : Kept) (number : ℕ) (lines next : List ℕ → List (List ℕ)) (start taken took : Option (List ℕ)) → now ≡ told
    → IfSome told (λ text. (topo : Topology) → StandsFor topo [] first → HasCome topo core number (lines text) start taken (ran topo text))
    → IfSome now (λ text. (topo : Topology) (from : Option (List ℕ)) (whole : EndedRun) → HasCome topo core number (lines text) from taken whole → HasCome topo after (number + 1) (next text) from took whole)
    → IfSome told (λ text. (topo : Topology) → StandsFor topo [] first → HasCome topo after (number + 1) (next text) start took (ran topo text))
went_on None now first core after number lines next start taken took same came turn = tt
went_on (Some text) now first core after number lines next start taken took same came turn = λ topo stands.
    subst (λ (o : Option (List ℕ)). IfSome o (λ t. (topo : Topology) (from : Option (List ℕ)) (whole : EndedRun) → HasCome topo core number (lines t) from taken whole → HasCome topo after (number + 1) (next t) from took whole)) same turn
    topo start (ran topo text) (came topo stands)
