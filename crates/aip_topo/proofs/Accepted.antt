-- What a line that is taken meets.
use Rattle.std.proofs.Common.{◌≡◌, ℕ, Bool, true, false, cond, nat_lt, nat_le, length, IsTrue, Result, Ok, Err, refl, arith, ◌∙◌}
use Rattle.std.specs.Prelude.{count_by}
use Rattle.std.proofs.lemmas.Bool.{cond-false}
use Rattle.std.proofs.lemmas.Bool.Decides.{nat_tests}
use Rattle.aip_topo.specs.declared.faults.TopoFault.TheVariants as fault
use Rattle.aip_topo.specs.declared.lines.Line.{Line}
use Rattle.aip_topo.specs.declared.lines.Line.TheVariants as line
use Rattle.aip_topo.specs.declared.lines.Setting.{Setting}
use Rattle.aip_topo.specs.declared.steps.Draft.{Draft}
use Rattle.aip_topo.specs.declared.topology.Topology.{Topology}
use Rattle.aip_topo.specs.Steps.{draft_with, addition_of, fits, is_host, is_link, is_many, is_out_of_range, is_twice, is_twin, is_unknown, most_of, with_line}

-- past a test that refuses
pub past : {A E : Type 0} (b : Bool) (d : E) (y : Result A E) (x : A) → cond b (Err d) y ≡ Ok x → (b ≡ false) × (y ≡ Ok x)
past true d y x e = cc
past false d y x e = (refl, e)

-- no fault applies to the line: not too many, not twice, known, in range, no twin
pub record IsAccepted (draft : Draft) (l : Line) : Type 0 where
  pub few : is_many draft.topology l ≡ false
  pub once : is_twice draft l ≡ false
  pub known : is_unknown draft.topology l ≡ false
  pub ranged : is_out_of_range l ≡ false
  pub alone : is_twin draft.topology (addition_of draft.topology l) ≡ false

-- such a line is taken
pub accepted_gives : (draft : Draft) (l : Line) → IsAccepted draft l → with_line draft l ≡ Ok (draft_with draft (addition_of draft.topology l))
accepted_gives draft l met =
    cond-false (is_many draft.topology l) _ _ met.few ∙ cond-false (is_twice draft l) _ _ met.once ∙ cond-false (is_unknown draft.topology l) _ _ met.known
    ∙ cond-false (is_out_of_range l) _ _ met.ranged ∙ cond-false (is_twin draft.topology (addition_of draft.topology l)) _ _ met.alone

-- a line that was taken, and what stands then
pub record Accepts (draft : Draft) (l : Line) (next : Draft) : Type 0 where
  pub met : IsAccepted draft l
  pub gives : draft_with draft (addition_of draft.topology l) ≡ next

pub taken_accepted : (draft : Draft) (l : Line) (next : Draft) → with_line draft l ≡ Ok next → Accepts draft l next
taken_accepted draft l next h =
    let counted = past (is_many draft.topology l) fault.Many _ next h in
    let named = past (is_twice draft l) fault.Twice _ next counted.1 in
    let known = past (is_unknown draft.topology l) fault.Unknown _ next named.1 in
    let ranged = past (is_out_of_range l) fault.Range _ next known.1 in
    let alone = past (is_twin draft.topology (addition_of draft.topology l)) fault.Twin _ next ranged.1 in
    let last = alone.1 in
    let same : draft_with draft (addition_of draft.topology l) ≡ next = cc in
    record { met = record { few = counted.0; once = named.0; known = known.0; ranged = ranged.0; alone = alone.0 }; gives = same }

-- a setting that is in range has no value above it
set_fits : (s : Setting) (value : ℕ) → is_out_of_range (line.Set s value) ≡ false → IsTrue (nat_le value (most_of s))
set_fits s value h = grind (arith, nat_tests)

-- where there aren't too many, one more fits
more_fits : (most n : ℕ) → nat_le most n ≡ false → IsTrue (nat_lt n most)
more_fits most n h = grind (arith, nat_tests)

-- what a line adds fits where there aren't too many of its kind
pub line_fits : (t : Topology) (l : Line) → is_many t l ≡ false → is_out_of_range l ≡ false → IsTrue (fits t (addition_of t l))
line_fits t (line.Set s value) few ranged = set_fits s value ranged
line_fits t (line.Domain name from) few ranged = more_fits 64 (length t.domains) few
line_fits t (line.Router name domain checking master) few ranged = more_fits 256 (length t.routers) few
line_fits t (line.Host name router guarded from) few ranged = more_fits 1024 (count_by is_host t.parts) few
line_fits t (line.Link a b a_trusts b_trusts) few ranged = more_fits 4096 (count_by is_link t.parts) few
