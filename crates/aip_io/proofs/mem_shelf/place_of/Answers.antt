use Rattle.std.proofs.Common.{arith, length, ◌≡◌, subst}
use Rattle.std.proofs.lemmas.Grind.{common_steps}
use Rattle.aip_io.proofs.Places.{found_text, none_text, NoneBefore, other_places}
use Rattle.aip_io.specs.Memory.{place_of}
use Rattle.aip_io.proofs.mem_shelf.place_of.Goals as goal

pub returns-then-eq-clause-text : goal.returns-then-eq-clause-text
returns-then-eq-clause-text c =
    found_text c.args.files.now c.args.name.now c.loop-i.i c.index-files-i.result (omega arith) c.index-files-i.is (grind (arith, common_steps)) c.loop-i.invariant

pub returns-clause-text : goal.returns-clause-text
returns-clause-text c =
    let ended : c.loop-i.i ≡ length c.args.files.now = omega arith in
    none_text c.args.files.now c.args.name.now (subst (NoneBefore c.args.files.now c.args.name.now) ended c.loop-i.invariant)

pub returns-then-eq-clause-others : goal.returns-then-eq-clause-others
returns-then-eq-clause-others c =
    let is : place_of c.args.files.now c.args.name.now ≡ c.loop-i.i = grind (arith, common_steps) in
    λ other. other_places c.args.files.now c.args.name.now other c.loop-i.i is

pub returns-clause-others : goal.returns-clause-others
returns-clause-others c =
    let is : place_of c.args.files.now c.args.name.now ≡ length c.args.files.now = grind (arith, common_steps) in
    λ other. other_places c.args.files.now c.args.name.now other (length c.args.files.now) is
