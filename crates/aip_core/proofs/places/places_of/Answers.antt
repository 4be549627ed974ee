use Rattle.std.proofs.Common.{rules, arith, ◌≡◌, [], length, replicate, drop}
use Rattle.std.proofs.lemmas.Grind.{common_steps}
use Rattle.aip_core.specs.Places.{row_of}
use Rattle.aip_core.proofs.RouterPorts.{short_row}
use Rattle.aip_core.proofs.Rows.{rows_at_start, zeros}
use Rattle.aip_core.proofs.places.places_of.Goals as goal

pub parts-init : goal.parts-init
parts-init c =
    let none : c.in_ok-counts.counts.items ≡ replicate (length c.args.routers.now) 0 = first_of (search rules, grind (arith, common_steps)) in
    let zero_at = zeros c.in_ok-counts.counts.items (length c.args.routers.now) none in
    record {
      counted = search rules;
      bound = λ k. omega (arith, zero_at k);
      all = search rules;
      rest = ([], record { each = λ router there. zero_at router }, search rules, search rules, rows_at_start c.in_ok-no_neighbours.field-0.items c.args.parts.now c.in_ok-no_neighbours.ensures.none);
    }

pub returns-clause-short : goal.returns-clause-short
returns-clause-short c = λ router.
    let rest = c.parts.invariant.rest in
    short_row rest.0 (drop c.parts.part-index c.args.parts.now) c.args.parts.now (row_of c.parts.places.rows.items router) router (rest.4 router) c.requires.few
