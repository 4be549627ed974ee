use Rattle.std.proofs.Common.{◌≡◌, ◌*◌, ◌^◌, ◌%◌, rules, arith}
use Rattle.leaf_lease.proofs.Files.{pow_ten}
use Rattle.leaf_lease.proofs.layout.leaf_count.Goals as goal

pub returns-clause-most : goal.returns-clause-most
returns-clause-most c =
    let count : 1 * 2 ^ c.args.height % 4294967296 ≡ 2 ^ c.args.height = search rules in
    omega (arith, count, pow_ten c.args.height c.requires)
