-- A cache that is empty stands for no use.
use Rattle.accept_cache.proofs.Laws.{nothing_stands}
use Rattle.accept_cache.proofs.cache.AcceptCache.new.Goals as goal

pub returns-clause-stands : goal.returns-clause-stands
returns-clause-stands c = rw (c.in_ok-sparse.ensures, c.in_ok-sparse-2.ensures) (nothing_stands c.args.limits.now c.requires)
