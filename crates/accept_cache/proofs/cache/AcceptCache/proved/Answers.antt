-- After a proof the cache stands for one proof more.
use Rattle.std.proofs.Common.{◌∷◌, subst, sym}
use Rattle.std.proofs.lemmas.Result.{on_ok_weaker}
use Rattle.accept_cache.specs.Recency.{Proved}
use Rattle.accept_cache.specs.Keys.{pair_of}
use Rattle.accept_cache.specs.StandsFor.{CacheStandsFor}
use Rattle.accept_cache.proofs.Laws.{proof_stands}
use Rattle.accept_cache.proofs.cache.AcceptCache.proved.Goals as goal

pub returns-clause-stands : goal.returns-clause-stands
returns-clause-stands c = λ uses wilds stands.
    let pair = pair_of c.args.source.now c.args.port in
    on_ok_weaker c.keep.result
    (λ kept. subst (CacheStandsFor (Proved pair c.args.now ∷ uses) wilds) (sym kept) (proof_stands uses wilds c.args.self.now stands pair c.args.now))
    c.keep.ensures.kept
