use Rattle.std.proofs.Common.{◌∙◌}
use Rattle.std.proofs.lemmas.List.{take_at, drop_at}
use Rattle.lmots_core.proofs.chains.put_value.Goals as goal

pub returns-clause-front : goal.returns-clause-front
returns-clause-front c =
    take_at _ _ 23 c.split_at_mut-old.ensures.front_len ∙ c.split_at_mut-old.ensures.front

pub returns-clause-value : goal.returns-clause-value
returns-clause-value c =
    drop_at _ _ 23 c.split_at_mut-old.ensures.front_len ∙ c.copy_from_slice.ensures.after
