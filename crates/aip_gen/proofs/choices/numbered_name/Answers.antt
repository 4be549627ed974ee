use Rattle.aip_gen.proofs.Names.{is_found, numbered_name}
use Rattle.aip_gen.proofs.choices.numbered_name.Goals as goal

pub unwrap-requires : goal.unwrap-requires
unwrap-requires c =
    is_found c.read.result _ _ c.read.ensures
    (rw (c.as_slice.ensures.value, c.in_ok-push_number.ensures.ok, c.in_ok-bytes.ensures.items)
    (numbered_name c.args.letter c.args.number c.requires.letter c.requires.short))
