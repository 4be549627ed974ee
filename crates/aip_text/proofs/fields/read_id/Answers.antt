use Rattle.aip_text.proofs.FieldLaws.{id_again_in, id_found_in}
use Rattle.aip_text.proofs.fields.read_id.Goals as goal

pub returns-clause-found : goal.returns-clause-found
returns-clause-found c = id_found_in c.args.word.now c.id_in.result c.id_in.ensures

pub returns-clause-again : goal.returns-clause-again
returns-clause-again c = id_again_in c.args.word.now c.id_in.result c.id_in.ensures
