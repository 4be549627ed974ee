use Rattle.std.proofs.Common.{sym, ◌∙◌}
use Rattle.aip_text.proofs.Texts.{first_line_in, lacks_in, one_line_in}
use Rattle.aip_text.proofs.lines.next_line.Goals as goal

pub returns-in-Some-clause-lines : goal.returns-in-Some-clause-lines
returns-in-Some-clause-lines c = (first_line_in c.args.text.now c.in-Some.at c.in-Some.ensures.place).0

pub returns-in-Some-clause-whole : goal.returns-in-Some-clause-whole
returns-in-Some-clause-whole c = (first_line_in c.args.text.now c.in-Some.at c.in-Some.ensures.place).2

pub returns-in-Some-clause-one_line : goal.returns-in-Some-clause-one_line
returns-in-Some-clause-one_line c = (first_line_in c.args.text.now c.in-Some.at c.in-Some.ensures.place).1

pub returns-in-None-clause-lines : goal.returns-in-None-clause-lines
returns-in-None-clause-lines c = one_line_in c.args.text.now (sym c.is_empty.ensures ∙ c.if-is_empty.false) c.in-None.ensures.place

pub returns-in-None-clause-one_line : goal.returns-in-None-clause-one_line
returns-in-None-clause-one_line c = lacks_in 10 c.args.text.now c.in-None.ensures.place
