use Rattle.std.proofs.Common.{subst, sym, ◌∙◌}
use Rattle.std.specs.Str.Parse.{ParsesUnsigned}
use Rattle.aip_text.proofs.Numbers.{not_parsed, not_utf8}
use Rattle.aip_text.proofs.reading.u64_in.Goals as goal

pub returns-in-Err-from_str_radix : goal.returns-in-Err-from_str_radix
returns-in-Err-from_str_radix c =
    let parses = subst (λ w. ParsesUnsigned 64 10 w c.from_str_radix.result) c.in-Ok.ensures.cases.0 c.from_str_radix.ensures.value in
    not_parsed c.args.word.now c.from_str_radix.result c.in-Err-from_str_radix.field-0 parses c.in-Err-from_str_radix.is
    (sym c.has_first_digit.ensures ∙ c.if-not-has_first_digit.false) (sym c.has_digits.ensures ∙ c.if-not-has_digits.false)

pub returns-in-Err : goal.returns-in-Err
returns-in-Err c = not_utf8 c.args.word.now c.in-Err.ensures.cases.0 (sym c.has_digits.ensures ∙ c.if-not-has_digits.false)
