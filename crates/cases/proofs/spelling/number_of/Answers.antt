use Rattle.std.proofs.Common.{◌∙◌}
use Rattle.cases.proofs.Numbers.{number_from_parse}
use Rattle.cases.proofs.spelling.number_of.Goals as goal

pub returns : goal.returns
returns c = c.ok.ensures.value ∙ number_from_parse c.args.digits.now _ c.parse.ensures.value.0
