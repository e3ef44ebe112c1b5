use Rattle.std.proofs.Common.{length, ◌∙◌, subst}
use Rattle.calculus.specs.Scopes.{WellFormed}
use Rattle.tables.specs.Elements.{elements}
use Rattle.tables.specs.declared.tables.Tables.{Tables}
use Rattle.meaning.specs.Failures.{FirstFailure}
use Rattle.meaning.specs.Scopes.{scope_for}
use Rattle.meaning.specs.Types.{types_of}
use Rattle.names.proofs.first_ill_formed.Goals as goal

pub returns : goal.returns
returns g c =
    let Found = λ (t : Tables). FirstFailure (λ x. WellFormed (scope_for t x) (types_of t x)) (length (elements t.names)) c.find_ill_formed.result in
    subst Found (c.new.ensures ∙ c.as_tables.ensures.value) c.find_ill_formed.ensures
