use Rattle.std.proofs.Common.{List, length, rules, ap, ◌∙◌, subst}
use Rattle.std.proofs.lemmas.Iterator.{IsFirst-from_position, YieldsList-from_slice}
use borrow.Author.Tests.{tests}
use Rattle.tables.specs.Elements.{elements}
use Rattle.tables.specs.declared.tables.Node.{Node}
use Rattle.tables.specs.declared.tables.Node.TheVariants.{Stop}
use Rattle.tables.specs.declared.tables.Tables.{Tables}
use Rattle.sheet.specs.Tree.{node_at}
use Rattle.meaning.specs.Failures.{FirstFailure}
use Rattle.meaning.specs.Types.{types_of}
use Rattle.meaning.specs.Uses.{TypesFit}
use Rattle.meaning.proofs.Failing.{first_of_list}
use Rattle.uses.proofs.arguments.first_mistyped.Goals as goal

pub returns : goal.returns
returns g c =
    let s = c.args.sheet.now in
    let K = g.C.Counting.operations s.counting in
    let Fits : Node → Type 0 = λ node. TypesFit K (types_of s.tables) node in
    let nodes = c.as_slice-nodes.ensures.value ∙ ap (λ (t : Tables). elements t.nodes) c.as_tables.ensures.value in
    let found = IsFirst-from_position _ _ _ (λ node. Fits node → ⊥) Fits c.position.ensures.ran (YieldsList-from_slice c.as_slice-nodes.result.now cc) (λ x q k. search (rules, tests)) (λ x q k. search (rules, tests)) in
    subst (λ (xs : List Node). FirstFailure (λ n. Fits (node_at xs n)) (length xs) c.position.result) nodes (first_of_list Fits c.as_slice-nodes.result.now Stop c.position.result found)
