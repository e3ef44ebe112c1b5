use Rattle.std.proofs.Common.{List, length, rules, subst}
use Rattle.std.proofs.lemmas.Iterator.{IsFirst-from_position, YieldsList-from_slice}
use borrow.Author.Tests.{tests}
use Rattle.tables.specs.declared.tables.Node.{Node}
use Rattle.tables.specs.declared.tables.Node.TheVariants.{Stop}
use Rattle.sheet.specs.Tree.{node_at}
use Rattle.meaning.specs.Failures.{FirstFailure}
use Rattle.meaning.specs.Types.{types_of}
use Rattle.meaning.specs.Uses.{CountFits}
use Rattle.meaning.proofs.Failing.{first_of_list}
use Rattle.uses.proofs.counts.first_miscounted.Goals as goal

pub returns : goal.returns
returns c =
    let Fits : Node → Type 0 = λ node. CountFits (types_of c.args.tables.now) node in
    let found = IsFirst-from_position _ _ _ (λ node. Fits node → ⊥) Fits c.position.ensures.ran (YieldsList-from_slice c.as_slice-nodes.result.now cc) (λ x q k. search (rules, tests)) (λ x q k. search (rules, tests)) in
    subst (λ (xs : List Node). FirstFailure (λ n. Fits (node_at xs n)) (length xs) c.position.result) c.as_slice-nodes.ensures.value (first_of_list Fits c.as_slice-nodes.result.now Stop c.position.result found)
