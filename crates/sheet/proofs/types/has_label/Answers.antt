use Rattle.std.proofs.Common.{◌≡◌, rules}
use Rattle.std.proofs.lemmas.Iterator.{cases_from_any, YieldsList-from_slice}
use borrow.Author.Tests.{tests}
use Rattle.tables.specs.Shares.{Entry}
use Rattle.sheet.proofs.Labelling.{labelled_decides}
use Rattle.sheet.proofs.types.has_label.Goals as goal

pub returns : goal.returns
returns c =
    labelled_decides c.args.all.now c.args.label.now c.any.result
    (cases_from_any _ _ _ (λ (e : Entry). e.label ≡ c.args.label.now) (λ (e : Entry). e.label ≡ c.args.label.now → ⊥) c.any.ensures.ran (YieldsList-from_slice c.args.all.now cc)
    (λ x q k. search (rules, tests)) (λ x q k. search (rules, tests)))
