use Rattle.std.proofs.Common.{◌<◌, rules}
use borrow.Author.Tests.{tests}
use Rattle.sheet.proofs.Scoped.{there_decides}
use Rattle.sheet.proofs.scope.TreeChart.is_taken.Goals as goal

pub returns : goal.returns
returns c =
    rw (← c.from.ensures, ← c.binder.ensures)
    (there_decides (λ b. b < c.args.n) _ _ (λ e. rw e at c.is_some_and.ensures) (λ x e. let h = rw e at c.is_some_and.ensures in search (rules, tests)))
