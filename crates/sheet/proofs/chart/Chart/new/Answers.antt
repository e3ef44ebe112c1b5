use Rattle.std.proofs.Common.{None, rules}
use Rattle.std.proofs.lemmas.List.{get_or-replicate}
use Rattle.sheet.specs.Tree.{children}
use Rattle.sheet.specs.Scope.{binds}
use Rattle.sheet.proofs.chart.Chart.new.Goals as goal

pub find_holders-requires-clause-empty : goal.find_holders-requires-clause-empty
find_holders-requires-clause-empty c x l = get_or-replicate 64 x None None l

pub find_holders-requires-2-clause-empty : goal.find_holders-requires-2-clause-empty
find_holders-requires-2-clause-empty c x l = get_or-replicate 1024 x None None l

pub returns-clause-binders : goal.returns-clause-binders
returns-clause-binders c = c.find_holders.ensures binds (λ node r h. search rules)

pub returns-clause-parents : goal.returns-clause-parents
returns-clause-parents c = c.find_holders-2.ensures children (λ node r h. search rules)
