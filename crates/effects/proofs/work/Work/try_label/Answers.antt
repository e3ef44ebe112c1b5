use Rattle.std.proofs.Common.{◌∷◌, get_or, Some, None, Option, sym, subst}
use Rattle.meaning.proofs.Joining.{below_bound}
use Rattle.effects.specs.Found.{FirstIn}
use Rattle.effects.specs.declared.found.Found.{Found}
use Rattle.effects.proofs.Picks.{first_pick, first_keep, highest_same}
use Rattle.effects.proofs.work.Work.try_label.Goals as goal

pub returns-in-None-clause-first : goal.returns-in-None-clause-first
returns-in-None-clause-first g c A a S b =
    let K = g.C.Counting.operations c.args.self.now.counting.now in
    let L = c.args.label.now in
    let nodes = c.args.self.now.nodes.now in
    let same = c.write_amounts.ensures.amounts (A L) a in
    first_keep K nodes A L S c.args.best b
    (highest_same K nodes L (λ n. get_or c.write_amounts.new.amounts n 0) (A L) None same (c.in-None.ensures (λ n. below_bound (same n) (a.fits n))))

pub returns-in-Some-clause-first : goal.returns-in-Some-clause-first
returns-in-Some-clause-first g c A a S b =
    let K = g.C.Counting.operations c.args.self.now.counting.now in
    let L = c.args.label.now in
    let nodes = c.args.self.now.nodes.now in
    let same = c.write_amounts.ensures.amounts (A L) a in
    subst (λ (r : Option Found). FirstIn K nodes A (L ∷ S) r) (sym c.better.ensures)
    (first_pick K nodes A L S c.args.best c.in-Some.found b
    (highest_same K nodes L (λ n. get_or c.write_amounts.new.amounts n 0) (A L) (Some c.in-Some.found) same (c.in-Some.ensures (λ n. below_bound (same n) (a.fits n)))))
