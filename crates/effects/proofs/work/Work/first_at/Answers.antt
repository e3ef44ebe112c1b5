use Rattle.std.proofs.Common.{◌≡◌, ℕ, get_or, Some, None, Option, refl, ap, ◌∙◌}
use Rattle.std.specs.Option.{unwrap_or}
use Rattle.effects.specs.Found.{node_of}
use Rattle.effects.proofs.Picks.{highest_some, highest_none}
use Rattle.effects.proofs.work.Work.first_at.Goals as goal

or_root : (o : Option ℕ) → unwrap_or o 0 ≡ node_of o
or_root None = refl
or_root (Some n) = refl

pub returns-then-amount-eq0 : goal.returns-then-amount-eq0
returns-then-amount-eq0 g c fits =
    highest_none (g.C.Counting.operations c.args.self.now.counting.now) c.args.self.now.nodes.now c.args.label.now (λ n. get_or c.args.amounts.now n 0)
    c.highest_bad-place.result c.amount_in-amount.result (c.highest_bad-place.ensures fits)
    (c.amount_in-amount.ensures ∙ ap (λ n. get_or c.args.amounts.now n 0) (c.unwrap_or.ensures ∙ or_root c.highest_bad-place.result))
    c.if-amount-eq0.true

pub returns : goal.returns
returns g c fits =
    highest_some (g.C.Counting.operations c.args.self.now.counting.now) c.args.self.now.nodes.now c.args.label.now (λ n. get_or c.args.amounts.now n 0)
    c.highest_bad-place.result c.amount_in-amount.result (c.highest_bad-place.ensures fits)
    (c.amount_in-amount.ensures ∙ ap (λ n. get_or c.args.amounts.now n 0) (c.unwrap_or.ensures ∙ or_root c.highest_bad-place.result))
    c.if-amount-eq0.false
