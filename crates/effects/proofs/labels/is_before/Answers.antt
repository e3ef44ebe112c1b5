use Rattle.fault.specs.Items.{list}
use Rattle.std.proofs.Common.{◌∙◌}
use Rattle.effects.proofs.Orders.{items_few, keys_before}
use Rattle.effects.proofs.labels.is_before.Goals as goal

pub returns : goal.returns
returns c =
    let first = c.order_key.ensures in
    let second = c.order_key-2.ensures in
    c.lt.ensures
    ∙ keys_before 4 (list c.args.left.now.items) (list c.args.right.now.items) c.order_key.result c.order_key-2.result (items_few c.args.left.now.items)
    first.size second.size (λ i l. (first.each i l, first.small i l)) (λ i l. (second.each i l, second.small i l))
