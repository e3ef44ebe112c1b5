use Rattle.std.proofs.Common.{◌≡◌, length, sym, ◌∙◌}
use Rattle.tables.specs.Channels.{components}
use Rattle.tables.specs.declared.tables.SheetType.TheVariants.{Channel}
use Rattle.sheet.specs.Types.{type_at}
use Rattle.uses.proofs.equal.Comparison.has_same_head.Goals as goal

pub returns-then-count : goal.returns-then-count
returns-then-count g c =
    let types = c.args.self.now.types.now in
    let a = c.in-Channel-Channel.a in
    let b = c.in-Channel-Channel.b in
    let own : type_at types c.args.left ≡ Channel a = sym c.type_at.ensures ∙ c.in-Channel-Channel.is-0 in
    let other : type_at types c.args.right ≡ Channel b = sym c.type_at-2.ensures ∙ c.in-Channel-Channel.is-1 in
    let count : length (components (Channel a)) ≡ length (components (Channel b)) = sym c.count.ensures ∙ c.if-count.true ∙ c.count-in-Channel-Channel.ensures in
    let effects = rw (own, other) at c.has_same_effect.ensures in
    rw (own, other) (λ t. (count, effects.0 t), λ h. effects.1 h.1)
