use Rattle.std.proofs.Common.{false, map, refl}
use Rattle.std.proofs.lemmas.Bool.Decides.{Decides-at}
use Rattle.sheet.proofs.Labelling.{undecided, refuted}
use Rattle.meaning.specs.Types.{entry}
use Rattle.uses.proofs.Comparing.{agree_everywhere, agree_at}
use Rattle.uses.proofs.effects.Effect.is_same.Goals as goal

pub returns-then-agrees_on : goal.returns-then-agrees_on
returns-then-agrees_on g c =
    let K = g.C.Counting.operations c.args.self.now.counting.now in
    let W = g.met.C.Counting.lawful c.args.self.now.counting.now in
    let a = map entry c.args.self.now.entries.now in
    let b = map entry c.args.other.now.entries.now in (
      λ e. agree_everywhere K W a b (c.if-agrees_on.ensures.0 refl) (c.agrees_on-then-agrees_on.ensures.0 e),
      λ h. c.agrees_on-then-agrees_on.ensures.1 (agree_at K W a b b h),
    )

pub returns-else-agrees_on : goal.returns-else-agrees_on
returns-else-agrees_on g c =
    let K = g.C.Counting.operations c.args.self.now.counting.now in
    let W = g.met.C.Counting.lawful c.args.self.now.counting.now in
    let a = map entry c.args.self.now.entries.now in
    let b = map entry c.args.other.now.entries.now in
    Decides-at c.agrees_on.result false c.if-agrees_on.false (undecided (λ h. refuted c.if-agrees_on.ensures (agree_at K W a b a h)))
