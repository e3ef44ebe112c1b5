use Rattle.std.proofs.Common.{◌≡◌, ◌+◌, ◌-◌, true, [], ◌∷◌, length, length-append, sym, ◌∙◌, subst, arith, below_more, rules}
use Rattle.std.specs.Iterator.Adapters.{zip_first, zip_second}
use Rattle.fault.specs.Items.{things}
use Rattle.tables.specs.Channels.{components}
use Rattle.tables.specs.Encoding.{parts}
use Rattle.tables.proofs.Iterated.{pair_turn, pairs_end}
use Rattle.sheet.specs.Types.{type_at, nests}
use Rattle.sheet.proofs.Labelling.{decided, undecided, refuted}
use Rattle.meaning.specs.Types.{type_within}
use Rattle.uses.proofs.Heads.{head_count}
use Rattle.uses.proofs.Within.{Inner, level_low, head_of, inner_of, whole_of, inner_deep}
use Rattle.uses.proofs.equal.Comparison.+is_same.Goals as goal

pub returns-then-not-has_same_head : goal.returns-then-not-has_same_head
returns-then-not-has_same_head g t c =
    let K = g.C.Counting.operations c.args.self.now.counting.now in
    let types = c.args.self.now.types.now in
    let ys = parts c.args.self.now.arguments.now in
    undecided
    (λ same.
    refuted c.if-not-has_same_head.ensures
    (head_of K types ys c.args.level c.args.left c.args.right c.requires same))

pub is_same-requires : goal.is_same-requires
is_same-requires g t c κs within =
    let K = g.C.Counting.operations c.args.self.now.counting.now in
    let types = c.args.self.now.types.now in
    let ys = parts c.args.self.now.arguments.now in
    let head = c.has_same_head.ensures.0 c.if-not-has_same_head.false in
    let low = level_low K types ys c.args.level c.args.left c.args.right c.requires in
    let ks = components (type_at types c.args.left) in
    let vs = components (type_at types c.args.right) in
    let a : things (zip_first c.into_iter-component-iterator.result).0 ≡ ks = search rules in
    let b : things (zip_second c.into_iter-component-iterator.result).0 ≡ vs = search rules in
    let at = pair_turn _ _ _ ks vs c.loop-component.yielded _ a b c.loop-component.yielded_by c.next.ensures.steps (c.in-Some.component, c.in-Some.required) c.in-Some.is in
    let i = length c.loop-component.yielded in
    let component = c.from.ensures ∙ at.1 in
    let required = c.from-in-loop-component.ensures ∙ at.2 in
    let deep = inner_deep K types ys c.args.level c.args.left c.args.right c.requires head i at.0 in
    (omega (arith, c.decreases), (within, subst (λ k. nests types (4 - (c.args.level + 1)) k ≡ true) (sym required) deep))

pub returns-then-not-is_same : goal.returns-then-not-is_same
returns-then-not-is_same g t c =
    let K = g.C.Counting.operations c.args.self.now.counting.now in
    let types = c.args.self.now.types.now in
    let ys = parts c.args.self.now.arguments.now in
    let ks = components (type_at types c.args.left) in
    let vs = components (type_at types c.args.right) in
    let a : things (zip_first c.into_iter-component-iterator.result).0 ≡ ks = search rules in
    let b : things (zip_second c.into_iter-component-iterator.result).0 ≡ vs = search rules in
    let at = pair_turn _ _ _ ks vs c.loop-component.yielded _ a b c.loop-component.yielded_by c.next.ensures.steps (c.in-Some.component, c.in-Some.required) c.in-Some.is in
    let i = length c.loop-component.yielded in
    let component = c.from.ensures ∙ at.1 in
    let required = c.from-in-loop-component.ensures ∙ at.2 in
    undecided
    (λ same.
    refuted c.if-not-is_same.ensures
    (rw (component, required) (inner_of K types ys c.args.level c.args.left c.args.right c.requires same i at.0)))

pub loop-component-preserved : goal.loop-component-preserved
loop-component-preserved g t c =
    let K = g.C.Counting.operations c.args.self.now.counting.now in
    let types = c.args.self.now.types.now in
    let ys = parts c.args.self.now.arguments.now in
    let ks = components (type_at types c.args.left) in
    let vs = components (type_at types c.args.right) in
    let a : things (zip_first c.into_iter-component-iterator.result).0 ≡ ks = search rules in
    let b : things (zip_second c.into_iter-component-iterator.result).0 ≡ vs = search rules in
    let at = pair_turn _ _ _ ks vs c.loop-component.yielded _ a b c.loop-component.yielded_by c.next.ensures.steps (c.in-Some.component, c.in-Some.required) c.in-Some.is in
    let i = length c.loop-component.yielded in
    let component = c.from.ensures ∙ at.1 in
    let required = c.from-in-loop-component.ensures ∙ at.2 in
    let more = below_more (Inner K types ys c.args.level c.args.left c.args.right) i c.loop-component.invariant (rw (component, required) at (c.is_same.ensures.0 c.if-not-is_same.false)) in
    λ k l. more k (omega (arith, l, length-append c.loop-component.yielded ((c.in-Some.component, c.in-Some.required) ∷ [])))

pub returns : goal.returns
returns g t c =
    let K = g.C.Counting.operations c.args.self.now.counting.now in
    let types = c.args.self.now.types.now in
    let ys = parts c.args.self.now.arguments.now in
    let head = c.has_same_head.ensures.0 c.if-not-has_same_head.false in
    let ks = components (type_at types c.args.left) in
    let vs = components (type_at types c.args.right) in
    let a : things (zip_first c.into_iter-component-iterator.result).0 ≡ ks = search rules in
    let b : things (zip_second c.into_iter-component-iterator.result).0 ≡ vs = search rules in
    let count = head_count K ys c.args.level (type_within types 0) (type_within types 0) (type_at types c.args.left) (type_at types c.args.right) head in
    let end = pairs_end _ _ _ ks vs c.loop-component.yielded _ a b c.loop-component.yielded_by c.next.ensures.steps (omega (arith, count)) c.in-None.is in
    decided
    (whole_of K types ys c.args.level c.args.left c.args.right c.requires head (λ i l. c.loop-component.invariant i (omega (arith, l, end))))
