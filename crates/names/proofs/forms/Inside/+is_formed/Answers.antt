use Rattle.std.proofs.Common.{◌≡◌, ◌-◌, [], ◌∷◌, length, length-append, get_or, ap, ◌∙◌, arith, below_more, rules}
use Rattle.std.specs.Iterator.Adapters.{enumerate_source, enumerate_count}
use Rattle.std.proofs.lemmas.Bool.Decides.{not_from_Decides}
use Rattle.calculus.specs.Scopes.{push, WellFormedInside}
use Rattle.fault.specs.Items.{things}
use Rattle.tables.specs.Channels.{components, entries}
use Rattle.tables.proofs.Iterated.{placed_turn, placed_end}
use Rattle.sheet.specs.Types.{type_at}
use Rattle.meaning.specs.Types.{type_within}
use Rattle.names.specs.Marks.{marked, outer}
use Rattle.names.proofs.Forming.{holds, fails, pushed_outer, formed, formed_entries, formed_components, entries_tested, component_tested}
use Rattle.names.proofs.forms.Inside.+is_formed.Goals as goal

pub returns-then-not-entries_fit : goal.returns-then-not-entries_fit
returns-then-not-entries_fit t c =
    let types = c.args.types.now in
    let Γ = marked c.args.self.now.scope.now in
    let before = outer c.args.self.now.counts in
    let x = type_at types c.args.at in
    let same = pushed_outer c.args.levels c.count.result c.args.self.now.counts c.pushed.result.counts c.if-levels-eq0.false c.requires c.pushed.ensures.size c.pushed.ensures.each in
    let tested = entries_tested c.pushed.result.scope.now c.args.self.now.scope.now c.pushed.ensures.scope (outer c.pushed.result.counts) before c.count.result (length (components x)) c.entries_of.result.now (entries x) c.entries_fit.result same
    (c.count.ensures ∙ ap length c.components_of-inner.ensures) c.entries_of.ensures c.entries_fit.ensures in
    fails (λ h. not_from_Decides c.entries_fit.result tested c.if-not-entries_fit.true (formed_entries types c.args.levels c.args.at c.if-levels-eq0.false Γ before h))

pub loop-place-init : goal.loop-place-init
loop-place-init t c =
    let types = c.args.types.now in
    let Γ = marked c.args.self.now.scope.now in
    let before = outer c.args.self.now.counts in
    let x = type_at types c.args.at in
    let same = pushed_outer c.args.levels c.count.result c.args.self.now.counts c.pushed.result.counts c.if-levels-eq0.false c.requires c.pushed.ensures.size c.pushed.ensures.each in
    let tested = entries_tested c.pushed.result.scope.now c.args.self.now.scope.now c.pushed.ensures.scope (outer c.pushed.result.counts) before c.count.result (length (components x)) c.entries_of.result.now (entries x) c.entries_fit.result same
    (c.count.ensures ∙ ap length c.components_of-inner.ensures) c.entries_of.ensures c.entries_fit.ensures in
    (tested.0 c.if-not-entries_fit.false, λ i l. absurd (omega arith))

pub returns-then-not-is_formed : goal.returns-then-not-is_formed
returns-then-not-is_formed t c =
    let types = c.args.types.now in
    let levels = c.args.levels in
    let Γ = marked c.args.self.now.scope.now in
    let before = outer c.args.self.now.counts in
    let cs = components (type_at types c.args.at) in
    let a : things (enumerate_source c.into_iter-place-iterator.result).0 ≡ cs = search rules in
    let first : enumerate_count c.into_iter-place-iterator.result ≡ 0 = search rules in
    let at = placed_turn _ _ _ cs c.loop-place.yielded _ a first c.loop-place.yielded_by c.next.ensures.steps (c.in-Some.place, c.in-Some.component) c.in-Some.is in
    let same = pushed_outer levels c.in-Some.place c.args.self.now.counts c.pushed-in-loop-place.result.counts c.if-levels-eq0.false c.requires c.pushed-in-loop-place.ensures.size c.pushed-in-loop-place.ensures.each in
    let tested = component_tested c.pushed-in-loop-place.result.scope.now c.args.self.now.scope.now c.pushed-in-loop-place.ensures.scope (outer c.pushed-in-loop-place.result.counts) before c.in-Some.place (type_within types (levels - 1) c.from.result) c.is_formed.result same c.is_formed.ensures in
    let component = c.from.ensures ∙ at.2 in
    fails (λ h. not_from_Decides c.is_formed.result tested c.if-not-is_formed.true
    (rw (at.1, component) (formed_components types levels c.args.at c.if-levels-eq0.false Γ before h (length c.loop-place.yielded) at.0)))

pub loop-place-preserved : goal.loop-place-preserved
loop-place-preserved t c =
    let types = c.args.types.now in
    let levels = c.args.levels in
    let Γ = marked c.args.self.now.scope.now in
    let before = outer c.args.self.now.counts in
    let cs = components (type_at types c.args.at) in
    let a : things (enumerate_source c.into_iter-place-iterator.result).0 ≡ cs = search rules in
    let first : enumerate_count c.into_iter-place-iterator.result ≡ 0 = search rules in
    let at = placed_turn _ _ _ cs c.loop-place.yielded _ a first c.loop-place.yielded_by c.next.ensures.steps (c.in-Some.place, c.in-Some.component) c.in-Some.is in
    let same = pushed_outer levels c.in-Some.place c.args.self.now.counts c.pushed-in-loop-place.result.counts c.if-levels-eq0.false c.requires c.pushed-in-loop-place.ensures.size c.pushed-in-loop-place.ensures.each in
    let tested = component_tested c.pushed-in-loop-place.result.scope.now c.args.self.now.scope.now c.pushed-in-loop-place.ensures.scope (outer c.pushed-in-loop-place.result.counts) before c.in-Some.place (type_within types (levels - 1) c.from.result) c.is_formed.result same c.is_formed.ensures in
    let component = c.from.ensures ∙ at.2 in
    let more = below_more (λ i. WellFormedInside Γ (push i before) (type_within types (levels - 1) (get_or cs i 0))) (length c.loop-place.yielded) c.loop-place.invariant.1 (rw (at.1, component) at (tested.0 c.if-not-is_formed.false)) in
    (c.loop-place.invariant.0, λ i l. more i (omega (arith, l, length-append c.loop-place.yielded ((c.in-Some.place, c.in-Some.component) ∷ []))))

pub returns : goal.returns
returns t c =
    let cs = components (type_at c.args.types.now c.args.at) in
    let a : things (enumerate_source c.into_iter-place-iterator.result).0 ≡ cs = search rules in
    let first : enumerate_count c.into_iter-place-iterator.result ≡ 0 = search rules in
    let end = placed_end _ _ _ cs c.loop-place.yielded _ a first c.loop-place.yielded_by c.next.ensures.steps c.in-None.is in
    holds (formed c.args.types.now c.args.levels c.args.at c.if-levels-eq0.false (marked c.args.self.now.scope.now) (outer c.args.self.now.counts) c.loop-place.invariant.0
    (λ i l. c.loop-place.invariant.1 i (omega (arith, l, end))))
