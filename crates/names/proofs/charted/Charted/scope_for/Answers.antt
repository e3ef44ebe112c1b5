use Rattle.std.proofs.Common.{◌||◌, sym, ap, ◌∙◌, arith}
use Rattle.tables.specs.Elements.{elements}
use Rattle.sheet.specs.Scope.{member, binds}
use Rattle.sheet.specs.Tree.{node_at}
use Rattle.meaning.specs.Scopes.{earlier}
use Rattle.names.specs.Marks.{marked}
use Rattle.names.proofs.Charting.{binder_within}
use Rattle.names.proofs.Climbing.{scope_bound}
use Rattle.names.proofs.charted.Charted.scope_for.Goals as goal

pub scope_at-marks-requires : goal.scope_at-marks-requires
scope_at-marks-requires c =
    let x = c.args.x in
    let e = sym (c.args.self.now.charted.binders x c.requires) ∙ sym c.in-Some.ensures in
    omega (arith, binder_within (elements c.args.self.now.tables.now.nodes) x c.in-Some.binder e, c.args.self.now.charted.few)

pub returns : goal.returns
returns c =
    let t = c.args.self.now.tables.now in
    let x = c.args.x in
    let b = c.in-Some.binder in
    let marks = c.scope_at-marks.result in
    let names = c.count_before.ensures ∙ ap (earlier x) (c.bound_at-names.ensures ∙ ap (λ nodes. binds (node_at nodes b)) c.as_slice.ensures.value) in
    scope_bound t x b marks c.mark.new.marks
    (sym (c.args.self.now.charted.binders x c.requires) ∙ sym c.in-Some.ensures)
    c.scope_at-marks.ensures
    (c.mark.auto.marks ∙ c.scope_at-marks.ensures.size)
    (λ y l. c.mark.ensures y (omega (arith, c.scope_at-marks.ensures.size)) ∙ ap (λ zs. member y zs || marked marks y) names)
