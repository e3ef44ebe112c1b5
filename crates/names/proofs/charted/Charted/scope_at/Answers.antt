use Rattle.std.proofs.Common.{◌||◌, sym, ap, ◌∙◌, arith}
use Rattle.tables.specs.Elements.{elements}
use Rattle.tables.specs.Encoding.{parts}
use Rattle.sheet.specs.Scope.{member, binds}
use Rattle.sheet.specs.Tree.{node_at}
use Rattle.names.specs.Marks.{marked}
use Rattle.names.proofs.Climbing.{climb_start, climb_on, climb_end, whole}
use Rattle.names.proofs.charted.Charted.scope_at.Goals as goal

pub loop-parent-init : goal.loop-parent-init
loop-parent-init c = climb_start c.args.self.now.tables.now c.args.n c.free_names-marks.result c.requires c.free_names-marks.ensures

pub loop-parent-smaller : goal.loop-parent-smaller
loop-parent-smaller c =
    let at = c.loop-parent.from in
    c.args.self.now.charted.lower at c.in-Some.parent (sym (c.args.self.now.charted.parents at c.loop-parent.invariant.within) ∙ sym c.in-Some.ensures)

pub loop-parent-preserved : goal.loop-parent-preserved
loop-parent-preserved c =
    let t = c.args.self.now.tables.now in
    let at = c.loop-parent.from in
    let m = c.in-Some.parent in
    let marks = c.loop-parent.marks in
    let names = whole (parts c.bound_at-names.result) (binds (node_at (elements t.nodes) m)) c.count.result c.count.ensures
    (c.bound_at-names.ensures ∙ ap (λ nodes. binds (node_at nodes m)) c.as_slice.ensures.value) in
    climb_on t c.args.self.now.chart c.args.self.now.charted c.args.n at marks c.loop-parent.invariant m c.mark.new.marks
    (sym (c.args.self.now.charted.parents at c.loop-parent.invariant.within) ∙ sym c.in-Some.ensures)
    (c.mark.auto.marks ∙ c.loop-parent.invariant.size)
    (λ y l. c.mark.ensures y (omega (arith, c.loop-parent.invariant.size)) ∙ ap (λ zs. member y zs || marked marks y) names)

pub returns : goal.returns
returns c =
    let at = c.loop-parent.from in
    climb_end c.args.self.now.tables.now c.args.self.now.chart c.args.self.now.charted c.args.n at c.loop-parent.marks c.loop-parent.invariant
    (sym (c.args.self.now.charted.parents at c.loop-parent.invariant.within) ∙ sym c.in_default.ensures)
