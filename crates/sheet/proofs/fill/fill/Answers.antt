use Rattle.std.proofs.Common.{◌≤◌, length, sym, refl, subst, arith, true-eqb, false-eqb}
use Rattle.std.proofs.lemmas.Bool.Decides.{not_from_Decides}
use Rattle.tables.specs.Elements.{elements}
use Rattle.tables.specs.Range.{Fits}
use Rattle.sheet.specs.Filling.{totals_of, Grown}
use Rattle.sheet.proofs.Progress.{first_readable, head_unfit, started, not_over, readable, has_room, unfit, further, spelled, all_fit, some_node, few_names}
use Rattle.sheet.proofs.Reading.{shorter}
use Rattle.sheet.proofs.fill.fill.Goals as goal

pub returns-in_default : goal.returns-in_default
returns-in_default c = absurd (first_readable c.args.basis _ _ c.requires.0 c.requires.1 c.in_default.ensures)

pub returns-then-not-head_fits : goal.returns-then-not-head_fits
returns-then-not-head_fits c =
    head_unfit c.args.basis _ _ c.requires.0 c.requires.1 _ _ c.in-Some.ensures (not_from_Decides _ c.head_fits.ensures c.if-not-head_fits.true)

pub loop-left-init : goal.loop-left-init
loop-left-init c =
    let e = c.in-Some.ensures in
    let z = c.new-tables.ensures in (
      omega (arith, shorter _ _ _ e),
      (c.requires.0, c.requires.1, started c.args.basis _ _ c.requires.0 c.requires.1 _ _ e (c.head_fits.ensures.0 c.if-not-head_fits.false) _ (record { types = z.0; names = z.1; nodes = z.2 })),
    )

pub returns-in_default-read : goal.returns-in_default-read
returns-in_default-read c =
    let i = c.loop-left.invariant.1 in
    let some = false-eqb _ 0 c.loop-left-test.ensures in
    absurd (readable c.args.basis i.0 i.1.order _ _ _ i.2 (omega arith) c.in_default-read.ensures)

pub invariant_of-limits : goal.invariant_of-limits
invariant_of-limits c =
    let r = c.requires in
    record { few = subst (λ n. n.names ≤ 64) (sym r.1.counts) (few_names r.0 r.1.order) }

pub add-requires : goal.add-requires
add-requires c =
    let i = c.loop-left.invariant.1 in
    let some = false-eqb _ 0 c.loop-left-test.ensures in
    has_room c.args.basis i.0 i.1.order _ _ _ i.2 _ _ (omega arith) c.in-Some-read.ensures

pub returns-in_default-add : goal.returns-in_default-add
returns-in_default-add c =
    let i = c.loop-left.invariant.1 in
    let some = false-eqb _ 0 c.loop-left-test.ensures in
    let no-fit = subst (λ n. Fits c.args.basis (totals_of n) (length (elements c.loop-left.tables.types)) c.in-Some-read.next → ⊥) i.1.counts c.in_default-add.ensures in (
      c.loop-left.place,
      refl,
      i.0,
      i.1,
      not_over c.args.basis i.0 i.1.order _ _ _ i.2 (omega arith),
      unfit c.args.basis i.0 i.1.order _ _ _ i.2 _ _ (omega arith) c.in-Some-read.ensures no-fit,
      i.2.fits,
    )

pub loop-left-preserved : goal.loop-left-preserved
loop-left-preserved c =
    let i = c.loop-left.invariant.1 in
    let e = c.in-Some-read.ensures in
    let some = false-eqb _ 0 c.loop-left-test.ensures in
    let grown = subst (λ n. Grown c.args.basis (totals_of n) c.loop-left.tables c.add.new.tables c.in-Some-read.next) i.1.counts c.in-Some-add.ensures in (
      omega (arith, shorter _ _ _ e, c.loop-left.invariant.0),
      (i.0, i.1, further c.args.basis i.0 i.1.order _ _ _ i.2 _ _ (omega arith) e _ grown),
    )

pub returns : goal.returns
returns c =
    let i = c.loop-left.invariant.1 in
    let z = true-eqb _ 0 c.loop-left-test.ensures in
    let b = c.args.basis in
    (i.0, i.1, spelled b i.0 i.1.order _ _ _ i.2 z, all_fit b i.0 i.1.order _ _ _ i.2 z, some_node b i.0 i.1.order _ _ _ i.2 z i.1.some)
