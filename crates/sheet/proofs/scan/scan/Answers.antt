use Rattle.std.proofs.Common.{[], ◌∷◌, ◌++◌, arith, true-eqb, false-eqb}
use Rattle.records.specs.Records.{codes}
use Rattle.sheet.proofs.Reading.{one_more, shorter}
use Rattle.sheet.proofs.Scanning.{ends_cut, ends_wrong, ends_none, ends_well}
use Rattle.sheet.proofs.scan.scan.Goals as goal

pub returns-in_default : goal.returns-in_default
returns-in_default c =
    let i = c.loop-left.invariant.1 in
    let some = false-eqb _ 0 c.loop-left-test.ensures in
    ends_cut i.0 _ _ _ i.1 i.2 c.in_default.ensures (omega arith)

pub loop-left-preserved : goal.loop-left-preserved
loop-left-preserved c =
    let i = c.loop-left.invariant.1 in
    let e = c.in-Some.ensures in (
      omega (arith, shorter _ _ _ e, c.with-seen.ensures.place, c.loop-left.invariant.0),
      (i.0 ++ c.in-Some.next ∷ [], one_more codes i.0 _ _ _ _ e i.1, c.with-seen.ensures.seen i.0 i.2),
    )

pub returns-in-Some-wrong : goal.returns-in-Some-wrong
returns-in-Some-wrong c =
    let i = c.loop-left.invariant.1 in
    ends_wrong i.0 _ _ _ i.1 i.2 (true-eqb _ 0 c.loop-left-test.ensures) _ c.in-Some-wrong.is

pub returns-in-None : goal.returns-in-None
returns-in-None c =
    let i = c.loop-left.invariant.1 in
    ends_none i.0 _ _ _ i.1 i.2 (true-eqb _ 0 c.loop-left-test.ensures) c.in-None.is c.if-seen-eq0.true

pub returns-in-None-2 : goal.returns-in-None-2
returns-in-None-2 c =
    let i = c.loop-left.invariant.1 in
    ends_well i.0 _ _ _ i.1 i.2 (true-eqb _ 0 c.loop-left-test.ensures) c.in-None.is c.if-seen-eq0.false
