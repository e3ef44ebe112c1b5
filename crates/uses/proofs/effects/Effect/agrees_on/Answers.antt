use Rattle.std.proofs.Common.{◌≡◌, true, map, sym, ◌∙◌, subst}
use Rattle.std.proofs.Math.Logic.{∥∥₁_elim}
use denote.Struct.Props.{props}
use Rattle.std.specs.List.{AllByRecursion}
use Rattle.std.proofs.ByRecursion.{All-get_or}
use Rattle.std.proofs.lemmas.List.{take_all}
use Rattle.tables.specs.Shares.{Entry}
use Rattle.sheet.proofs.Labelling.{decided, undecided}
use Rattle.meaning.specs.Types.{entry}
use Rattle.uses.specs.Entries.{placed_label, SameAmounts}
use Rattle.uses.proofs.Comparing.{meant_at, meant_more}
use Rattle.uses.proofs.effects.Effect.agrees_on.Goals as goal

pub amount_at-requires : goal.amount_at-requires
amount_at-requires g c =
    ∥∥₁_elim c.args.some.now.sound (search props)
    (λ s. All-get_or (λ (e : Entry). placed_label e.label ≡ true) c.args.some.now.entries.now c.loop-entry.entry-index _ c.loop-entry-test.true s.placed)

pub amount_at-requires-in-loop-entry : goal.amount_at-requires-in-loop-entry
amount_at-requires-in-loop-entry g c =
    ∥∥₁_elim c.args.some.now.sound (search props)
    (λ s. All-get_or (λ (e : Entry). placed_label e.label ≡ true) c.args.some.now.entries.now c.loop-entry.entry-index _ c.loop-entry-test.true s.placed)

pub returns-then-amount_at : goal.returns-then-amount_at
returns-then-amount_at g c =
    let K = g.C.Counting.operations c.args.self.now.counting.now in
    let a = map entry c.args.self.now.entries.now in
    let b = map entry c.args.other.now.entries.now in
    let theirs = rw (← c.requires) at c.amount_at-in-loop-entry.ensures in
    undecided
    (λ h. c.if-amount_at.true
    (c.amount_at.ensures ∙ meant_at (SameAmounts K a b) c.args.some.now.entries.now c.loop-entry.entry-index _ c.loop-entry-test.true h
    ∙ sym theirs))

pub loop-entry-preserved : goal.loop-entry-preserved
loop-entry-preserved g c =
    let K = g.C.Counting.operations c.args.self.now.counting.now in
    let a = map entry c.args.self.now.entries.now in
    let b = map entry c.args.other.now.entries.now in
    let theirs = rw (← c.requires) at c.amount_at-in-loop-entry.ensures in
    meant_more (SameAmounts K a b) c.args.some.now.entries.now c.loop-entry.entry-index _ c.loop-entry-test.true c.loop-entry.invariant
    (sym c.amount_at.ensures ∙ c.if-amount_at.false ∙ theirs)

pub returns : goal.returns
returns g c =
    let K = g.C.Counting.operations c.args.self.now.counting.now in
    let a = map entry c.args.self.now.entries.now in
    let b = map entry c.args.other.now.entries.now in
    decided
    (subst (λ xs. AllByRecursion (SameAmounts K a b) (map entry xs)) (take_all c.loop-entry.entry-index c.args.some.now.entries.now c.loop-entry-test.false) c.loop-entry.invariant)
