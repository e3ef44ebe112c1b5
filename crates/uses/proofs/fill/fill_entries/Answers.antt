use Rattle.std.proofs.Common.{◌≡◌, ◌<◌, true, map, length, sym, refl, ap, ◌∙◌, subst, arith}
use Rattle.std.proofs.ByRecursion.{All-get_or, All-push}
use Rattle.std.proofs.lemmas.List.{take_all}
use Rattle.calculus.specs.Types.{fill_entry}
use Rattle.tables.specs.Elements.{elements}
use Rattle.tables.specs.Encoding.{parts}
use Rattle.tables.specs.Shares.{Entry}
use Rattle.meaning.specs.Types.{entry}
use Rattle.uses.specs.Entries.{placed_label, Placed}
use Rattle.uses.proofs.Filling.{pushed, filled_count, filled_more}
use Rattle.uses.proofs.fill.fill_entries.Goals as goal

pub fill_label-label-requires : goal.fill_label-label-requires
fill_label-label-requires c =
    All-get_or (λ (e : Entry). placed_label e.label ≡ true) c.args.entries.now c.loop-entry.entry-index _ c.loop-entry-test.true c.requires.1

pub loop-entry-init : goal.loop-entry-init
loop-entry-init c = (ap (map entry) c.no_entries-filled.ensures, subst Placed (sym c.no_entries-filled.ensures) tt)

pub loop-entry-preserved : goal.loop-entry-preserved
loop-entry-preserved c =
    let ys = parts c.args.arguments.now in
    let level = c.args.level in
    let es = c.args.entries.now in
    let i = c.loop-entry.entry-index in
    let fs = elements c.loop-entry.filled in
    let count = filled_count ys level es fs i (omega arith) c.loop-entry.invariant.0 in
    let room : length fs < 8 = omega (arith, c.requires.0) in
    let e = pushed _ _ c.push.result (length fs) room c.push.ensures in (
      filled_more ys level es fs (elements c.push.new.self) i _ _ c.loop-entry-test.true e c.loop-entry.invariant.0 c.fill_label-label.ensures.value refl,
      subst Placed (sym e) (All-push (λ (x : Entry). placed_label x.label ≡ true) fs _ c.loop-entry.invariant.1 c.fill_label-label.ensures.placed),
    )

pub returns : goal.returns
returns c =
    let ys = parts c.args.arguments.now in
    let e = take_all c.loop-entry.entry-index c.args.entries.now c.loop-entry-test.false in
    record {
      value = c.loop-entry.invariant.0 ∙ ap (λ xs. map (fill_entry ys c.args.level) (map entry xs)) e;
      placed = c.loop-entry.invariant.1;
    }
