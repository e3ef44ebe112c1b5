use Rattle.std.proofs.Common.{◌≤◌, map, length, sym, ap, ◌∙◌, subst}
use Rattle.std.proofs.Math.Logic.{∥∥₁_map, ∥∥₁_elim}
use denote.Struct.Props.{props}
use Rattle.calculus.specs.Types.{fill_entry}
use Rattle.tables.specs.Encoding.{parts}
use Rattle.meaning.specs.Types.{entry}
use Rattle.uses.specs.Entries.{SoundEntries, Placed}
use Rattle.uses.proofs.Filling.{filled_sound, placed_prop}
use Rattle.uses.proofs.equal.Comparison.has_same_effect.Goals as goal

pub fill_entries-filled-requires : goal.fill_entries-filled-requires
fill_entries-filled-requires g c =
    let sound = c.args.self.now.sound c.args.right in
    let here = sym c.entries_of.ensures in (
      subst (λ xs. length xs ≤ 8) here (∥∥₁_elim sound (search props) (λ s. s.few)),
      subst Placed here (∥∥₁_elim sound (placed_prop _) (λ s. s.placed)),
    )

pub new-own-requires : goal.new-own-requires
new-own-requires g c = ∥∥₁_map (c.args.self.now.sound c.args.left) (λ s. subst (SoundEntries (g.C.Counting.operations c.args.self.now.counting.now)) (sym c.entries_of-2.ensures) s)

pub new-requires : goal.new-requires
new-requires g c =
    let K = g.C.Counting.operations c.args.self.now.counting.now in
    let ys = parts c.args.self.now.arguments.now in
    let filled = c.as_slice.ensures in
    let value = ap (map entry) filled.value ∙ c.fill_entries-filled.ensures.value ∙ ap (λ xs. map (fill_entry ys c.args.level) (map entry xs)) c.entries_of.ensures in
    ∥∥₁_map (c.args.self.now.sound c.args.right)
    (λ s. filled_sound ys c.args.level K _ _ s filled.within value (subst Placed (sym filled.value) c.fill_entries-filled.ensures.placed))
