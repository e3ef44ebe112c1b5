use Rattle.std.proofs.Common.{◌≤◌, map, length, sym, ◌∙◌, subst, arith}
use Rattle.std.proofs.Math.Logic.{∥∥₁_elim}
use denote.Struct.Props.{props}
use Rattle.std.proofs.lemmas.List.{length-map}
use Rattle.calculus.proofs.Joins.{over_map}
use Rattle.meaning.specs.Labels.{label_of}
use Rattle.meaning.specs.Types.{item, entry}
use Rattle.uses.specs.Entries.{amount_for}
use Rattle.uses.proofs.Comparing.{at_fits, gives_each}
use Rattle.uses.proofs.effects.Effect.amount_at.Goals as goal

pub returns : goal.returns
returns g c =
    let K = g.C.Counting.operations c.args.self.now.counting.now in
    let W = g.met.C.Counting.lawful c.args.self.now.counting.now in
    let L = label_of item c.args.label.now.items in
    let es = c.args.self.now.entries.now in
    ∥∥₁_elim c.args.self.now.sound (search props) (λ s.
    let few : length (map entry es) ≤ 8 = omega (arith, length-map es entry, s.few) in
    let fits = subst (λ n. n ≤ K.ceiling) (over_map K W entry es (amount_for L)) (at_fits K W L (map entry es) few s.small) in
    c.joined_for.ensures (λ e. amount_for L (entry e)) (gives_each es c.args.label.now s.placed c.requires) fits
    ∙ sym (over_map K W entry es (amount_for L)))
