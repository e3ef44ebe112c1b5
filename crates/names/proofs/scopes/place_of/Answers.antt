use Rattle.std.proofs.Common.{◌≡◌, Some, rules}
use Rattle.std.proofs.lemmas.Iterator.{first_from_Range}
use Rattle.fault.specs.Items.{nth}
use Rattle.tables.specs.Encoding.{parts}
use Rattle.names.proofs.Marking.{lowest_from}
use Rattle.names.proofs.scopes.place_of.Goals as goal

pub returns : goal.returns
returns c =
    lowest_from (λ k. nth (parts c.args.names.now) k ≡ Some c.args.x) _ c.count.result c.find.result c.count.ensures
    (first_from_Range _ _ _ c.find.result (λ k. nth (parts c.args.names.now) k ≡ Some c.args.x) (λ k. nth (parts c.args.names.now) k ≡ Some c.args.x → ⊥) c.find.ensures.ran
    (λ k q h. search rules) (λ k q h. search rules))
