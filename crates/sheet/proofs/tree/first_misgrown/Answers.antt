use Rattle.std.proofs.lemmas.List.{get_or-replicate}
use Rattle.sheet.proofs.tree.first_misgrown.Goals as goal

pub count_children-requires : goal.count_children-requires
count_children-requires c = record { few = c.requires; fresh = λ k l. get_or-replicate 1024 k 0 0 l }
