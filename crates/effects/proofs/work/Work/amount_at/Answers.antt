use Rattle.effects.proofs.Lists.{all_same}
use Rattle.effects.proofs.work.Work.amount_at.Goals as goal

pub write_amounts-requires : goal.write_amounts-requires
write_amounts-requires g c = λ m l. all_same 1024 m 0
