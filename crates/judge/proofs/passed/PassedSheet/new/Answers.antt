use Rattle.judge.proofs.Stops.{one_stop_accepted}
use Rattle.judge.proofs.passed.PassedSheet.new.Goals as goal

pub passed_of-requires : goal.passed_of-requires
passed_of-requires g c = one_stop_accepted _ _ c.new-opened.ensures.tables
