use Rattle.sheet.proofs.Stops.{one_stop_sound}
use Rattle.sheet.proofs.opened.OpenedSheet.new.Goals as goal

pub seal-requires : goal.seal-requires
seal-requires g c = one_stop_sound c.one_stop.result c.one_stop.ensures _
