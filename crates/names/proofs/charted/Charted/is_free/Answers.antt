use Rattle.std.proofs.Common.{◌<◌, ◌∙◌, arith}
use Rattle.names.proofs.Freeing.{free_then}
use Rattle.names.proofs.charted.Charted.is_free.Goals as goal

pub returns-then-x-len : goal.returns-then-x-len
returns-then-x-len c =
    let l : c.args.x < 64 = omega (arith, c.if-x-len.true, c.len.ensures.within) in
    free_then c.args.self.now.tables.now c.args.x c.len.result c.binder.result c.is_none.result c.len.ensures.value c.if-x-len.true
    (c.binder.ensures ∙ c.args.self.now.charted.binders c.args.x l)
    c.is_none.ensures
