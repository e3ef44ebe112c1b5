use Rattle.std.proofs.Common.{arith}
use Rattle.cases.proofs.Tokens.{lies_within, more_is}
use Rattle.cases.proofs.spelling.add_times.Goals as goal

pub extend_from_within-requires-clause-in_bounds : goal.extend_from_within-requires-clause-in_bounds
extend_from_within-requires-clause-in_bounds c =
    let i = c.loop-done.invariant in
    let o = c.loop-done.bytes.ok.0 in
    let m = c.min-more.ensures in
    let within = lies_within c.loop-done.bytes.items c.args.bytes.now.items c.args.piece.now c.loop-done.done c.min-more.result c.len-start.result i.3 (omega (arith, m)) i.2 in
    omega (arith, o, within)

pub loop-done-preserved : goal.loop-done-preserved
loop-done-preserved c =
    let i = c.loop-done.invariant in
    let m = c.min-more.ensures in
    let e = c.in_ok-extend_from_within.ensures.items in
    (omega arith, omega arith, i.2, more_is c.loop-done.bytes.items c.args.bytes.now.items c.args.piece.now c.loop-done.done c.min-more.result c.len-start.result i.3 (omega (arith, m)) i.2 c.extend_from_within.new.self.items e)
