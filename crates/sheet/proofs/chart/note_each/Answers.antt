use Rattle.std.proofs.Common.{◌<◌, [], ◌∷◌, length, get_or, None, ap, ◌∙◌, arith}
use Rattle.std.specs.Option.{option_or}
use Rattle.std.specs.Bool.{then_some}
use Rattle.tables.specs.Encoding.{parts}
use Rattle.tables.proofs.Iterated.{all_yielded}
use Rattle.sheet.specs.Scope.{member}
use Rattle.sheet.proofs.Scoped.{noted_more}
use Rattle.sheet.proofs.chart.note_each.Goals as goal

pub loop-number-preserved : goal.loop-number-preserved
loop-number-preserved c y l =
    let l₀ : y < length c.loop-number.table = omega arith in
    let e = c.note.ensures y l₀ in
    let b = c.loop-number.invariant y l₀ in
    let m = noted_more (get_or c.args.table.now y None) c.args.n y c.loop-number.yielded (c.in-Some.number ∷ []) in
    let f = c.from.ensures in
    cc

pub returns : goal.returns
returns c y l =
    let all = all_yielded _ _ _ (parts c.args.numbers) _ _ c.into_iter-number-iterator.ensures.into_iter_gives c.loop-number.yielded_by c.in-None.is c.next.ensures.steps in
    c.loop-number.invariant y (omega arith) ∙ ap (λ xs. option_or (get_or c.args.table.now y None) (then_some (member y xs) c.args.n)) all
