use Rattle.std.proofs.Common.{◌<◌, false, ◌||◌, [], ◌∷◌, length, get_or, take, ap, ◌∙◌, arith}
use Rattle.tables.specs.Encoding.{parts}
use Rattle.tables.proofs.Iterated.{all_yielded}
use Rattle.sheet.specs.Scope.{member}
use Rattle.names.proofs.Marking.{marked_more}
use Rattle.names.proofs.scopes.mark.Goals as goal

pub loop-name-preserved : goal.loop-name-preserved
loop-name-preserved c y l =
    let l₀ : y < length c.loop-name.marks = omega arith in
    let e = c.mark_name.ensures y l₀ in
    let b = c.loop-name.invariant y l₀ in
    let m = marked_more (get_or c.args.marks.now y false) y c.loop-name.yielded (c.in-Some.name ∷ []) in
    let f = c.from.ensures in
    cc

pub returns : goal.returns
returns c y l =
    let all = all_yielded _ _ _ (take c.args.count (parts c.args.names.now)) _ _ (c.into_iter-name-iterator.ensures.into_iter_gives ∙ c.first-name-items.ensures) c.loop-name.yielded_by c.in-None.is c.next.ensures.steps in
    c.loop-name.invariant y (omega arith) ∙ ap (λ xs. member y xs || get_or c.args.marks.now y false) all
