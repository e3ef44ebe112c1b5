use Rattle.std.proofs.Common.{◌≡◌, ◌-◌, ◌*◌, ◌/◌, ◌%◌, ◌<◌, ◌≤◌, length, get_or, ap, ◌∙◌, ap₂, ⊎_elim, arith}
use Rattle.std.proofs.lemmas.Bool.{cases_lt}
use Rattle.tables.specs.declared.tables.Node.{Node}
use Rattle.sheet.specs.Tree.{node_at}
use Rattle.effects.specs.Rows.{blank, rows_of}
use Rattle.effects.proofs.Lists.{before_part, in_part}
use Rattle.effects.proofs.rows.fill_rows.Goals as goal

pub loop-n-preserved : goal.loop-n-preserved
loop-n-preserved c i l =
    let n = c.loop-n.n in
    let made = λ (x : Node). rows_of c.args.full c.args.types.now c.args.owners.now x in
    let room : 8 * n ≤ length c.loop-n.rows = omega (arith, c.requires, c.loop-n.auto.rows, c.loop-n-test.true) in
    ⊎_elim
    (λ q. before_part c.loop-n.rows c.copy_from_slice.new.self (8 * n) _ i blank room q ∙ c.loop-n.invariant i q)
    (λ q.
    let j = i - 8 * n in
    let short : j < 8 = omega arith in
    let node : n ≡ i / 8 = omega arith in
    let row : j ≡ i % 8 = omega arith in
    let size : length c.copy_from_slice.new.self ≡ 8 = ap length c.copy_from_slice.ensures.after ∙ c.rows_for.ensures.size in
    in_part c.loop-n.rows c.copy_from_slice.new.self (8 * n) _ i blank room q (omega arith)
    ∙ ap (λ r. get_or r j blank) c.copy_from_slice.ensures.after
    ∙ c.rows_for.ensures.rows j short
    ∙ ap₂ (λ m k. get_or (made (node_at c.args.nodes.now m)) k blank) node row)
    (cases_lt i (8 * n))
