use Rattle.std.proofs.Common.{◌≤◌, length, sym, ap, ◌∙◌, subst}
use Rattle.tables.specs.Elements.{elements}
use Rattle.tables.specs.declared.tables.Tables.{Tables}
use Rattle.calculus.specs.Processes.{size}
use Rattle.meaning.specs.Processes.{process_at}
use Rattle.meaning.proofs.Judging.{checked, judged}
use Rattle.meaning.proofs.Opened.{entries_small, root_size}
use Rattle.meaning.proofs.Scopes.{tree_of, sheet_scoped}
use Rattle.meaning.proofs.Steps.{by_steps}
use Rattle.meaning.proofs.Unfolding.{process_unfolds}
use Rattle.meaning.proofs.node_count.Goals as goal

pub returns : goal.returns
returns g c =
    let s = c.args.sheet.now in
    let sound = s.sound in
    let K = g.C.Counting.operations s.counting in
    let count = c.len.ensures.value ∙ ap (λ (t : Tables). length (elements t.nodes)) c.as_tables.ensures.value in
    record {
      value = count;
      unfolds = process_unfolds _ (tree_of _ _ sound);
      scoped = sheet_scoped _ _ sound;
      small = subst (λ n. size (process_at (elements s.tables.nodes) 0) ≤ n) (sym count) (root_size K _ sound);
      entries = entries_small K _ sound;
      amounts = by_steps K _ sound;
      judging = (checked K _ _ _ (sheet_scoped _ _ sound), judged K _ _ _);
    }
