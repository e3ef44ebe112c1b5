use Rattle.std.proofs.Common.{ℕ, List, length, replicate, Some, None, sym, ap, ◌∙◌, subst}
use Rattle.fault.specs.declared.fault.Fault.{Fault}
use Rattle.fault.specs.declared.label.Label.{Label}
use Rattle.tables.specs.Elements.{elements}
use Rattle.tables.specs.declared.tables.Node.{Node}
use Rattle.tables.specs.declared.tables.Tables.{Tables}
use Rattle.meaning.specs.Amounts.{amount_at}
use Rattle.meaning.specs.Faults.{names_label, Faulty, FirstTold}
use Rattle.effects.specs.Faults.{OfEffects, fault_at}
use Rattle.effects.specs.Rows.{blank}
use Rattle.effects.proofs.Sheets.{amounts_same}
use Rattle.effects.proofs.Telling.{few_told, none_told, found_told, first_same}
use Rattle.effects.proofs.judge_effects.Goals as goal

pub returns-then-rows-lt-ENOUGH : goal.returns-then-rows-lt-ENOUGH
returns-then-rows-lt-ENOUGH g c =
    let s = c.args.sheet.now in
    let v = s.counting in
    record {
      first = few_told (g.C.Counting.operations v) (g.met.C.Counting.lawful v) s.tables (length c.args.rows.now) c.if-rows-lt-ENOUGH.true;
      zero = c.clear_rows.ensures;
    }

pub returns-in-None : goal.returns-in-None
returns-in-None g c =
    let s = c.args.sheet.now in
    let v = s.counting in
    let K = g.C.Counting.operations v in
    let t = s.tables in
    let k = ap g.C.Counting.operations (c.new.ensures.counting ∙ c.counting.ensures) in
    let e = c.as_tables-tables.ensures.value in
    let nodes = c.new.ensures.nodes ∙ ap (λ (x : Tables). elements x.nodes) e in
    let A : Label ℕ → ℕ → ℕ = λ l n. amount_at K t n (names_label l) in
    record {
      first = none_told K (g.met.C.Counting.lawful v) t (length c.args.rows.now) c.if-rows-lt-ENOUGH.false
          (first_same K _ (elements t.nodes) _ A None k nodes
          (c.in-None.ensures A (λ l. amounts_same _ _ _ _ _ _ _ l (A l) k e c.new.ensures.nodes c.new.ensures.rows (c.prepare.ensures l))));
      zero = c.clear_rows-2.ensures ∙ ap (λ n. replicate n blank) c.prepare.auto.rows;
    }

pub returns-in-Some : goal.returns-in-Some
returns-in-Some g c =
    let s = c.args.sheet.now in
    let v = s.counting in
    let K = g.C.Counting.operations v in
    let t = s.tables in
    let f = c.in-Some.found in
    let k = ap g.C.Counting.operations (c.new.ensures.counting ∙ c.counting.ensures) in
    let e = c.as_tables-tables.ensures.value in
    let nodes = c.new.ensures.nodes ∙ ap (λ (x : Tables). elements x.nodes) e in
    let A : Label ℕ → ℕ → ℕ = λ l n. amount_at K t n (names_label l) in
    let told = c.told.ensures ∙ ap (λ (x : List Node). fault_at x f.place f.label f.amount) (c.as_slice.ensures.value ∙ ap (λ (x : Tables). elements x.nodes) e) in
    record {
      first = subst (λ (x : Fault). FirstTold (λ h. Faulty K t (length c.args.rows.now) h × OfEffects h) (Some x)) (sym told)
          (found_told K (g.met.C.Counting.lawful v) t (length c.args.rows.now) c.if-rows-lt-ENOUGH.false f
          (first_same K _ (elements t.nodes) _ A (Some f) k nodes
          (c.in-Some.ensures A (λ l. amounts_same _ _ _ _ _ _ _ l (A l) k e c.new.ensures.nodes c.new.ensures.rows (c.prepare.ensures l)))));
      zero = c.clear_rows-2.ensures ∙ ap (λ n. replicate n blank) c.prepare.auto.rows;
    }
