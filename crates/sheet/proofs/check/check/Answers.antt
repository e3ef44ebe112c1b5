use Rattle.std.proofs.Common.{◌≡◌, ◌+◌, ◌-◌, true, length, take, Some, None, sym, ap, ◌∙◌, subst, arith}
use Rattle.std.specs.List.{flat_map}
use Rattle.std.proofs.lemmas.List.{length-take}
use Rattle.fault.specs.First.{First, Lowest}
use Rattle.fault.specs.declared.fault.Fault.TheVariants.{NotATree, OutOfScope, BadType}
use Rattle.tables.specs.Elements.{elements}
use Rattle.tables.specs.Encoding.{type_records}
use Rattle.tables.specs.declared.tables.SheetType.{SheetType}
use Rattle.tables.specs.Range.{all, node_fits}
use Rattle.sheet.specs.Tree.{misgrown}
use Rattle.sheet.specs.Scope.{Misnamed}
use Rattle.sheet.specs.Types.{Misformed}
use Rattle.sheet.specs.Opening.{Crooked, node_place, type_place}
use Rattle.sheet.proofs.Checking.{limited, nodes_fit, first_tree, first_scope, first_type, none_crooked}
use Rattle.sheet.proofs.Scanning.{is_false}
use Rattle.sheet.proofs.check.check.Goals as goal

pub records_of_types-requires : goal.records_of_types-requires
records_of_types-requires c = c.as_slice-types.ensures.within

pub first_misgrown-requires : goal.first_misgrown-requires
first_misgrown-requires c = c.as_slice-nodes.ensures.within

pub returns-in-Some : goal.returns-in-Some
returns-in-Some c =
    let t = c.args.tables.now in
    let n = c.in-Some.node in
    let records = c.records_of_types.ensures.value ∙ ap (λ xs. length (flat_map type_records xs)) c.as_slice-types.ensures.value in
    let place : 1 + c.records_of_types.result + c.len.result + n ≡ node_place t n = omega (arith, records, c.len.ensures.value) in
    let low = subst (λ xs. Lowest (λ k. misgrown xs k ≡ true) (length xs) (Some n)) c.as_slice-nodes.ensures.value c.in-Some.ensures in
    record {
      first = subst (λ p. First (Crooked t) (Some (NotATree p))) (sym place) (first_tree t n low);
      limits = limited t _ _ _ c.as_slice-types.ensures.value c.as_slice-nodes.ensures.value c.len.ensures.value c.as_slice-types.ensures.within c.as_slice-nodes.ensures.within c.len.ensures.within c.records_of_types.ensures.each;
    }

pub first_misnamed-requires : goal.first_misnamed-requires
first_misnamed-requires c =
    let t = c.args.tables.now in
    let fits = nodes_fit c.requires.0 t c.requires.1 in
    record {
      few = c.as_slice-nodes.ensures.within;
      tree = λ n l. is_false (misgrown c.as_slice-nodes.result.now n) (c.in_default.ensures n l);
      ranged = (
        length (elements t.names),
        omega (arith, c.len.ensures.value, c.len.ensures.within),
        subst (λ xs. all (node_fits (length (elements t.names)) (length xs)) xs ≡ true) (sym c.as_slice-nodes.ensures.value) fits,
      );
    }

pub returns-in-Some-first_misnamed : goal.returns-in-Some-first_misnamed
returns-in-Some-first_misnamed c =
    let t = c.args.tables.now in
    let n = c.in-Some-first_misnamed.node in
    let e = c.as_slice-nodes.ensures.value in
    let records = c.records_of_types.ensures.value ∙ ap (λ xs. length (flat_map type_records xs)) c.as_slice-types.ensures.value in
    let place : 1 + c.records_of_types.result + c.len.result + n ≡ node_place t n = omega (arith, records, c.len.ensures.value) in
    let tree = subst (λ xs. Lowest (λ k. misgrown xs k ≡ true) (length xs) None) e c.in_default.ensures in
    let low = subst (λ xs. Lowest (Misnamed xs) (length xs) (Some n)) e c.in-Some-first_misnamed.ensures in
    record {
      first = subst (λ p. First (Crooked t) (Some (OutOfScope p))) (sym place) (first_scope t tree n low);
      limits = limited t _ _ _ c.as_slice-types.ensures.value c.as_slice-nodes.ensures.value c.len.ensures.value c.as_slice-types.ensures.within c.as_slice-nodes.ensures.within c.len.ensures.within c.records_of_types.ensures.each;
    }

pub records_of_types-requires-in-Some-first_misformed :
    goal.records_of_types-requires-in-Some-first_misformed
records_of_types-requires-in-Some-first_misformed c =
    let i = c.in-Some-first_misformed.at in
    omega (arith, length-take {A = SheetType}, c.as_slice-types.ensures.within)

pub returns-in-Some-first_misformed : goal.returns-in-Some-first_misformed
returns-in-Some-first_misformed c =
    let t = c.args.tables.now in
    let i = c.in-Some-first_misformed.at in
    let e = c.as_slice-nodes.ensures.value in
    let whole : i - 0 ≡ i = omega arith in
    let records = c.records_of_types-in-Some-first_misformed.ensures.value ∙ ap (λ k. length (flat_map type_records (take k c.as_slice-types.result.now))) whole ∙ ap (λ xs. length (flat_map type_records (take i xs))) c.as_slice-types.ensures.value in
    let place : 1 + c.records_of_types-in-Some-first_misformed.result ≡ type_place t i = omega (arith, records) in
    let tree = subst (λ xs. Lowest (λ k. misgrown xs k ≡ true) (length xs) None) e c.in_default.ensures in
    let scope = subst (λ xs. Lowest (Misnamed xs) (length xs) None) e c.in_default-first_misnamed.ensures in
    let low = subst (λ xs. Lowest (Misformed xs) (length xs) (Some i)) c.as_slice-types.ensures.value c.in-Some-first_misformed.ensures in
    record {
      first = subst (λ p. First (Crooked t) (Some (BadType p))) (sym place) (first_type t tree scope i low);
      limits = limited t _ _ _ c.as_slice-types.ensures.value c.as_slice-nodes.ensures.value c.len.ensures.value c.as_slice-types.ensures.within c.as_slice-nodes.ensures.within c.len.ensures.within c.records_of_types.ensures.each;
    }

pub returns : goal.returns
returns c =
    let t = c.args.tables.now in
    let e = c.as_slice-nodes.ensures.value in
    let tree = subst (λ xs. Lowest (λ k. misgrown xs k ≡ true) (length xs) None) e c.in_default.ensures in
    let scope = subst (λ xs. Lowest (Misnamed xs) (length xs) None) e c.in_default-first_misnamed.ensures in
    let types = subst (λ xs. Lowest (Misformed xs) (length xs) None) c.as_slice-types.ensures.value c.in_default-first_misformed.ensures in
    record {
      first = none_crooked t tree scope types;
      limits = limited t _ _ _ c.as_slice-types.ensures.value c.as_slice-nodes.ensures.value c.len.ensures.value c.as_slice-types.ensures.within c.as_slice-nodes.ensures.within c.len.ensures.within c.records_of_types.ensures.each;
    }
