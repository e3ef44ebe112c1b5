-- The way up from a node, on which the names of its scope are marked.
use Rattle.std.proofs.Common.{◌≡◌, ℕ, ◌<◌, Bool, true, false, ◌||◌, List, length, take, Some, None, sym, refl, ap, ◌∙◌, subst, arith}
use Rattle.std.proofs.lemmas.List.{take_all}
use Rattle.std.proofs.lemmas.Bool.{or_right}
use Rattle.tables.specs.Elements.{elements}
use Rattle.tables.specs.declared.tables.Tables.{Tables}
use Rattle.sheet.specs.declared.chart.Chart.{Chart}
use Rattle.sheet.specs.Tree.{node_at}
use Rattle.sheet.specs.Scope.{member, binds}
use Rattle.meaning.specs.Scopes.{free, parent_of, binder_of, scope_at, scope_for, scope_beside, earlier}
use Rattle.names.specs.Charts.{Charts}
use Rattle.names.specs.Marks.{Marks, marked}
use Rattle.names.proofs.Charting.{extend_is, free_in, scope_root, scope_child}
use Rattle.names.proofs.Marking.{or_swap}

or_absorb : (a b : Bool) → (b ≡ true → a ≡ true) → (a || b) ≡ a
or_absorb true b h = refl
or_absorb false true h = sym (h refl)
or_absorb false false h = refl

or_within : (a b : Bool) → (a ≡ true → b ≡ true) → b ≡ (a || b)
or_within true b h = h refl
or_within false b h = refl

-- the names marked so far, with the scope at the node reached, make the scope at node n; the free names are marked
pub record Climbs (t : Tables) (n reached : ℕ) (marks : List Bool) : Type 0 where
  pub size : length marks ≡ 64
  pub within : reached < 1024
  pub frees : (y : ℕ) → y < 64 → free t y ≡ true → marked marks y ≡ true
  pub rest : (y : ℕ) → y < 64 → scope_at t n y ≡ (marked marks y || scope_at t reached y)

pub climb_start : (t : Tables) (n : ℕ) (marks : List Bool) → n < 1024 → Marks marks (free t) → Climbs t n n marks
climb_start t n marks l m = record {
  size = m.size;
  within = l;
  frees = λ y l h. m.each y l ∙ h;
  rest = λ y l. or_within (marked marks y) (scope_at t n y) (λ h. free_in t n n y (sym (m.each y l) ∙ h));
}

module _ (t : Tables) (chart : Chart) (charted : Charts (elements t.nodes) chart) (n reached : ℕ) (marks : List Bool) (so_far : Climbs t n reached marks) where
  pub climb_on : (m : ℕ) (next : List Bool) → parent_of (elements t.nodes) reached ≡ Some m → length next ≡ 64
      → ((y : ℕ) → y < 64 → marked next y ≡ (member y (binds (node_at (elements t.nodes) m)) || marked marks y)) → Climbs t n m next
  climb_on m next e size each = record {
    size = size;
    within = omega (arith, charted.lower reached m e, so_far.within);
    frees = λ y l h. each y l ∙ or_right (member y (binds (node_at (elements t.nodes) m))) (marked marks y) (so_far.frees y l h);
    rest = λ y l.
        so_far.rest y l
        ∙ ap (λ b. marked marks y || b) (scope_child t charted.lower reached m y e)
        ∙ or_swap (member y (binds (node_at (elements t.nodes) m))) (marked marks y) (scope_at t m y)
        ∙ ap (λ b. b || scope_at t m y) (sym (each y l));
  }

  pub climb_end : parent_of (elements t.nodes) reached ≡ None → Marks marks (scope_at t n)
  climb_end e = record {
    size = so_far.size;
    each = λ y l. sym
        (so_far.rest y l
        ∙ ap (λ b. marked marks y || b) (scope_root t charted.lower reached y e)
        ∙ or_absorb (marked marks y) (free t y) (so_far.frees y l));
  }

-- all of a list
pub whole : (xs zs : List ℕ) (n : ℕ) → n ≡ length xs → xs ≡ zs → take n xs ≡ zs
whole xs zs n e same = take_all n xs (omega arith) ∙ same

pub scope_bound : (t : Tables) (x b : ℕ) (marks next : List Bool) → binder_of (elements t.nodes) x ≡ Some b → Marks marks (scope_at t b) → length next ≡ 64
    → ((y : ℕ) → y < 64 → marked next y ≡ (member y (earlier x (binds (node_at (elements t.nodes) b))) || marked marks y)) → Marks next (scope_for t x)
scope_bound t x b marks next e m size each =
    let zs = earlier x (binds (node_at (elements t.nodes) b)) in
    let here : Marks next (scope_beside t x (Some b)) = record {
      size = size;
      each = λ y l. each y l ∙ ap (λ k. member y zs || k) (m.each y l) ∙ sym (extend_is zs (scope_at t b) y);
    } in
    subst (λ o. Marks next (scope_beside t x o)) (sym e) here
