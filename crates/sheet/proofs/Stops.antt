-- A sheet of one stop is sound by every counting.
use Rattle.std.proofs.Common.{◌≡◌, ℕ, ◌<◌, ◌≤◌, true, ◌&&◌, [], ◌∷◌, length, sym, ap, ◌∙◌, subst, ap₂, arith}
use Rattle.fault.specs.declared.fault.Fault.{Fault}
use Rattle.std.proofs.lemmas.Bool.{false≢true}
use Rattle.tables.specs.Elements.{elements}
use Rattle.tables.specs.Range.{all, all_from, below, type_fits, node_fits}
use Rattle.sheet.specs.Tree.{node_at, misgrown}
use Rattle.sheet.specs.Scope.{member, repeats, binds, uses, Misnamed, binds_twice, bound_already, out_of_scope}
use Rattle.tables.specs.Channels.{entries}
use Rattle.sheet.specs.Types.{type_at}
use Rattle.sheet.specs.Opening as opening
use Rattle.tables.specs.declared.tables.Node.TheVariants.{Stop}
use Rattle.tables.specs.declared.tables.Tables.{Tables}

stop_names : (n : ℕ) → n ≡ 0 → Misnamed (Stop ∷ []) n → ⊥
stop_names n z (binds_twice e) = false≢true (subst (λ k. repeats (binds (node_at (Stop ∷ []) k)) ≡ true) z e)
stop_names n z (bound_already x a l e f) = omega arith
stop_names n z (out_of_scope x b binder e far) = false≢true (subst (λ k. member x (uses (node_at (Stop ∷ []) k)) ≡ true) z e)

module _ (t : Tables) (one : opening.OneStop t) where
  single : (n : ℕ) → n < length (elements t.nodes) → n ≡ 0
  single n l = omega (arith, ap length one.nodes)

  straight : (f : Fault) → opening.Crooked t f → ⊥
  straight f (opening.not_a_tree n l e) =
      false≢true (ap (misgrown (Stop ∷ [])) (sym (single n l)) ∙ sym (ap (λ xs. misgrown xs n) one.nodes) ∙ e)
  straight f (opening.out_of_scope n l e) = stop_names n (single n l) (subst (λ xs. Misnamed xs n) one.nodes e)
  straight f (opening.bad_type i l e) = omega (arith, ap length one.types)

  few : opening.Limited t
  few = record {
    types = omega (arith, ap length one.types);
    names = omega (arith, ap length one.names);
    nodes = omega (arith, ap length one.nodes);
    entries = λ i. subst (λ xs. length (entries (type_at xs i)) ≤ 8) (sym one.types) (omega arith);
  }

  pub one_stop_sound : (largest : ℕ) → opening.Sound largest t
  one_stop_sound largest =
      let e = one.types in
      let f = one.names in
      let g = one.nodes in
      record {
        in_range =
            ap₂ (λ xs ys. all_from (type_fits largest (length ys)) 0 xs && (below (length xs) ys && all (node_fits (length ys) (length (elements t.nodes))) (elements t.nodes))) e f
            ∙ ap (λ zs. all (node_fits 0 (length zs)) zs) g;
        some = omega (arith, ap length g);
        limited = few;
        straight = straight;
      }
