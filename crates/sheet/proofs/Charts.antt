-- The tables of binders and parents against the nodes, for scope.
use Rattle.std.proofs.Common.{◌≡◌, ℕ, zero, suc, ◌+◌, ◌<◌, ◌≤◌, Bool, true, false, ◌&&◌, ltb, ◌⊎◌, List, [], ◌∷◌, length, get_or, Some, None, Decides, Option, sym, refl, ap, ◌∙◌, subst, inl, inr, ⊎_elim, arith, below_more}
use Rattle.std.proofs.lemmas.List.{get_or_past}
use Rattle.std.proofs.lemmas.Bool.{both_ways, ltb-true, and_parts, cases_lt, cases_Bool, false≢true}
use Rattle.std.proofs.lemmas.Bool.Decides.{nat_tests}
use Rattle.std.specs.Option.{option_or}
use Rattle.std.specs.Bool.{then_some}
use Rattle.fault.specs.First.{Lowest}
use Rattle.tables.specs.Encoding.{parts}
use Rattle.tables.specs.Range.{all, below, node_fits}
use Rattle.sheet.specs.Tree.{children, node_at, misgrown}
use Rattle.sheet.specs.Scope.{member, repeats, binds, uses, Below, Misnamed, Any, Holders, Over, Taken, Outside, Charted}
use Rattle.sheet.specs.Scope.Below.{child, further}
use Rattle.sheet.specs.Scope.Over.{nearest, beyond}
use Rattle.sheet.specs.Scope.Misnamed.{binds_twice, bound_already, out_of_scope}
use Rattle.tables.specs.declared.tables.Node.{Node}
use Rattle.tables.specs.declared.tables.Node.TheVariants.{Stop, Send, Receive, Both, Copy, New, Test, Begin, End}
use Rattle.sheet.proofs.Parents.{all_member, placed, higher, one_parent}

-- what passes of each node passes of the one at a place
all_at : (p : Node → Bool) (nodes : List Node) (i : ℕ) → all p nodes ≡ true → i < length nodes → p (node_at nodes i) ≡ true
all_at p [] i a l = absurd (omega arith)
all_at p (x ∷ xs) zero a l = (and_parts (p x) (all p xs) a).0
all_at p (x ∷ xs) (suc i) a l = all_at p xs i (and_parts (p x) (all p xs) a).1 (omega arith)

-- what a node in range binds is a name that there is, and its children are nodes that there are
fits_binds : (names nodes : ℕ) (node : Node) (x : ℕ) → node_fits names nodes node ≡ true → member x (binds node) ≡ true → x < names
fits_binds names nodes Stop x f m = absurd (false≢true m)
fits_binds names nodes (Send c xs) x f m = absurd (false≢true m)
fits_binds names nodes (Receive c xs next) x f m =
    let a = (and_parts (ltb c names && below names (parts xs)) (ltb next nodes) f).0 in
    let b = (and_parts (ltb c names) (below names (parts xs)) a).1 in
    ltb-true x names (all_member (λ y. ltb y names) (parts xs) x b m)
fits_binds names nodes (Both i j) x f m = absurd (false≢true m)
fits_binds names nodes (Copy next) x f m = absurd (false≢true m)
fits_binds names nodes (New y next) x f m =
    let a = (and_parts (ltb y names) (ltb next nodes) f).0 in
    grind (arith, nat_tests)
fits_binds names nodes (Test y z i j) x f m = absurd (false≢true m)
fits_binds names nodes (Begin label next) x f m = absurd (false≢true m)
fits_binds names nodes (End label next) x f m = absurd (false≢true m)

fits_children : (names nodes : ℕ) (node : Node) (k : ℕ) → node_fits names nodes node ≡ true → member k (children node) ≡ true → k < nodes
fits_children names nodes Stop k f m = absurd (false≢true m)
fits_children names nodes (Send c xs) k f m = absurd (false≢true m)
fits_children names nodes (Receive c xs next) k f m = let a = (and_parts (ltb c names && below names (parts xs)) (ltb next nodes) f).1 in grind (arith, nat_tests)
fits_children names nodes (Both i j) k f m = grind (arith, nat_tests)
fits_children names nodes (Copy next) k f m = grind (arith, nat_tests)
fits_children names nodes (New y next) k f m = grind (arith, nat_tests)
fits_children names nodes (Test y z i j) k f m = let a = (and_parts (ltb y names && ltb z names) (ltb i nodes && ltb j nodes) f).1 in grind (arith, nat_tests)
fits_children names nodes (Begin label next) k f m = let a = (and_parts _ (ltb next nodes) f).1 in grind (arith, nat_tests)
fits_children names nodes (End label next) k f m = let a = (and_parts _ (ltb next nodes) f).1 in grind (arith, nat_tests)

-- the lowest, for one number more
pub lowest_more : (P : ℕ → Type 0) (n : ℕ) (o q : Option ℕ) (b : Bool) → Lowest P n o → q ≡ option_or o (then_some b n) → (b ≡ true → P n) → (P n → b ≡ true) → Lowest P (n + 1) q
lowest_more P n (Some m) q b h e has only = subst (Lowest P (n + 1)) (sym e) (omega (arith, h.0), h.1, h.2)
lowest_more P n None q true h e has only = subst (Lowest P (n + 1)) (sym e) (omega arith, has refl, h)
lowest_more P n None q false h e has only = subst (Lowest P (n + 1)) (sym e) (below_more (λ k. P k → ⊥) n h (λ p. false≢true (only p)))

-- what the lowest is, and that there is one where there is any
lowest_here : (P : ℕ → Type 0) (n : ℕ) (o : Option ℕ) (b : ℕ) → Lowest P n o → o ≡ Some b → (b < n) × P b × ((j : ℕ) → j < b → P j → ⊥)
lowest_here P n o b h e = subst (Lowest P n) e h

lowest_some : (P : ℕ → Type 0) (n : ℕ) (o : Option ℕ) (m : ℕ) → Lowest P n o → m < n → P m → (b : ℕ) × (o ≡ Some b) × (b ≤ m) × P b
lowest_some P n None m h l p = absurd (h m l p)
lowest_some P n (Some b) m h l p =
    ⊎_elim
    (λ below. absurd (h.2 m below p))
    (λ le. (b, refl, le, h.1))
    (cases_lt m b)

-- node n binds wrongly, or uses wrongly, as the code tests it
abbrev Binding : List Node → List (Option ℕ) → ℕ → Type 0
Binding nodes binders n = (repeats (binds (node_at nodes n)) ≡ true) ⊎ Any (Taken binders n) (binds (node_at nodes n))

abbrev Using : List Node → (binders parents : List (Option ℕ)) → ℕ → Type 0
Using nodes binders parents n = Any (Outside binders parents n) (uses (node_at nodes n))

module _ {nodes : List Node} {binders parents : List (Option ℕ)} (t : Charted nodes binders parents) where
  over_below : {b n : ℕ} → Over parents b n → Below nodes b n
  over_below (nearest h) = child (t.down _ _ h)
  over_below (beyond o h) = further (over_below o) (t.down _ _ h)

  below_over : {b n : ℕ} → Below nodes b n → Over parents b n
  below_over (child h) = nearest (t.up _ _ h)
  below_over (further o h) = beyond (below_over o) (t.up _ _ h)

  binding_wrong : (n : ℕ) → Binding nodes binders n → Misnamed nodes n
  binding_wrong n (inl h) = binds_twice h
  binding_wrong n (inr (x, m, (b, e, l))) = bound_already x b l (lowest_here _ _ _ b (t.bound x) e).1 m

  using_wrong : (n : ℕ) → Using nodes binders parents n → Misnamed nodes n
  using_wrong n (x, m, (b, e, out)) =
      let h = lowest_here _ _ _ b (t.bound x) e in
      let first : (a : ℕ) → a < b → member x (binds (node_at nodes a)) ≡ false =
      λ a l. ⊎_elim (λ y. absurd (h.2 a l y)) (λ y. y) (cases_Bool (member x (binds (node_at nodes a)))) in
      out_of_scope x b (record { here = h.1; first = first }) m (λ below. out (below_over below))

  wrong_either : (n : ℕ) → n < length nodes → Misnamed nodes n → Binding nodes binders n ⊎ Using nodes binders parents n
  wrong_either n l (binds_twice h) = inl (inl h)
  wrong_either n l (bound_already x a below ha hn) =
      let s = lowest_some _ _ _ a (t.bound x) (omega arith) ha in
      inl (inr (x, hn, (s.0, s.1, omega (arith, s.2))))
  wrong_either n l (out_of_scope x b binder m out) =
      let s = lowest_some _ _ _ b (t.bound x) (placed binds refl nodes x b binder.here) binder.here in
      let same : s.0 ≡ b = ⊎_elim (λ lower. absurd (both_ways _ (binder.first s.0 lower) s.3)) (λ le. omega (arith, s.2)) (cases_lt s.0 b) in
      inr (x, m, (b, s.1 ∙ ap Some same, λ o. out (over_below o)))

  -- a node is misnamed where it binds wrongly or uses wrongly
  pub misnamed_decides : (n : ℕ) (r : Bool) → n < length nodes → Decides r (Binding nodes binders n ⊎ Using nodes binders parents n) → Decides r (Misnamed nodes n)
  misnamed_decides n r l d = (λ t. ⊎_elim (binding_wrong n) (using_wrong n) (d.0 t), λ m. d.1 (wrong_either n l m))

-- the tables that the loops fill, for nodes with their names and children in range
module _ (nodes : List Node) (fit : (names : ℕ) × (names ≤ 64) × (all (node_fits names (length nodes)) nodes ≡ true)) where
  in_range : (b : ℕ) → b < length nodes → node_fits fit.0 (length nodes) (node_at nodes b) ≡ true
  in_range b l = all_at (node_fits fit.0 (length nodes)) nodes b fit.2 l

  -- a name past the table has no binder
  all_bound : (binders : List (Option ℕ)) → length binders ≡ 64 → Holders binds nodes (length nodes) binders
      → (x : ℕ) → Lowest (λ b. member x (binds (node_at nodes b)) ≡ true) (length nodes) (get_or binders x None)
  all_bound binders e bs x =
      let Bound : Option ℕ → Type 0 = Lowest (λ b. member x (binds (node_at nodes b)) ≡ true) (length nodes) in
      let unbound : length binders ≤ x → Bound None =
      λ past b l h. omega (arith, fit.1, fits_binds fit.0 (length nodes) (node_at nodes b) x (in_range b l) h) in
      ⊎_elim (bs x) (λ past. subst Bound (sym (get_or_past binders x None past)) (unbound past)) (cases_lt x (length binders))

  -- what the table has as a parent is one
  parent_down : (parents : List (Option ℕ)) → Holders children nodes (length nodes) parents
      → (k m : ℕ) → get_or parents k None ≡ Some m → member k (children (node_at nodes m)) ≡ true
  parent_down parents ps k m e =
      ⊎_elim
      (λ l. (lowest_here _ _ _ m (ps k l) e).1)
      (λ past. let p = get_or_past parents k None past in let z : ◌≡◌ {A = ℕ} 0 1 = cc in absurd (omega arith))
      (cases_lt k (length parents))

  -- the table has every parent, in a tree
  parent_up : (parents : List (Option ℕ)) → length nodes ≤ length parents → ((n : ℕ) → n < length nodes → misgrown nodes n ≡ false)
      → Holders children nodes (length nodes) parents → (k m : ℕ) → member k (children (node_at nodes m)) ≡ true → get_or parents k None ≡ Some m
  parent_up parents room tree ps k m h =
      let lm = placed children refl nodes k m h in
      let lk = fits_children fit.0 (length nodes) (node_at nodes m) k (in_range m lm) h in
      let in_table : k < length parents = omega arith in
      let s = lowest_some (λ n. member k (children (node_at nodes n)) ≡ true) (length nodes) (get_or parents k None) m (ps k in_table) lm h in
      s.1 ∙ ap Some (one_parent nodes tree k s.0 m lk s.2 s.3 h)

  pub charted : (binders parents : List (Option ℕ)) → length binders ≡ 64 → length nodes ≤ length parents
      → ((n : ℕ) → n < length nodes → misgrown nodes n ≡ false)
      → Holders binds nodes (length nodes) binders → Holders children nodes (length nodes) parents → Charted nodes binders parents
  charted binders parents e room tree bs ps =
      record {
        bound = all_bound binders e bs;
        down = parent_down parents ps;
        up = parent_up parents room tree ps;
        falls = λ k m h. higher nodes tree k m (parent_down parents ps k m h);
      }
