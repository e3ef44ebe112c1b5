-- Effects: they name only names in scope, and what becomes of them once names have values.
use Rattle.std.proofs.Common.{◌≡◌, ℕ, zero, suc, ◌≤◌, true, List, [], ◌∷◌, map, length, sym, refl, ap, ◌∙◌, subst, inl, inr, arith}
use Rattle.std.specs.List.{AllByRecursion}
use Rattle.std.proofs.ByRecursion.{All-weaker, All-map, All-get_or}
use Rattle.std.proofs.lemmas.List.{get_or-map}
use Rattle.std.proofs.lemmas.Bool.{both_ways, cases_Bool}
use Rattle.calculus.specs.Countings.{Operations, Laws}
use Rattle.calculus.specs.Lists.{extend}
use Rattle.calculus.specs.Joins.{amount_if, join_over}
use Rattle.calculus.specs.Labels.{Label, items, map_label}
use Rattle.calculus.specs.Types.{Name, Value, Item, name, index, Entry, NameType, pure, public, channel, Assignment}
use Rattle.calculus.specs.Scopes.{Scope, in_scope, label_in_scope, push, WellFormedItem, WellFormedEntry, WellFormed, outermost, WellFormedEnvironment}
use Rattle.calculus.specs.Processes.{Process, stop, send, receive, both, copy, new, test, begin, end}
use Rattle.calculus.specs.Effects.{Effect, ◌≟◌, empty, ◌⊑◌, Within, join_effects, full_right, named, latent, amount}
use Rattle.calculus.specs.Typing.{Takes}
use Rattle.calculus.specs.Checks.{Checks}
use Rattle.calculus.specs.Reduction.{Valuation}
use Rattle.calculus.proofs.Lists.{all_every}
use Rattle.calculus.proofs.Joins.{if_zero, if_no, if_monotone, if_swap, join_zero, lack_zero, if_join, over_zero, over_monotone, over_join, over_alike, over_alike_members}
use Rattle.calculus.proofs.Universes.{Once, along}
use Rattle.calculus.proofs.Labels.{items_map, map_label_alike, map_label_twice, all_labels}
use Rattle.calculus.proofs.Scopes.{small, label_names, names_new, names_new_one, environment_new, environment_receive}
use Rattle.calculus.proofs.Meanings.{carries, item_value, nothing_sent, meaning}

-- the label of a well-formed entry is in scope once arguments in scope are put in
pub named_in_scope : (Γ : Scope) (n : ℕ) (ys : List Name) → AllByRecursion (λ y. in_scope Γ y ≡ true) ys → n ≡ length ys →
    (e : Entry) → WellFormedEntry Γ (push n outermost) e → label_in_scope Γ (map_label (named ys) e.label) ≡ true
named_in_scope Γ n ys a q e w =
    all_every (in_scope Γ) (items (map_label (named ys) e.label))
    (subst (AllByRecursion (λ y. in_scope Γ y ≡ true)) (sym (items_map (named ys) e.label))
    (All-map (λ y. in_scope Γ y ≡ true) (named ys) (items e.label) (All-weaker _ _ item (items e.label) w)))
  where
    item : (x : Item) → WellFormedItem Γ (push n outermost) x → in_scope Γ (named ys x) ≡ true
    item (name x) o = o
    item (index zero p) o = All-get_or (λ y. in_scope Γ y ≡ true) ys p 0 (omega arith) a
    item (index (suc u) p) o = absurd (omega arith)

module _ (K : Operations) (W : Laws K) where
  -- what a channel carries is within the scope
  pub latent_within : (Γ : Scope) (t : NameType) (ys : List Name) → WellFormed Γ t → Takes t (length ys) → AllByRecursion (λ y. in_scope Γ y ≡ true) ys → Within Γ (latent K t ys)
  latent_within Γ pure ys w q a L n = refl
  latent_within Γ public ys w q a L n = refl
  latent_within Γ (channel k components entries) ys w q a L n =
      over_alike_members K W (WellFormedEntry Γ (push k outermost)) entries _ _
      (λ e o. if_no (map_label (named ys) e.label ≟ L) e.amount
      (λ h. both_ways (label_in_scope Γ L) n (subst (λ M. label_in_scope Γ M ≡ true) h (named_in_scope Γ k ys a q e o)))) w.1
      ∙ over_zero K W entries

  -- so is one full right on a label in scope
  pub full_right_within : (Γ : Scope) (l : Label Name) → label_in_scope Γ l ≡ true → Within Γ (full_right K l)
  full_right_within Γ l s L n = if_no (l ≟ L) K.full (λ e. both_ways (label_in_scope Γ L) n (subst (λ M. label_in_scope Γ M ≡ true) e s))

  -- the amount of a process that passes the checks is within the scope
  pub amount_within : (types : Assignment) (p : Process) (Γ : Scope) → WellFormedEnvironment types Γ → Checks K types Γ p → Within Γ (amount K types p)
  amount_within types stop Γ c k L n = refl
  amount_within types (send x ys) Γ c k L n = latent_within Γ (types x) ys (c x k.0) k.2.count k.1 L n
  amount_within types (receive x zs p) Γ c k L n = elim (cases_Bool (label_in_scope (extend zs Γ) L)) [
    | inl s ↦ let z = names_new zs Γ L n s in k.4 L z.0 z.1 z.2
    | inr f ↦ lack_zero K W _ _ (amount_within types p (extend zs Γ) (environment_receive types zs Γ c k.3) k.5 L f)
  ]
  amount_within types (both p q) Γ c k L n = join_zero K W _ _ (amount_within types p Γ c k.0 L n) (amount_within types q Γ c k.1 L n)
  amount_within types (copy p) Γ c k L n = amount_within types p Γ c k.0 L n
  amount_within types (new x p) Γ c k L n = elim (cases_Bool (label_in_scope (extend (x ∷ []) Γ) L)) [
    | inl s ↦ k.2 L (names_new_one x Γ L n s)
    | inr f ↦ amount_within types p (extend (x ∷ []) Γ) (environment_new types x Γ c k.1) k.3 L f
  ]
  amount_within types (test x y p q) Γ c k L n = let a = amount_within types p Γ c k.2 L n in let b = amount_within types q Γ c k.3 L n in omega arith
  amount_within types (begin l p) Γ c k L n = lack_zero K W _ _ (amount_within types p Γ c k.1 L n)
  amount_within types (end l p) Γ c k L n = join_zero K W _ _ (amount_within types p Γ c k.1 L n) (full_right_within Γ l k.0 L n)

  -- each label of names in scope stands once in the universe
  pub once_in_universe : (Γ : Scope) (L : Label Name) → label_in_scope Γ L ≡ true → Once K ◌≟◌ (all_labels K W).all L
  once_in_universe Γ L s = (all_labels K W).once L (All-weaker _ _ (small Γ) (items L) (label_names Γ L s))

  -- an effect once names have values: amounts of labels of names that become one label of values are joined
  abbrev pub instance : Valuation → Effect → Label Value → ℕ
  instance ρ e M = join_over K (all_labels K W).all (λ L. amount_if (map_label ρ L ≟ M) (e L))

  -- a larger effect has a larger instance
  pub instance_monotone : (ρ : Valuation) (e f : Effect) (M : Label Value) → e ⊑ f → instance ρ e M ≤ instance ρ f M
  instance_monotone ρ e f M h = over_monotone K W (all_labels K W).all _ _ (λ L. if_monotone (map_label ρ L ≟ M) (e L) (f L) (h L))

  -- the instance of a join is the join of the instances
  pub instance_join : (ρ : Valuation) (e f : Effect) (M : Label Value) → instance ρ (join_effects K e f) M ≡ K.join (instance ρ e M) (instance ρ f M)
  instance_join ρ e f M =
      over_alike K W (all_labels K W).all (λ L. if_join K W (map_label ρ L ≟ M) (e L) (f L))
      ∙ over_join K W (all_labels K W).all (λ L. amount_if (map_label ρ L ≟ M) (e L)) (λ L. amount_if (map_label ρ L ≟ M) (f L))

  -- the instance of nothing is nothing
  pub instance_empty : (ρ : Valuation) (M : Label Value) → instance ρ empty M ≡ 0
  instance_empty ρ M = over_alike K W (all_labels K W).all (λ L. if_zero (map_label ρ L ≟ M)) ∙ over_zero K W (all_labels K W).all

  -- the values of names out of scope do not count
  pub instance_local : (Γ : Scope) (ρ σ : Valuation) → ((x : Name) → in_scope Γ x ≡ true → ρ x ≡ σ x) → (e : Effect) (M : Label Value) → Within Γ e →
      instance ρ e M ≡ instance σ e M
  instance_local Γ ρ σ h e M w = over_alike K W (all_labels K W).all (λ L. elim (cases_Bool (label_in_scope Γ L)) [
    | inl s ↦ ap (λ l. amount_if (l ≟ M) (e L)) (map_label_alike (λ x. in_scope Γ x ≡ true) ρ σ h L (label_names Γ L s))
    | inr f ↦ ap (amount_if (map_label ρ L ≟ M)) (w L f) ∙ if_zero (map_label ρ L ≟ M) ∙ sym (if_zero (map_label σ L ≟ M)) ∙ ap (amount_if (map_label σ L ≟ M)) (sym (w L f))
  ])

  -- one full right stays one, on the label of values
  pub instance_full_right : (Γ : Scope) (ρ : Valuation) (l : Label Name) (M : Label Value) → label_in_scope Γ l ≡ true →
      instance ρ (full_right K l) M ≡ amount_if (map_label ρ l ≟ M) K.full
  instance_full_right Γ ρ l M s =
      over_alike K W (all_labels K W).all (λ L. if_swap (map_label ρ L ≟ M) (l ≟ L) K.full)
      ∙ once_in_universe Γ l s (λ L. amount_if (map_label ρ L ≟ M) K.full)

  -- what a channel carries, once names have values, is what its meaning carries
  pub instance_latent : (Γ : Scope) (ρ : Valuation) (t : NameType) (ys : List Name) (M : Label Value) → WellFormed Γ t → Takes t (length ys) →
      AllByRecursion (λ y. in_scope Γ y ≡ true) ys → instance ρ (latent K t ys) M ≡ carries (meaning K t ρ) (map ρ ys) M
  instance_latent Γ ρ pure ys M w q a = instance_empty ρ M
  instance_latent Γ ρ public ys M w q a = instance_empty ρ M
  instance_latent Γ ρ (channel n components entries) ys M w q a =
      sym (along K W ◌≟◌ entries (λ e. map_label (named ys) e.label) (λ e. e.amount) (all_labels K W).all
      (All-weaker _ _ (λ e o. once_in_universe Γ _ (named_in_scope Γ n ys a q e o)) entries w.1) (λ L. map_label ρ L ≟ M))
      ∙ over_alike_members K W (WellFormedEntry Γ (push n outermost)) entries _ _
      (λ e o. ap (λ l. amount_if (l ≟ M) e.amount)
      (map_label_twice ρ (named ys) e.label ∙ map_label_alike (WellFormedItem Γ (push n outermost)) _ _ like e.label o)) w.1
    where
      like : (x : Item) → WellFormedItem Γ (push n outermost) x → ρ (named ys x) ≡ item_value ρ (push (map ρ ys) nothing_sent) x
      like (name x) o = refl
      like (index zero p) o = sym (get_or-map ρ ys p 0 0 (omega arith))
      like (index (suc u) p) o = absurd (omega arith)
