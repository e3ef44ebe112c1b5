-- Meanings: the type of a value. Once every name has a value, a channel type is a function of the values sent, so that
-- putting arguments in is application, and equal types have equal meanings.
use Rattle.std.proofs.Common.{◌≡◌, ℕ, zero, suc, ◌<◌, ◌≤◌, Bool, true, false, cond, ltb, List, [], map, length, get_or, take, sym, refl, ap, ◌∙◌, subst, le_trans, arith, length-take, get_or-take}
use Rattle.std.specs.List.{AllByRecursion}
use Rattle.std.proofs.lemmas.List.{get_or-map}
use Rattle.std.proofs.lemmas.Bool.{ltb-true, lt-ltb, cond-true}
use Rattle.calculus.specs.Countings.{Operations, Laws}
use Rattle.calculus.specs.Joins.{amount_if, join_over}
use Rattle.calculus.specs.Equality.{decide, number_test}
use Rattle.calculus.specs.Labels.{Label, map_label, label_test}
use Rattle.calculus.specs.Types.{Name, Value, Item, name, index, Entry, NameType, pure, public, channel, Assignment, fill_index, fill_item, fill_entry, fill_type, required, item_test, SameType, same_pure, same_public, same_channel}
use Rattle.calculus.specs.Scopes.{Scope, in_scope, push, WellFormedItem, WellFormedEntry, WellFormedInside, WellFormed}
use Rattle.calculus.specs.Effects.{◌≟◌}
use Rattle.calculus.specs.Typing.{Takes, ChannelUse}
use Rattle.calculus.specs.Reduction.{Valuation}
use Rattle.calculus.proofs.Joins.{over_alike, over_alike_members, over_map}
use Rattle.calculus.proofs.Universes.{sent_alike}
use Rattle.calculus.proofs.Labels.{map_label_alike, map_label_twice}

-- the type of a value; a channel's components and effect are functions of the values sent
pub data ValueType : Type 0 where
  pure_value : ValueType
  public_value : ValueType
  channel_value : ℕ → (ℕ → List Value → ValueType) → (List Value → Label Value → ℕ) → ValueType

-- the type of the value at place i of a message, and the effect of the message
abbrev pub component : ValueType → ℕ → List Value → ValueType
component pure_value i vs = pure_value
component public_value i vs = public_value
component (channel_value n c e) i vs = c i vs

-- the rights that a message brings
abbrev pub carries : ValueType → List Value → Label Value → ℕ
carries pure_value vs M = 0
carries public_value vs M = 0
carries (channel_value n c e) vs M = e vs M

-- the value of an item; `outer u` are the values sent on the channel u levels out
abbrev pub item_value : Valuation → (ℕ → List Value) → Item → Value
item_value ρ outer (name x) = ρ x
item_value ρ outer (index u p) = get_or (outer u) p 0

-- what a type inside other channel types says of a value
abbrev pub meaning_inside : Operations → NameType → Valuation → (ℕ → List Value) → ValueType
meaning_inside K pure ρ outer = pure_value
meaning_inside K public ρ outer = public_value
meaning_inside K (channel n components entries) ρ outer =
    channel_value n (λ i vs. cond (ltb i n) (meaning_inside K (components i) ρ (push vs outer)) pure_value)
    (λ vs M. join_over K entries (λ e. amount_if (map_label (item_value ρ (push vs outer)) e.label ≟ M) e.amount))

-- no channel lies further out
abbrev pub nothing_sent : ℕ → List Value
nothing_sent u = []

-- what a name's type says of the name's value
abbrev pub meaning : Operations → NameType → Valuation → ValueType
meaning K t ρ = meaning_inside K t ρ nothing_sent

-- channels with the same count, components and effect are the same
channel_alike : {n m : ℕ} {c d : ℕ → List Value → ValueType} {e f : List Value → Label Value → ℕ} → n ≡ m → ((i : ℕ) (vs : List Value) → c i vs ≡ d i vs) →
    ((vs : List Value) (M : Label Value) → e vs M ≡ f vs M) → channel_value n c e ≡ channel_value m d f
channel_alike p q r = λ i. channel_value (p i) (λ j vs. q j vs i) (λ vs M. r vs M i)

-- components need to be alike below the count only
below_alike : (i n m : ℕ) (t u : ValueType) → n ≡ m → (i < n → t ≡ u) → cond (ltb i n) t pure_value ≡ cond (ltb i m) u pure_value
below_alike i n m t u e h = go (ltb i n) refl ∙ ap (λ k. cond (ltb i k) u pure_value) e
  where
    go : (b : Bool) → ltb i n ≡ b → cond b t pure_value ≡ cond b u pure_value
    go true q = h (ltb-true i n q)
    go false q = refl

module _ (K : Operations) (W : Laws K) where
  -- equal types mean the same
  pub same_meaning : {t u : NameType} → SameType K t u → (ρ : Valuation) (outer : ℕ → List Value) → meaning_inside K t ρ outer ≡ meaning_inside K u ρ outer
  same_meaning same_pure ρ outer = refl
  same_meaning same_public ρ outer = refl
  same_meaning (same_channel {n = n} {m = m} {c = c} {d = d} {a = a} {b = b} e h r) ρ outer =
      channel_alike e (λ i vs. below_alike i n m _ _ e (λ l. same_meaning (h i l) ρ (push vs outer)))
      (λ vs M. sent_alike K W (decide (label_test item_test)) (λ e. e.label) (λ e. e.amount) a b r (λ L. map_label (item_value ρ (push vs outer)) L ≟ M))

  module _ (Γ : Scope) where
    -- entries whose items have the same values
    entries_alike : (before : ℕ → ℕ) (f g : Item → Value) → ((x : Item) → WellFormedItem Γ before x → f x ≡ g x) → (M : Label Value) (entries : List Entry) →
        AllByRecursion (WellFormedEntry Γ before) entries →
        join_over K entries (λ e. amount_if (map_label f e.label ≟ M) e.amount) ≡ join_over K entries (λ e. amount_if (map_label g e.label ≟ M) e.amount)
    entries_alike before f g h M entries a =
        over_alike_members K W (WellFormedEntry Γ before) entries _ _
        (λ e o. ap (λ L. amount_if (L ≟ M) e.amount) (map_label_alike (WellFormedItem Γ before) f g h e.label o)) a

    -- the values of names out of scope do not count
    pub meaning_local : (ρ σ : Valuation) → ((x : Name) → in_scope Γ x ≡ true → ρ x ≡ σ x) → (t : NameType) (before : ℕ → ℕ) (outer : ℕ → List Value) →
        WellFormedInside Γ before t → meaning_inside K t ρ outer ≡ meaning_inside K t σ outer
    meaning_local ρ σ h pure before outer w = refl
    meaning_local ρ σ h public before outer w = refl
    meaning_local ρ σ h (channel n components entries) before outer w =
        channel_alike refl (λ i vs. below_alike i n n _ _ refl (λ l. meaning_local ρ σ h (components i) _ (push vs outer) (w.2 i l)))
        (λ vs M. entries_alike (push n before) (item_value ρ (push vs outer)) (item_value σ (push vs outer)) (same vs) M entries w.1)
      where
        same : (vs : List Value) (x : Item) → WellFormedItem Γ (push n before) x → item_value ρ (push vs outer) x ≡ item_value σ (push vs outer) x
        same vs (name x) o = h x o
        same vs (index u p) o = refl

    -- `filled` is `outer` with the values of the arguments ys at level k
    record Filled (ρ : Valuation) (ys : List Name) (k : ℕ) (outer filled : ℕ → List Value) : Type 0 where
      pub there : (p : ℕ) → p < length ys → get_or (filled k) p 0 ≡ ρ (get_or ys p 0)
      pub elsewhere : (u : ℕ) → (u ≡ k → ⊥) → filled u ≡ outer u

    filled_push : (ρ : Valuation) (ys : List Name) (k : ℕ) (outer filled : ℕ → List Value) (vs : List Value) → Filled ρ ys k outer filled →
        Filled ρ ys (suc k) (push vs outer) (push vs filled)
    filled_push ρ ys k outer filled vs h = record { there = h.there; elsewhere = go }
      where
        go : (u : ℕ) → (u ≡ suc k → ⊥) → push vs filled u ≡ push vs outer u
        go zero n = refl
        go (suc u) n = h.elsewhere u (λ e. n (ap suc e))

    filled_index : (ρ : Valuation) (ys : List Name) (k u p : ℕ) (outer filled : ℕ → List Value) → Filled ρ ys k outer filled → (u ≡ k → p < length ys) →
        (d : Dec (u ≡ k)) → item_value ρ outer (fill_index ys k u p d) ≡ get_or (filled u) p 0
    filled_index ρ ys k u p outer filled h b (yes e) =
        ap (item_value ρ outer) (cond-true (ltb p (length ys)) (name (get_or ys p 0)) (index u p) (lt-ltb p (length ys) (b e)))
        ∙ sym (h.there p (b e)) ∙ ap (λ v. get_or (filled v) p 0) (sym e)
    filled_index ρ ys k u p outer filled h b (no n) = ap (λ l. get_or l p 0) (sym (h.elsewhere u n))

    -- arguments put into a type, or their values sent: the meaning is the same
    filled_meaning : (ρ : Valuation) (ys : List Name) (t : NameType) (k : ℕ) (before : ℕ → ℕ) (outer filled : ℕ → List Value) →
        WellFormedInside Γ before t → before k ≤ length ys → Filled ρ ys k outer filled →
        meaning_inside K (fill_type ys (suc k) t) ρ outer ≡ meaning_inside K t ρ filled
    filled_meaning ρ ys pure k before outer filled w b h = refl
    filled_meaning ρ ys public k before outer filled w b h = refl
    filled_meaning ρ ys (channel n components entries) k before outer filled w b h =
        channel_alike refl
        (λ i vs. below_alike i n n _ _ refl (λ l.
        filled_meaning ρ ys (components i) (suc k) _ (push vs outer) (push vs filled) (w.2 i l) b (filled_push ρ ys k outer filled vs h)))
        (λ vs M. over_map K W (fill_entry ys (suc k)) entries (λ e. amount_if (map_label (item_value ρ (push vs outer)) e.label ≟ M) e.amount)
        ∙ over_alike K W entries (λ e. ap (λ L. amount_if (L ≟ M) e.amount) (map_label_twice (item_value ρ (push vs outer)) (fill_item ys (suc k)) e.label))
        ∙ entries_alike (push n before) (λ x. item_value ρ (push vs outer) (fill_item ys (suc k) x)) (item_value ρ (push vs filled)) (same vs) M entries w.1)
      where
        same : (vs : List Value) (x : Item) → WellFormedItem Γ (push n before) x → item_value ρ (push vs outer) (fill_item ys (suc k) x) ≡ item_value ρ (push vs filled) x
        same vs (name x) o = refl
        same vs (index u p) o = filled_index ρ ys (suc k) u p (push vs outer) (push vs filled) (filled_push ρ ys k outer filled vs h)
            (λ e. le_trans (subst (λ (v : ℕ). p < push n before v) e o) b) (decide number_test u (suc k))

    -- what is asked of the arguments of a channel says what types their values have
    pub argument_meaning : (types : Assignment) (ρ : Valuation) (x : Name) (ys : List Name) → WellFormed Γ (types x) → ChannelUse K types x ys → (i : ℕ) → i < length ys →
        meaning K (types (get_or ys i 0)) ρ ≡ component (meaning K (types x) ρ) i (map ρ ys)
    argument_meaning types ρ x ys w u i h = same_meaning (u.arguments i h) ρ nothing_sent ∙ go (types x) w u.count
      where
        other : (u : ℕ) → (u ≡ 0 → ⊥) → push (map ρ ys) nothing_sent u ≡ nothing_sent u
        other zero n = absurd (n refl)
        other (suc u) n = refl

        go : (t : NameType) → WellFormed Γ t → Takes t (length ys) → meaning K (required t ys i) ρ ≡ component (meaning K t ρ) i (map ρ ys)
        go pure w q = refl
        go public w q = refl
        go (channel n components entries) w q =
            let l : i < n = omega arith in
            filled_meaning ρ (take i ys) (components i) 0 _ nothing_sent (push (map ρ ys) nothing_sent) (w.2 i l)
            (let m = length-take i ys in omega arith)
            (record { there = λ p k. let m = length-take i ys in get_or-map ρ ys p 0 0 (omega arith) ∙ ap ρ (sym (get_or-take i ys p 0 (omega arith))); elsewhere = other })
            ∙ sym (cond-true (ltb i n) _ pure_value (lt-ltb i n l))
