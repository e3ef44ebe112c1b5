-- From what each check of names, uses and effects answers to the verdict.
use Rattle.std.proofs.Common.{◌≡◌, ℕ, ◌<◌, ◌≤◌, true, not, ltb, ◌⊎◌, length, is_ok, Some, None, Ok, Err, Option, Result, sym, refl, subst, inl, inr, ⊎_elim, arith}
use Rattle.std.proofs.lemmas.List.{get_or_past}
use Rattle.std.proofs.lemmas.Bool.{false≢true, both_ways, cases_Bool, cases_eq, cases_lt, and_parts, ltb-true}
use Rattle.calculus.specs.Countings.{Operations, Laws}
use Rattle.calculus.specs.Labels.{one, two, three, four}
use Rattle.calculus.specs.Labels as calculus
use Rattle.calculus.specs.Lists.{◌∈◌}
use Rattle.calculus.specs.Scopes.{in_scope, WellFormed}
use Rattle.calculus.specs.Types.{Name, public}
use Rattle.fault.specs.declared.items.Items.TheVariants.{One, Two, Three, Four}
use Rattle.fault.specs.declared.label.Label.{Label}
use Rattle.fault.specs.declared.fault.Fault.{Fault}
use Rattle.fault.specs.declared.fault.Fault.TheVariants.{FewRows, FreeNotPublic, IllFormed, BadChannel, WrongType}
use Rattle.tables.specs.Elements.{elements}
use Rattle.tables.specs.declared.tables.Node.{Node}
use Rattle.tables.specs.declared.tables.Node.TheVariants.{Stop}
use Rattle.tables.specs.declared.tables.Tables.{Tables}
use Rattle.sheet.specs.Opening.{Sound, fault_of}
use Rattle.sheet.specs.Tree.{node_at}
use Rattle.meaning.specs.Accepts.{Accepts}
use Rattle.meaning.specs.Amounts.{amount_at}
use Rattle.meaning.specs.Failures.{FirstFailure}
use Rattle.meaning.specs.Faults.{names_label, Faulty, few_rows, free_not_public, ill_formed, bad_channel, wrong_type, escapes, not_copyable, root_owes, stage, Before, earlier_stage, FirstTold}
use Rattle.meaning.specs.Scopes.{bound, free, scope_for}
use Rattle.meaning.specs.Types.{types_of}
use Rattle.meaning.specs.Uses.{CountFits, TypesFit}
use Rattle.meaning.proofs.Clean.{Clean, clean_accepted, accepted_clean}
use Rattle.effects.specs.Faults.{OfEffects}
use Rattle.judge.specs.Typed.{OfTypes, Typed}
use Rattle.judge.proofs.Stages.{Rule, free_names, formed_types, channel_counts, argument_types, Good, number, first_at, none_of_types}

-- a fault is of names and uses, or of effects
sorted : (K : Operations) (t : Tables) (rows : ℕ) (g : Fault) → Faulty K t rows g → OfTypes g ⊎ OfEffects g
sorted K t rows g (few_rows h) = inr (inl refl)
sorted K t rows g (free_not_public x i n) = inl (omega arith, omega arith)
sorted K t rows g (ill_formed x i n) = inl (omega arith, omega arith)
sorted K t rows g (bad_channel n b) = inl (omega arith, omega arith)
sorted K t rows g (wrong_type n b) = inl (omega arith, omega arith)
sorted K t rows g (escapes n z l a b c) = inr (inr (omega arith))
sorted K t rows g (not_copyable n next l a b) = inr (inr (omega arith))
sorted K t rows g (root_owes l a) = inr (inr (omega arith))

-- every label of names is that of a label of the tables
label_back : (L : calculus.Label Name) → (l : Label ℕ) × (names_label l ≡ L)
label_back (one a) = (record { items = One a }, refl)
label_back (two a b) = (record { items = Two a b }, refl)
label_back (three a b c) = (record { items = Three a b c }, refl)
label_back (four a b c d) = (record { items = Four a b c d }, refl)

module _ (K : Operations) (t : Tables) where
  -- a free name is one of the names
  pub free_there : (x : ℕ) → in_scope (free t) x ≡ true → x < length (elements t.names)
  free_there x h =
      let p = and_parts (ltb x 64) (free t x) h in
      ltb-true x (length (elements t.names)) (and_parts (ltb x (length (elements t.names))) (not (bound (elements t.nodes) x)) p.1).0

  -- what holds of a stop and of each node holds past the last one too
  past_too : (P : Node → Type 0) → P Stop → ((n : ℕ) → n < length (elements t.nodes) → P (node_at (elements t.nodes) n)) → (n : ℕ) → P (node_at (elements t.nodes) n)
  past_too P s h n = ⊎_elim (λ l. h n l) (λ p. subst P (sym (get_or_past (elements t.nodes) n Stop p)) s) (cases_lt n (length (elements t.nodes)))

  -- what the four checks say that find no fault, each of every place
  module _ (free-clear : FirstFailure (λ x. in_scope (free t) x ≡ true → types_of t x ≡ public) (length (elements t.names)) None) where
    all_public : (x : ℕ) → in_scope (free t) x ≡ true → types_of t x ≡ public
    all_public x h = free-clear x (free_there x h) h

    lower_free : (r : Rule) (p : ℕ) → number r < 9 → Good K t r p
    lower_free free_names p l = all_public p
    lower_free formed_types p l = absurd (omega arith)
    lower_free channel_counts p l = absurd (omega arith)
    lower_free argument_types p l = absurd (omega arith)

    module _ (formed-clear : FirstFailure (λ x. WellFormed (scope_for t x) (types_of t x)) (length (elements t.names)) None) where
      lower_formed : (r : Rule) (p : ℕ) → number r < 10 → Good K t r p
      lower_formed free_names p l = all_public p
      lower_formed formed_types p l = formed-clear p
      lower_formed channel_counts p l = absurd (omega arith)
      lower_formed argument_types p l = absurd (omega arith)

      module _ (counts-clear : FirstFailure (λ n. CountFits (types_of t) (node_at (elements t.nodes) n)) (length (elements t.nodes)) None) where
        all_counts : (n : ℕ) → CountFits (types_of t) (node_at (elements t.nodes) n)
        all_counts = past_too (CountFits (types_of t)) tt counts-clear

        lower_counts : (r : Rule) (p : ℕ) → number r < 11 → Good K t r p
        lower_counts free_names p l = all_public p
        lower_counts formed_types p l = formed-clear p
        lower_counts channel_counts p l = all_counts p
        lower_counts argument_types p l = absurd (omega arith)

        pub at_types : (n : ℕ) → FirstFailure (λ n. TypesFit K (types_of t) (node_at (elements t.nodes) n)) (length (elements t.nodes)) (Some n) →
            (rows : ℕ) → FirstTold (λ g. Faulty K t rows g × OfTypes g) (Some (WrongType n))
        at_types n h rows = first_at K t rows argument_types n (wrong_type n h.1) lower_counts h.2

        module _ (types-clear : FirstFailure (λ n. TypesFit K (types_of t) (node_at (elements t.nodes) n)) (length (elements t.nodes)) None) where
          all_types : (n : ℕ) → TypesFit K (types_of t) (node_at (elements t.nodes) n)
          all_types = past_too (TypesFit K (types_of t)) tt types-clear

          all_good : (r : Rule) (p : ℕ) → Good K t r p
          all_good free_names p = all_public p
          all_good formed_types p = formed-clear p
          all_good channel_counts p = all_counts p
          all_good argument_types p = all_types p

          pub no_types : (rows : ℕ) → FirstTold (λ g. Faulty K t rows g × OfTypes g) None
          no_types rows = none_of_types K t rows all_good

          pub typed : Typed K t
          typed = record { free_public = all_public; well_formed = formed-clear; counts = all_counts; types = all_types }

      pub at_counts : (n : ℕ) → FirstFailure (λ n. CountFits (types_of t) (node_at (elements t.nodes) n)) (length (elements t.nodes)) (Some n) →
          (rows : ℕ) → FirstTold (λ g. Faulty K t rows g × OfTypes g) (Some (BadChannel n))
      at_counts n h rows = first_at K t rows channel_counts n (bad_channel n h.1) lower_formed h.2

    pub at_formed : (x : ℕ) → FirstFailure (λ x. WellFormed (scope_for t x) (types_of t x)) (length (elements t.names)) (Some x) →
        (rows : ℕ) → FirstTold (λ g. Faulty K t rows g × OfTypes g) (Some (IllFormed x))
    at_formed x h rows = first_at K t rows formed_types x (ill_formed x h.0 h.1) lower_free (λ p l there. h.2 p l)

  pub at_free : (x : ℕ) → FirstFailure (λ x. in_scope (free t) x ≡ true → types_of t x ≡ public) (length (elements t.names)) (Some x) →
      (rows : ℕ) → FirstTold (λ g. Faulty K t rows g × OfTypes g) (Some (FreeNotPublic x))
  at_free x h rows =
      ⊎_elim
      (λ i. first_at K t rows free_names x (free_not_public x i (λ e. h.1 (λ k. e))) none_lower h.2)
      (λ o. absurd (h.1 (λ k. absurd (both_ways (in_scope (free t) x) o k))))
      (cases_Bool (in_scope (free t) x))
    where
      none_lower : (r : Rule) (p : ℕ) → number r < 8 → Good K t r p
      none_lower free_names p l = absurd (omega arith)
      none_lower formed_types p l = absurd (omega arith)
      none_lower channel_counts p l = absurd (omega arith)
      none_lower argument_types p l = absurd (omega arith)

  -- too few rows are told before all else
  pub few_first : (rows : ℕ) → rows < 8192 → FirstTold (Faulty K t rows) (Some FewRows)
  few_first rows l = (few_rows l, λ g h. others g h)
    where
      others : (g : Fault) → Faulty K t rows g → (g ≡ FewRows) ⊎ Before FewRows g
      others g (few_rows h) = inl refl
      others g (free_not_public x i n) = inr (earlier_stage (omega arith))
      others g (ill_formed x i n) = inr (earlier_stage (omega arith))
      others g (bad_channel n b) = inr (earlier_stage (omega arith))
      others g (wrong_type n b) = inr (earlier_stage (omega arith))
      others g (escapes n z m a b c) = inr (earlier_stage (omega arith))
      others g (not_copyable n next m a b) = inr (earlier_stage (omega arith))
      others g (root_owes m a) = inr (earlier_stage (omega arith))

  -- a fault of names and uses is told before those of effects
  pub types_first : (rows : ℕ) (f : Fault) → 8192 ≤ rows → FirstTold (λ g. Faulty K t rows g × OfTypes g) (Some f) → FirstTold (Faulty K t rows) (Some f)
  types_first rows f enough h = (
    h.0.0,
    λ g k.
        ⊎_elim
        (λ o. h.1 g (k, o))
        (⊎_elim (λ e. absurd (seven g k e)) (λ l. let b = h.0.1.1 in inr (earlier_stage (omega arith))))
        (sorted K t rows g k),
  )
    where
      seven : (g : Fault) → Faulty K t rows g → stage g ≡ 7 → ⊥
      seven g (few_rows h) e = omega arith
      seven g (free_not_public x i n) e = omega arith
      seven g (ill_formed x i n) e = omega arith
      seven g (bad_channel n b) e = omega arith
      seven g (wrong_type n b) e = omega arith
      seven g (escapes n z m a b c) e = omega arith
      seven g (not_copyable n next m a b) e = omega arith
      seven g (root_owes m a) e = omega arith

  -- with none of names and uses, the first fault of effects is the first of all
  pub effects_first : (rows : ℕ) (r : Option Fault) → FirstTold (λ g. Faulty K t rows g × OfTypes g) None → FirstTold (λ g. Faulty K t rows g × OfEffects g) r → FirstTold (Faulty K t rows) r
  effects_first rows None none h = λ g k. ⊎_elim (λ o. none g (k, o)) (λ o. h g (k, o)) (sorted K t rows g k)
  effects_first rows (Some f) none h = (h.0.0, λ g k. ⊎_elim (λ o. absurd (none g (k, o))) (λ o. h.1 g (k, o)) (sorted K t rows g k))

  -- an amount that is not other than 0 is 0
  zero_since : (a : ℕ) → ((a ≡ 0 → ⊥) → ⊥) → a ≡ 0
  zero_since a h = ⊎_elim (λ e. e) (λ n. absurd (h n)) (cases_eq a 0)

  module _ (sound : Sound K.largest t) (W : Laws K) where
    -- a sheet without a fault is accepted
    unfaulted_accepted : (rows : ℕ) → Typed K t → FirstTold (Faulty K t rows) None → Accepts K t
    unfaulted_accepted rows ty none = clean_accepted K t sound (record {
      free_public = ty.free_public;
      well_formed = ty.well_formed;
      counts = ty.counts;
      types = ty.types;
      contained = λ n z L m k.
          let b = label_back L in
          subst (λ M. amount_at K t n M ≡ 0) b.1 (zero_since _ (λ no. none _ (escapes n z b.0 m (subst (λ M. z ∈ calculus.items M) (sym b.1) k) no)));
      copyable = λ n next L e.
          let b = label_back L in
          subst (λ M. K.join (amount_at K t n M) (amount_at K t n M) ≡ amount_at K t n M) b.1
          (⊎_elim (λ s. s) (λ no. absurd (none _ (not_copyable n next b.0 e no))) (cases_eq (K.join (amount_at K t n (names_label b.0)) (amount_at K t n (names_label b.0))) (amount_at K t n (names_label b.0))));
      nothing_owed = λ L. let b = label_back L in subst (λ M. amount_at K t 0 M ≡ 0) b.1 (zero_since _ (λ no. none _ (root_owes b.0 no)));
    }) W

    -- and so is one whose answer is no fault
    pub passed_accepted : {A : Type 0} (rows : ℕ) (r : Result A Fault) → Typed K t → FirstTold (Faulty K t rows) (fault_of r) → is_ok r ≡ true → Accepts K t
    passed_accepted rows (Ok x) ty first e = unfaulted_accepted rows ty first
    passed_accepted rows (Err f) ty first e = absurd (false≢true e)

    -- an accepted sheet has no fault but too few rows
    pub accepted_unfaulted : (rows : ℕ) → 8192 ≤ rows → Accepts K t → (g : Fault) → Faulty K t rows g → ⊥
    accepted_unfaulted rows enough a g h = refuted (accepted_clean K t sound W a) g h
      where
        refuted : Clean K t → (g : Fault) → Faulty K t rows g → ⊥
        refuted c g (few_rows l) = omega arith
        refuted c g (free_not_public x i n) = n (c.free_public x i)
        refuted c g (ill_formed x i n) = n (c.well_formed x i)
        refuted c g (bad_channel n b) = b (c.counts n)
        refuted c g (wrong_type n b) = b (c.types n)
        refuted c g (escapes n z l m k b) = b (c.contained n z (names_label l) m k)
        refuted c g (not_copyable n next l e b) = b (c.copyable n next (names_label l) e)
        refuted c g (root_owes l b) = b (c.nothing_owed (names_label l))
