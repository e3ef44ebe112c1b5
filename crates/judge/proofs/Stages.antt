-- The faults of names and uses, stage by stage: the first of the first stage that has one is told first.
use Rattle.std.proofs.Common.{◌≡◌, ℕ, ◌<◌, ◌≤◌, true, ◌⊎◌, length, Some, None, sym, refl, ap, ◌∙◌, subst, inl, inr, ⊎_elim, arith}
use Rattle.std.proofs.lemmas.Bool.{cases_order}
use Rattle.calculus.specs.Countings.{Operations}
use Rattle.calculus.specs.Scopes.{in_scope, WellFormed}
use Rattle.calculus.specs.Types.{public}
use Rattle.fault.specs.Faults.{place_of}
use Rattle.fault.specs.declared.fault.Fault.{Fault}
use Rattle.fault.specs.declared.fault.Fault.TheVariants.{FreeNotPublic, IllFormed, BadChannel, WrongType}
use Rattle.tables.specs.Elements.{elements}
use Rattle.tables.specs.declared.tables.Tables.{Tables}
use Rattle.sheet.specs.Tree.{node_at}
use Rattle.meaning.specs.Faults.{Faulty, few_rows, free_not_public, ill_formed, bad_channel, wrong_type, escapes, not_copyable, root_owes, stage, Before, earlier_stage, lower_place, FirstTold}
use Rattle.meaning.specs.Scopes.{free, scope_for}
use Rattle.meaning.specs.Types.{types_of}
use Rattle.meaning.specs.Uses.{CountFits, TypesFit}
use Rattle.judge.specs.Typed.{OfTypes}

-- a rule about the places of names or nodes
pub data Rule : Type 0 where
  free_names : Rule
  formed_types : Rule
  channel_counts : Rule
  argument_types : Rule

-- the fault of a rule at a place
abbrev pub fault_at : Rule → ℕ → Fault
fault_at free_names x = FreeNotPublic x
fault_at formed_types x = IllFormed x
fault_at channel_counts n = BadChannel n
fault_at argument_types n = WrongType n

-- the number of a rule
abbrev pub number : Rule → ℕ
number free_names = 8
number formed_types = 9
number channel_counts = 10
number argument_types = 11

-- its faults are of that stage, at that place
stage_at : (s : Rule) (p : ℕ) → stage (fault_at s p) ≡ number s
stage_at free_names p = refl
stage_at formed_types p = refl
stage_at channel_counts p = refl
stage_at argument_types p = refl

place_at : (s : Rule) (p : ℕ) → place_of (fault_at s p) ≡ p
place_at free_names p = refl
place_at formed_types p = refl
place_at channel_counts p = refl
place_at argument_types p = refl

-- no rule has a number past 11, and the number tells the rule
small : (s : Rule) → number s < 12
small free_names = omega arith
small formed_types = omega arith
small channel_counts = omega arith
small argument_types = omega arith

module _ (K : Operations) (t : Tables) where
  -- what a rule asks at a place
  abbrev pub Good : Rule → ℕ → Type 0
  Good free_names x = in_scope (free t) x ≡ true → types_of t x ≡ public
  Good formed_types x = x < length (elements t.names) → WellFormed (scope_for t x) (types_of t x)
  Good channel_counts n = CountFits (types_of t) (node_at (elements t.nodes) n)
  Good argument_types n = TypesFit K (types_of t) (node_at (elements t.nodes) n)

  -- rules of one number ask the same
  good_alike : (s r : Rule) (p : ℕ) → number s ≡ number r → (Good r p → Good s p) × (fault_at s p ≡ fault_at r p)
  good_alike free_names free_names p e = (λ h. h, refl)
  good_alike free_names formed_types p e = absurd (omega arith)
  good_alike free_names channel_counts p e = absurd (omega arith)
  good_alike free_names argument_types p e = absurd (omega arith)
  good_alike formed_types free_names p e = absurd (omega arith)
  good_alike formed_types formed_types p e = (λ h. h, refl)
  good_alike formed_types channel_counts p e = absurd (omega arith)
  good_alike formed_types argument_types p e = absurd (omega arith)
  good_alike channel_counts free_names p e = absurd (omega arith)
  good_alike channel_counts formed_types p e = absurd (omega arith)
  good_alike channel_counts channel_counts p e = (λ h. h, refl)
  good_alike channel_counts argument_types p e = absurd (omega arith)
  good_alike argument_types free_names p e = absurd (omega arith)
  good_alike argument_types formed_types p e = absurd (omega arith)
  good_alike argument_types channel_counts p e = absurd (omega arith)
  good_alike argument_types argument_types p e = (λ h. h, refl)

  -- a fault of names and uses is that of a rule, at a place where it does not hold what the rule asks
  of_rule : (rows : ℕ) (g : Fault) → Faulty K t rows g → OfTypes g → (s : Rule) × (p : ℕ) × (g ≡ fault_at s p) × (Good s p → ⊥)
  of_rule rows g (few_rows h) o = absurd (omega (arith, o.0))
  of_rule rows g (free_not_public x i n) o = (free_names, x, refl, λ h. n (h i))
  of_rule rows g (ill_formed x i n) o = (formed_types, x, refl, λ h. n (h i))
  of_rule rows g (bad_channel n b) o = (channel_counts, n, refl, b)
  of_rule rows g (wrong_type n b) o = (argument_types, n, refl, b)
  of_rule rows g (escapes n z l a b c) o = absurd (omega (arith, o.1))
  of_rule rows g (not_copyable n next l a b) o = absurd (omega (arith, o.1))
  of_rule rows g (root_owes l a) o = absurd (omega (arith, o.1))

  -- a fault of a rule is told first where all rules of lower numbers hold, and its own at all lower places
  pub first_at : (rows : ℕ) (s : Rule) (i : ℕ) → Faulty K t rows (fault_at s i) → ((r : Rule) (p : ℕ) → number r < number s → Good r p) → ((p : ℕ) → p < i → Good s p) →
      FirstTold (λ g. Faulty K t rows g × OfTypes g) (Some (fault_at s i))
  first_at rows s i f lower before = (
    (f, (low s i, let e = stage_at s i in let l = small s in omega arith)),
    λ g h.
        let w = of_rule rows g h.0 h.1 in
        let r = w.0 in let p = w.1 in
        let es = stage_at s i in let er = stage_at r p in let ps = place_at s i in let pr = place_at r p in let l = small s in
        let back : (fault_at r p ≡ fault_at s i) ⊎ Before (fault_at s i) (fault_at r p) → (g ≡ fault_at s i) ⊎ Before (fault_at s i) g = λ b. subst (λ y. (y ≡ fault_at s i) ⊎ Before (fault_at s i) y) (sym w.2) b in
        back (⊎_elim
        (λ same. ⊎_elim
        (λ here. inl (ap (fault_at r) (sym here) ∙ sym (good_alike s r i same).1))
        (⊎_elim
        (λ later. inr (lower_place (omega arith) (omega arith) (omega arith)))
        (λ earlier. absurd (w.3 ((good_alike r s p (sym same)).0 (before p earlier)))))
        (cases_order i p))
        (⊎_elim
        (λ later. inr (earlier_stage (omega arith)))
        (λ earlier. absurd (w.3 (lower r p earlier))))
        (cases_order (number s) (number r))),
  )
    where
      low : (s : Rule) (i : ℕ) → 8 ≤ stage (fault_at s i)
      low free_names i = omega arith
      low formed_types i = omega arith
      low channel_counts i = omega arith
      low argument_types i = omega arith

  -- where all rules hold there is no such fault
  pub none_of_types : (rows : ℕ) → ((s : Rule) (p : ℕ) → Good s p) → FirstTold (λ g. Faulty K t rows g × OfTypes g) None
  none_of_types rows good g h = let w = of_rule rows g h.0 h.1 in w.3 (good w.0 w.1)
