-- The worked process is accepted under every counting that keeps the laws, and a run of it reaches an end.
use Rattle.std.proofs.Common.{◌≡◌, ℕ, zero, suc, ◌<◌, true, ltb, [], ◌∷◌, get_or, sym, refl, ◌∙◌, subst, inl, inr, le_refl, arith}
use Rattle.std.proofs.lemmas.Bool.{ltb-true, and_parts}
use Rattle.calculus.specs.Countings.{Operations, Laws}
use Rattle.calculus.specs.Lists.{◌∈◌, here, there, extend}
use Rattle.calculus.specs.Joins.{amount_if}
use Rattle.calculus.specs.Labels.{Label, one}
use Rattle.calculus.specs.Types.{Name, Item, name, index, public, pure, required, SameType, same_public, same_channel}
use Rattle.calculus.specs.Scopes.{Scope, in_scope, WellFormed, WellFormedInside, push}
use Rattle.calculus.specs.Processes.{stop, send, receive, both, test, begin, end}
use Rattle.calculus.specs.Effects.{◌≟◌, amount}
use Rattle.calculus.specs.Typing.{ChannelUse, WellFormedInTurn, Accepted}
use Rattle.calculus.specs.Checks.{Checks}
use Rattle.calculus.specs.Reduction.{at_once, after, step_both, step_copy, step_new, step_equal, step_begin, step_end, meet, feed}
use Rattle.calculus.specs.Safety.{Start}
use Rattle.calculus.specs.Ceiling.{EntriesSmall}
use Rattle.calculus.specs.Built.{parts, once}
use Rattle.calculus.specs.Worked.{worked_free, acknowledges, worked_types, asks, grants, worked, worked_start, Works}
use Rattle.calculus.specs.Theorems.{NothingEmpty}
use Rattle.calculus.proofs.Joins.{neutral_left, join_zero, lack_zero, lack_self}
use Rattle.calculus.proofs.Typing.{acceptance_agrees}
use Rattle.calculus.proofs.Built.{parts_laws, once_laws}

module _ (K : Operations) (W : Laws K) where
  acknowledged : (L : Label Name) → amount K (worked_types K) (receive 4 [] (end (one 3) stop)) L ≡ 0
  acknowledged L = lack_self K W _ _ (neutral_left K W _ ∙ sym (W.neutral _))

  asking : (L : Label Name) → amount K (worked_types K) (both (send 2 (3 ∷ 4 ∷ [])) (receive 4 [] (end (one 3) stop))) L ≡ 0
  asking L = join_zero K W _ _ refl (acknowledged L)

  asks_nothing : (L : Label Name) → amount K (worked_types K) asks L ≡ 0
  asks_nothing L = lack_zero K W _ _ (asking L)

  granting : (L : Label Name) → amount K (worked_types K) (test 5 0 (begin (one 5) (send 6 [])) stop) L ≡ 0
  granting L = let h = lack_self K W _ (amount_if (one 5 ≟ L) K.full) (W.neutral (amount_if (one 5 ≟ L) K.full)) in omega arith

  grants_nothing : (L : Label Name) → amount K (worked_types K) grants L ≡ 0
  grants_nothing L = lack_zero K W _ _ (granting L)

  needs_nothing : (L : Label Name) → amount K (worked_types K) worked L ≡ 0
  needs_nothing L = join_zero K W _ _ (asks_nothing L) (grants_nothing L)

  -- what is nothing stays nothing when it is copied
  copied : (a : ℕ) → a ≡ 0 → K.join a a ≡ a
  copied a e = join_zero K W a a e e ∙ sym e

  -- the station's channel with a public name and an acknowledgement for it
  station_use : (y z : Name) → worked_types K y ≡ public → worked_types K z ≡ acknowledges K (name y) → ChannelUse K (worked_types K) 2 (y ∷ z ∷ [])
  station_use y z p q = record { count = refl; arguments = go }
    where
      go : (i : ℕ) → i < 2 → SameType K (worked_types K (get_or (y ∷ z ∷ []) i 0)) (required (worked_types K 2) (y ∷ z ∷ []) i)
      go zero h = subst (λ t. SameType K t public) (sym p) same_public
      go (suc zero) h = subst (λ t. SameType K t (required (worked_types K 2) (y ∷ z ∷ []) 1)) (sym q) (same_channel refl (λ i l. absurd (omega arith)) (λ L. refl))
      go (suc (suc i)) h = absurd (omega arith)

  acknowledge_use : (x : Name) (item : Item) → worked_types K x ≡ acknowledges K item → ChannelUse K (worked_types K) x []
  acknowledge_use x item e =
      record { count = subst (λ t. Rattle.calculus.specs.Typing.Takes t 0) (sym e) refl; arguments = λ i h. absurd (omega arith) }

  acknowledges_formed : (Γ : Scope) (x : Name) → in_scope Γ x ≡ true → WellFormed Γ (acknowledges K (name x))
  acknowledges_formed Γ x s = (omega arith, ((s, tt), tt), λ i h. absurd (omega arith))

  station_formed : WellFormed worked_free (worked_types K 2)
  station_formed = (omega arith, tt, go)
    where
      go : (i : ℕ) → i < 2 → WellFormedInside worked_free (push i (λ u. 0)) (get_or (public ∷ acknowledges K (index 1 0) ∷ []) i pure)
      go zero h = tt
      go (suc zero) h = (omega arith, ((omega arith, tt), tt), λ i l. absurd (omega arith))
      go (suc (suc i)) h = absurd (omega arith)

  asks_checked : Checks K (worked_types K) (extend (2 ∷ []) worked_free) asks
  asks_checked = (
    refl,
    (omega arith, refl, (λ m. m), tt),
    record { count = tt; arguments = public_argument },
    formed,
    (λ L z m k. asks_nothing L),
    (
      (omega arith, refl, (λ m. m), tt),
      acknowledges_formed (extend (3 ∷ []) (extend (2 ∷ []) worked_free)) 3 refl,
      (λ L m. asking L),
      (
        (refl, (refl, (refl, tt)), station_use 3 4 refl refl),
        (refl, tt, acknowledge_use 4 (name 3) refl, (λ i h. absurd (omega arith)), (λ L z m k. acknowledged L), (refl, tt)),
      ),
    ),
  )
    where
      public_argument : (i : ℕ) → i < 1 → SameType K (worked_types K (get_or (3 ∷ []) i 0)) public
      public_argument zero h = same_public
      public_argument (suc i) h = absurd (omega arith)

      formed : WellFormedInTurn (worked_types K) (extend (2 ∷ []) worked_free) (3 ∷ [])
      formed zero h = tt
      formed (suc i) h = absurd (omega arith)

  grants_checked : Checks K (worked_types K) (extend (2 ∷ []) worked_free) grants
  grants_checked = (
    refl,
    (omega arith, refl, apart, (omega arith, refl, (λ m. m), tt)),
    station_use 5 6 refl refl,
    formed,
    (λ L z m k. grants_nothing L),
    (refl, refl, (refl, (refl, tt, acknowledge_use 6 (name 5) refl)), tt),
  )
    where
      apart : ◌∈◌ {A = Name} 5 (6 ∷ []) → ⊥
      apart (inl e) = absurd (omega arith)
      apart (inr m) = elim m [ ]

      formed : WellFormedInTurn (worked_types K) (extend (2 ∷ []) worked_free) (5 ∷ 6 ∷ [])
      formed zero h = tt
      formed (suc zero) h = acknowledges_formed (extend (5 ∷ []) (extend (2 ∷ []) worked_free)) 5 refl
      formed (suc (suc i)) h = absurd (omega arith)

  worked_checked : Checks K (worked_types K) worked_free worked
  worked_checked = (
    (omega arith, refl, (λ m. m), tt),
    station_formed,
    (λ L m. needs_nothing L),
    ((asks_checked, λ L. copied _ (asks_nothing L)), (grants_checked, λ L. copied _ (grants_nothing L))),
  )

  entries_small : (x : Name) → EntriesSmall K (worked_types K x)
  entries_small zero = tt
  entries_small (suc zero) = tt
  entries_small (suc (suc zero)) = (omega arith, tt)
  entries_small (suc (suc (suc zero))) = tt
  entries_small (suc (suc (suc (suc zero)))) = (omega arith, (W.full_entry, tt))
  entries_small (suc (suc (suc (suc (suc zero))))) = tt
  entries_small (suc (suc (suc (suc (suc (suc zero)))))) = (omega arith, (W.full_entry, tt))
  entries_small (suc (suc (suc (suc (suc (suc (suc x))))))) = tt

  free_public : (x : Name) → in_scope worked_free x ≡ true → worked_types K x ≡ public
  free_public zero s = refl
  free_public (suc zero) s = refl
  free_public (suc (suc x)) s = let h = ltb-true (suc (suc x)) 2 (and_parts (ltb (suc (suc x)) 64) (ltb (suc (suc x)) 2) s).1 in absurd (omega arith)

  worked_accepted : Accepted K (worked_types K) worked_free worked
  worked_accepted = (acceptance_agrees K W (worked_types K) worked_free worked).1 (record { free_public = free_public; checked = worked_checked; needs_nothing = needs_nothing })

worked_starts : Start worked_free worked worked_start
worked_starts = record {
  valuation = λ x. x;
  alone = refl;
  values = λ x s. ltb-true x 2 (and_parts (ltb x 64) (ltb x 2) s).1;
  known = λ v k. ltb-true v 2 k;
  made = ((omega arith, refl), ((omega arith, refl), tt));
  no_begin = λ M. refl;
  no_end = λ M. refl;
}

-- the run: the outsider asks for the block, the station grants it, and the permission is used up
works : (K : Operations) → Laws K → Works K
works K W = record {
  laws = W;
  small = entries_small K W;
  accepted = worked_accepted K W;
  start = worked_starts;
  last = _;
  reachable =
      after (after (after (after (after (after (after (after (after (after (after (after at_once
      (step_new here here)) (step_both here here here)) (step_copy here here)) (step_copy (there (there here)) here))
      (feed (0 ∷ []) here refl refl (refl, tt) here))
      (step_new here here)) (step_both here here here))
      (meet (there here) (there here) refl refl here)) (step_equal here refl here)) (step_begin here here))
      (meet here here refl refl here))
      (step_end here (le_refl _) here);
  ended = refl;
}

-- the theorem
pub nothing_empty : NothingEmpty
nothing_empty = (λ n some fits. works (parts n) (parts_laws n some fits), works once once_laws)
