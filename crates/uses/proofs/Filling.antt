-- Entries with arguments put in, one after another.
use Rattle.std.proofs.Common.{◌≡◌, ℕ, ◌+◌, ◌<◌, ◌≤◌, List, [], ◌∷◌, ◌++◌, map, length, get_or, take, MatchResult, Result, Ok, Err, sym, refl, ap, ◌∙◌, subst, ap₂, arith}
use mathlib.Core.Bool.{Bool-set}
use Rattle.std.proofs.lemmas.List.{map_push, map_more, length-map, length-take-le}
use Rattle.std.proofs.ByRecursion.{All-map}
use Rattle.calculus.specs.Countings.{Operations}
use Rattle.calculus.specs.Labels.{Label}
use Rattle.calculus.specs.Types as calculus
use Rattle.calculus.specs.Types.{fill_entry}
use Rattle.tables.specs.Shares.{Entry}
use Rattle.meaning.specs.Types.{entry}
use Rattle.uses.specs.Entries.{Small, Placed, SoundEntries}

-- a table with room takes what is pushed
pub pushed : {T E : Type 0} (A B : Type 0) (r : Result T E) (n : ℕ) → n < 8 → MatchResult r (λ _. A) (λ _. B × (8 ≤ n)) → A
pushed A B (Ok x) n l h = h
pushed A B (Err x) n l h = absurd (omega (arith, l, h.1))

same_entry : (l m : Label calculus.Item) (a b : ℕ) → l ≡ m → a ≡ b → ◌≡◌ {A = calculus.Entry} (record { label = l; amount = a }) (record { label = m; amount = b })
same_entry l m a b p q = cc

module _ (ys : List ℕ) (level : ℕ) where
  -- as many are filled as were gone through
  pub filled_count : (es fs : List Entry) (i : ℕ) → i ≤ length es → map entry fs ≡ map (fill_entry ys level) (map entry (take i es)) → length fs ≡ i
  filled_count es fs i l h =
      sym (length-map fs entry) ∙ ap length h ∙ length-map (map entry (take i es)) (fill_entry ys level) ∙ length-map (take i es) entry ∙ length-take-le i es l

  -- one more is filled
  pub filled_more : (es fs gs : List Entry) (i : ℕ) (d new : Entry) → i < length es → gs ≡ fs ++ new ∷ [] → map entry fs ≡ map (fill_entry ys level) (map entry (take i es))
      → (entry new).label ≡ (fill_entry ys level (entry (get_or es i d))).label → new.amount ≡ (get_or es i d).amount → map entry gs ≡ map (fill_entry ys level) (map entry (take (i + 1) es))
  filled_more es fs gs i d new l e h k a =
      ap (map entry) e ∙ map_push entry fs new
      ∙ ap₂ (λ (xs : List calculus.Entry) (x : calculus.Entry). xs ++ x ∷ []) h (same_entry (entry new).label (fill_entry ys level (entry (get_or es i d))).label _ _ k a)
      ∙ sym (ap (map (fill_entry ys level)) (map_more entry es i d l) ∙ map_push (fill_entry ys level) (map entry (take i es)) (entry (get_or es i d)))

  -- filled entries are as few and small as they were
  pub filled_sound : (K : Operations) (es fs : List Entry) → SoundEntries K es → length fs ≤ 8 → map entry fs ≡ map (fill_entry ys level) (map entry es) → Placed fs → SoundEntries K fs
  filled_sound K es fs sound few value placed =
      record {
        few = few;
        small = subst (Small K) (sym value) (All-map (λ (e : calculus.Entry). e.amount ≤ K.largest) (fill_entry ys level) (map entry es) sound.small);
        placed = placed;
      }

-- there is one proof at most that labels have positions
pub placed_prop : (es : List Entry) (p q : Placed es) → p ≡ q
placed_prop [] p q = refl
placed_prop (e ∷ es) p q = ap₂ (λ a b. (a, b)) (Bool-set _ _ p.0 q.0) (placed_prop es p.1 q.1)
