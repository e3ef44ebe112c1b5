-- What a token spells, from its parts, and what a case spells, token by token.
use Rattle.std.proofs.Common.{◌≡◌, ◌≢◌, ℕ, ◌+◌, ◌-◌, ◌*◌, ◌<◌, ◌≤◌, zero, suc, List, [], ◌∷◌, ◌++◌, length, Option, Some, None, IfSome, Bor, refl, sym, ap, subst, ◌∙◌, arith, append_assoc, append-nil, length-append, take, drop, eqb, eqb-true}
use Rattle.std.proofs.Math.Nat.{mul_comm}
use Rattle.std.proofs.Math.Seq.{drop-append_seam, take-append_seam}
use Rattle.std.proofs.lemmas.Bool.{cond_both}
use Rattle.std.specs.Fmt.{option_append}
use Rattle.std.specs.Iterator.{AlwaysYields}
use Rattle.std.specs.List.{repeat, before_first, slice_range, slice_split}
use Rattle.std.specs.Str.Iter.{split_steps}
use Rattle.std.specs.declared.str.Split.{Split}
use Rattle.std.specs.Str.Pattern.{FindsChar}
use Rattle.cases.specs.Spelling.{is_space, is_star, often, piece, times, token_bytes, tokens_bytes, spelled}

-- the bytes of a token, from its digits and how often they stand
pub token_is : (token digits bytes : List ℕ) (n : ℕ) → digits ≡ before_first is_star token → often token ≡ Some n → piece digits ≡ Some bytes → token_bytes token ≡ Some (repeat n bytes)
token_is token digits bytes n d o p = ap (λ ds. times (piece ds) (often token)) (sym d) ∙ ap (λ m. times (piece digits) m) o ∙ ap (λ bs. times bs (Some n)) p

pub length_repeat : (n : ℕ) (xs : List ℕ) → length (repeat n xs) ≡ n * length xs
length_repeat zero xs = omega arith
length_repeat (suc n) xs = omega (arith, length-append xs (repeat n xs), length_repeat n xs)

-- the same length, in the words of the code
pub long_is : (n l : ℕ) (xs : List ℕ) → l ≡ length xs → length (repeat n xs) ≡ l * n
long_is n l xs e = length_repeat n xs ∙ mul_comm n (length xs) ∙ ap (λ k. k * n) (sym e)

-- the bytes of more times are those of the first, and then those of the others
repeat_add : (m n : ℕ) (xs : List ℕ) → repeat (m + n) xs ≡ repeat m xs ++ repeat n xs
repeat_add zero n xs = let e : 0 + n ≡ n = omega arith in ap (λ k. repeat k xs) e
repeat_add (suc m) n xs =
    let e : suc m + n ≡ suc (m + n) = omega arith in
    ap (λ k. repeat k xs) e ∙ ap (λ ys. xs ++ ys) (repeat_add m n xs) ∙ sym (append_assoc xs (repeat m xs) (repeat n xs))

-- where a piece stands n times behind other bytes, its first m times can be copied to the end
module _ (bytes front xs : List ℕ) (n m start : ℕ) (is : bytes ≡ front ++ repeat n xs) (less : m ≤ n) (at : start ≡ length front) where
  as_parts : bytes ≡ front ++ (repeat m xs ++ repeat (n - m) xs)
  as_parts = let sum : n ≡ m + (n - m) = omega (arith, less) in is ∙ ap (λ k. front ++ repeat k xs) sum ∙ ap (λ ys. front ++ ys) (repeat_add m (n - m) xs)

  pub lies_within : start + m * length xs ≤ length bytes
  lies_within = let p = ap length as_parts in omega (arith, p, at, length_repeat m xs, length-append front (repeat m xs ++ repeat (n - m) xs), length-append (repeat m xs) (repeat (n - m) xs))

  part_is : slice_range bytes start (start + m * length xs) ≡ repeat m xs
  part_is =
      let width : start + m * length xs - start ≡ length (repeat m xs) = omega (arith, length_repeat m xs) in
      ap (λ k. take k (drop start bytes)) width ∙ ap (λ k. take (length (repeat m xs)) (drop k bytes)) at
      ∙ ap (λ ys. take (length (repeat m xs)) (drop (length front) ys)) as_parts
      ∙ ap (take (length (repeat m xs))) (drop-append_seam front (repeat m xs ++ repeat (n - m) xs))
      ∙ take-append_seam (repeat m xs) (repeat (n - m) xs)

  pub more_is : (new : List ℕ) → new ≡ bytes ++ slice_range bytes start (start + m * length xs) → new ≡ front ++ repeat (n + m) xs
  more_is new h = h ∙ ap (λ ys. bytes ++ ys) part_is ∙ ap (λ ys. ys ++ repeat m xs) is ∙ append_assoc front (repeat n xs) (repeat m xs) ∙ ap (λ ys. front ++ ys) (sym (repeat_add n m xs))

-- a case that is not empty, with no space in front
pub unspaced : (text : List ℕ) → 0 < length text → ((rest : List ℕ) → text ≢ 32 ∷ rest) → spelled text ≡ None
unspaced [] l h = absurd (omega (arith, l))
unspaced (c ∷ text) l h = cond_both (eqb c 32) (tokens_bytes (slice_split is_space text)) None (λ o. o ≡ None) (λ e. absurd (h text (ap (λ b. b ∷ text) (eqb-true c 32 e)))) (λ e. refl)

append_none_before : (o : Option (List ℕ)) → option_append (Some []) o ≡ o
append_none_before None = refl
append_none_before (Some xs) = refl

append_further : (bytes more : List ℕ) (o : Option (List ℕ)) → option_append (Some bytes) (option_append (Some more) o) ≡ option_append (Some (bytes ++ more)) o
append_further bytes more None = refl
append_further bytes more (Some xs) = ap Some (sym (append_assoc bytes more xs))

append_long : (bytes : List ℕ) (room : ℕ) (o p : Option (List ℕ)) → 1200000 ≤ length bytes + room → IfSome o (λ more. room < length more) → IfSome (option_append (Some bytes) (option_append o p)) (λ all. 1200000 < length all)
append_long bytes room None p l h = tt
append_long bytes room (Some more) None l h = tt
append_long bytes room (Some more) (Some rest) l h = omega (arith, l, h, length-append bytes (more ++ rest), length-append more rest)

-- the calls of `next` that split a text at a character
abbrev pub Steps : Split ℕ → Option (Bor (List ℕ)) → Split ℕ → Type 0
Steps = split_steps FindsChar (λ a b. b ≡ a)

abbrev pub Yields : Split ℕ → List (List ℕ) → Type 0
Yields it left = AlwaysYields Steps (λ x. x.now) it left

-- the bytes so far, and then those of the tokens that the iterator still gives, are what the case spells
pub record SpelledSoFar (text bytes : List ℕ) (it : Split ℕ) : Type 0 where
  pub left : List (List ℕ)
  pub yields : Yields it left
  pub makes : spelled text ≡ option_append (Some bytes) (tokens_bytes left)

pub at_first : (text rest bytes : List ℕ) (it : Split ℕ) → text ≡ 32 ∷ rest → bytes ≡ [] → Yields it (slice_split is_space rest) → SpelledSoFar text bytes it
at_first text rest bytes it e b y = record {
  left = slice_split is_space rest;
  yields = y;
  makes = ap spelled e ∙ sym (append_none_before (tokens_bytes (slice_split is_space rest))) ∙ ap (λ bs. option_append (Some bs) (tokens_bytes (slice_split is_space rest))) (sym b);
}

-- the next token, and those behind it
abbrev Next : (text bytes x : List ℕ) → Split ℕ → Type 0
Next text bytes x j = (ts : List (List ℕ)) × Yields j ts × (spelled text ≡ option_append (Some bytes) (option_append (token_bytes x) (tokens_bytes ts)))

module _ (text bytes : List ℕ) (it : Split ℕ) where
  end_from : (left : List (List ℕ)) → Yields it left → spelled text ≡ option_append (Some bytes) (tokens_bytes left) → (j : Split ℕ) → Steps it None j → spelled text ≡ Some bytes
  end_from [] y m j k = m ∙ ap Some (append-nil bytes)
  end_from (t ∷ ts) y m j k = absurd (y.0 j k)

  next_from : (left : List (List ℕ)) → Yields it left → spelled text ≡ option_append (Some bytes) (tokens_bytes left) → (x : Bor (List ℕ)) (j : Split ℕ) → Steps it (Some x) j → Next text bytes x.now j
  next_from [] y m x j k = absurd (y x j k)
  next_from (t ∷ ts) y m x j k = (ts, (y.1 x j k).1, m ∙ ap (λ w. option_append (Some bytes) (option_append (token_bytes w) (tokens_bytes ts))) (sym (y.1 x j k).0))

module _ {text bytes : List ℕ} {it : Split ℕ} (s : SpelledSoFar text bytes it) where
  -- no token is left, so that the bytes so far are all
  pub at_end : (j : Split ℕ) → Steps it None j → spelled text ≡ Some bytes
  at_end j k = end_from text bytes it s.left s.yields s.makes j k

  -- x is the next token: it has more bytes, or none, or too many
  module _ (x : Bor (List ℕ)) (j : Split ℕ) (k : Steps it (Some x) j) where
    next : Next text bytes x.now j
    next = next_from text bytes it s.left s.yields s.makes x j k

    pub goes_on : (more new : List ℕ) → token_bytes x.now ≡ Some more → new ≡ bytes ++ more → SpelledSoFar text new j
    goes_on more new e a = record {
      left = next.0;
      yields = next.1;
      makes = next.2 ∙ ap (λ o. option_append (Some bytes) (option_append o (tokens_bytes next.0))) e ∙ append_further bytes more (tokens_bytes next.0) ∙ ap (λ w. option_append (Some w) (tokens_bytes next.0)) (sym a);
    }

    pub none_spelled : token_bytes x.now ≡ None → spelled text ≡ None
    none_spelled e = next.2 ∙ ap (λ o. option_append (Some bytes) (option_append o (tokens_bytes next.0))) e

    pub long_spelled : (room : ℕ) → 1200000 ≤ length bytes + room → IfSome (token_bytes x.now) (λ more. room < length more) → IfSome (spelled text) (λ all. 1200000 < length all)
    long_spelled room l h = subst (λ o. IfSome o (λ all. 1200000 < length all)) (sym next.2) (append_long bytes room (token_bytes x.now) (tokens_bytes next.0) l h)
