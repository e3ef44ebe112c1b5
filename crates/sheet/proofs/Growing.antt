-- One record more in the tables: for the functions that add it.
use Rattle.std.proofs.Common.{◌≡◌, ℕ, ◌≤◌, Bool, true, false, List, map, length, Some, None, MatchOption, MatchResult, Option, Result, Ok, Err, sym, refl, ap, ◌∙◌, arith}
use Rattle.std.specs.Bool.{then_some}
use Rattle.std.specs.Result.{result_ok}
use Rattle.std.proofs.lemmas.Bool.{both_ways}
use Rattle.fault.specs.Items.{list}
use Rattle.tables.specs.Elements.{last_of}
use Rattle.tables.specs.Encoding.{parts, spread, item_byte, entry_record}
use Rattle.tables.specs.Decoding.{tuple_of, entry_of}
use Rattle.tables.specs.Range.{Totals, below, entry_fits}
use Rattle.sheet.specs.Filling.{NoEntryFits, LastChannel, channel_in, last_channel}
use Rattle.tables.specs.declared.basis.Basis.{Basis}
use Rattle.records.specs.declared.record.Quad.{Quad}
use Rattle.records.specs.declared.record.Record.TheVariants as raw
use Rattle.tables.specs.declared.tuple.Tuple.{Tuple}
use Rattle.tables.specs.Shares.{Entry}
use Rattle.tables.specs.declared.tables.ChannelType.{ChannelType}
use Rattle.tables.specs.declared.tables.SheetType.{SheetType}
use Rattle.tables.specs.declared.tables.SheetType.TheVariants.{Channel}
use Rattle.tables.specs.declared.tables.Tables.{Tables}
use Rattle.tables.proofs.Decoded.{tuple_back, entry_back}
use Rattle.tables.proofs.Tabled.{last_push}

-- from what a push tells to what is told of it
pub when_pushed : {T E A B : Type 0} (P Q : Type 0) (r : Result T E) (o : Option T) → o ≡ result_ok r → MatchResult r (λ _. A) (λ _. B) → (A → P) → (B → Q) → MatchOption o Q (λ _. P)
when_pushed P Q (Ok x) o e h f g = rw e (f h)
when_pushed P Q (Err x) o e h f g = rw e (g h)

pub has_pushed : {T E : Type 0} (A B : Type 0) (r : Result T E) (x : T) → Some x ≡ result_ok r → MatchResult r (λ _. A) (λ _. B) → A
has_pushed A B (Ok y) x e h = h
has_pushed A B (Err y) x e h = let z : ◌≡◌ {A = ℕ} 0 1 = cc in absurd (omega arith)

pub not_pushed : {T E : Type 0} (A B : Type 0) (r : Result T E) → None ≡ result_ok r → MatchResult r (λ _. A) (λ _. B) → B
not_pushed A B (Ok y) e h = let z : ◌≡◌ {A = ℕ} 0 1 = cc in absurd (omega arith)
not_pushed A B (Err y) e h = h

-- from what a test tells to what is told of a thing that is kept where it passes
pub when_kept : {T : Type 0} (P : T → Type 0) (Q : Type 0) (b : Bool) (x : T) (o : Option T) → o ≡ then_some b x → (b ≡ true → P x) → (b ≡ false → Q) → MatchOption o Q P
when_kept P Q true x o e f g = rw e (f refl)
when_kept P Q false x o e f g = rw e (g refl)

-- the two ways in which nothing in range has a record: nothing is got from it, or what is got is out of range
nothing_got : {A : Type 0} (o : Option A) (x : A) → None ≡ o → o ≡ Some x → ⊥
nothing_got o x e f = let z : ◌≡◌ {A = ℕ} 0 1 = cc in omega arith

other_got : {A : Type 0} (fits : A → Bool) (o : Option A) (y x : A) → Some y ≡ o → o ≡ Some x → false ≡ fits y → fits x ≡ true → ⊥
other_got fits o y x e f g h = let s : y ≡ x = cc in both_ways (fits x) (ap fits (sym s) ∙ sym g) h

pub no_channel : (own : ℕ) (few : own ≤ 64) (n : ℕ) (q : Quad) → None ≡ tuple_of n q → (xs : Tuple ℕ) → below own (parts xs) ≡ true → raw.Channel n q ≡ raw.Channel (length (parts xs)) (spread (parts xs)) → ⊥
no_channel own few n q e xs h s =
    let a : n ≡ length (parts xs) = cc in
    let b : q ≡ spread (parts xs) = cc in
    nothing_got (tuple_of n q) xs e (ap (λ m. tuple_of m q) a ∙ ap (tuple_of (length (parts xs))) b ∙ tuple_back own (omega arith) xs h)

module _ (b : Basis) (n : Totals) (few : n.names ≤ 64) where
  entry_got : (amount : ℕ) (q : Quad) (x : Entry) → entry_fits b.largest n.names x ≡ true → raw.Entry amount q ≡ entry_record x → entry_of amount q ≡ Some x
  entry_got amount q x h s =
      let a : amount ≡ x.amount = cc in
      let c : q ≡ spread (map item_byte (list x.label.items)) = cc in
      ap (λ m. entry_of m q) a ∙ ap (entry_of x.amount) c ∙ entry_back n.names few b.largest x h

  pub no_entry : (amount : ℕ) (q : Quad) → None ≡ entry_of amount q → NoEntryFits b n (raw.Entry amount q)
  no_entry amount q e x h s = nothing_got _ x e (entry_got amount q x h s)

  pub other_entry : (amount : ℕ) (q : Quad) (y : Entry) → Some y ≡ entry_of amount q → false ≡ entry_fits b.largest n.names y → NoEntryFits b n (raw.Entry amount q)
  other_entry amount q y e g x h s = other_got (entry_fits b.largest n.names) _ y x e (entry_got amount q x h s) g h

pub last_channel_is : (t : Tables) (before : List SheetType) (c : ChannelType) → LastChannel t before c → last_channel t ≡ Some c
last_channel_is t before c h = ap (λ xs. channel_in (last_of xs)) h.last ∙ ap channel_in (last_push before (Channel c))
