-- The tables grow as the census does: what one record more keeps.
use Rattle.std.proofs.Common.{◌≡◌, ℕ, ◌+◌, ◌<◌, false, List, [], ◌∷◌, ◌++◌, map, length, sym, refl, ap, ◌∙◌, subst, arith}
use Rattle.std.proofs.lemmas.List.{length_push, same_from_push}
use Rattle.std.proofs.lemmas.Bool.{or_parts, eqb-false, ltb-false, leb-false}
use Rattle.tables.specs.Elements.{elements}
use Rattle.tables.specs.Encoding.{entry_record, node_record}
use Rattle.tables.specs.Range.{Totals}
use Rattle.sheet.specs.Order.{class_of, misplaced, after}
use Rattle.sheet.specs.Filling.{LastChannel, Room, Grown, grown_type, grown_entry, grown_name, grown_node}
use Rattle.tables.specs.declared.basis.Basis.{Basis}
use Rattle.sheet.specs.declared.census.Census.{Census}
use Rattle.sheet.specs.declared.census.Class.{Class}
use Rattle.sheet.specs.declared.census.Class.TheVariants as class
use Rattle.records.specs.declared.record.Record.{Record}
use Rattle.tables.specs.declared.tables.ChannelType.{ChannelType}
use Rattle.tables.specs.declared.tables.SheetType.{SheetType}
use Rattle.tables.specs.declared.tables.SheetType.TheVariants.{Pure, Public, Channel}
use Rattle.tables.specs.declared.tables.Node.{Node}
use Rattle.tables.specs.declared.tables.Node.TheVariants.{Stop, Send, Receive, Both, Copy, New, Test, Begin, End}
use Rattle.tables.specs.declared.tables.Tables.{Tables}

-- the census counts what the tables hold
pub record Matches (c : Census) (t : Tables) : Type 0 where
  pub heads : c.heads ≡ 1
  pub types : c.types ≡ length (elements t.types)
  pub names : c.names ≡ length (elements t.names)
  pub nodes : c.nodes ≡ length (elements t.nodes)
  pub room : 0 < c.room → (c.names ≡ 0) × (c.nodes ≡ 0) × ((before : List SheetType) × (k : ChannelType) × LastChannel t before k × (c.room + length (elements k.entries) ≡ 8))

-- a type is placed only before names and nodes, and where there is a place
pub type_placed : (c : Census) → misplaced c class.Plain ≡ false → (c.names ≡ 0) × (c.nodes ≡ 0) × (c.types < 64)
type_placed c h =
    let a = or_parts _ _ (or_parts _ _ h).1 in
    let b = or_parts _ _ a.1 in
    let x = ltb-false 0 c.names a.0 in
    let y = ltb-false 0 c.nodes b.0 in
    let z = leb-false 64 c.types b.1 in
    (omega arith, omega arith, z)

pub name_placed : (c : Census) → misplaced c class.Name ≡ false → (c.nodes ≡ 0) × (c.names < 64)
name_placed c h =
    let a = or_parts _ _ (or_parts _ _ h).1 in
    let y = ltb-false 0 c.nodes a.0 in
    (omega arith, leb-false 64 c.names a.1)

node_placed : (c : Census) → misplaced c class.Node ≡ false → c.nodes < 1024
node_placed c h = leb-false 1024 c.nodes (or_parts _ _ h).1

pub entry_placed : (c : Census) → misplaced c class.Entry ≡ false → 0 < c.room
entry_placed c h = let e = eqb-false c.room 0 h in omega arith

-- where a record stands rightly there is a place for it
pub room_for : (c : Census) (t : Tables) (k : Class) → Matches c t → misplaced c k ≡ false → Room t k
room_for c t class.Head m h = let x = ltb-false 0 c.heads h in let y = m.heads in omega arith
room_for c t class.Plain m h = let p = type_placed c h in omega (arith, m.types, p.2)
room_for c t class.Channel m h = let p = type_placed c h in omega (arith, m.types, p.2)
room_for c t class.Entry m h =
    let some = entry_placed c h in
    let r = (m.room some).2 in
    (r.0, r.1, r.2, omega (arith, r.3, some))
room_for c t class.Name m h = let p = name_placed c h in omega (arith, m.names, p.1)
room_for c t class.Node m h = let p = node_placed c h in omega (arith, m.nodes, p)

-- a node's record is of the nodes' class
pub node_class : (x : Node) → class_of (node_record x) ≡ class.Node
node_class Stop = refl
node_class (Send channel names) = refl
node_class (Receive channel names next) = refl
node_class (Both first second) = refl
node_class (Copy next) = refl
node_class (New name next) = refl
node_class (Test left right same other) = refl
node_class (Begin label next) = refl
node_class (End label next) = refl

none_left : {A B : Type 0} (f : A → B) (xs : List A) → map f xs ≡ [] → xs ≡ []
none_left f [] e = refl
none_left f (x ∷ xs) e = let z : ◌≡◌ {A = ℕ} 0 1 = cc in absurd (omega arith)

channel_same : (x y : ChannelType) → Channel x ≡ Channel y → x ≡ y
channel_same x y e = cc

pub first_of : (x y : Record) (xs : List Record) → x ∷ xs ≡ y ∷ [] → (x ≡ y) × (xs ≡ [])
first_of x y xs e = (cc, cc)

module _ (b : Basis) (n : Totals) (t t' : Tables) (r : Record) (c : Census) (m : Matches c t) (placed : misplaced c (class_of r) ≡ false) where
  more_types : (x : SheetType) → elements t'.types ≡ elements t.types ++ x ∷ [] → c.types + 1 ≡ length (elements t'.types)
  more_types x e = ap (λ k. k + 1) m.types ∙ sym (length_push (elements t.types) x) ∙ sym (ap length e)

  plain_more : (x : SheetType) → class_of r ≡ class.Plain → elements t'.types ≡ elements t.types ++ x ∷ [] → t'.names ≡ t.names → t'.nodes ≡ t.nodes → Matches (after c (class_of r)) t'
  plain_more x k e f g = subst (λ d. Matches (after c d) t') (sym k) (record {
    heads = m.heads;
    types = more_types x e;
    names = m.names ∙ ap (λ y. length (elements y)) (sym f);
    nodes = m.nodes ∙ ap (λ y. length (elements y)) (sym g);
    room = λ l. absurd (omega arith);
  })

  channel_more : (k : ChannelType) → class_of r ≡ class.Channel → elements k.entries ≡ [] → elements t'.types ≡ elements t.types ++ Channel k ∷ [] → t'.names ≡ t.names → t'.nodes ≡ t.nodes → Matches (after c (class_of r)) t'
  channel_more k d z e f g =
      let p = type_placed c (ap (misplaced c) (sym d) ∙ placed) in
      subst (λ x. Matches (after c x) t') (sym d) (record {
        heads = m.heads;
        types = more_types (Channel k) e;
        names = m.names ∙ ap (λ y. length (elements y)) (sym f);
        nodes = m.nodes ∙ ap (λ y. length (elements y)) (sym g);
        room = λ l. (p.0, p.1, (elements t.types, k, record { last = e }, ap (λ xs. 8 + length xs) z));
      })

  pub matches_more : Grown b n t t' r → Matches (after c (class_of r)) t'
  matches_more (grown_type Pure w fits e f g) = plain_more Pure (ap class_of (sym (first_of _ _ _ w).0)) e f g
  matches_more (grown_type Public w fits e f g) = plain_more Public (ap class_of (sym (first_of _ _ _ w).0)) e f g
  matches_more (grown_type (Channel k) w fits e f g) =
      let p = first_of _ _ _ w in channel_more k (ap class_of (sym p.0)) (none_left entry_record _ p.1) e f g
  matches_more (grown_entry before k k' e w fits l l' same more f g) =
      let d : class_of r ≡ class.Entry = ap class_of (sym w) in
      let some = entry_placed c (ap (misplaced c) (sym d) ∙ placed) in
      let q = m.room some in
      let s = q.2 in
      let ends : s.0 ++ Channel s.1 ∷ [] ≡ before ++ Channel k ∷ [] = sym s.2.last ∙ l.last in
      let kk : s.1 ≡ k = channel_same _ _ (same_from_push _ _ _ _ ends).1 in
      let long : length (elements k'.entries) ≡ length (elements k.entries) + 1 = ap length more ∙ length_push (elements k.entries) e in
      let same_len : length (elements s.1.entries) ≡ length (elements k.entries) = ap (λ (x : ChannelType). length (elements x.entries)) kk in
      subst (λ x. Matches (after c x) t') (sym d) (record {
        heads = m.heads;
        types = m.types ∙ ap length l.last ∙ length_push before (Channel k) ∙ sym (length_push before (Channel k')) ∙ sym (ap length l'.last);
        names = m.names ∙ ap (λ y. length (elements y)) (sym f);
        nodes = m.nodes ∙ ap (λ y. length (elements y)) (sym g);
        room = λ h. (q.0, q.1, (before, k', l', omega (arith, s.3, long, same_len, some)));
      })
  matches_more (grown_name x w fits e f g) =
      let d : class_of r ≡ class.Name = ap class_of (sym w) in
      subst (λ y. Matches (after c y) t') (sym d) (record {
        heads = m.heads;
        types = m.types ∙ ap (λ y. length (elements y)) (sym f);
        names = ap (λ k. k + 1) m.names ∙ sym (length_push (elements t.names) x) ∙ sym (ap length e);
        nodes = m.nodes ∙ ap (λ y. length (elements y)) (sym g);
        room = λ l. absurd (omega arith);
      })
  matches_more (grown_node x w fits e f g) =
      let d : class_of r ≡ class.Node = ap class_of (sym w) ∙ node_class x in
      subst (λ y. Matches (after c y) t') (sym d) (record {
        heads = m.heads;
        types = m.types ∙ ap (λ y. length (elements y)) (sym f);
        names = m.names ∙ ap (λ y. length (elements y)) (sym g);
        nodes = ap (λ k. k + 1) m.nodes ∙ sym (length_push (elements t.nodes) x) ∙ sym (ap length e);
        room = λ l. absurd (omega arith);
      })
