-- The members of a class among the demands that were read so far, with room for those among the rest.
use Rattle.std.proofs.Common.{◌≡◌, Bool, ◌∙◌, ◌++◌, ◌+◌, ◌<◌, ◌≤◌, ◌∷◌, [], ℕ, List, ap, arith, drop, false, get_or, length, map, take, true, vec_capacity, vec_len}
use Rattle.std.specs.Prelude.{filter}
use Rattle.std.proofs.lemmas.List.{length-append}
use Rattle.pon_descr.specs.declared.class.Class.{Class}
use Rattle.pon_demand.specs.Sharing.{same_class}
use Rattle.pon_demand.specs.declared.demand.Demand.{Demand}
use Rattle.pon_demand.specs.declared.sharing.Members.{Members}
use Rattle.pon_demand.proofs.ClassMembers.{member, member_left, other, other_left}

pub record AreSoFar (class : Class) (demands : List Demand) (i : ℕ) (m : Members) : Type 0 where
  pub ids : m.ids.items ≡ map (λ d. d.alloc_id) (filter (λ d. same_class d.class class) (take i demands))
  pub items : m.items.items ≡ map (λ d. d.item) (filter (λ d. same_class d.class class) (take i demands))
  pub room_for_ids : vec_len m.ids + length (filter (λ d. same_class d.class class) (drop i demands)) ≤ vec_capacity m.ids
  pub room_for_items : vec_len m.items + length (filter (λ d. same_class d.class class) (drop i demands)) ≤ vec_capacity m.items

-- at the first demand, none was read
pub at_start : (class : Class) (demands : List Demand) (m : Members) → m.ids.items ≡ [] → m.items.items ≡ []
    → length (filter (λ d. same_class d.class class) demands) ≤ vec_capacity m.ids
    → length (filter (λ d. same_class d.class class) demands) ≤ vec_capacity m.items → AreSoFar class demands 0 m
at_start class demands m ids items room_for_ids room_for_items = record {
  ids = ids;
  items = items;
  room_for_ids = omega (arith, m.ids.ok.0, ap length ids, room_for_ids);
  room_for_items = omega (arith, m.items.ok.0, ap length items, room_for_items);
}

module _ (class : Class) (demands : List Demand) (i : ℕ) (d : Demand) (lt : i < length demands) (is : d ≡ get_or demands i d) where
  is_member : Demand → Bool
  is_member e = same_class e.class class

  -- a demand of the class has room
  pub has_room : (m : Members) → AreSoFar class demands i m → same_class d.class class ≡ true → (vec_len m.ids < vec_capacity m.ids) × (vec_len m.items < vec_capacity m.items)
  unfolding is_member
  has_room m k of_class =
      let left = member_left is_member demands i d lt is of_class in
      (omega (arith, left, k.room_for_ids), omega (arith, left, k.room_for_items))

  -- and is added to the members
  pub with_member : (m n : Members) → AreSoFar class demands i m → same_class d.class class ≡ true
      → n.ids.items ≡ m.ids.items ++ d.alloc_id ∷ [] → n.items.items ≡ m.items.items ++ d.item ∷ []
      → vec_capacity m.ids ≤ vec_capacity n.ids → vec_capacity m.items ≤ vec_capacity n.items → AreSoFar class demands (i + 1) n
  unfolding is_member
  with_member m n k of_class ids items room_for_ids room_for_items =
      let left = member_left is_member demands i d lt is of_class in record {
        ids = cc (member is_member demands i d lt is (λ e. e.alloc_id) of_class, ids, k.ids);
        items = cc (member is_member demands i d lt is (λ e. e.item) of_class, items, k.items);
        room_for_ids = omega (arith, left, k.room_for_ids, room_for_ids, m.ids.ok.0, n.ids.ok.0, ap length ids ∙ length-append m.ids.items (d.alloc_id ∷ []));
        room_for_items = omega (arith, left, k.room_for_items, room_for_items, m.items.ok.0, n.items.ok.0, ap length items ∙ length-append m.items.items (d.item ∷ []));
      }

  -- a demand of another class changes nothing
  pub with_other : (m : Members) → AreSoFar class demands i m → same_class d.class class ≡ false → AreSoFar class demands (i + 1) m
  unfolding is_member
  with_other m k of_other =
      let left = other_left is_member demands i d lt is of_other in record {
        ids = cc (other is_member demands i d lt is (λ e. e.alloc_id) of_other, k.ids);
        items = cc (other is_member demands i d lt is (λ e. e.item) of_other, k.items);
        room_for_ids = omega (arith, left, k.room_for_ids);
        room_for_items = omega (arith, left, k.room_for_items);
      }
