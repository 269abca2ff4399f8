-- Room, and the order of objects, where a few of them change.
use Rattle.std.proofs.Common.{◌≡◌, ◌≤◌, ◌<◌, ◌+◌, ◌-◌, ◌*◌, ◌/◌, ℕ, List, [], ◌∷◌, ◌++◌, None, Some, map, slice_index_or, slice_set, arith, subst, sym}
use Rattle.std.proofs.lemmas.List.Elements.{All-nil, All-cons, All-append, All-contains, All-weaker}
use Rattle.std.proofs.Math.Nat.{div-mul-le_self}
use Rattle.std.proofs.lemmas.Nat.{le-div}
use Rattle.std.specs.Global.{Vec}
use Rattle.std.specs.List.{position, remove}
use Rattle.nomos_ir.specs.declared.ids.TypeId.{TypeId}
use Rattle.nomos_machine.proofs.StartingLaws.{no-order}
use Rattle.nomos_machine.specs.Change.{put_at}
use Rattle.nomos_machine.specs.Objects.{object_number, object_at}
use Rattle.nomos_machine.specs.declared.object.Message.{Message}
use Rattle.nomos_machine.specs.declared.object.Object.{Object}
use Rattle.nomos_machine.specs.declared.object.Object.TheVariants as object
use Rattle.nomos_machine.proofs.PutLaws.{object_at-found, push-order, put-all, put-order}
use Rattle.nomos_plain.specs.Parts.{HasRoom, HaveRoom, StandInOrder, has_number, object_in}
use Rattle.nomos_plain.specs.declared.plain_object.PlainObject.{PlainObject}
use Rattle.nomos_plain.specs.declared.plain_object.PlainObject.TheVariants as plain
use Rattle.nomos_plain.proofs.PlaceLemmas.{place_found, place_removed, place_set}

-- ---- room

pub each-room-below : (m n : ℕ) → m ≤ n → (o : PlainObject) → HasRoom n o → HasRoom m o
each-room-below m n below (plain.Process k) room = omega (arith, room, below)
each-room-below m n below (plain.Message g) room = tt

-- room for some changes is room for fewer
pub room_below : (m n : ℕ) (objects : Vec PlainObject) (types : Vec (ℕ × TypeId)) → m ≤ n → HaveRoom n objects types
    → HaveRoom m objects types
room_below m n objects types below room = record {
  objects_fit = omega (arith, room.objects_fit, below);
  types_fit = omega (arith, room.types_fit, below);
  each = All-weaker (HasRoom n) (HasRoom m) (each-room-below m n below) objects.items room.each;
}

-- a message needs none
pub message_has_room : (n : ℕ) (o : PlainObject) (m : Message) → object_in o ≡ object.Message m → HasRoom n o
message_has_room n (plain.Process k) m is = absurd cc
message_has_room n (plain.Message g) m is = tt

-- ---- order

-- no objects stand in order
pub none_in_order : (next : ℕ) → StandInOrder next []
none_in_order next = record { ascending = no-order; below = All-nil (λ o. object_number o < next) }

-- another object stands where one of its number stood
pub put_in_order : (n next : ℕ) (new old : Object) (objects : List Object) → object_at objects n ≡ Some old
    → object_number new ≡ n → StandInOrder next objects → StandInOrder next (put_at n (Some new) objects)
put_in_order n next new old objects there numbered order =
    let Below : Object → Type 0 = λ o. object_number o < next in
    let found = object_at-found n old objects there in
    let under : object_number old < next = All-contains Below objects old order.below found.1 in
    let own : object_number new < next = omega (arith, under, found.0, numbered) in
    record {
      ascending = put-order n (Some new) objects
          (All-cons (λ o. object_number o ≡ n) new [] numbered (All-nil (λ o. object_number o ≡ n))) order.ascending;
      below = put-all Below n (Some new) objects order.below (All-cons Below new [] own (All-nil Below));
    }

-- an object leaves
pub leave_in_order : (n next : ℕ) (objects : List Object) → StandInOrder next objects
    → StandInOrder next (put_at n None objects)
leave_in_order n next objects order = record {
  ascending = put-order n None objects (All-nil (λ o. object_number o ≡ n)) order.ascending;
  below = put-all (λ o. object_number o < next) n None objects order.below (All-nil (λ o. object_number o < next));
}

-- an object comes, which has the next number
pub come_in_order : (next : ℕ) (o : Object) (objects : List Object) → object_number o ≡ next → StandInOrder next objects
    → StandInOrder (next + 1) (objects ++ o ∷ [])
come_in_order next o objects numbered order =
    let Below : Object → Type 0 = λ e. object_number e < next in
    let After : Object → Type 0 = λ e. object_number e < next + 1 in
    let own : object_number o < next + 1 = omega (arith, numbered) in
    record {
      ascending = push-order object_number o objects order.ascending
          (All-weaker Below (λ e. object_number e < object_number o)
          (λ e below. subst (λ (n : ℕ). object_number e < n) (sym numbered) below) objects order.below);
      below = All-append After objects (o ∷ [])
          (All-weaker Below After (λ e below. omega (arith, below)) objects order.below)
          (All-cons After o [] own (All-nil After));
    }

-- ---- a list of what is kept changes

module _ (n at next : ℕ) (objects : List PlainObject) (found : position (has_number n) objects ≡ Some at)
    (order : StandInOrder next (map object_in objects)) where
  pub placed_in_order : (new d : PlainObject) → object_number (object_in new) ≡ n
      → StandInOrder next (map object_in (slice_set objects at new))
  placed_in_order new d numbered =
      subst (StandInOrder next) (sym (place_set n at objects found new))
      (put_in_order n next (object_in new) (object_in (slice_index_or objects at d)) (map object_in objects)
      (place_found n at objects found d) numbered order)

  pub removed_in_order : StandInOrder next (map object_in (remove objects at))
  removed_in_order =
      subst (StandInOrder next) (sym (place_removed n at objects found))
      (leave_in_order n next (map object_in objects) order)

-- ---- for how many firings there is room

pub spare_at_least : (firings room : ℕ) → firings * 8 ≤ room → firings ≤ room / 8
spare_at_least firings room within = le-div firings room 8 (omega arith) within

pub spare_stays : (before after : ℕ) → before ≤ after → before / 8 ≤ after / 8
spare_stays before after more = spare_at_least (before / 8) after (omega (arith, div-mul-le_self before 8, more))

-- one firing takes room for eight small changes
pub spare_but_one : (before after : ℕ) → before ≤ after + 8 → before / 8 ≤ after / 8 + 1
spare_but_one before after more =
    omega (arith, spare_at_least (before / 8 - 1) after (omega (arith, div-mul-le_self before 8, more)))

pub spare_is_room : (room : ℕ) → 0 < room / 8 → 8 ≤ room
spare_is_room room some = omega (arith, div-mul-le_self room 8, some)
