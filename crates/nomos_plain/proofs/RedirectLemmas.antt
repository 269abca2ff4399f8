-- The first object that uses a name goes on under another one.
use Rattle.std.proofs.Common.{◌≡◌, ◌∙◌, ◌+◌, ◌<◌, ◌++◌, ℕ, List, Option, Some, None, refl, sym, ap, arith}
use Rattle.std.proofs.Common.{drop, get_or, length, map, set, slice_index_or, slice_set, take}
use Rattle.std.proofs.lemmas.List.{get_or_default}
use Rattle.std.proofs.lemmas.List.Edits.{map_over_more}
use Rattle.std.specs.List.{position}
use Rattle.std.specs.Option.{option_map, option_to_list}
use Rattle.nomos_machine.specs.Change.{put_at, put_all}
use Rattle.nomos_machine.specs.Objects.{object_number, object_at}
use Rattle.nomos_machine.specs.Revised.{uses_instead}
use Rattle.nomos_machine.specs.Sight.{user_of}
use Rattle.nomos_machine.specs.declared.object.Object.{Object}
use Rattle.nomos_machine.specs.declared.object.Object.TheVariants as object
use Rattle.nomos_machine.proofs.PutLaws.{InOrder, object_at-own}
use Rattle.nomos_machine.proofs.UserLaws.{user_of-found}
use Rattle.nomos_changes.specs.SmallChanges.{redirected}
use Rattle.nomos_plain.specs.Parts.{has_number, object_in}
use Rattle.nomos_plain.specs.declared.plain_object.PlainObject.{PlainObject}
use Rattle.nomos_plain.proofs.PlaceLemmas.{place_found, place_none, place_set}

-- ---- one more item of a list is changed in place

pub mapped-more : {X : Type 0} (f : X → X) (xs ys : List X) (i : ℕ) (d new : X) → i < length xs → length ys ≡ length xs
    → ys ≡ map f (take i xs) ++ drop i xs → new ≡ f (get_or ys i d)
    → set ys i new ≡ map f (take (i + 1) xs) ++ drop (i + 1) xs
mapped-more f xs ys i d new within same so_far is =
    let old = get_or ys i d in
    let lt : i < length ys = omega arith in
    let here : old ≡ get_or ys i old = get_or_default ys i d old lt in
    rw is (map_over_more f xs ys i old within so_far here)

-- ---- the first object that uses a name

module _ (old number : ℕ) (items : List PlainObject) (order : InOrder (map object_in items))
    (uses : Some number ≡ option_map object_number (user_of (map object_in items) old)) where
  -- it is found at its number
  user-at : (u : Object) → user_of (map object_in items) old ≡ Some u → (number ≡ object_number u)
      × (object_at (map object_in items) number ≡ Some u)
  user-at u is =
      let same : number ≡ object_number u = one (uses ∙ ap (option_map object_number) is) in
      let own = object_at-own u (map object_in items) order (user_of-found old u (map object_in items) is).0 in
      (same, ap (object_at (map object_in items)) same ∙ own)
    where
      one : Some number ≡ Some (object_number u) → number ≡ object_number u
      one e = cc

  -- so it has a place
  pub user-placed : position (has_number number) items ≡ None → ⊥
  user-placed none = at (user_of (map object_in items) old) refl uses
    where
      at : (o : Option Object) → user_of (map object_in items) old ≡ o → Some number ≡ option_map object_number o → ⊥
      at None is there = cc
      at (Some u) is there = never (sym (user-at u is).1 ∙ place_none number items none)
        where
          never : Some u ≡ None → ⊥
          never e = cc

  -- and changed there it uses another name instead
  pub redirected-at : (new at : ℕ) (changed d : PlainObject) → position (has_number number) items ≡ Some at
      → object_in changed ≡ uses_instead old new (object_in (slice_index_or items at d))
      → map object_in (slice_set items at changed) ≡ redirected old new (map object_in items)
  redirected-at new at changed d found is = by (user_of (map object_in items) old) refl uses
    where
      by : (o : Option Object) → user_of (map object_in items) old ≡ o → Some number ≡ option_map object_number o
          → map object_in (slice_set items at changed)
          ≡ put_all (map (λ o. (object_number o, Some (uses_instead old new o))) (option_to_list o))
          (map object_in items)
      by None who there = absurd cc
      by (Some u) who there =
          let (numbered, own) = user-at u who in
          let here : object_in (slice_index_or items at d) ≡ u =
          one (sym (place_found number at items found d) ∙ own) in
          place_set number at items found changed
          ∙ ap (λ (n : ℕ). put_at n (Some (object_in changed)) (map object_in items)) numbered
          ∙ ap (λ (o : Object). put_at (object_number u) (Some o) (map object_in items))
          (is ∙ ap (uses_instead old new) here)
        where
          one : Some (object_in (slice_index_or items at d)) ≡ Some u → object_in (slice_index_or items at d) ≡ u
          one e = cc

-- ---- an object that goes on under another name has its number

pub uses-numbered : (old new : ℕ) (o : Object) → object_number (uses_instead old new o) ≡ object_number o
uses-numbered old new (object.Process p) = refl
uses-numbered old new (object.Message m) = refl
