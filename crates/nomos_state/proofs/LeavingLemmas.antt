-- An object leaves an indexed state, with its rows and its channels.
use Rattle.std.proofs.Common.{◌≡◌, ◌≢◌, ◌<◌, ◌-◌, ◌∙◌, ℕ, [], List, ◌∷◌, ◌++◌, Bool, true, false, Option, Some, None, length, cond, eqb, eq-eqb, ne_eqb, refl, sym, ap}
use Rattle.std.proofs.lemmas.Bool.{both_ways}
use Rattle.std.proofs.lemmas.Option.{none-some, slice_get_within}
use Rattle.std.specs.List.{slice_set}
use Rattle.std.specs.Option.{is_some, option_to_list}
use Rattle.nomos_ir.specs.Value.{Value}
use Rattle.nomos_ir.specs.declared.ids.VarId.{VarId}
use Rattle.nomos_machine.specs.Change as change
use Rattle.nomos_machine.specs.Objects.{object_at, object_number}
use Rattle.nomos_machine.specs.declared.object.Object.{Object}
use Rattle.nomos_machine.specs.declared.object.PotentialList.{PotentialList}
use Rattle.nomos_changes.specs.SmallChanges.{without_object}
use Rattle.nomos_slots.specs.Cells.{Cell, name_in}
use Rattle.nomos_slots.specs.Marking.{Marking}
use Rattle.nomos_slots.specs.Numbers.{put_at}
use Rattle.nomos_slots.specs.Shelving.{Shelving}
use Rattle.nomos_slots.specs.ChannelTables.{HaveSameNames}
use Rattle.nomos_slots.specs.declared.numbered.Slot.{Slot}
use Rattle.nomos_state.specs.Indexed.{Holding, HasRoom, IsIndexed, held_now, state_of}
use Rattle.nomos_state.specs.Looked.{ObjectIsAt}
use Rattle.nomos_state.specs.Placing.{CanPlace, PlaceComes}
use Rattle.nomos_state.specs.declared.inside.Columns.{Columns}
use Rattle.nomos_state.specs.declared.inside.Inside.TheInside.{Inside}
use Rattle.nomos_state.specs.declared.kept.Kept.{Kept}
use Rattle.nomos_state.proofs.AgainLemmas.{contents_again, indexed-again}
use Rattle.nomos_state.proofs.PlaceLemmas.{comes-holding, comes-state}
use Rattle.nomos_state.proofs.ProcessLemmas.{slot-kept}

-- where no object has the number, none leaves
pub put-absent : (n : ℕ) (new : Option Object) (objects : List Object) → object_at objects n ≡ None
    → objects ≡ change.put_at n new objects
put-absent n new [] none = refl
put-absent n new (o ∷ objects) none = at (eqb (object_number o) n) refl (put-absent n new objects)
  where
    at : (b : Bool) → eqb (object_number o) n ≡ b → (object_at objects n ≡ None → objects ≡ change.put_at n new objects)
        → (o ∷ objects) ≡ change.put_at n new (o ∷ objects)
    at true is rest = absurd (none-some o (sym none ∙ ap (λ b. cond b (Some o) (object_at objects n)) is))
    at false is rest =
        ap (λ os. o ∷ os) (rest (sym (ap (λ b. cond b (Some o) (object_at objects n)) is) ∙ none))
        ∙ sym (ap (λ b. cond b (option_to_list new ++ objects) (o ∷ change.put_at n new objects)) is)

-- an object that is looked up stands within
pub stands-within : (h : Holding) (number place : ℕ) (k : Kept) → ObjectIsAt h number place k → place < length h.slots
stands-within h number place k at = slice_get_within h.slots place _ (slot-kept h.slots place number k at.at)

module _ (s : Inside) (is : IsIndexed s) (number place : ℕ) (k : Kept)
    (at : ObjectIsAt (held_now s.contents) number place k) (objects : Marking (Slot Kept))
    (values : Shelving (VarId × Value)) (its_lists : Shelving (VarId × PotentialList)) (channels : Marking Cell)
    (o : objects.marked ≡ s.contents.objects.marked) (v : values.marked ≡ s.contents.values.marked)
    (l : its_lists.marked ≡ s.contents.lists.marked) (c : HaveSameNames s.contents.channels.marked channels.marked)
    (slots : objects.now ≡ put_at s.contents.objects.now place None)
    (rows : values.now ≡ slice_set s.contents.values.now place [])
    (list_rows : its_lists.now ≡ slice_set s.contents.lists.now place [])
    (names : (p w : ℕ) → name_in channels.now p w ≡ cond (eqb number p) None
    (name_in s.contents.channels.now p w)) where
  abbrev after : Columns
  after = contents_again s objects values its_lists channels s.contents.numbers o v l c

  others : (p w : ℕ) → p ≢ number → name_in channels.now p w ≡ name_in s.contents.channels.now p w
  others p w other =
      names p w
      ∙ ap (λ b. cond b None (name_in s.contents.channels.now p w)) (ne_eqb number p (λ same. other (sym same)))

  gone : (w : ℕ) → name_in channels.now number w ≡ None
  gone w = names number w ∙ ap (λ b. cond b None (name_in s.contents.channels.now number w)) (eq-eqb number number refl)

  can : CanPlace (held_now s.contents) place number k None [] [] channels.now
  can = record {
    stood = slot-kept s.contents.objects.now place number k at.at;
    fits = tt;
    others = others;
    its_own = λ w some. both_ways _ (ap is_some (gone w)) some;
  }

  leaves : PlaceComes (held_now s.contents) (held_now after) number place None [] []
  leaves = record {
    slots = slots;
    value_rows = rows;
    list_rows = list_rows;
    others = others;
    names = refl;
    balances = refl;
    outside = refl;
    results = refl;
    drawn = refl;
  }

  pub leaving-indexed : HasRoom after (s.room - 1) → IsIndexed (record s { contents = after; room = s.room - 1 })
  leaving-indexed has =
      indexed-again s objects values its_lists channels s.contents.numbers o v l c (s.room - 1) is
      (comes-holding (held_now s.contents) (held_now after) is.now place number k None [] [] can leaves) has

  pub leaving-state : state_of (held_now after) ≡ without_object number (state_of (held_now s.contents))
  leaving-state = comes-state (held_now s.contents) (held_now after) is.now place number k None [] [] can leaves
