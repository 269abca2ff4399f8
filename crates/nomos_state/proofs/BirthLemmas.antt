-- A process comes to an indexed state: room is made for its channels, they are bound, and it comes with its rows.
use Rattle.std.proofs.Common.{◌≡◌, ◌-◌, ◌∙◌, ◌++◌, ◌∷◌, ℕ, Bool, List, [], drop, IsSome, Option, Some, refl, sym, ap, subst}
use Rattle.std.specs.Option.{option_map}
use Rattle.nomos_ir.specs.Bindings.{bindings_of, bound_to}
use Rattle.nomos_ir.specs.Value.{Value}
use Rattle.nomos_ir.specs.declared.ids.VarId.{VarId}
use Rattle.nomos_machine.specs.declared.object.Object.TheVariants as object
use Rattle.nomos_machine.specs.declared.object.PotentialList.{PotentialList}
use Rattle.nomos_machine.specs.declared.object.Process.{Process}
use Rattle.nomos_changes.specs.SmallChanges.{process_born, with_object}
use Rattle.nomos_changes.specs.declared.newborn.Newborn.{Newborn}
use Rattle.nomos_slots.specs.Cells.{Cell, name_in}
use Rattle.nomos_slots.specs.Marking.{Marking}
use Rattle.nomos_slots.specs.Shelving.{Shelving}
use Rattle.nomos_slots.specs.ChannelTables.{HaveSameNames}
use Rattle.nomos_slots.specs.declared.numbered.Slot.{Slot}
use Rattle.nomos_state.specs.ObjectsCome.{ObjectComes, name_with}
use Rattle.nomos_state.specs.Indexed.{HasRoom, IsIndexed, held_marked, held_now, state_of}
use Rattle.nomos_state.specs.Objects.{AscendsIf, FitsRows, IsPotentialIf, channels_of, kept_of, process_held}
use Rattle.nomos_state.specs.Spanning.{HasVariable}
use Rattle.nomos_state.specs.declared.inside.Columns.{Columns}
use Rattle.nomos_state.specs.declared.inside.Inside.TheInside.{Inside}
use Rattle.nomos_state.specs.declared.kept.Kept.{Kept}
use Rattle.nomos_state.specs.declared.kept.Kept.TheVariants as kept
use Rattle.nomos_state.specs.declared.kept.KeptLists.{KeptLists}
use Rattle.nomos_state.specs.declared.kept.KeptProcess.{KeptProcess}
use Rattle.nomos_state.specs.declared.span.Span.{Span}
use Rattle.nomos_state.proofs.AgainLemmas.{marks-again}
use Rattle.nomos_state.proofs.ComingLemmas.{come-indexed, coming-state, coming_after, drawn_next, next-unnamed}
use Rattle.nomos_state.proofs.PairLemmas.{name-other, name-own}
use Rattle.nomos_state.proofs.PotentialLemmas.{none-gone}
use Rattle.nomos_state.proofs.RebindLemmas.{channels-of_pairs}

module _ (s : Inside) (is : IsIndexed s) (born : Newborn) (k : KeptProcess) (span : Option Span) (ascends : Bool)
    (kept_lists : KeptLists)
    (objects : Marking (Slot Kept)) (values : Shelving (VarId × Value)) (its_lists : Shelving (VarId × PotentialList))
    (reserved after : Marking Cell)
    (names : (p w : ℕ) → name_in reserved.now p w ≡ name_in s.contents.channels.now p w)
    (come : (p w : ℕ) → name_in after.now p w
    ≡ name_with born.fields.pid born.channels.items p w (name_in reserved.now p w))
    (marked : HaveSameNames s.contents.channels.marked reserved.marked) (again : after.marked ≡ reserved.marked)
    (o : objects.marked ≡ s.contents.objects.marked) (v : values.marked ≡ s.contents.values.marked)
    (l : its_lists.marked ≡ s.contents.lists.marked) (next : born.fields.pid ≡ s.contents.numbers.next_object)
    (fields : k ≡ kept_of born.fields span ascends kept_lists)
    (slots : objects.now
    ≡ s.contents.objects.now ++ (record { number = born.fields.pid; item = Some (kept.Process k) }) ∷ [])
    (rows : values.now ≡ s.contents.values.now ++ born.values.items ∷ [])
    (list_rows : its_lists.now ≡ s.contents.lists.now ++ born.lists.items ∷ [])
    (spans : (w : ℕ) → IsSome (bound_to w born.channels.items) → HasVariable span w)
    (order : AscendsIf ascends born.values.items) (none : kept_lists.gone ≡ 0)
    (known : IsPotentialIf kept_lists.potential born.lists.items) where
  pub its_marks : HaveSameNames s.contents.channels.marked after.marked
  its_marks = subst (HaveSameNames s.contents.channels.marked) (sym again) marked

  abbrev born_after : Columns
  born_after =
      coming_after s is born.fields.pid (kept.Process k) born.values.items born.lists.items objects values its_lists
      after o v l
      its_marks

  -- just the pairs are its channels
  named : (w : ℕ) → name_in after.now born.fields.pid w ≡ bound_to w born.channels.items
  named w =
      come born.fields.pid w
      ∙ name-own born.fields.pid w born.channels.items (name_in reserved.now born.fields.pid w)
      (names born.fields.pid w ∙ next-unnamed (held_now s.contents) is.now born.fields.pid w next)

  born-comes : ObjectComes (held_now s.contents) (held_now born_after) born.fields.pid (kept.Process k)
      born.values.items
      born.lists.items
  born-comes = record {
    is_next = next;
    fits =
        subst (λ (n : KeptProcess). FitsRows (Some (kept.Process n)) born.values.items born.lists.items) (sym fields)
        (order, none-gone kept_lists.gone kept_lists.potential born.lists.items none known);
    its_own = λ w some.
        subst (λ (n : KeptProcess). HasVariable n.span w) (sym fields)
        (spans w (subst (λ (o : Option ℕ). IsSome o) (named w) some));
    others = λ p w other.
        come p w
        ∙ name-other born.fields.pid p w born.channels.items (name_in reserved.now p w) (λ same. other (sym same))
        ∙ names p w;
    slots = slots;
    value_rows = rows;
    list_rows = list_rows;
    names = refl;
    balances = refl;
    outside = refl;
    results = refl;
    drawn = refl;
  }

  its_channels : channels_of after.now born.fields.pid ≡ bindings_of born.channels.items
  its_channels = channels-of_pairs after.now born.fields.pid born.channels.items named

  pub born-indexed : HasRoom born_after (s.room - 1) → IsIndexed (record s { contents = born_after; room = s.room - 1 })
  born-indexed has =
      come-indexed s is born.fields.pid (kept.Process k) born.values.items born.lists.items objects values its_lists
      after o v l
      its_marks born-comes has

  pub born-state : state_of (held_now born_after)
      ≡ with_object (object.Process (process_born born)) (state_of (held_now s.contents))
  born-state =
      let held : KeptProcess → List (VarId × ℕ) → Process = λ n channels.
      record (process_held after.now born.fields.pid born.values.items born.lists.items n) { channels = channels } in
      coming-state (held_now s.contents) (held_now born_after) is.now born.fields.pid (kept.Process k) born.values.items
      born.lists.items born-comes
      ∙ ap (λ (n : KeptProcess). with_object (object.Process (held n (channels_of after.now born.fields.pid)))
      (state_of (held_now s.contents))) fields
      ∙ ap (λ (channels : List (VarId × ℕ)). with_object
      (object.Process (held (kept_of born.fields span ascends kept_lists) channels))
      (state_of (held_now s.contents))) its_channels
      ∙ ap (λ (n : ℕ). with_object
      (object.Process (record (process_born born) { lists = drop n born.lists.items }))
      (state_of (held_now s.contents))) none

  pub born-marks : option_map state_of (held_marked born_after s.marked)
      ≡ option_map state_of (held_marked s.contents s.marked)
  born-marks =
      marks-again s objects values its_lists after
      (drawn_next s is born.fields.pid (kept.Process k) born.values.items born.lists.items objects values its_lists
      after o v l
      its_marks)
      o v l its_marks
