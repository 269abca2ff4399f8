-- A process of an indexed state changes: one part of what is kept of it at a time.
use Rattle.std.proofs.Common.{◌≡◌, ◌≢◌, ◌≤◌, ◌+◌, ◌-◌, ◌∙◌, ℕ, Bool, [], List, IsSome, Option, Some, refl, sym, ap, subst, arith}
use Rattle.std.proofs.lemmas.List.{set-get_or}
use Rattle.std.specs.List.{slice_set}
use Rattle.nomos_ir.specs.Value.{Value}
use Rattle.nomos_ir.specs.declared.ids.VarId.{VarId}
use Rattle.nomos_machine.specs.declared.object.PotentialList.{PotentialList}
use Rattle.nomos_machine.specs.declared.object.Process.{Process}
use Rattle.nomos_changes.specs.SmallChanges.{Becomes}
use Rattle.nomos_slots.specs.Cells.{Cell, name_in}
use Rattle.nomos_slots.specs.Marking.{Marking}
use Rattle.nomos_slots.specs.Numbers.{put_at}
use Rattle.nomos_slots.specs.ChannelTables.{HaveSameNames}
use Rattle.nomos_slots.specs.Shelving.{Shelving}
use Rattle.nomos_slots.specs.declared.numbered.Slot.{Slot}
use Rattle.nomos_slots.proofs.NumberLaws.{put_at-own}
use Rattle.nomos_state.specs.Indexed.{IsIndexed, held_now, state_of}
use Rattle.nomos_state.specs.Looked.{ProcessIsAt, lists_at, values_at}
use Rattle.nomos_state.specs.Objects.{AscendsIf, FitsLists, FitsRows, ListRow, ValueRow, channels_of, process_held}
use Rattle.nomos_state.specs.Placing.{ProcessComes}
use Rattle.nomos_state.specs.Spanning.{HasVariable}
use Rattle.nomos_state.specs.declared.inside.Columns.{Columns}
use Rattle.nomos_state.specs.declared.inside.Inside.TheInside.{Inside}
use Rattle.nomos_state.specs.declared.kept.Kept.{Kept}
use Rattle.nomos_state.specs.declared.kept.Kept.TheVariants as kept
use Rattle.nomos_state.specs.declared.kept.KeptProcess.{KeptProcess}
use Rattle.nomos_state.specs.declared.span.Span.{Span}
use Rattle.nomos_state.proofs.AgainLemmas.{indexed-again}
use Rattle.nomos_state.proofs.ProcessLemmas.{process-becomes, process-holding, rows-kept, slot-kept, spans-kept}
use Rattle.nomos_state.proofs.TogetherLemmas.{same-names}

module _ (s : Inside) (is : IsIndexed s) (pid place : ℕ) (k : KeptProcess)
    (at : ProcessIsAt (held_now s.contents) pid place k) where
  abbrev values_row : ValueRow
  values_row = values_at (held_now s.contents) place

  abbrev lists_row : ListRow
  lists_row = lists_at (held_now s.contents) place

  -- what is not changed, as a change
  pub same_slots : s.contents.objects.now ≡ put_at s.contents.objects.now place (Some (kept.Process k))
  same_slots = sym (put_at-own s.contents.objects.now place _
      (slot-kept s.contents.objects.now place pid (kept.Process k) at.at))

  same_values : s.contents.values.now ≡ slice_set s.contents.values.now place values_row
  same_values = sym (set-get_or s.contents.values.now place [])

  pub same_lists : s.contents.lists.now ≡ slice_set s.contents.lists.now place lists_row
  same_lists = sym (set-get_or s.contents.lists.now place [])

  same_cells : HaveSameNames s.contents.channels.marked s.contents.channels.marked
  same_cells = same-names s.contents.channels.marked s.contents.channels.marked refl

  -- its channels stand in its span
  own_spans : (w : ℕ) → IsSome (name_in s.contents.channels.now pid w) → HasVariable k.span w
  own_spans = spans-kept (held_now s.contents) is.now place pid (kept.Process k) at.at

  -- its rows are as it is kept of them
  pub own_rows : FitsRows (Some (kept.Process k)) values_row lists_row
  own_rows = rows-kept (held_now s.contents) is.now place pid k at.at

  -- ---- other plain fields

  module _ (objects : Marking (Slot Kept)) (next : KeptProcess)
      (now : objects.now ≡ put_at s.contents.objects.now place (Some (kept.Process next))) (span : next.span ≡ k.span)
      (order : next.ascends ≡ k.ascends) (gone : next.gone ≡ k.gone) (potential : next.potential ≡ k.potential)
      (marked : objects.marked ≡ s.contents.objects.marked)
      (room : s.contents.objects.room ≤ objects.room) where
    abbrev pub with_objects : Columns
    with_objects = record s.contents { objects = objects }

    fields-come : ProcessComes (held_now s.contents) (held_now with_objects) pid place next values_row lists_row
    fields-come = record {
      slots = now;
      value_rows = same_values;
      list_rows = same_lists;
      others = λ p v other. refl;
      names = refl;
      balances = refl;
      outside = refl;
      results = refl;
      drawn = refl;
    }

    fields_span : (w : ℕ) → IsSome (name_in s.contents.channels.now pid w) → HasVariable next.span w
    fields_span w some = subst (λ o. HasVariable o w) (sym span) (own_spans w some)

    fields_fit : FitsRows (Some (kept.Process next)) values_row lists_row
    fields_fit = (
      subst (λ b. AscendsIf b values_row) (sym order) own_rows.0,
      subst (λ (n : ℕ). FitsLists n next.potential lists_row) (sym gone)
          (subst (λ (o : Option ℕ). FitsLists k.gone o lists_row) (sym potential) own_rows.1),
    )

    pub fields-indexed : IsIndexed (record s { contents = with_objects })
    fields-indexed =
        indexed-again s objects s.contents.values s.contents.lists s.contents.channels s.contents.numbers marked refl
        refl
        same_cells s.room is
        (process-holding (held_now s.contents) (held_now with_objects) is.now pid place k next values_row lists_row at
        fields-come fields_span fields_fit)
        (record {
          objects = omega (arith, room, is.has_room.objects);
          values = is.has_room.values;
          its_lists = is.has_room.its_lists;
          channels = is.has_room.channels;
          names = is.has_room.names;
        })

    pub fields-become : (f : Process → Process)
        → f (process_held s.contents.channels.now pid values_row lists_row k)
        ≡ process_held s.contents.channels.now pid values_row lists_row next
        → Becomes (state_of (held_now s.contents)) pid f (state_of (held_now with_objects))
    fields-become f same =
        process-becomes (held_now s.contents) (held_now with_objects) is.now pid place k next values_row lists_row at
        fields-come fields_span fields_fit f same

  -- ---- other channels, in another span

  module _ (objects : Marking (Slot Kept)) (span : Option Span) (channels : Marking Cell) (room : ℕ)
      (now : objects.now ≡ put_at s.contents.objects.now place (Some (kept.Process (record k { span = span }))))
      (also : objects.marked ≡ s.contents.objects.marked) (as_much : s.contents.objects.room ≤ objects.room)
      (others : (p v : ℕ) → p ≢ pid → name_in channels.now p v ≡ name_in s.contents.channels.now p v)
      (spans : (w : ℕ) → IsSome (name_in channels.now pid w) → HasVariable span w)
      (marked : HaveSameNames s.contents.channels.marked channels.marked) (less : room ≤ s.room)
      (has : room ≤ channels.room) where
    abbrev pub with_cells : Columns
    with_cells = record s.contents { objects = objects; channels = channels }

    abbrev spanning : KeptProcess
    spanning = record k { span = span }

    channels-come : ProcessComes (held_now s.contents) (held_now with_cells) pid place spanning values_row lists_row
    channels-come = record {
      slots = now;
      value_rows = same_values;
      list_rows = same_lists;
      others = others;
      names = refl;
      balances = refl;
      outside = refl;
      results = refl;
      drawn = refl;
    }

    pub channels-indexed : IsIndexed (record s { contents = with_cells; room = room })
    channels-indexed =
        indexed-again s objects s.contents.values s.contents.lists channels s.contents.numbers also refl refl marked
        room is
        (process-holding (held_now s.contents) (held_now with_cells) is.now pid place k spanning values_row lists_row at
        channels-come spans own_rows)
        (record {
          objects = omega (arith, less, as_much, is.has_room.objects);
          values = omega (arith, less, is.has_room.values);
          its_lists = omega (arith, less, is.has_room.its_lists);
          channels = has;
          names = omega (arith, less, is.has_room.names);
        })

    pub channels-become : (b : List (VarId × ℕ)) (f : Process → Process) → channels_of channels.now pid ≡ b
        → f (process_held s.contents.channels.now pid values_row lists_row k)
        ≡ record (process_held s.contents.channels.now pid values_row lists_row k) { channels = b }
        → Becomes (state_of (held_now s.contents)) pid f (state_of (held_now with_cells))
    channels-become b f bound same =
        process-becomes (held_now s.contents) (held_now with_cells) is.now pid place k spanning values_row lists_row at
        channels-come spans own_rows f
        (same
        ∙ ap (λ (c : List (VarId × ℕ)). record (process_held s.contents.channels.now pid values_row lists_row k) {
          channels = c;
        })
        (sym bound))

  -- ---- other channels, of variables that had some

  module _ (channels : Marking Cell) (room : ℕ)
      (others : (p v : ℕ) → p ≢ pid → name_in channels.now p v ≡ name_in s.contents.channels.now p v)
      (fewer : (w : ℕ) → IsSome (name_in channels.now pid w) → IsSome (name_in s.contents.channels.now pid w))
      (marked : HaveSameNames s.contents.channels.marked channels.marked) (less : room ≤ s.room)
      (has : room ≤ channels.room) where
    pub fewer-indexed : IsIndexed (record s { contents = record s.contents { channels = channels }; room = room })
    fewer-indexed =
        channels-indexed s.contents.objects k.span channels room same_slots refl (omega arith) others
        (λ w some. own_spans w (fewer w some)) marked less has

    pub fewer-become : (b : List (VarId × ℕ)) (f : Process → Process) → channels_of channels.now pid ≡ b
        → f (process_held s.contents.channels.now pid values_row lists_row k)
        ≡ record (process_held s.contents.channels.now pid values_row lists_row k) { channels = b }
        → Becomes (state_of (held_now s.contents)) pid f
        (state_of (held_now (record s.contents { channels = channels })))
    fewer-become =
        channels-become s.contents.objects k.span channels room same_slots refl (omega arith) others
        (λ w some. own_spans w (fewer w some)) marked less has

  -- ---- other values and lists, of which it is kept whether they ascend, how many are gone, and what the others carry

  module _ (objects : Marking (Slot Kept)) (values : Shelving (VarId × Value))
      (its_lists : Shelving (VarId × PotentialList))
      (ascends : Bool) (gone : ℕ) (potential : Option ℕ) (row : ValueRow) (list_row : ListRow) (room : ℕ)
      (now : objects.now ≡ put_at s.contents.objects.now place
      (Some (kept.Process (record k { ascends = ascends; gone = gone; potential = potential }))))
      (rows : values.now ≡ slice_set s.contents.values.now place row)
      (list_rows : its_lists.now ≡ slice_set s.contents.lists.now place list_row)
      (order : AscendsIf ascends row) (fits : FitsLists gone potential list_row)
      (also : objects.marked ≡ s.contents.objects.marked) (marked : values.marked ≡ s.contents.values.marked)
      (its_marked : its_lists.marked ≡ s.contents.lists.marked)
      (less : room ≤ s.room) (as_much : s.contents.objects.room ≤ objects.room) (has : room ≤ values.room)
      (has_lists : room ≤ its_lists.room) where
    abbrev pub with_rows : Columns
    with_rows = record s.contents { objects = objects; values = values; lists = its_lists }

    abbrev ordered : KeptProcess
    ordered = record k { ascends = ascends; gone = gone; potential = potential }

    rows-come : ProcessComes (held_now s.contents) (held_now with_rows) pid place ordered row list_row
    rows-come = record {
      slots = now;
      value_rows = rows;
      list_rows = list_rows;
      others = λ p v other. refl;
      names = refl;
      balances = refl;
      outside = refl;
      results = refl;
      drawn = refl;
    }

    pub rows-indexed : IsIndexed (record s { contents = with_rows; room = room })
    rows-indexed =
        indexed-again s objects values its_lists s.contents.channels s.contents.numbers also marked its_marked
        same_cells
        room is
        (process-holding (held_now s.contents) (held_now with_rows) is.now pid place k ordered row list_row at rows-come
        own_spans (order, fits))
        (record {
          objects = omega (arith, less, as_much, is.has_room.objects);
          values = has;
          its_lists = has_lists;
          channels = omega (arith, less, is.has_room.channels);
          names = omega (arith, less, is.has_room.names);
        })

    pub rows-become : (f : Process → Process)
        → f (process_held s.contents.channels.now pid values_row lists_row k)
        ≡ process_held s.contents.channels.now pid row list_row (record k { gone = gone })
        → Becomes (state_of (held_now s.contents)) pid f (state_of (held_now with_rows))
    rows-become f same =
        process-becomes (held_now s.contents) (held_now with_rows) is.now pid place k ordered row list_row at rows-come
        own_spans (order, fits) f same

  -- the values alone, where they ascend if they did

  module _ (values : Shelving (VarId × Value)) (row : ValueRow)
      (now : values.now ≡ slice_set s.contents.values.now place row)
      (order : AscendsIf k.ascends row) (marked : values.marked ≡ s.contents.values.marked)
      (less : s.contents.values.room ≤ values.room + 1) where
    pub values-indexed : IsIndexed (record s { contents = record s.contents { values = values }; room = s.room - 1 })
    values-indexed =
        rows-indexed s.contents.objects values s.contents.lists k.ascends k.gone k.potential row lists_row (s.room - 1)
        same_slots now same_lists order own_rows.1 refl marked refl (omega arith) (omega arith)
        (omega (arith, less, is.has_room.values)) (omega (arith, is.has_room.its_lists))

    pub values-become : (f : Process → Process)
        → f (process_held s.contents.channels.now pid values_row lists_row k)
        ≡ process_held s.contents.channels.now pid row lists_row k
        → Becomes (state_of (held_now s.contents)) pid f (state_of (held_now (record s.contents { values = values })))
    values-become =
        rows-become s.contents.objects values s.contents.lists k.ascends k.gone k.potential row lists_row (s.room - 1)
        same_slots now same_lists order own_rows.1 refl marked refl (omega arith) (omega arith)
        (omega (arith, less, is.has_room.values)) (omega (arith, is.has_room.its_lists))

  -- the lists alone

  module _ (objects : Marking (Slot Kept)) (its_lists : Shelving (VarId × PotentialList)) (gone : ℕ)
      (potential : Option ℕ) (row : ListRow)
      (now : objects.now ≡ put_at s.contents.objects.now place
      (Some (kept.Process (record k { gone = gone; potential = potential }))))
      (rows : its_lists.now ≡ slice_set s.contents.lists.now place row) (fits : FitsLists gone potential row)
      (also : objects.marked ≡ s.contents.objects.marked) (marked : its_lists.marked ≡ s.contents.lists.marked)
      (as_much : s.contents.objects.room ≤ objects.room) (less : s.contents.lists.room ≤ its_lists.room + 1) where
    abbrev pub with_lists : Columns
    with_lists = record s.contents { objects = objects; lists = its_lists }

    pub lists-indexed : IsIndexed (record s { contents = with_lists; room = s.room - 1 })
    lists-indexed =
        rows-indexed objects s.contents.values its_lists k.ascends gone potential values_row row (s.room - 1) now
        same_values rows own_rows.0 fits also refl marked (omega arith) as_much (omega (arith, is.has_room.values))
        (omega (arith, less, is.has_room.its_lists))

    pub lists-become : (f : Process → Process)
        → f (process_held s.contents.channels.now pid values_row lists_row k)
        ≡ process_held s.contents.channels.now pid values_row row (record k { gone = gone })
        → Becomes (state_of (held_now s.contents)) pid f (state_of (held_now with_lists))
    lists-become =
        rows-become objects s.contents.values its_lists k.ascends gone potential values_row row (s.room - 1) now
        same_values rows own_rows.0 fits also refl marked (omega arith) as_much (omega (arith, is.has_room.values))
        (omega (arith, less, is.has_room.its_lists))
