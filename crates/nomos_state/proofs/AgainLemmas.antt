-- What is kept is in order again, where objects, rows and channels changed and the marks stayed.
use Rattle.std.proofs.Common.{◌≡◌, ◌≤◌, ◌∙◌, ℕ, List, Result, Ok, Err, OnErr, refl, sym, ap, subst, arith}
use Rattle.std.specs.Option.{option_map}
use Rattle.nomos_ir.specs.Value.{Value}
use Rattle.nomos_ir.specs.declared.ids.VarId.{VarId}
use Rattle.nomos_machine.specs.declared.object.PotentialList.{PotentialList}
use Rattle.nomos_slots.specs.Cells.{Cell, name_in}
use Rattle.nomos_slots.specs.Marking.{Marking}
use Rattle.nomos_slots.specs.ChannelTables.{HaveSameNames}
use Rattle.nomos_slots.specs.Shelving.{Shelving}
use Rattle.nomos_slots.specs.declared.numbered.Slot.{Slot}
use Rattle.nomos_state.specs.Indexed.{HasRoom, IsHolding, IsIndexed, held_marked, held_now, state_of}
use Rattle.nomos_state.specs.Objects.{ListRow, ValueRow}
use Rattle.nomos_state.specs.Together.{MarksTheSame}
use Rattle.nomos_state.specs.declared.inside.Columns.{Columns}
use Rattle.nomos_state.specs.declared.inside.Inside.TheInside.{Inside}
use Rattle.nomos_state.specs.declared.inside.Numbers.{Numbers}
use Rattle.nomos_state.specs.declared.kept.Kept.{Kept}
use Rattle.nomos_state.proofs.TogetherLemmas.{marked-holding, marked-same, same-names, state-same, together-same}

module _ (s : Inside) (objects : Marking (Slot Kept)) (values : Shelving (VarId × Value))
    (its_lists : Shelving (VarId × PotentialList)) (channels : Marking Cell) (numbers : Numbers)
    (o : objects.marked ≡ s.contents.objects.marked) (v : values.marked ≡ s.contents.values.marked)
    (l : its_lists.marked ≡ s.contents.lists.marked)
    (c : HaveSameNames s.contents.channels.marked channels.marked) where
  abbrev pub contents_again : Columns
  contents_again = record s.contents {
    objects = objects;
    values = values;
    lists = its_lists;
    channels = channels;
    numbers = numbers;
  }

  marks : MarksTheSame s.contents contents_again
  marks = record {
    objects = o;
    values = v;
    its_lists = l;
    channels = c;
    names = refl;
    balances = refl;
    outside = refl;
    results = refl;
  }

  pub marks-again : option_map state_of (held_marked contents_again s.marked)
      ≡ option_map state_of (held_marked s.contents s.marked)
  marks-again = marked-same s.contents contents_again s.marked marks

  pub indexed-again : (room : ℕ) → IsIndexed s → IsHolding (held_now contents_again) → HasRoom contents_again room
      → IsIndexed (record s { contents = contents_again; room = room })
  indexed-again room is holding has = record {
    now = holding;
    together = together-same s.contents contents_again s.marked marks is.together;
    marked = marked-holding s.contents contents_again s.marked marks is.marked;
    has_room = has;
    has_seats = record { balances = is.has_seats.balances; outside = is.has_seats.outside };
  }

-- ---- names that are kept elsewhere

-- where a call failed
pub on_any_err : {T E P : Type 0} (r : Result T E) → P → OnErr r P
on_any_err (Ok x) holds = tt
on_any_err (Err e) holds = holds

module _ (s : Inside) (channels : Marking Cell)
    (names : (p v : ℕ) → name_in channels.now p v ≡ name_in s.contents.channels.now p v)
    (c : HaveSameNames s.contents.channels.marked channels.marked) where
  abbrev pub moved : Columns
  moved = record s.contents { channels = channels }

  pub moved-state : state_of (held_now moved) ≡ state_of (held_now s.contents)
  moved-state = state-same (held_now s.contents) (held_now moved) (record {
    slots = refl;
    value_rows = refl;
    list_rows = refl;
    channels = names;
    names = refl;
    balances = refl;
    outside = refl;
    results = refl;
    drawn = refl;
  })

  pub moved-marks : option_map state_of (held_marked moved s.marked) ≡ option_map state_of
      (held_marked s.contents s.marked)
  moved-marks = marks-again s s.contents.objects s.contents.values s.contents.lists channels s.contents.numbers refl
      refl refl c

-- ---- rows that are kept elsewhere

module _ (s : Inside) (values : Shelving (VarId × Value)) (its_lists : Shelving (VarId × PotentialList))
    (same : values.now ≡ s.contents.values.now) (alike : its_lists.now ≡ s.contents.lists.now)
    (v : values.marked ≡ s.contents.values.marked) (l : its_lists.marked ≡ s.contents.lists.marked) where
  abbrev pub resting : Columns
  resting = record s.contents { values = values; lists = its_lists }

  resting-held : held_now resting ≡ held_now s.contents
  resting-held =
      ap (λ (vs : List ValueRow). record (held_now s.contents) { value_rows = vs; list_rows = its_lists.now }) same
      ∙ ap (λ (ls : List ListRow). record (held_now s.contents) { list_rows = ls }) alike

  pub resting-state : state_of (held_now resting) ≡ state_of (held_now s.contents)
  resting-state = ap state_of resting-held

  same_cells : HaveSameNames s.contents.channels.marked s.contents.channels.marked
  same_cells = same-names s.contents.channels.marked s.contents.channels.marked refl

  pub resting-marks : option_map state_of (held_marked resting s.marked)
      ≡ option_map state_of (held_marked s.contents s.marked)
  resting-marks =
      marks-again s s.contents.objects values its_lists s.contents.channels s.contents.numbers refl v l same_cells

  pub resting-indexed : (room : ℕ) → IsIndexed s → room ≤ s.room → room ≤ values.room → room ≤ its_lists.room
      → IsIndexed (record s { contents = resting; room = room })
  resting-indexed room is less has has_lists =
      indexed-again s s.contents.objects values its_lists s.contents.channels s.contents.numbers refl v l same_cells
      room
      is
      (subst IsHolding (sym resting-held) is.now)
      (record {
        objects = omega (arith, less, is.has_room.objects);
        values = has;
        its_lists = has_lists;
        channels = omega (arith, less, is.has_room.channels);
        names = omega (arith, less, is.has_room.names);
      })
