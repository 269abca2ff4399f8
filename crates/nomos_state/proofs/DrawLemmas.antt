-- Numbers are drawn that no object and no name has.
use Rattle.std.proofs.Common.{◌≤◌, ◌<◌, ℕ, refl, arith}
use Rattle.std.proofs.lemmas.List.Elements.{All-weaker}
use Rattle.nomos_slots.specs.Numbers.{numbers}
use Rattle.nomos_state.specs.Indexed.{Holding, IsHolding, IsIndexed, held_now}
use Rattle.nomos_state.specs.Together.{MarksTheSame}
use Rattle.nomos_state.specs.declared.inside.Inside.TheInside.{Inside}
use Rattle.nomos_state.proofs.TogetherLemmas.{marked-holding, same-names, together-same}

holding-drawn : (h : Holding) (next_object next_name : ℕ) → IsHolding h → h.drawn.next_object ≤ next_object
    → h.drawn.next_name ≤ next_name
    → IsHolding (record h { drawn = record h.drawn { next_object = next_object; next_name = next_name } })
holding-drawn h next_object next_name is object name = record {
  value_rows = is.value_rows;
  list_rows = is.list_rows;
  ascending = is.ascending;
  below =
      All-weaker (λ n. n < h.drawn.next_object) (λ n. n < next_object) (λ n under. omega (arith, under, object))
      (numbers h.slots) is.below;
  names_ascending = is.names_ascending;
  names_below =
      All-weaker (λ n. n < h.drawn.next_name) (λ n. n < next_name) (λ n under. omega (arith, under, name))
      (numbers h.names) is.names_below;
  fit = is.fit;
  held = is.held;
}

module _ (s : Inside) (is : IsIndexed s) (next_object next_name : ℕ)
    (object : s.contents.numbers.next_object ≤ next_object)
    (name : s.contents.numbers.next_name ≤ next_name) where
  abbrev pub drawn_up : Inside
  drawn_up = record s {
    contents = record s.contents {
      numbers = record s.contents.numbers { next_object = next_object; next_name = next_name };
    };
  }

  marks : MarksTheSame s.contents drawn_up.contents
  marks = record {
    objects = refl;
    values = refl;
    its_lists = refl;
    channels = same-names s.contents.channels.marked s.contents.channels.marked refl;
    names = refl;
    balances = refl;
    outside = refl;
    results = refl;
  }

  pub drawn-indexed : IsIndexed drawn_up
  drawn-indexed = record {
    now = holding-drawn (held_now s.contents) next_object next_name is.now object name;
    together = together-same s.contents drawn_up.contents s.marked marks is.together;
    marked = marked-holding s.contents drawn_up.contents s.marked marks is.marked;
    has_room = record {
      objects = is.has_room.objects;
      values = is.has_room.values;
      its_lists = is.has_room.its_lists;
      channels = is.has_room.channels;
      names = is.has_room.names;
    };
    has_seats = record { balances = is.has_seats.balances; outside = is.has_seats.outside };
  }
