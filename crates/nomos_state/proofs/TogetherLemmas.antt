-- Where parts hold, and mark, the same, the state is the same; and what is marked together stays so.
use Rattle.std.proofs.Common.{◌≡◌, ◌∙◌, ◌<◌, ℕ, List, length, All, IfSome, IsSome, Option, Some, None, refl, sym, ap, subst}
use Rattle.std.specs.Option.{is_some, option_map}
use Rattle.nomos_ir.specs.Value.{Value}
use Rattle.nomos_ir.specs.declared.ids.TypeId.{TypeId}
use Rattle.nomos_machine.specs.Optional.{◌>>=◌}
use Rattle.nomos_slots.specs.Cells.{Cell}
use Rattle.nomos_slots.specs.Numbers.{IsAscending, numbers}
use Rattle.nomos_slots.specs.ChannelTables.{HaveSameNames}
use Rattle.nomos_slots.specs.declared.numbered.Slot.{Slot}
use Rattle.nomos_state.specs.Indexed.{AreMarkedTogether, Holding, IsHolding, held_marked, state_of}
use Rattle.nomos_state.specs.Objects.{FitRows, AreHeld, ListRow, ValueRow}
use Rattle.nomos_state.specs.Together.{HoldsTheSame, MarksTheSame}
use Rattle.nomos_state.specs.declared.inside.Columns.{Columns}
use Rattle.nomos_state.specs.declared.inside.Numbers.{Numbers}
use Rattle.nomos_state.specs.declared.kept.Kept.{Kept}
use Rattle.nomos_state.proofs.ChannelLemmas.{objects-same}

-- ---- what holds the same stands for the same state

pub state-same : (before after : Holding) → HoldsTheSame before after → state_of after ≡ state_of before
state-same before after same =
    let cells = objects-same before.cells after.cells after.slots after.value_rows after.list_rows same.channels in
    let slots = same.slots in
    let values = same.value_rows in
    let its_lists = same.list_rows in
    let names = same.names in
    let balances = same.balances in
    let outside = same.outside in
    let results = same.results in
    let drawn = same.drawn in
    cc

pub holding-same : (before after : Holding) → HoldsTheSame before after → IsHolding before → IsHolding after
holding-same before after same is = record {
  value_rows = ap length same.value_rows ∙ is.value_rows ∙ sym (ap length same.slots);
  list_rows = ap length same.list_rows ∙ is.list_rows ∙ sym (ap length same.slots);
  ascending = subst IsAscending (sym same.slots) is.ascending;
  below =
      let Below : List (Slot Kept) → Numbers → Type 0 = λ slots drawn. All (λ n. n < drawn.next_object)
      (numbers slots) in
      subst (λ (d : Numbers). Below after.slots d) (sym same.drawn)
      (subst (λ (s : List (Slot Kept)). Below s before.drawn) (sym same.slots) is.below);
  names_ascending = subst IsAscending (sym same.names) is.names_ascending;
  names_below =
      let Below : List (Slot TypeId) → Numbers → Type 0 = λ names drawn. All (λ n. n < drawn.next_name)
      (numbers names) in
      subst (λ (d : Numbers). Below after.names d) (sym same.drawn)
      (subst (λ (s : List (Slot TypeId)). Below s before.drawn) (sym same.names) is.names_below);
  fit =
      subst (λ (r : List ListRow). FitRows after.slots after.value_rows r) (sym same.list_rows)
      (subst (λ (r : List ValueRow). FitRows after.slots r before.list_rows) (sym same.value_rows)
      (subst (λ (s : List (Slot Kept)). FitRows s before.value_rows before.list_rows) (sym same.slots) is.fit));
  held =
      subst (λ (s : List (Slot Kept)). AreHeld s after.cells) (sym same.slots)
      (λ p v has. is.held p v (subst (λ (o : Option ℕ). IsSome o) (same.channels p v) has));
}

-- ---- what is marked

-- what is marked, gathered from its parts
abbrev pub gather : Option Numbers → Option (List (Slot Kept)) → Option (List ValueRow) → Option (List ListRow)
    → Option (List Cell) → Option (List (Slot TypeId)) → Option (List ℕ) → Option (List ℕ)
    → Option (List (ℕ × Value)) → Option Holding
gather drawn slots value_rows list_rows cells names balances outside results = do
  d ← drawn
  s ← slots
  v ← value_rows
  l ← list_rows
  c ← cells
  n ← names
  b ← balances
  o ← outside
  r ← results
  Some (record {
    slots = s;
    value_rows = v;
    list_rows = l;
    cells = c;
    names = n;
    balances = b;
    outside = o;
    results = r;
    drawn = d;
  })

-- both hold the same, or neither is there
abbrev HoldTheSame : Option Holding → Option Holding → Type 0
HoldTheSame (Some before) (Some after) = HoldsTheSame before after
HoldTheSame None None = Unit {0}
HoldTheSame _ _ = ⊥

gather-same : (d : Option Numbers) (s : Option (List (Slot Kept))) (v : Option (List ValueRow))
    (l : Option (List ListRow)) (before after : Option (List Cell)) (n : Option (List (Slot TypeId)))
    (b o : Option (List ℕ)) (r : Option (List (ℕ × Value))) → HaveSameNames before after
    → HoldTheSame (gather d s v l before n b o r) (gather d s v l after n b o r)
gather-same None s v l before after n b o r same = tt
gather-same (Some d) None v l before after n b o r same = tt
gather-same (Some d) (Some s) None l before after n b o r same = tt
gather-same (Some d) (Some s) (Some v) None before after n b o r same = tt
gather-same (Some d) (Some s) (Some v) (Some l) None None n b o r same = tt
gather-same (Some d) (Some s) (Some v) (Some l) None (Some y) n b o r same = absurd same
gather-same (Some d) (Some s) (Some v) (Some l) (Some x) None n b o r same = absurd same
gather-same (Some d) (Some s) (Some v) (Some l) (Some x) (Some y) None b o r same = tt
gather-same (Some d) (Some s) (Some v) (Some l) (Some x) (Some y) (Some n) None o r same = tt
gather-same (Some d) (Some s) (Some v) (Some l) (Some x) (Some y) (Some n) (Some b) None r same = tt
gather-same (Some d) (Some s) (Some v) (Some l) (Some x) (Some y) (Some n) (Some b) (Some o) None same = tt
gather-same (Some d) (Some s) (Some v) (Some l) (Some x) (Some y) (Some n) (Some b) (Some o) (Some r) same = record {
  slots = refl;
  value_rows = refl;
  list_rows = refl;
  channels = same;
  names = refl;
  balances = refl;
  outside = refl;
  results = refl;
  drawn = refl;
}

module _ (before after : Columns) (m : Option Numbers) (same : MarksTheSame before after) where
  -- what is marked is the same, but for where names are kept
  hold-same : HoldTheSame (held_marked before m) (held_marked after m)
  hold-same =
      let objects = same.objects in
      let values = same.values in
      let its_lists = same.its_lists in
      let names = same.names in
      let balances = same.balances in
      let outside = same.outside in
      let results = same.results in
      let g = gather m in
      let moved : (f : Option (List (Slot Kept)) → Option (List ValueRow) → Option (List ListRow)
      → Option (List Cell) → Option (List (Slot TypeId)) → Option (List ℕ) → Option (List ℕ)
      → Option (List (ℕ × Value)) → Option Holding)
      → f before.objects.marked before.values.marked before.lists.marked after.channels.marked before.names.marked
      before.balances.marked before.outside.marked before.results.marked
      ≡ f after.objects.marked after.values.marked after.lists.marked after.channels.marked after.names.marked
      after.balances.marked after.outside.marked after.results.marked
      = λ f. cc in
      subst (HoldTheSame (held_marked before m)) (moved g)
      (gather-same m before.objects.marked before.values.marked before.lists.marked before.channels.marked
      after.channels.marked before.names.marked before.balances.marked before.outside.marked before.results.marked
      same.channels)

  pub marked-same : option_map state_of (held_marked after m) ≡ option_map state_of (held_marked before m)
  marked-same = at (held_marked before m) (held_marked after m) hold-same
    where
      at : (x y : Option Holding) → HoldTheSame x y → option_map state_of y ≡ option_map state_of x
      at (Some x) (Some y) same = ap Some (state-same x y same)
      at None None same = refl
      at (Some x) None same = absurd same
      at None (Some y) same = absurd same

  pub marked-holding : IfSome (held_marked before m) IsHolding → IfSome (held_marked after m) IsHolding
  marked-holding is = at (held_marked before m) (held_marked after m) hold-same is
    where
      at : (x y : Option Holding) → HoldTheSame x y → IfSome x IsHolding → IfSome y IsHolding
      at (Some x) (Some y) same is = holding-same x y same is
      at None None same is = tt
      at (Some x) None same is = absurd same
      at None (Some y) same is = absurd same

  pub together-same : AreMarkedTogether before m → AreMarkedTogether after m
  together-same all = record {
    objects = ap is_some same.objects ∙ all.objects;
    values = ap is_some same.values ∙ all.values;
    its_lists = ap is_some same.its_lists ∙ all.its_lists;
    channels = at before.channels.marked after.channels.marked same.channels ∙ all.channels;
    names = ap is_some same.names ∙ all.names;
    balances = ap is_some same.balances ∙ all.balances;
    outside = ap is_some same.outside ∙ all.outside;
    results = ap is_some same.results ∙ all.results;
  }
    where
      at : (x y : Option (List Cell)) → HaveSameNames x y → is_some y ≡ is_some x
      at (Some x) (Some y) same = refl
      at None None same = refl
      at (Some x) None same = absurd same
      at None (Some y) same = absurd same

-- the same marks have the same names
pub same-names : (before after : Option (List Cell)) → after ≡ before → HaveSameNames before after
same-names before after same = subst (HaveSameNames before) (sym same) (own before)
  where
    own : (x : Option (List Cell)) → HaveSameNames x x
    own (Some x) = λ p v. refl
    own None = tt

-- ---- room
