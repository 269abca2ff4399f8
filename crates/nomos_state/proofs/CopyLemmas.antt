-- What is copied place by place, and channels variable by variable.
use Rattle.std.proofs.Common.{◌≡◌, ◌∙◌, ◌<◌, ◌≤◌, ◌≢◌, ◌+◌, ℕ, zero, suc, cond, List, [], ◌∷◌, ◌++◌, drop, take, length, All, IsSome, Option, Some, None, Ordering, Less, Equal, Greater, refl, sym, ap, subst, inl, inr, arith, ne_eqb, append_assoc}
use Rattle.std.proofs.lemmas.Bool.{cases_eq, cases_lt}
use Rattle.std.proofs.lemmas.Cmp.{ranked}
use Rattle.std.proofs.lemmas.List.Elements.{All-nil, All-cons, All-head, All-tail, All-append}
use Rattle.std.specs.List.{slice_get}
use Rattle.std.specs.Option.{option_to_list}
use Rattle.std.specs.Ordering.{match_ordering}
use Rattle.nomos_ir.specs.Bindings.{bind, bound_to, by_number}
use Rattle.nomos_ir.specs.declared.ids.TypeId.{TypeId}
use Rattle.nomos_ir.specs.declared.ids.VarId.{VarId}
use Rattle.nomos_ir.proofs.BindingLaws.{ascending-same, bind-ascending, bindings_of-ascending, bound-after_bind, bound-after_bind_other}
use Rattle.nomos_machine.specs.declared.object.Object.{Object}
use Rattle.nomos_slots.specs.Cells.{Cell, name_in}
use Rattle.nomos_slots.specs.declared.numbered.Slot.{Slot}
use Rattle.nomos_state.specs.Copying.{AreChannelsBelow}
use Rattle.nomos_state.specs.Indexed.{Holding, IsHolding, standing_at}
use Rattle.nomos_state.specs.Objects.{ListRow, ValueRow, channels_of, entries_of, objects_of, types_of}
use Rattle.nomos_state.specs.Sought.{typed_at}
use Rattle.nomos_state.specs.declared.kept.Kept.{Kept}
use Rattle.nomos_state.proofs.ChannelLemmas.{bound-in_channels}
use Rattle.nomos_state.proofs.SeekLemmas.{first-is, standing_in}
use Rattle.nomos_state.proofs.SpanLemmas.{none_of}

-- ---- a variable over all others

module _ {X : Type 0} where
  -- all variables are below this one
  abbrev AreBelow : ℕ → List (VarId × X) → Type 0
  AreBelow n b = All (λ e. e.0.0 < n) b

  -- such a one is not bound
  below-unbound : (n v : ℕ) (b : List (VarId × X)) → AreBelow n b → n ≤ v → bound_to v b ≡ None
  below-unbound n v [] below from = refl
  below-unbound n v (e ∷ b) below from =
      let lower : e.0.0 < n = All-head (λ e. e.0.0 < n) e b below in
      let other : e.0.0 ≢ v = omega arith in
      ap (λ t. cond t (Some e.1) (bound_to v b)) (ne_eqb e.0.0 v other)
      ∙ below-unbound n v b (All-tail (λ e. e.0.0 < n) e b below) from

  -- it is bound last
  placed-last : (v : VarId) (x : X) (e : VarId × X) (b : List (VarId × X)) (o : Ordering) → o ≡ by_number v e.0
      → e.0.0 < v.0 → bind v x b ≡ b ++ (v, x) ∷ []
      → match_ordering o ((v, x) ∷ e ∷ b) ((e.0, x) ∷ b) (e ∷ bind v x b) ≡ e ∷ (b ++ (v, x) ∷ [])
  placed-last v x e b Less order below rest =
      absurd (let less : v.0 < e.0.0 = ranked v.0 e.0.0 Less order in omega (arith, less, below))
  placed-last v x e b Equal order below rest =
      absurd (let same : v.0 ≡ e.0.0 = ranked v.0 e.0.0 Equal order in omega (arith, same, below))
  placed-last v x e b Greater order below rest = ap (λ (l : List (VarId × X)). e ∷ l) rest

  bind-last : (v : VarId) (x : X) (b : List (VarId × X)) → AreBelow v.0 b → bind v x b ≡ b ++ (v, x) ∷ []
  bind-last v x [] below = refl
  bind-last v x (e ∷ b) below =
      placed-last v x e b (by_number v e.0) refl (All-head (λ p. p.0.0 < v.0) e b below)
      (bind-last v x b (All-tail (λ p. p.0.0 < v.0) e b below))

  below-more : (n : ℕ) (b : List (VarId × X)) → AreBelow n b → AreBelow (n + 1) b
  below-more n [] below = All-nil (λ e. e.0.0 < n + 1)
  below-more n (e ∷ b) below =
      let lower : e.0.0 < n = All-head (λ e. e.0.0 < n) e b below in
      let here : e.0.0 < n + 1 = omega arith in
      All-cons (λ e. e.0.0 < n + 1) e b here (below-more n b (All-tail (λ e. e.0.0 < n) e b below))

  below-over : (n m : ℕ) → n ≤ m → (b : List (VarId × X)) → AreBelow n b → AreBelow m b
  below-over n m over [] below = All-nil (λ e. e.0.0 < m)
  below-over n m over (e ∷ b) below =
      let lower : e.0.0 < n = All-head (λ e. e.0.0 < n) e b below in
      let here : e.0.0 < m = omega arith in
      All-cons (λ e. e.0.0 < m) e b here (below-over n m over b (All-tail (λ e. e.0.0 < n) e b below))

-- ---- channels

module _ (cells : List Cell) (process : ℕ) where
  -- no channel is below where the span begins
  pub channels-none : (low : ℕ) → ((v : ℕ) → IsSome (name_in cells process v) → low ≤ v)
      → AreChannelsBelow cells process low []
  channels-none low spans = record {
    ascending = bindings_of-ascending {X = ℕ} [];
    below = All-nil (λ (e : VarId × ℕ). e.0.0 < low);
    bound = λ v below.
        sym (none_of (name_in cells process v) (λ some. let from : low ≤ v = spans v some in absurd (omega arith)));
  }

  module _ (v : ℕ) (made : List (VarId × ℕ)) (is : AreChannelsBelow cells process v made) where
    -- the variable has a name
    pub channels-more : (name : ℕ) → name_in cells process v ≡ Some name
        → AreChannelsBelow cells process (v + 1) (made ++ (record { 0 = v }, name) ∷ [])
    channels-more name has =
        subst (AreChannelsBelow cells process (v + 1)) (bind-last w name made is.below) (record {
          ascending = bind-ascending w name made is.ascending;
          below =
              subst (λ (b : List (VarId × ℕ)). All (λ e. e.0.0 < v + 1) b) (sym (bind-last w name made is.below))
              (All-append (λ e. e.0.0 < v + 1) made ((w, name) ∷ []) (below-more v made is.below)
              (All-cons (λ e. e.0.0 < v + 1) (w, name) [] within (All-nil (λ e. e.0.0 < v + 1))));
          bound = bound;
        })
      where
        w : VarId
        w = record { 0 = v }

        within : v < v + 1
        within = omega arith

        bound : (u : ℕ) → u < v + 1 → bound_to u (bind w name made) ≡ name_in cells process u
        bound u below =
            elim (cases_eq u v) [
              | inl same ↦
                  ap (λ i. bound_to i (bind w name made)) same
                  ∙ bound-after_bind w name made
                  ∙ sym has
                  ∙ ap (name_in cells process) (sym same)
              | inr other ↦ bound-after_bind_other u w name made other ∙ is.bound u (omega arith)
            ]

    -- it has none
    pub channels-same : name_in cells process v ≡ None → AreChannelsBelow cells process (v + 1) made
    channels-same none = record {
      ascending = is.ascending;
      below = below-more v made is.below;
      bound = λ u below.
          elim (cases_eq u v) [
            | inl same ↦
                below-unbound v u made is.below (omega arith) ∙ sym none ∙ ap (name_in cells process) (sym same)
            | inr other ↦ is.bound u (omega arith)
          ];
    }

    -- none of those that are gone over has one
    pub channels-skip : (next : ℕ) → v ≤ next → ((u : ℕ) → v ≤ u → u < next → name_in cells process u ≡ None)
        → AreChannelsBelow cells process next made
    channels-skip next over none = record {
      ascending = is.ascending;
      below = below-over v next over made is.below;
      bound = λ u below.
          elim (cases_lt u v) [
            | inl before ↦ is.bound u before
            | inr from ↦ below-unbound v u made is.below from ∙ sym (none u from below)
          ];
    }

    -- no channel is over where the span ends
    pub channels-all : ((u : ℕ) → IsSome (name_in cells process u) → u < v) → made ≡ channels_of cells process
    channels-all spans =
        ascending-same made (channels_of cells process) is.ascending
        (bindings_of-ascending (entries_of cells process))
        (λ u. alike u ∙ sym (bound-in_channels cells process u))
      where
        alike : (u : ℕ) → bound_to u made ≡ name_in cells process u
        alike u =
            elim (cases_lt u v) [
              | inl below ↦ is.bound u below
              | inr from ↦
                  below-unbound v u made is.below from
                  ∙ sym (none_of (name_in cells process u)
                  (λ some. let below : u < v = spans u some in absurd (omega arith)))
            ]

-- ---- objects

module _ (cells : List Cell) where
  -- the objects from a place on
  abbrev pub objects_from : List (Slot Kept) → List ValueRow → List ListRow → ℕ → List Object
  objects_from slots vs ls place = objects_of cells (drop place slots) (drop place vs) (drop place ls)

  objects-step : (slots : List (Slot Kept)) (vs : List ValueRow) (ls : List ListRow) (place : ℕ)
      → length vs ≡ length slots → length ls ≡ length slots → place < length slots
      → objects_from slots vs ls place
      ≡ option_to_list (standing_in cells slots vs ls place) ++ objects_from slots vs ls (suc place)
  objects-step [] vs ls place long also within = absurd (omega arith)
  objects-step (s ∷ slots) [] ls place long also within = absurd (omega arith)
  objects-step (s ∷ slots) (v ∷ vs) [] place long also within = absurd (omega arith)
  objects-step (s ∷ slots) (v ∷ vs) (l ∷ ls) zero long also within =
      ap (λ o. option_to_list o ++ objects_of cells slots vs ls) (sym (first-is cells s slots v vs l ls))
  objects-step (s ∷ slots) (v ∷ vs) (l ∷ ls) (suc place) long also within =
      objects-step slots vs ls place (omega arith) (omega arith) (omega arith)

-- the same of what is held
abbrev pub objects_on : Holding → ℕ → List Object
objects_on h place = objects_from h.cells h.slots h.value_rows h.list_rows place

pub objects-next : (h : Holding) → IsHolding h → (place : ℕ) → place < length h.slots
    → objects_on h place ≡ option_to_list (standing_at h place) ++ objects_on h (place + 1)
objects-next h is place within =
    let same : suc place ≡ place + 1 = omega arith in
    objects-step h.cells h.slots h.value_rows h.list_rows place is.value_rows is.list_rows within
    ∙ ap (λ (n : ℕ). option_to_list (standing_at h place) ++ objects_on h n) same

-- ---- names that have types

types-step : (names : List (Slot TypeId)) (place : ℕ) → place < length names
    → types_of (drop place names) ≡ option_to_list (typed_at names place) ++ types_of (drop (suc place) names)
types-step [] place within = absurd (omega arith)
types-step (s ∷ names) zero within = refl
types-step (s ∷ names) (suc place) within = types-step names place (omega arith)

pub types-next : (names : List (Slot TypeId)) (place : ℕ) → place < length names
    → types_of (drop place names) ≡ option_to_list (typed_at names place) ++ types_of (drop (place + 1) names)
types-next names place within =
    let same : suc place ≡ place + 1 = omega arith in
    types-step names place within
    ∙ ap (λ (n : ℕ). option_to_list (typed_at names place) ++ types_of (drop n names)) same

-- ---- one more that may be there

-- it comes to those before, and the others are left
pub pushed : {X : Type 0} (made after : List X) (o : Option X) (rest from all : List X)
    → after ≡ made ++ option_to_list o → from ≡ option_to_list o ++ rest → made ++ from ≡ all → after ++ rest ≡ all
pushed made after o rest from all is next before =
    ap (λ l. l ++ rest) is
    ∙ append_assoc made (option_to_list o) rest
    ∙ ap (λ l. made ++ l) (sym next)
    ∙ before

-- the first items and the one behind them
taken-step : {X : Type 0} (xs : List X) (i : ℕ) → take (suc i) xs ≡ take i xs ++ option_to_list (slice_get xs i)
taken-step [] zero = refl
taken-step [] (suc i) = refl
taken-step (x ∷ xs) zero = refl
taken-step (x ∷ xs) (suc i) = ap (λ l. x ∷ l) (taken-step xs i)

pub taken-more : {X : Type 0} (xs : List X) (i : ℕ) → take (i + 1) xs ≡ take i xs ++ option_to_list (slice_get xs i)
taken-more xs i =
    let same : i + 1 ≡ suc i = omega arith in
    ap (λ (n : ℕ). take n xs) same ∙ taken-step xs i
