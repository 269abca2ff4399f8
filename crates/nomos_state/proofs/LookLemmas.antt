-- Objects stand in order at the places of their slots, and are found under their numbers; so are the types of names.
use Rattle.std.proofs.Common.{◌≡◌, ◌≢◌, ◌∙◌, ◌<◌, ◌⊎◌, inl, inr, ℕ, zero, suc, cond, List, [], ◌∷◌, ◌++◌, map, length, All, IfSome, Option, Some, None, Less, refl, sym, ap, subst, arith, eq-eqb, ne_eqb}
use Rattle.std.proofs.lemmas.Bool.{cases_eq}
use Rattle.std.proofs.lemmas.Cmp.{ranked}
use Rattle.std.proofs.lemmas.List.Elements.{All-nil, All-cons, All-head, All-tail}
use Rattle.std.proofs.lemmas.Map.Keys.{sorted_head, sorted_tail}
use Rattle.std.proofs.lemmas.Option.{none-some, same_Some}
use Rattle.std.specs.List.{slice_get, slice_index_or, AllByRecursion}
use Rattle.std.specs.List.Sorted.{IsStrictlySortedBy}
use Rattle.std.specs.Ordering.{nat_cmp}
use Rattle.std.specs.Option.{option_map, option_to_list}
use Rattle.nomos_ir.specs.declared.ids.TypeId.{TypeId}
use Rattle.nomos_machine.specs.Objects.{object_number, object_at, process_of}
use Rattle.nomos_machine.specs.Optional.{◌>>=◌}
use Rattle.nomos_machine.specs.State.{NameTypes, process_at, type_of}
use Rattle.nomos_machine.specs.declared.object.Object.{Object}
use Rattle.nomos_machine.specs.declared.object.Process.{Process}
use Rattle.nomos_machine.proofs.NameLaws.{type_of-first, type_of-further}
use Rattle.nomos_machine.proofs.PutLaws.{InOrder, object_at-first, object_at-further}
use Rattle.nomos_slots.specs.Cells.{Cell}
use Rattle.nomos_slots.specs.Numbers.{IsAscending, found, numbers}
use Rattle.nomos_slots.specs.declared.numbered.Slot.{Slot}
use Rattle.nomos_state.specs.Indexed.{Holding, IsHolding, standing_at, state_of}
use Rattle.nomos_state.specs.Objects.{ListRow, ValueRow, kept_in, object_of, objects_of, process_held, types_of}
use Rattle.nomos_state.specs.declared.kept.Kept.{Kept}
use Rattle.nomos_state.specs.declared.kept.Kept.TheVariants as kept
use Rattle.nomos_state.specs.declared.kept.KeptProcess.{KeptProcess}

-- ---- slots

module _ {X : Type 0} where
  -- all numbers are above this one
  abbrev pub AllOver : ℕ → List (Slot X) → Type 0
  AllOver least slots = AllByRecursion (λ n. nat_cmp least n ≡ Less) (numbers slots)

  pub slots-head : (s : Slot X) (slots : List (Slot X)) → IsAscending (s ∷ slots) → AllOver s.number slots
  slots-head s slots order = sorted_head nat_cmp s.number (numbers slots) order

  pub slots-tail : (s : Slot X) (slots : List (Slot X)) → IsAscending (s ∷ slots) → IsAscending slots
  slots-tail s slots order = sorted_tail nat_cmp s.number (numbers slots) order

  -- what is above a number is other than it
  pub over-other : (n : ℕ) (slots : List (Slot X)) → AllOver n slots → All (λ m. m ≢ n) (numbers slots)
  over-other n [] over = All-nil (λ m. m ≢ n)
  over-other n (s ∷ slots) over =
      let lower : n < s.number = ranked n s.number Less (sym over.0) in
      let other : s.number ≢ n = omega arith in
      All-cons (λ m. m ≢ n) s.number (numbers slots) other (over-other n slots over.1)

  -- the number that stands at a place is that of the slot there
  pub slot-at : (slots : List (Slot X)) (place n : ℕ) → slice_get (numbers slots) place ≡ Some n
      → (s : Slot X) × (slice_get slots place ≡ Some s) × (s.number ≡ n)
  slot-at [] place n at = absurd (none-some n at)
  slot-at (s ∷ slots) zero n at = (s, refl, same_Some s.number n at)
  slot-at (s ∷ slots) (suc place) n at = slot-at slots place n at

  -- a number stands at a place, or no slot has it
  pub number-cases : (slots : List (Slot X)) (n : ℕ)
      → All (λ m. m ≢ n) (numbers slots) ⊎ ((place : ℕ) × (slice_get (numbers slots) place ≡ Some n))
  number-cases [] n = inl (All-nil (λ m. m ≢ n))
  number-cases (s ∷ slots) n =
      elim (cases_eq s.number n) [
        | inl same ↦ inr (0, ap Some same)
        | inr other ↦
            elim (number-cases slots n) [
              | inl none ↦ inl (All-cons (λ m. m ≢ n) s.number (numbers slots) other none)
              | inr there ↦ inr (suc there.0, there.1)
            ]
      ]

-- ---- objects

pub number-own : (cells : List Cell) (n : ℕ) (v : ValueRow) (l : ListRow) (k : Kept)
    → object_number (object_of cells n v l k) ≡ n
number-own cells n v l (kept.Process k) = refl
number-own cells n v l (kept.Message k) = refl

at-own : (n : ℕ) (o : Option Object) (rest : List Object) → IfSome o (λ x. object_number x ≡ n)
    → object_at rest n ≡ None → object_at (option_to_list o ++ rest) n ≡ o
at-own n None rest own none = none
at-own n (Some x) rest own none = object_at-first n x rest own

at-other : (n : ℕ) (o : Option Object) (rest : List Object) → IfSome o (λ x. object_number x ≢ n)
    → object_at (option_to_list o ++ rest) n ≡ object_at rest n
at-other n None rest other = refl
at-other n (Some x) rest other = object_at-further n x rest other

module _ (cells : List Cell) where
  -- the object of a slot, with its rows
  abbrev object_in : Slot Kept → ValueRow → ListRow → Option Object
  object_in s v l = option_map (object_of cells s.number v l) s.item

  has-number : (P : ℕ → Type 0) (n : ℕ) (v : ValueRow) (l : ListRow) (item : Option Kept) → P n
      → IfSome (option_map (object_of cells n v l) item) (λ x. P (object_number x))
  has-number P n v l None holds = tt
  has-number P n v l (Some k) holds = subst P (sym (number-own cells n v l k)) holds

  -- no object has a number that no slot has
  pub objects-none : (slots : List (Slot Kept)) (vs : List ValueRow) (ls : List ListRow) (n : ℕ)
      → All (λ m. m ≢ n) (numbers slots) → object_at (objects_of cells slots vs ls) n ≡ None
  objects-none [] vs ls n others = refl
  objects-none (s ∷ slots) [] ls n others = refl
  objects-none (s ∷ slots) (v ∷ vs) [] n others = refl
  objects-none (s ∷ slots) (v ∷ vs) (l ∷ ls) n others =
      let other : s.number ≢ n = All-head (λ m. m ≢ n) s.number (numbers slots) others in
      at-other n (object_in s v l) (objects_of cells slots vs ls) (has-number (λ m. m ≢ n) s.number v l s.item other)
      ∙ objects-none slots vs ls n (All-tail (λ m. m ≢ n) s.number (numbers slots) others)

  -- under the number of a slot its object is found
  pub objects-found : (slots : List (Slot Kept)) (vs : List ValueRow) (ls : List ListRow) (place : ℕ) (s : Slot Kept)
      → length vs ≡ length slots → length ls ≡ length slots → IsAscending slots → slice_get slots place ≡ Some s
      → object_at (objects_of cells slots vs ls) s.number
      ≡ object_in s (slice_index_or vs place []) (slice_index_or ls place [])
  objects-found [] vs ls place s long also order at = absurd (none-some s at)
  objects-found (e ∷ slots) [] ls place s long also order at = absurd (omega arith)
  objects-found (e ∷ slots) (v ∷ vs) [] place s long also order at = absurd (omega arith)
  objects-found (e ∷ slots) (v ∷ vs) (l ∷ ls) zero s long also order at =
      let same : e ≡ s = same_Some e s at in
      let others = over-other e.number slots (slots-head e slots order) in
      let Found : Slot Kept → Type 0 =
      λ t. object_at (objects_of cells (e ∷ slots) (v ∷ vs) (l ∷ ls)) t.number ≡ object_in t v l
      in
      let here : Found e =
      at-own e.number (object_in e v l) (objects_of cells slots vs ls)
      (has-number (λ m. m ≡ e.number) e.number v l e.item refl) (objects-none slots vs ls e.number others)
      in
      subst Found same here
  objects-found (e ∷ slots) (v ∷ vs) (l ∷ ls) (suc place) s long also order at =
      let over = slots-head e slots order in
      let lower : e.number < s.number = lower-at slots place over at in
      let other : e.number ≢ s.number = omega arith in
      at-other s.number (object_in e v l) (objects_of cells slots vs ls)
      (has-number (λ m. m ≢ s.number) e.number v l e.item other)
      ∙ objects-found slots vs ls place s (omega arith) (omega arith) (slots-tail e slots order) at
    where
      lower-at : (among : List (Slot Kept)) (p : ℕ) → AllOver e.number among → slice_get among p ≡ Some s
          → e.number < s.number
      lower-at [] p over at = absurd (none-some s at)
      lower-at (f ∷ among) zero over at =
          let lower : e.number < f.number = ranked e.number f.number Less (sym over.0) in
          let same : f.number ≡ s.number = ap (λ (t : Slot Kept). t.number) (same_Some f s at) in
          omega arith
      lower-at (f ∷ among) (suc p) over at = lower-at among p over.1 at

  -- objects stand in order
  objects-over : (least : ℕ) (slots : List (Slot Kept)) (vs : List ValueRow) (ls : List ListRow) → AllOver least slots
      → AllByRecursion (λ n. nat_cmp least n ≡ Less) (map object_number (objects_of cells slots vs ls))
  objects-over least [] vs ls over = tt
  objects-over least (s ∷ slots) [] ls over = tt
  objects-over least (s ∷ slots) (v ∷ vs) [] over = tt
  objects-over least (s ∷ slots) (v ∷ vs) (l ∷ ls) over = at s.item (objects-over least slots vs ls over.1)
    where
      rest : List Object
      rest = objects_of cells slots vs ls

      Over : List Object → Type 0
      Over objects = AllByRecursion (λ n. nat_cmp least n ≡ Less) (map object_number objects)

      at : (item : Option Kept) → Over rest → Over (option_to_list (option_map (object_of cells s.number v l) item)
          ++ rest)
      at None further = further
      at (Some k) further = (ap (nat_cmp least) (number-own cells s.number v l k) ∙ over.0, further)

  pub objects-in_order : (slots : List (Slot Kept)) (vs : List ValueRow) (ls : List ListRow) → IsAscending slots
      → InOrder (objects_of cells slots vs ls)
  unfolding IsStrictlySortedBy
  objects-in_order [] vs ls order = tt
  objects-in_order (s ∷ slots) [] ls order = tt
  objects-in_order (s ∷ slots) (v ∷ vs) [] order = tt
  objects-in_order (s ∷ slots) (v ∷ vs) (l ∷ ls) order =
      at s.item (objects-in_order slots vs ls (slots-tail s slots order))
    where
      rest : List Object
      rest = objects_of cells slots vs ls

      above : AllByRecursion (λ n. nat_cmp s.number n ≡ Less) (map object_number rest)
      above = objects-over s.number slots vs ls (slots-head s slots order)

      at : (item : Option Kept) → InOrder rest
          → InOrder (option_to_list (option_map (object_of cells s.number v l) item) ++ rest)
      at None further = further
      at (Some k) further = (
        subst (λ (m : ℕ). AllByRecursion (λ n. nat_cmp m n ≡ Less) (map object_number rest))
            (sym (number-own cells s.number v l k)) above,
        further,
      )

-- ---- the same of what is held

-- the objects of what is held stand in order
pub state-in_order : (h : Holding) → IsHolding h → InOrder (state_of h).objects
state-in_order h is = objects-in_order h.cells h.slots h.value_rows h.list_rows is.ascending

-- what stands at a place, by the slot there
pub standing-is : (h : Holding) (place : ℕ) (s : Slot Kept) → slice_get h.slots place ≡ Some s
    → standing_at h place
    ≡ option_map (object_of h.cells s.number (slice_index_or h.value_rows place [])
    (slice_index_or h.list_rows place []))
    s.item
standing-is h place s at =
    ap (λ (o : Option (Slot Kept)). o >>= kept_in >>= shown) at ∙ mapped s.item
  where
    row : ValueRow
    row = slice_index_or h.value_rows place []

    its_lists : ListRow
    its_lists = slice_index_or h.list_rows place []

    shown : ℕ × Kept → Option Object
    shown k = Some (object_of h.cells k.0 row its_lists k.1)

    mapped : (item : Option Kept)
        → (option_map (λ k. (s.number, k)) item >>= shown) ≡ option_map (object_of h.cells s.number row its_lists) item
    mapped None = refl
    mapped (Some k) = refl

-- under the number of the slot at a place, what stands there is found
pub standing-found : (h : Holding) → IsHolding h → (place : ℕ) (s : Slot Kept) → slice_get h.slots place ≡ Some s
    → object_at (state_of h).objects s.number ≡ standing_at h place
standing-found h is place s at =
    objects-found h.cells h.slots h.value_rows h.list_rows place s is.value_rows is.list_rows is.ascending at
    ∙ sym (standing-is h place s at)

-- the same of a number that stands at a place
pub number-found : (h : Holding) → IsHolding h → (place n : ℕ) → slice_get (numbers h.slots) place ≡ Some n
    → object_at (state_of h).objects n ≡ standing_at h place
number-found h is place n at =
    let (s, stands, same) = slot-at h.slots place n at in
    ap (object_at (state_of h).objects) (sym same) ∙ standing-found h is place s stands

-- no object has a number that no slot has
pub number-missed : (h : Holding) (n : ℕ) → All (λ m. m ≢ n) (numbers h.slots)
    → object_at (state_of h).objects n ≡ None
number-missed h n others = objects-none h.cells h.slots h.value_rows h.list_rows n others

-- An object of a number stands at a place: what is kept there, with the rows of the place.
pub record Stands (h : Holding) (number : ℕ) (o : Object) : Type 0 where
  pub place : ℕ
  pub kept : Kept
  pub at : slice_get h.slots place ≡ Some (record { number = number; item = Some kept })
  pub is : o ≡ object_of h.cells number (slice_index_or h.value_rows place []) (slice_index_or h.list_rows place [])
      kept

pub object-stands : (h : Holding) → IsHolding h → (n : ℕ) (o : Object) → object_at (state_of h).objects n ≡ Some o
    → Stands h n o
object-stands h is n o found =
    elim (number-cases h.slots n) [
      | inl others ↦ absurd (none-some o (sym (number-missed h n others) ∙ found))
      | inr there ↦
          let (s, stands, same) = slot-at h.slots there.0 n there.1 in
          let here = standing-is h there.0 s stands in
          by_item there.0 s same stands s.item refl (sym here ∙ sym (number-found h is there.0 n there.1) ∙ found)
    ]
  where
    slot : ℕ → Option Kept → Slot Kept
    slot number item = record { number = number; item = item }

    by_item : (place : ℕ) (s : Slot Kept) → s.number ≡ n → slice_get h.slots place ≡ Some s → (item : Option Kept)
        → s.item ≡ item
        → option_map (object_of h.cells s.number (slice_index_or h.value_rows place [])
        (slice_index_or h.list_rows place []))
        s.item ≡ Some o
        → Stands h n o
    by_item place s same stands None none found =
        absurd (none-some o (sym (ap (option_map (object_of h.cells s.number (slice_index_or h.value_rows place [])
        (slice_index_or h.list_rows place []))) none) ∙ found))
    by_item place s same stands (Some k) some found =
        let row : ValueRow = slice_index_or h.value_rows place [] in
        let lists : ListRow = slice_index_or h.list_rows place [] in
        record {
          place = place;
          kept = k;
          at = stands ∙ ap (λ (m : ℕ). Some (slot m s.item)) same ∙ ap (λ (i : Option Kept). Some (slot n i)) some;
          is =
              same_Some o (object_of h.cells n row lists k)
              (sym found ∙ ap (option_map (object_of h.cells s.number row lists)) some
              ∙ ap (λ (m : ℕ). Some (object_of h.cells m row lists k)) same);
        }

-- The process of a number stands at a place.
pub record ProcessStands (h : Holding) (pid : ℕ) (p : Process) : Type 0 where
  pub place : ℕ
  pub holds : KeptProcess
  pub at : slice_get h.slots place ≡ Some (record { number = pid; item = Some (kept.Process holds) })
  pub is : p ≡ process_held h.cells pid (slice_index_or h.value_rows place []) (slice_index_or h.list_rows place [])
      holds

pub process-stands : (h : Holding) → IsHolding h → (pid : ℕ) (p : Process) → process_at (state_of h) pid ≡ Some p
    → ProcessStands h pid p
process-stands h is pid p found = at (object_at (state_of h).objects pid) refl found
  where
    by_kept : (o : Object) (stands : Stands h pid o) (k : Kept) → stands.kept ≡ k → process_of o ≡ Some p
        → ProcessStands h pid p
    by_kept o stands (kept.Process k) same found =
        let row : ValueRow = slice_index_or h.value_rows stands.place [] in
        let lists : ListRow = slice_index_or h.list_rows stands.place [] in
        let slot : Kept → Option (Slot Kept) = λ k. Some (record { number = pid; item = Some k }) in
        record {
          place = stands.place;
          holds = k;
          at = stands.at ∙ ap slot same;
          is =
              same_Some p (process_held h.cells pid row lists k)
              (sym found ∙ ap process_of (stands.is ∙ ap (object_of h.cells pid row lists) same));
        }
    by_kept o stands (kept.Message k) same found =
        let row : ValueRow = slice_index_or h.value_rows stands.place [] in
        let lists : ListRow = slice_index_or h.list_rows stands.place [] in
        absurd (none-some p (sym (ap process_of (stands.is ∙ ap (object_of h.cells pid row lists) same)) ∙ found))

    at : (o : Option Object) → object_at (state_of h).objects pid ≡ o → (o >>= process_of) ≡ Some p
        → ProcessStands h pid p
    at (Some o) there found =
        let stands = object-stands h is pid o there in
        by_kept o stands stands.kept refl found
    at None there found = absurd (none-some p found)

-- ---- types of names

types-over : (least : ℕ) (names : List (Slot TypeId)) → AllOver least names
    → AllByRecursion (λ n. nat_cmp least n ≡ Less) (map (λ t. t.0) (types_of names))
types-over least [] over = tt
types-over least (s ∷ names) over = at s.item (types-over least names over.1)
  where
    Over : NameTypes → Type 0
    Over types = AllByRecursion (λ n. nat_cmp least n ≡ Less) (map (λ t. t.0) types)

    at : (item : Option TypeId) → Over (types_of names)
        → Over (option_to_list (option_map (λ t. (s.number, t)) item) ++ types_of names)
    at None further = further
    at (Some t) further = (over.0, further)

-- the types of names stand in order
pub types-in_order : (names : List (Slot TypeId)) → IsAscending names
    → IsStrictlySortedBy nat_cmp (map (λ t. t.0) (types_of names))
unfolding IsStrictlySortedBy
types-in_order [] order = tt
types-in_order (s ∷ names) order = at s.item (types-in_order names (slots-tail s names order))
  where
    Sorted : NameTypes → Type 0
    Sorted types = IsStrictlySortedBy nat_cmp (map (λ t. t.0) types)

    at : (item : Option TypeId) → Sorted (types_of names)
        → Sorted (option_to_list (option_map (λ t. (s.number, t)) item) ++ types_of names)
    at None further = further
    at (Some t) further = (types-over s.number names (slots-head s names order), further)

types-none : (names : List (Slot TypeId)) (n : ℕ) → All (λ m. m ≢ n) (numbers names)
    → type_of (types_of names) n ≡ None
types-none [] n others = refl
types-none (s ∷ names) n others =
    at s.item (types-none names n (All-tail (λ m. m ≢ n) s.number (numbers names) others))
  where
    other : s.number ≢ n
    other = All-head (λ m. m ≢ n) s.number (numbers names) others

    at : (item : Option TypeId) → type_of (types_of names) n ≡ None
        → type_of (option_to_list (option_map (λ t. (s.number, t)) item) ++ types_of names) n ≡ None
    at None rest = rest
    at (Some t) rest = type_of-further (s.number, t) (types_of names) n other ∙ rest

-- what stands under a name is its type
pub types-found : (names : List (Slot TypeId)) (n : ℕ) → IsAscending names → type_of (types_of names) n ≡ found names n
types-found [] n order = refl
types-found (s ∷ names) n order =
    elim (cases_eq s.number n) [
      | inl same ↦ here s.item same ∙ sym (ap (λ b. cond b s.item (found names n)) (eq-eqb s.number n same))
      | inr other ↦
          further s.item other ∙ types-found names n (slots-tail s names order)
          ∙ sym (ap (λ b. cond b s.item (found names n)) (ne_eqb s.number n other))
    ]
  where
    here : (item : Option TypeId) → s.number ≡ n
        → type_of (option_to_list (option_map (λ t. (s.number, t)) item) ++ types_of names) n ≡ item
    here None same =
        let Others : ℕ → Type 0 = λ k. All (λ m. m ≢ k) (numbers names) in
        types-none names n (subst Others same (over-other s.number names (slots-head s names order)))
    here (Some t) same = type_of-first (s.number, t) (types_of names) n same

    further : (item : Option TypeId) → s.number ≢ n
        → type_of (option_to_list (option_map (λ t. (s.number, t)) item) ++ types_of names) n ≡ type_of (types_of names)
        n
    further None other = refl
    further (Some t) other = type_of-further (s.number, t) (types_of names) n other
