-- What holds of a floor between any two atomic steps. The words are `ticket`, `serving` and `count`; the one slot has
-- the work.
use Rattle.std.specs.Prelude.{◌≡◌, ℕ, ◌+◌, ◌%◌, ◌^◌, ◌<◌, ◌≤◌, Option, Some, List, [], ◌∷◌, ◌++◌, map, length, slice_index, sum_by}
use mathlib.Core.Option as home
use mathlib.Core.List.{IsPrefix}
use lib.ListN.{get_elem?}
use Rattle.atomic_table.specs.Table.{State}
use Rattle.nomos_floor.specs.OwnEntries.{mine, numbers_below, SameNumbers}
use Rattle.nomos_floor.specs.FloorView.{ticket_of, tickets_of, IsLive, live_numbers}
use Rattle.nomos_floor.specs.declared.view.PassView.{PassView}
use Rattle.nomos_floor.specs.declared.view.Stage.TheVariants.{Serving}

-- the slot of the work: there with what it has, or out with a seat
abbrev pub Homes : Type 0 → Type 0
Homes W = List (home.Option (Option W))

module _ {W E : Type 0} where
  -- this seat has this view
  abbrev pub Sits : List (PassView W E) → ℕ → PassView W E → Type 0
  Sits views seat v = get_elem? views seat ≡ home.some v

  -- The tickets out are distinct, and run from the one that is served to the last one drawn. The words count modulo
  -- 2 ^ 64
  pub record Tickets (served drawn : ℕ) (words : List ℕ) (views : List (PassView W E)) : Type 0 where
    pub ticket : slice_index words 0 ≡ drawn % 2 ^ 64
    pub serving : slice_index words 1 ≡ served % 2 ^ 64
    pub between : (seat t : ℕ) (v : PassView W E) → Sits views seat v → ticket_of v.stage ≡ Some t
        → (served ≤ t) × (t < drawn)
    pub distinct : (seat other t : ℕ) (v w : PassView W E) → Sits views seat v → Sits views other w
        → ticket_of v.stage ≡ Some t → ticket_of w.stage ≡ Some t → seat ≡ other
    pub run : served + sum_by (λ v. tickets_of v.stage) views ≡ drawn

  -- The slot is out while a pass has its turn, and only then. The ticket of this pass is served, and it has seen the
  -- whole history
  pub record Slot (served : ℕ) (log : List (ℕ × E)) (homes : Homes W) (views : List (PassView W E)) : Type 0 where
    pub turn : (seat t : ℕ) (v : PassView W E) → Sits views seat v → v.stage ≡ Serving t
        → (homes ≡ home.none ∷ []) × (t ≡ served) × (v.seen ≡ log)
    pub empty : homes ≡ home.none ∷ [] → (seat : ℕ) × (v : PassView W E) × Sits views seat v
        × (v.stage ≡ Serving served)

  -- There is one history, as long as `count` says modulo 2 ^ 64. A work in the slot has it, and the start of the work
  -- with which the floor was opened
  pub record History {S : Type 0} (start : W → S) (history : W → List (ℕ × E)) (opened : W) (log : List (ℕ × E))
      (words : List ℕ) (homes : Homes W) : Type 0 where
    pub count : slice_index words 2 ≡ length log % 2 ^ 64
    pub work : (slot : Option W) → homes ≡ home.some slot ∷ []
        → (work : W) × (slot ≡ Some work) × (start work ≡ start opened) × (history work ≡ log)

  -- The history begins with what a pass has seen, and has of it just its own entries
  pub record FitsHistory (opened : W) (log : List (ℕ × E)) (v : PassView W E) : Type 0 where
    pub floor : v.opened ≡ Some opened
    pub seen : IsPrefix v.seen log
    pub told : IsPrefix v.told log
    pub own : v.own ≡ mine v.number log

  -- The numbers of the live passes are 0, which is the opening pass, and those out; with those of the ended passes they
  -- are the numbers below the next one, each once. The opening pass knows the next number, the numbers out, and of each
  -- ended pass its own entries. A number that is not below the next one has no entry
  pub record Numbers (log : List (ℕ × E)) (next : ℕ) (out gone : List ℕ) (views : List (PassView W E)) : Type 0 where
    pub live : SameNumbers (live_numbers views) (0 ∷ out)
    pub each_once : SameNumbers (0 ∷ (out ++ gone)) (numbers_below next)
    pub few : next < 2 ^ 32
    pub opening : (seat : ℕ) (v : PassView W E) → Sits views seat v → IsLive v.stage → v.number ≡ 0
        → (v.next ≡ next) × (v.out ≡ out) × (v.ended ≡ map (λ n. (n, mine n log)) gone)
    pub unused : (n : ℕ) → next ≤ n → mine n log ≡ []

  pub record Invariant {S : Type 0} (start : W → S) (history : W → List (ℕ × E)) (opened : W)
      (s : State (Option W) (PassView W E)) : Type 0 where
    pub served : ℕ
    pub drawn : ℕ
    pub log : List (ℕ × E)
    pub next : ℕ
    pub out : List ℕ
    pub gone : List ℕ
    pub wide : length s.words ≡ 3
    pub tickets : Tickets served drawn s.words s.views
    pub slot : Slot served log s.homes s.views
    pub one_history : History start history opened log s.words s.homes
    pub fits : (seat : ℕ) (v : PassView W E) → Sits s.views seat v → IsLive v.stage → FitsHistory opened log v
    pub numbers : Numbers log next out gone s.views
