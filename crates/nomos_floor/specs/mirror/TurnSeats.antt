-- A mirror of the code: what the parts of a turn tell one another. Private clauses alone cite it.
use Rattle.std.specs.Prelude.{◌≡◌, ◌⊎◌, ℕ, ◌%◌, ◌^◌, Bool, MatchBool, Some, List, [], ◌∷◌, ◌++◌}
use Rattle.nomos_floor.specs.FloorSteps.{Holder, Continues, at_turn, adding}
use Rattle.nomos_floor.specs.FloorPass.{IsOfFloor, KeepsNumbers, own_of, pass_number, pass_of, seen_by}
use Rattle.nomos_floor.specs.OwnEntries.{mine}
use Rattle.nomos_floor.specs.declared.floor.Floor.{Floor}
use Rattle.nomos_floor.specs.declared.floor.Pass.{Pass}
use Rattle.nomos_floor.specs.declared.floor.Turn.{Turn}
use Rattle.nomos_floor.specs.declared.view.Stage.TheVariants.{Waiting, Serving}

module _ {W E : Type 0} where
  -- the seat has drawn this ticket, and holds nothing
  abbrev pub HasDrawn : ℕ → Holder W E → Type 0
  HasDrawn found m = ((ticket : ℕ) × (m.0.stage ≡ Waiting ticket) × (ticket % 2 ^ 64 ≡ found)) × (m.1 ≡ [])

  -- the seat has its turn, and holds the work
  abbrev pub HoldsWork : Holder W E → Type 0
  HoldsWork m = ((ticket : ℕ) × (m.0.stage ≡ Serving ticket)) × ((work : W) × (m.1 ≡ (0, Some work) ∷ []))

  -- the work that it holds has one entry more than it has seen, or none
  abbrev pub IsNew : (W → List (ℕ × E)) → Bool → Holder W E → Type 0
  IsNew history is_new m = (work : W) → m.1 ≡ (0, Some work) ∷ []
      → MatchBool is_new ((entry : E) × (history work ≡ m.0.seen ++ (m.0.number, entry) ∷ [])) (history work ≡ m.0.seen)

  -- an entry was added, or none; the history of the work that it holds is seen
  abbrev pub HasCounted : (W → List (ℕ × E)) → Holder W E → Holder W E → Type 0
  HasCounted history m n =
      (((entry : E) × (n ≡ (adding entry m.0, m.1))) ⊎ (n ≡ m))
      × ((work : W) → m.1 ≡ (0, Some work) ∷ [] → history work ≡ n.0.seen)

  -- the seat has its turn, and the work is out with it
  abbrev pub GetsTurn : {S : Type 0} → (W → S) → (W → List (ℕ × E)) → Holder W E → Holder W E → Type 0
  GetsTurn start history m n =
      (work : W) × (ticket : ℕ) × (n ≡ (at_turn ticket (history work) m.0, (0, Some work) ∷ m.1))
      × Continues start history m.0 work

module _ {W S E : Type 0} where
  -- the work of the turn lies in the slot, its last entry is counted if it was new, and the pass has its turn still
  pub record HasPut (history : W → List (ℕ × E)) (floor : Floor W S E) (turn : Turn W S E)
      (pass : Pass W S E) : Type 0 where
    pub of_floor : IsOfFloor floor pass
    pub served : (ticket : ℕ) × (pass.seat.me.0.stage ≡ Serving ticket)
    pub holds : pass.seat.me.1 ≡ (0, Some turn.work) ∷ []
    pub seen : seen_by pass ≡ history turn.work
    pub own : own_of pass ≡ mine (pass_number pass) (history turn.work)
    pub kept : KeepsNumbers (pass_of turn) pass
