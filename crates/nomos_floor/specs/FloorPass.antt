-- What clauses say of a floor, its passes and its turns.
use Rattle.std.specs.Prelude.{◌≡◌, ℕ, ◌%◌, ◌^◌, ◌⊎◌, Some, None, List, [], ◌∷◌, ◌++◌, length, if◌then◌else◌, ◌==◌}
use Rattle.nomos_floor.specs.OwnEntries.{mine, kept_of}
use Rattle.nomos_floor.specs.declared.floor.Floor.{Floor}
use Rattle.nomos_floor.specs.declared.floor.Pass.{Pass}
use Rattle.nomos_floor.specs.declared.floor.Turn.{Turn}
use Rattle.nomos_floor.specs.declared.view.Stage.TheVariants.{Idle, Serving}

-- the history as it was, or with one entry of this number at its end
abbrev pub AddsAtMostOne : {E : Type 0} → ℕ → List (ℕ × E) → List (ℕ × E) → Type 0
AddsAtMostOne {E} number before after = (after ≡ before) ⊎ ((entry : E) × (after ≡ before ++ (number, entry) ∷ []))

module _ {W S E : Type 0} where
  -- the work with which it was opened
  abbrev pub opened_work : Floor W S E → W
  opened_work floor = floor.table.shared.key.value

  abbrev pub pass_number : Pass W S E → ℕ
  pass_number pass = pass.number

  -- the history that it has seen
  abbrev pub seen_by : Pass W S E → List (ℕ × E)
  seen_by pass = pass.seat.me.0.seen

  -- its own entries
  abbrev pub own_of : Pass W S E → List E
  own_of pass = pass.seat.me.0.own

  -- the next number
  abbrev pub next_of : Pass W S E → ℕ
  next_of pass = pass.next

  -- the numbers out
  abbrev pub out_of : Pass W S E → List ℕ
  out_of pass = pass.seat.me.0.out

  -- the numbers of ended passes, each with its own entries
  abbrev pub ended_of : Pass W S E → List (ℕ × List E)
  ended_of pass = pass.seat.me.0.ended

  -- it is the opening pass: each other one has a number over 0
  abbrev pub IsOpening : Pass W S E → Type 0
  IsOpening pass = pass_number pass ≡ 0

  -- the entries that the opening pass has for a number: its own, or those of an ended pass, or none
  abbrev pub entries_of : Pass W S E → ℕ → List E
  entries_of pass number = if number == 0 then own_of pass else kept_of number (ended_of pass)

  -- the pass to which the turn belongs
  abbrev pub pass_of : Turn W S E → Pass W S E
  pass_of turn = turn.pass

  -- the history of the work when it was taken
  abbrev pub taken_history : Turn W S E → List (ℕ × E)
  taken_history turn = seen_by turn.pass

  -- The seat is one at the floor's table, and knows with which work the floor was opened; the pass keeps the numbers
  -- that it knows
  pub record IsOfFloor (floor : Floor W S E) (pass : Pass W S E) : Type 0 where
    pub table : pass.seat.table_id ≡ floor.table.shared.table_id
    pub opened : pass.seat.me.0.opened ≡ Some (opened_work floor)
    pub number : pass.seat.me.0.number ≡ pass.number
    pub next : pass.seat.me.0.next ≡ pass.next

  -- a pass of this floor, which has no turn
  pub record IsPassOf (floor : Floor W S E) (pass : Pass W S E) : Type 0 where
    pub of_floor : IsOfFloor floor pass
    pub idle : pass.seat.me.0.stage ≡ Idle
    pub holds : pass.seat.me.1 ≡ []

  -- a turn of this floor, whose pass holds the slot, out of which the work was taken with just the pass's own entries
  pub record IsTurnOf (floor : Floor W S E) (turn : Turn W S E) : Type 0 where
    pub of_floor : IsOfFloor floor turn.pass
    pub served : (ticket : ℕ) × (turn.pass.seat.me.0.stage ≡ Serving ticket)
    pub holds : turn.pass.seat.me.1 ≡ (0, None) ∷ []
    pub entries : turn.entries ≡ length (taken_history turn) % 2 ^ 64
    pub own : own_of turn.pass ≡ mine (pass_number turn.pass) (taken_history turn)

  -- the same number, next number, numbers out and ended passes
  pub record KeepsNumbers (before after : Pass W S E) : Type 0 where
    pub number : pass_number after ≡ pass_number before
    pub next : next_of after ≡ next_of before
    pub out : out_of after ≡ out_of before
    pub ended : ended_of after ≡ ended_of before

  -- a pass of this floor, with the same numbers
  abbrev pub KeepsPass : Floor W S E → Pass W S E → Pass W S E → Type 0
  KeepsPass floor before after = IsPassOf floor after × KeepsNumbers before after
