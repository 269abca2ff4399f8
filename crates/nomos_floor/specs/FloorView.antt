-- What a pass knows: its ticket, whether it is live, and how it begins and ends.
use Rattle.std.specs.Prelude.{ℕ, Option, Some, None, is_some, if◌then◌else◌, List, [], ◌∷◌}
use Rattle.nomos_floor.specs.declared.view.PassView.{PassView}
use Rattle.nomos_floor.specs.declared.view.Stage.{Stage}
use Rattle.nomos_floor.specs.declared.view.Stage.TheVariants.{Idle, Waiting, Serving, Ended}

-- the ticket of a pass
abbrev pub ticket_of : Stage → Option ℕ
ticket_of Idle = None
ticket_of (Waiting ticket) = Some ticket
ticket_of (Serving ticket) = Some ticket
ticket_of Ended = None

-- 1 for a pass that has a ticket
abbrev pub tickets_of : Stage → ℕ
tickets_of stage = if is_some (ticket_of stage) then 1 else 0

-- the pass has not ended
abbrev pub IsLive : Stage → Type 0
IsLive Ended = ⊥
IsLive _ = Unit {0}

-- the first for a live pass, the second for one that has ended
abbrev pub if_live : {A : Type 0} → Stage → A → A → A
if_live Ended live ended = ended
if_live _ live ended = live

module _ {W E : Type 0} where
  -- the opening pass, before the first step
  abbrev pub opening_view : W → PassView W E
  opening_view work = record {
    stage = Idle;
    opened = Some work;
    number = 0;
    seen = [];
    own = [];
    told = [];
    next = 1;
    out = [];
    ended = [];
  }

  -- what a pass that was joined leaves behind
  abbrev pub ended_view : PassView W E
  ended_view = record {
    stage = Ended;
    opened = None;
    number = 0;
    seen = [];
    own = [];
    told = [];
    next = 0;
    out = [];
    ended = [];
  }

  -- the numbers of the live passes
  abbrev pub live_numbers : List (PassView W E) → List ℕ
  live_numbers [] = []
  live_numbers (v ∷ views) = if_live v.stage (v.number ∷ live_numbers views) (live_numbers views)
