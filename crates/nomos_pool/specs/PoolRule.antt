-- The rule of a pool: of each sender, what was taken and then what the queue holds is what it submitted, in its order.
use Rattle.std.specs.Prelude.{◌≡◌, ℕ, ◌≤◌, ◌<◌, ◌==◌, true, false, Option, Some, None, List, [], ◌∷◌, ◌++◌, length, slice_index_or, if◌then◌else◌}
use mathlib.Core.Option as home
use lib.ListN.{get_elem?}
use Rattle.nomos_pool.specs.declared.pool.Submission.{Submission}
use Rattle.nomos_pool.specs.declared.pool_rule.PoolView.{PoolView}

module _ {T : Type 0} where
  -- the items of one sender, in their order
  abbrev pub sent_by : ℕ → List (Submission T) → List T
  sent_by n [] = []
  sent_by n (i ∷ items) = if i.sender == n then i.item ∷ sent_by n items else sent_by n items

  -- the taker, that made so many senders
  abbrev pub taker_view : ℕ → List (Submission T) → List (List T) → PoolView T
  taker_view made taken known = record {
    takes = true;
    sends = false;
    number = 0;
    made = made;
    submitted = [];
    taken = taken;
    known = known;
  }

  -- a sender that submitted nothing
  abbrev pub sender_view : ℕ → PoolView T
  sender_view number = record {
    takes = false;
    sends = true;
    number = number;
    made = 0;
    submitted = [];
    taken = [];
    known = [];
  }

  -- a pass that was taken in
  abbrev pub spent_view : PoolView T
  spent_view = record {
    takes = false;
    sends = false;
    number = 0;
    made = 0;
    submitted = [];
    taken = [];
    known = [];
  }

  -- A sender knows what it submitted, and no other pass has its number.
  abbrev pub FitsSender : (ℕ → Option ℕ) → (ℕ → List T) → ℕ → PoolView T → Type 0
  FitsSender seat sent port v = v.sends ≡ true → (seat v.number ≡ Some port) × (v.submitted ≡ sent v.number)

  -- The taker knows what was taken, how many senders there are, and what those submitted that it has taken in.
  abbrev pub FitsTaker : ℕ → ℕ → (ℕ → Option ℕ) → (ℕ → List T) → List (Submission T) → ℕ → PoolView T → Type 0
  FitsTaker taker made seat sent taken port v =
      v.takes ≡ true
      → (port ≡ taker) × (v.taken ≡ taken) × (v.made ≡ made) × (length v.known ≤ made)
      × ((k : ℕ) → k < length v.known → (seat k ≡ None) × (slice_index_or v.known k [] ≡ sent k))

  pub record Delivers (items : List (Submission T)) (views : List (PoolView T)) : Type 0 where
    pub taker : ℕ
    pub made : ℕ
    pub seat : ℕ → Option ℕ
    pub sent : ℕ → List T
    pub taken : List (Submission T)
    pub each : (n : ℕ) → sent_by n (taken ++ items) ≡ sent n
    pub none : (n : ℕ) → made ≤ n → (seat n ≡ None) × (sent n ≡ [])
    pub fits : (port : ℕ) (v : PoolView T) → get_elem? views port ≡ home.some v
        → FitsSender seat sent port v × FitsTaker taker made seat sent taken port v

  -- what all senders submitted was taken, or is left
  abbrev pub none_left : PoolView T → List (Submission T) → Type 0
  none_left v items = (n : ℕ) → sent_by n (v.taken ++ items) ≡ slice_index_or v.known n []
