-- What hands hold, and what they come to when their items are handed in.
use Rattle.std.specs.Prelude.{◌≡◌, ℕ, ◌<◌, ◌≤◌, ◌==◌, ◌++◌, ◌∷◌, [], if◌then◌else◌, All, List, length, map, reverse, slice_get, slice_index_or, Some, vec_len, vec_capacity}
use Rattle.nomos_pool.specs.Gathering.{dealt_to}
use Rattle.nomos_pool.specs.PoolPass.{IsSenderOf, IsTakerOf, submitted_by, taken_by}
use Rattle.nomos_pool.specs.declared.pool.Pool.{Pool}
use Rattle.nomos_pool.specs.declared.pool.Submitter.{Submitter}
use Rattle.nomos_pool.specs.declared.hands.Hand.{Hand}
use Rattle.nomos_pool.specs.declared.gathering.Ready.{Ready}

module _ {T : Type 0} where
  -- its sender is one of this pool
  abbrev pub IsHandOf : Pool T → Hand T → Type 0
  IsHandOf pool hand = IsSenderOf pool hand.sender

  -- its sender has submitted its items besides, in their order
  pub record HandsIn (pool : Pool T) (before after : Hand T) : Type 0 where
    pub of_pool : IsSenderOf pool after.sender
    pub number : after.sender.number ≡ before.sender.number
    pub submitted : submitted_by after.sender ≡ submitted_by before.sender ++ reverse before.items.items

  -- the same of each of the hands
  abbrev pub AllHandIn : Pool T → List (Hand T) → List (Hand T) → Type 0
  AllHandIn pool before after =
      (length after ≡ length before)
      × ((k : ℕ) (d : Hand T) → k < length before → HandsIn pool (slice_index_or before k d) (slice_index_or after k d))

  -- the items of a hand, in the order in which they are submitted
  abbrev pub items_of : Hand T → List T
  items_of hand = reverse hand.items.items

  abbrev pub sender_of : Hand T → Submitter T
  sender_of hand = hand.sender

  -- hands of these senders, with no items
  pub record AreEmptyHands (senders : List (Submitter T)) (hands : List (Hand T)) : Type 0 where
    pub theirs : map sender_of hands ≡ senders
    pub empty : All (λ hand. hand.items.items ≡ []) hands

  -- the same hands, but that the one with this number has an item more, before the others
  abbrev pub GivesTo : ℕ → T → List (Hand T) → List (Hand T) → Type 0
  GivesTo number item before after =
      (length after ≡ length before)
      × ((k : ℕ) (d : Hand T) → k < length before
      → ((slice_index_or after k d).sender ≡ (slice_index_or before k d).sender)
      × (items_of (slice_index_or after k d)
      ≡ (if number == k then item ∷ items_of (slice_index_or before k d) else items_of (slice_index_or before k d))))

  -- the same hands, but that each has the items that are dealt to its thread, before the others
  abbrev pub AreDealt : List ℕ → List T → List (Hand T) → List (Hand T) → Type 0
  AreDealt threads items before after =
      (length after ≡ length before)
      × ((k : ℕ) (d : Hand T) → k < length before
      → ((slice_index_or after k d).sender ≡ (slice_index_or before k d).sender)
      × (items_of (slice_index_or after k d) ≡ dealt_to k threads items ++ items_of (slice_index_or before k d)))

  -- hands of this pool, so many, in order of number, that submitted nothing, of which each holds its share, in order
  pub record AreHandsOf (pool : Pool T) (count : ℕ) (share : ℕ → List T) (hands : List (Hand T)) : Type 0 where
    pub many : length hands ≡ count
    pub each : (k : ℕ) (hand : Hand T) → slice_get hands k ≡ Some hand
        → IsHandOf pool hand × (hand.sender.number ≡ k) × (submitted_by hand.sender ≡ [])
        × (items_of hand ≡ share k)

  -- all is ready for so many threads, and of each thread its items are in its hand
  pub record IsReady (count : ℕ) (threads : List ℕ) (items : List T) (ready : Ready T) : Type 0 where
    pub taker : IsTakerOf ready.pool ready.taker
    pub nothing : taken_by ready.taker ≡ []
    pub many : ready.pool.senders ≡ count
    pub hands : AreHandsOf ready.pool count (λ j. dealt_to j threads items) ready.hands.items
    pub empty : (ready.room.items ≡ []) × (vec_len ready.room ≡ 0)
    pub free : count ≤ vec_capacity ready.room
