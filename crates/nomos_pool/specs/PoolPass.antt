-- What clauses say of a pool, its senders and its taker.
use Rattle.std.specs.Prelude.{◌≡◌, ℕ, ◌<◌, ◌≤◌, true, false, List, [], length, slice_get, Some, vec_len, vec_capacity}
use Rattle.crossbeam_queue.specs.Passes.{Pass, view, IsPassOf, ruled_capacity}
use Rattle.nomos_pool.specs.declared.pool_rule.PoolView.{PoolView}
use Rattle.nomos_pool.specs.declared.pool.Submission.{Submission}
use Rattle.nomos_pool.specs.declared.pool.Pool.{Pool}
use Rattle.nomos_pool.specs.declared.pool.Submitter.{Submitter}
use Rattle.nomos_pool.specs.declared.pool.Taker.{Taker}

module _ {T : Type 0} where
  -- how many items its queue can hold
  abbrev pub capacity_of : Pool T → ℕ
  capacity_of pool = ruled_capacity pool.queue

  -- what a sender submitted, in its order
  abbrev pub submitted_by : Submitter T → List T
  submitted_by s = (view s.pass).submitted

  -- what the taker took, in its order
  abbrev pub taken_by : Taker T → List (Submission T)
  taken_by t = (view t.pass).taken

  -- a sender of this pool
  pub record IsSenderOf (pool : Pool T) (s : Submitter T) : Type 0 where
    pub of_queue : IsPassOf pool.queue s.pass
    pub sends : (view s.pass).sends ≡ true
    pub number : (view s.pass).number ≡ s.number
    pub low : s.number < pool.senders

  -- its taker, which has room for all that its queue can hold
  pub record IsTakerOf (pool : Pool T) (t : Taker T) : Type 0 where
    pub of_queue : IsPassOf pool.queue t.pass
    pub takes : (view t.pass).takes ≡ true
    pub quiet : (view t.pass).sends ≡ false
    pub made : (view t.pass).made ≡ pool.senders
    pub known : (view t.pass).known ≡ []
    pub free : vec_len t.room ≡ 0
    pub room : ruled_capacity pool.queue ≤ vec_capacity t.room

  -- the senders of this pool, so many, in order of number, that submitted nothing
  pub record AreNewSendersOf (pool : Pool T) (count : ℕ) (senders : List (Submitter T)) : Type 0 where
    pub many : length senders ≡ count
    pub all : pool.senders ≡ count
    pub each : (k : ℕ) (s : Submitter T) → slice_get senders k ≡ Some s
        → IsSenderOf pool s × (s.number ≡ k) × (submitted_by s ≡ [])

  -- a pass of the taker alone
  pub record IsAlone (pool : Pool T) (pass : Pass (Submission T) (PoolView T)) : Type 0 where
    pub of_queue : IsPassOf pool.queue pass
    pub takes : (view pass).takes ≡ true
    pub quiet : (view pass).sends ≡ false

  -- senders of this pool, in order of number
  abbrev pub AreSendersOf : Pool T → List (Submitter T) → Type 0
  AreSendersOf pool senders = (k : ℕ) (s : Submitter T) → slice_get senders k ≡ Some s
      → IsSenderOf pool s × (s.number ≡ k)
