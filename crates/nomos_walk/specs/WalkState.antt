-- How far a script was gone along.
use Rattle.std.specs.Prelude.{ℕ}
use Rattle.nomos_types.specs.Acceptance.{Acceptance}
use Rattle.nomos_walk.specs.declared.papers.Papers.{Papers}

pub record WalkState : Type 0 where
  pub accepted : Acceptance
  -- the most firings of one batch
  pub limit : ℕ
  -- the firings of all batches so far
  pub made : ℕ
  pub papers : Papers
