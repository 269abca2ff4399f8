-- What it is to gather items that threads submit, each those that are dealt to it.
use Rattle.std.specs.Prelude.{◌≡◌, ℕ, ◌<◌, ◌==◌, ◌∷◌, [], List, All, if◌then◌else◌}
use Rattle.nomos_pool.specs.PoolRule.{sent_by}
use Rattle.nomos_pool.specs.declared.pool.Submission.{Submission}

module _ {T : Type 0} where
  -- the items that are dealt to thread j, in their order, where at each place stands the thread of the item there
  abbrev pub dealt_to : ℕ → List ℕ → List T → List T
  dealt_to j [] items = []
  dealt_to j (thread ∷ threads) [] = []
  dealt_to j (thread ∷ threads) (item ∷ items) =
      if thread == j then item ∷ dealt_to j threads items else dealt_to j threads items

  -- of each of n threads what is dealt to it, in its order and each once; of no others
  pub record IsGathering (n : ℕ) (threads : List ℕ) (items : List T) (gathered : List (Submission T)) : Type 0 where
    pub each : (j : ℕ) → j < n → sent_by j gathered ≡ dealt_to j threads items
    pub others : All (λ submission. submission.sender < n) gathered
