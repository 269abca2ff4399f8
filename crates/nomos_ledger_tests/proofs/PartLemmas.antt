-- A ledger has few accounts.
use Rattle.std.proofs.Common.{◌≡◌, ◌≤◌, ℕ, List, length, Some, None, inl, inr, ◌∙◌}
use Rattle.std.specs.Prelude.{slice_get}
use Rattle.std.proofs.lemmas.Option.{slice_get_cases}

-- where nothing stands, the list has ended
pub none-past : {X : Type 0} (xs : List X) (n : ℕ) → None ≡ slice_get xs n → length xs ≤ n
none-past xs n none =
    elim (slice_get_cases xs n).1 [
      | inl there ↦ absurd (let same : None ≡ Some there.0 = none ∙ there.2 in cc)
      | inr past ↦ past.0
    ]
