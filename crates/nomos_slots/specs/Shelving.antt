-- What a shelf is seen as.
use Rattle.std.specs.Prelude.{ℕ, Bool, List, Option, refl}
use Rattle.std.specs.Coded.{Coded, code_by, coded×, coded_ℕ, coded_bool, coded_list, coded_option}

-- What it holds now, and what it held when it was marked, if it is. For each row there is whether the log has all that
-- stood there, and for how many items more there is room in it; and there is for how many changes there is room.
pub record Shelving (X : Type 0) : Type 0 where
  pub now : List (List X)
  pub marked : Option (List (List X))
  pub freed : List Bool
  pub spares : List ℕ
  pub room : ℕ

-- it is stored as the tuple of its fields
abbrev pub shelving_code : {X : Type 0} → Coded X → Coded (Shelving X)
shelving_code {X} code =
    let rows : Coded (List (List X)) = coded_list (coded_list code) in
    code_by
    (List (List X) × (Option (List (List X)) × (List Bool × (List ℕ × ℕ))))
    (coded× rows (coded× (coded_option rows) (coded× (coded_list coded_bool) (coded× (coded_list coded_ℕ) coded_ℕ))))
    (λ s. (s.now, (s.marked, (s.freed, (s.spares, s.room)))))
    (λ p. record { now = p.0; marked = p.1.0; freed = p.1.1.0; spares = p.1.1.1.0; room = p.1.1.1.1 })
    (λ _. refl)
