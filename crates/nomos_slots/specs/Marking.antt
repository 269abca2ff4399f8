-- What a column is seen as.
use Rattle.std.specs.Prelude.{ℕ, List, Option, refl}
use Rattle.std.specs.Coded.{Coded, code_by, coded×, coded_ℕ, coded_list, coded_option}

-- what it holds now, what it held when it was marked, if it is, for how many changes there is room, and how many
-- records the log can hold
pub record Marking (X : Type 0) : Type 0 where
  pub now : List X
  pub marked : Option (List X)
  pub room : ℕ
  pub seats : ℕ

-- it is stored as the tuple of its fields
abbrev pub marking_code : {X : Type 0} → Coded X → Coded (Marking X)
marking_code {X} code =
    code_by
    (List X × (Option (List X) × (ℕ × ℕ)))
    (coded× (coded_list code) (coded× (coded_option (coded_list code)) (coded× coded_ℕ coded_ℕ)))
    (λ m. (m.now, (m.marked, (m.room, m.seats))))
    (λ p. record { now = p.0; marked = p.1.0; room = p.1.1.0; seats = p.1.1.1 })
    (λ _. refl)
