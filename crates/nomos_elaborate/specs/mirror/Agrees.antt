-- A mirror of how claims and what is built go together. No promise stands on it.
use Rattle.std.specs.Prelude.{ℕ, List, Option, Some, None}
use Rattle.nomos_elaborate.specs.NameClaim.{NameClaim, first_broken}
use Rattle.nomos_elaborate.specs.mirror.Checked.{Checked, found, broken}

-- something, unless a claim is broken
abbrev pub unless_broken : {A : Type 0} → Option ℕ → A → Checked A
unless_broken None x = found x
unless_broken (Some at) x = broken at

-- something, where all claims hold
abbrev pub where_all_hold : {A : Type 0} → List NameClaim → A → Checked A
where_all_hold claims x = unless_broken (first_broken claims) x
