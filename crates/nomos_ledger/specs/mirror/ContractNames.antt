-- A mirror of the code: entries of the table of contracts.
use Rattle.std.specs.Prelude.{ℕ, List}

-- the contract that an entry stands for, whose name has this text
abbrev pub contract_at : {X : Type 0} → (X → List ℕ) → X × ℕ → List ℕ × ℕ
contract_at text e = (text e.0, e.1)
