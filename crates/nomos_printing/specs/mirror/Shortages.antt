-- A mirror: what stands behind the name of an account with too little gas.
use Rattle.std.specs.Prelude.{◌<◌, ◌^◌, ℕ, List, ◌++◌, codes}
use Rattle.nomos_base.specs.Gas.{gas_text}
use Rattle.nomos_printing.specs.declared.cause.Shortage.{Shortage}

-- both amounts are within 128 bits
abbrev pub IsShortage : Shortage → Type 0
IsShortage s = (s.has < 2 ^ 128) × (s.needs < 2 ^ 128)

abbrev pub shortage_text : ℕ → Shortage → List ℕ
shortage_text unit s = codes "has " ++ gas_text s.has unit ++ codes " needs " ++ gas_text s.needs unit
