-- A mirror of the code: what instructions can do without, by what those can with which they go on.
use Rattle.std.specs.Prelude.{◌≡◌, ◌-◌, ℕ, min, List, [], ◌∷◌, Option, Some, None, slice_get}
use Rattle.nomos_ir.specs.CodeParts.{code_next}
use Rattle.nomos_ir.specs.declared.code_node.CodeNode.{CodeNode}
use Rattle.nomos_ir.specs.declared.code_node.CodeNode.TheVariants as code
use Rattle.nomos_ir.specs.declared.declaration.ProcDecl.{ProcDecl}
use Rattle.nomos_types.specs.Acceptance.{Acceptance}
use Rattle.nomos_types.specs.Amount.{dths}
use Rattle.nomos_types.specs.Judgement.{Judgement}
use Rattle.nomos_places.specs.LeastPotential.{NeedsAtLeast}
use Rattle.nomos_places.specs.WantedPlaces.{StandsIn}

-- the lesser one of two numbers, if the second is there
abbrev pub lesser_of : ℕ → Option ℕ → ℕ
lesser_of most (Some spare) = min most spare
lesser_of most None = most

abbrev pub lower : List ℕ → ℕ → ℕ → ℕ
lower spares most at = lesser_of most (slice_get spares at)

-- the least of a number and of what these can do without
abbrev pub lowest : List ℕ → ℕ → List ℕ → ℕ
lowest spares most [] = most
lowest spares most (at ∷ others) = lowest spares (lower spares most at) others

-- what a declaration needs that is called
abbrev pub needed : Acceptance → Option ProcDecl → ℕ
needed a (Some d) = dths a.annotations d.amount
needed a None = 0

-- what the instruction calls needs
abbrev pub called : Acceptance → CodeNode → ℕ
called a (code.Call at f args) = needed a (slice_get a.program.procs f.0)
called a _ = 0

abbrev pub spare_at : Acceptance → List ℕ → ℕ → CodeNode → ℕ
spare_at a spares potential n = lowest spares (potential - called a n) (code_next n)

-- ---- tables

-- these are the potentials before the instructions at which judgements stand
abbrev pub ArePotentialsAt : Acceptance → List ℕ → Type 0
ArePotentialsAt a potentials = (j : Judgement) → StandsIn a j → slice_get potentials j.code.0 ≡ Some j.q

-- the least potential that the judgement needs stands at its instruction
pub record HasLeast (a : Acceptance) (leasts : List ℕ) (j : Judgement) : Type 0 where
  pub least : ℕ
  pub found : slice_get leasts j.code.0 ≡ Some least
  pub needs : NeedsAtLeast a.program a.annotations j least

abbrev pub AreLeasts : Acceptance → List ℕ → Type 0
AreLeasts a leasts = (j : Judgement) → StandsIn a j → HasLeast a leasts j
