-- The modes of types and of processes: at which mode a type stands by its place, which node a mode allows, and what a
-- process may hold and spawn.
use Rattle.std.specs.Prelude.{◌≡◌, ◌≢◌, ◌⊎◌, Bool, true, false, IsTrue, List, [], ◌∷◌, ◌++◌, map, All, Contains, Option, Some, None, slice_get}
use Rattle.std.specs.List.{flat_map}
use Rattle.std.specs.Option.{option_map}
use Rattle.nomos_ir.specs.declared.declaration.ProcDecl.{ProcDecl}
use Rattle.nomos_ir.specs.declared.ids.TypeId.{TypeId}
use Rattle.nomos_ir.specs.declared.ids.VarId.{VarId}
use Rattle.nomos_ir.specs.declared.lists.ProgramLists.{ProgramLists}
use Rattle.nomos_ir.specs.declared.mode.Mode.{Mode}
use Rattle.nomos_ir.specs.declared.mode.Mode.TheVariants as mode
use Rattle.nomos_ir.specs.declared.type_node.Def.{Def}
use Rattle.nomos_ir.specs.declared.type_node.TypeNode.{TypeNode}
use Rattle.nomos_ir.specs.declared.type_node.TypeNode.TheVariants as node
use Rattle.nomos_ir.specs.Nodes.{type_node}

-- whether a process of the first mode may hold a channel of the second
abbrev pub may_hold : Mode → Mode → Bool
may_hold mode.R mode.R = true
may_hold mode.R _ = false
may_hold mode.S mode.R = true
may_hold mode.S mode.S = true
may_hold mode.S _ = false
may_hold mode.L mode.T = false
may_hold mode.L _ = true
may_hold mode.T mode.T = false
may_hold mode.T _ = true

-- whether a process of the first mode may spawn one of the second
abbrev pub may_spawn : Mode → Mode → Bool
may_spawn mode.R mode.R = true
may_spawn mode.R _ = false
may_spawn _ mode.R = true
may_spawn _ mode.S = true
may_spawn _ _ = false

-- the mode that the head of a type shows: S at an `up`, the mode of its definition at a name
abbrev pub head_mode : ProgramLists → Option TypeNode → Option Mode
head_mode lists (Some (node.Up a)) = Some mode.S
head_mode lists (Some (node.Named d)) = option_map (λ def. def.mode) (slice_get lists.defs d.0)
head_mode lists _ = None

-- A channel parameter is taken as S where the head of its type shows S, as L where it shows L, and as R otherwise.
abbrev pub as_parameter : Option Mode → Mode
as_parameter (Some mode.S) = mode.S
as_parameter (Some mode.L) = mode.L
as_parameter _ = mode.R

-- the mode at which a channel of this type is taken as a parameter
abbrev pub parameter_mode : ProgramLists → TypeId → Mode
parameter_mode lists t = as_parameter (head_mode lists (type_node lists t.0))

-- A carried type is taken as S where its head shows S, and as R otherwise.
abbrev pub as_carried : Option Mode → Mode
as_carried (Some mode.S) = mode.S
as_carried _ = mode.R

-- What is carried at mode R has mode R, and at every other mode that as which it is taken.
abbrev pub carried_mode : ProgramLists → Mode → TypeId → Mode
carried_mode lists mode.R a = mode.R
carried_mode lists _ a = as_carried (head_mode lists (type_node lists a.0))

-- The parts of a type node that stands at a mode, each with its own mode, in order of text.
abbrev pub part_modes : ProgramLists → Mode → TypeNode → List (TypeId × Mode)
part_modes lists m node.One = []
part_modes lists m (node.Plus branches) = map (λ b. (b.goes, m)) branches
part_modes lists m (node.With branches) = map (λ b. (b.goes, m)) branches
part_modes lists m (node.Tensor a b) = (a, carried_mode lists m a) ∷ (b, m) ∷ []
part_modes lists m (node.Lolli a b) = (a, carried_mode lists m a) ∷ (b, m) ∷ []
part_modes lists m (node.ValueOut kind a) = (a, m) ∷ []
part_modes lists m (node.ValueIn kind a) = (a, m) ∷ []
part_modes lists m (node.PotOut amount a) = (a, m) ∷ []
part_modes lists m (node.PotIn amount a) = (a, m) ∷ []
part_modes lists m (node.Up a) = (a, mode.L) ∷ []
part_modes lists m (node.Down a) = (a, mode.S) ∷ []
part_modes lists m (node.Named d) = []

-- The types that are no part of another one, each with its mode: the bodies of definitions, the types of channel
-- parameters, the offered types.
abbrev pub whole_modes : ProgramLists → List (TypeId × Mode)
whole_modes lists =
    map (λ d. (d.body, d.mode)) lists.defs
    ++ flat_map (λ d. map (λ par. (par.1, parameter_mode lists par.1)) d.channels) lists.procs
    ++ map (λ d. (d.offers, d.mode)) lists.procs

-- the mode of a type node, by its place
pub data HasMode (lists : ProgramLists) : TypeId → Mode → Type 0 where
  whole : {t : TypeId} {m : Mode} → Contains (whole_modes lists) (t, m) → HasMode lists t m
  part : {t : TypeId} {m : Mode} → (outer : TypeId) (n : Mode) (node : TypeNode) → HasMode lists outer n
      → type_node lists outer.0 ≡ Some node → Contains (part_modes lists n node) (t, m) → HasMode lists t m

-- the modes of channels that are used exactly once
abbrev pub IsLinearMode : Mode → Type 0
IsLinearMode m = (m ≡ mode.R) ⊎ (m ≡ mode.L)

-- The table of modes: which node may stand at a mode.
abbrev pub Allows : ProgramLists → Mode → TypeNode → Type 0
Allows lists m node.One = (m ≡ mode.R) ⊎ (m ≡ mode.T)
Allows lists m (node.Up a) = m ≡ mode.S
Allows lists m (node.Down a) = m ≡ mode.L
Allows lists m (node.Named d) = (head_mode lists (Some (node.Named d)) ≡ Some m) × (m ≢ mode.T)
Allows lists m _ = IsLinearMode m

-- A program obeys the tables of modes.
pub record ObeysModes (lists : ProgramLists) : Type 0 where
  -- each node is allowed at its mode
  pub allowed : (t : TypeId) (m : Mode) (node : TypeNode) → HasMode lists t m → type_node lists t.0 ≡ Some node
      → Allows lists m node
  -- a process may hold its channel parameters
  pub held : All (λ d. All (λ par. IsTrue (may_hold d.mode (parameter_mode lists par.1))) d.channels) lists.procs
  -- no definition has the mode of transactions
  pub definitions : All (λ d. d.mode ≢ mode.T) lists.defs

-- A declaration of transactions offers the type.
abbrev pub IsOfTransactions : ProgramLists → TypeId → Type 0
IsOfTransactions lists t = (d : ProcDecl) × Contains lists.procs d × (d.mode ≡ mode.T) × (d.offers ≡ t)

-- A type node stands where the tables of modes forbid it.
pub data Offends (lists : ProgramLists) : TypeId → Type 0 where
  forbidden : {t : TypeId} → (m : Mode) (node : TypeNode) → HasMode lists t m → type_node lists t.0 ≡ Some node
      → ¬ (Allows lists m node) → Offends lists t
  -- the type of a channel parameter that its process may not hold
  not_held : (d : ProcDecl) (k : VarId) (t : TypeId) → Contains lists.procs d → Contains d.channels (k, t)
      → ¬ (IsTrue (may_hold d.mode (parameter_mode lists t))) → Offends lists t
  -- the body of a definition that has the mode of transactions
  of_transactions : (d : Def) → Contains lists.defs d → d.mode ≡ mode.T → Offends lists d.body
