-- A mirror of the code: which pairs are asked for where types are compared, and where channels, values and lists pass.
use Rattle.std.specs.Prelude.{◌≡◌, ◌⊎◌, List, [], ◌∷◌, Bool, true, false, Contains, Some, zip}
use Rattle.nomos_ir.specs.declared.amount.Amount.{Amount}
use Rattle.nomos_ir.specs.declared.code_node.Args.{Args}
use Rattle.nomos_ir.specs.declared.code_node.ValueArg.{ValueArg}
use Rattle.nomos_ir.specs.declared.code_node.ValueArg.TheVariants as arg
use Rattle.nomos_ir.specs.declared.declaration.Par.{Par}
use Rattle.nomos_ir.specs.declared.declaration.ProcDecl.{ProcDecl}
use Rattle.nomos_ir.specs.declared.ids.TypeId.{TypeId}
use Rattle.nomos_ir.specs.declared.ids.VarId.{VarId}
use Rattle.nomos_ir.specs.declared.kind.Kind.{Kind}
use Rattle.nomos_ir.specs.declared.lists.ProgramLists.{ProgramLists}
use Rattle.nomos_ir.specs.Bindings.{bound_to, unbind, each_bound}
use Rattle.nomos_equality.specs.Paths.{StandAtEqualPaths}
use Rattle.nomos_types.specs.Alike.{AlikeTypes}
use Rattle.nomos_types.specs.Arguments.{PassesChannel, PassesChannels, PassesValue, PassesValues, ArgumentsFit}
use Rattle.nomos_types.specs.Equality.{no_amounts}
use Rattle.nomos_types.specs.Judgement.{Judgement}
use Rattle.nomos_check.specs.Accounting.{without_passed}
use Rattle.nomos_check.specs.Asking.{IsOfType}
use Rattle.nomos_check.specs.declared.asked.Asked.{Asked}
use Rattle.nomos_check.specs.declared.standing.Carried.{Carried}
use Rattle.nomos_check.specs.declared.standing.Standing.{Standing}
use Rattle.nomos_check.specs.mirror.StepMoves.{KeepsAmounts}
use Rattle.nomos_check.specs.mirror.StandingData.{shape_of, amount_of, Joins}

-- the types are alike, and the pairs at their equal paths join; or they are not
abbrev pub TellsAlike : ProgramLists → TypeId → TypeId → Asked → Asked → Bool → Type 0
TellsAlike lists own t old new true =
    AlikeTypes lists no_amounts own t × Joins old new (StandAtEqualPaths lists own t)
TellsAlike lists own t old new false = ¬ (AlikeTypes lists no_amounts own t)

-- ---- channels

-- a channel of the type passed, and the pairs at equal paths of its type and this one joined
pub record ChannelPassed (lists : ProgramLists) (s next : Standing) (v : VarId) (t : TypeId) (old new : Asked)
    : Type 0 where
  pub passes : PassesChannel lists no_amounts (shape_of s) v t (shape_of next)
  pub amounts : KeepsAmounts s next
  pub own : TypeId
  pub is_of : IsOfType (shape_of s) v own
  pub joins : Joins old new (StandAtEqualPaths lists own t)

abbrev pub TellsChannel : ProgramLists → Standing → Standing → VarId → TypeId → Asked → Asked → Bool → Type 0
TellsChannel lists s next v t old new true = ChannelPassed lists s next v t old new
TellsChannel lists s next v t old new false = (k : Judgement) → ¬ (PassesChannel lists no_amounts (shape_of s) v t k)

-- the pair stands at equal paths of a channel's type and of that of its parameter
pub record PairOfChannels (lists : ProgramLists) (j : Judgement) (vs : List VarId) (pars : List (VarId × TypeId))
    (pair : Amount × Amount) : Type 0 where
  pub v : VarId
  pub par : VarId × TypeId
  pub own : TypeId
  pub passes : Contains (zip vs pars) (v, par)
  pub is_of : IsOfType j v own
  pub paths : StandAtEqualPaths lists own par.1 pair

-- channels passed, and their pairs joined
pub record ChannelsPassed (lists : ProgramLists) (s next : Standing) (vs : List VarId) (pars : List (VarId × TypeId))
    (old new : Asked) : Type 0 where
  pub passes : PassesChannels lists no_amounts (shape_of s) vs pars (shape_of next)
  pub amounts : KeepsAmounts s next
  pub joins : Joins old new (PairOfChannels lists (shape_of s) vs pars)

abbrev pub TellsChannels : ProgramLists → Standing → Standing → List VarId → List (VarId × TypeId) → Asked → Asked
    → Bool
    → Type 0
TellsChannels lists s next vs pars old new true = ChannelsPassed lists s next vs pars old new
TellsChannels lists s next vs pars old new false =
    (left : Judgement) → ¬ (PassesChannels lists no_amounts (shape_of s) vs pars left)

-- ---- values and lists

-- what a list carries and what its parameter says
pub record PairOfValues (carry : List (VarId × Amount)) (args : List ValueArg) (pars : List Par) (pair : Amount
    × Amount)
    : Type 0 where
  pub w : VarId
  pub par : Par
  pub passes : Contains (zip args pars) (arg.List w, par)
  pub carries : bound_to w.0 carry ≡ Some pair.0
  pub says : par.amount ≡ Some pair.1

-- what the lists of a standing carry
abbrev pub carried_by_all : Standing → List (VarId × Amount)
carried_by_all s = each_bound amount_of s.lists

-- a list of the kind passed and is used up, and the pair of what it carries and what is said joined
pub record ListPassed (s next : Standing) (w : VarId) (kind : Kind) (said : Amount) (old new : Asked) : Type 0 where
  pub carried : Carried
  pub there : bound_to w.0 s.lists ≡ Some carried
  pub its_kind : carried.kind ≡ kind
  pub left : List (VarId × Carried)
  pub unbound : left ≡ unbind w.0 s.lists
  pub next_is : next ≡ record s { lists = left }
  pub joins : Joins old new (λ pair. pair ≡ (carried.amount, said))

abbrev pub TellsList : Standing → Standing → VarId → Kind → Amount → Asked → Asked → Bool → Type 0
TellsList s next w kind said old new true = ListPassed s next w kind said old new
TellsList s next w kind said old new false =
    (carried : Carried) → bound_to w.0 s.lists ≡ Some carried → ¬ (carried.kind ≡ kind)

-- a value or a list passed, and its pair joined
pub record ValuePassed (lists : ProgramLists) (s next : Standing) (a : ValueArg) (par : Par) (old new : Asked)
    : Type 0 where
  pub passes : PassesValue lists no_amounts (shape_of s) a par (shape_of next)
  pub lists_left : carried_by_all next ≡ without_passed (a ∷ []) (carried_by_all s)
  pub potential : next.potential ≡ s.potential
  pub joins : Joins old new (PairOfValues (carried_by_all s) (a ∷ []) (par ∷ []))

abbrev pub TellsValue : ProgramLists → Standing → Standing → ValueArg → Par → Asked → Asked → Bool → Type 0
TellsValue lists s next a par old new true = ValuePassed lists s next a par old new
TellsValue lists s next a par old new false = (k : Judgement) → ¬ (PassesValue lists no_amounts (shape_of s) a par k)

-- values and lists passed, and their pairs joined
pub record ValuesPassed (lists : ProgramLists) (s next : Standing) (args : List ValueArg) (pars : List Par)
    (old new : Asked) : Type 0 where
  pub passes : PassesValues lists no_amounts (shape_of s) args pars (shape_of next)
  pub lists_left : carried_by_all next ≡ without_passed args (carried_by_all s)
  pub potential : next.potential ≡ s.potential
  pub joins : Joins old new (PairOfValues (carried_by_all s) args pars)

abbrev pub TellsValues : ProgramLists → Standing → Standing → List ValueArg → List Par → Asked → Asked → Bool → Type 0
TellsValues lists s next args pars old new true = ValuesPassed lists s next args pars old new
TellsValues lists s next args pars old new false =
    (left : Judgement) → ¬ (PassesValues lists no_amounts (shape_of s) args pars left)

-- ---- arguments

-- the arguments fit, and their pairs joined
pub record ArgumentsPassed (lists : ProgramLists) (s next : Standing) (d : ProcDecl) (args : Args) (old new : Asked)
    : Type 0 where
  pub fit : ArgumentsFit lists no_amounts (shape_of s) d args (shape_of next)
  pub lists_left : carried_by_all next ≡ without_passed args.values (carried_by_all s)
  pub potential : next.potential ≡ s.potential
  pub joins : Joins old new (λ pair.
      PairOfValues (carried_by_all s) args.values d.values pair
      ⊎ PairOfChannels lists (shape_of s) args.channels d.channels pair)

abbrev pub TellsArguments : ProgramLists → Standing → Standing → ProcDecl → Args → Asked → Asked → Bool → Type 0
TellsArguments lists s next d args old new true = ArgumentsPassed lists s next d args old new
TellsArguments lists s next d args old new false =
    (left : Judgement) → ¬ (ArgumentsFit lists no_amounts (shape_of s) d args left)
