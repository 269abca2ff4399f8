-- What a process has in hand where it stands at an instruction.
use Rattle.std.specs.Prelude.{◌≡◌, ◌≤◌, ◌+◌, ℕ, Bool, true, false, not, IsTrue, List, [], ◌∷◌, ◌++◌, filter, All, Option, Some, None}
use Rattle.std.specs.List.{flat_map}
use Rattle.std.specs.Option.{option_or}
use Rattle.nomos_ir.specs.declared.amount.Amount.{Amount}
use Rattle.nomos_ir.specs.declared.code_node.Chan.{Chan}
use Rattle.nomos_ir.specs.declared.code_node.Chan.TheVariants as chan
use Rattle.nomos_ir.specs.declared.declaration.ProcDecl.{ProcDecl}
use Rattle.nomos_ir.specs.declared.ids.CodeId.{CodeId}
use Rattle.nomos_ir.specs.declared.ids.TypeId.{TypeId}
use Rattle.nomos_ir.specs.declared.ids.VarId.{VarId}
use Rattle.nomos_ir.specs.declared.kind.Kind.{Kind}
use Rattle.nomos_ir.specs.declared.lists.ProgramLists.{ProgramLists}
use Rattle.nomos_ir.specs.declared.mode.Mode.{Mode}
use Rattle.nomos_ir.specs.declared.mode.Mode.TheVariants as mode
use Rattle.nomos_ir.specs.Bindings.{bound_to, bind, bindings_of, IsAscending}
use Rattle.nomos_ir.specs.TermKind.{int_kind}
use Rattle.nomos_types.specs.Amount.{Annotations, dths}
use Rattle.nomos_types.specs.Modes.{HasMode, IsLinearMode, may_hold, parameter_mode}

-- a list that carries potential: the kind of its elements, and the amount that each carries, in Dths
pub record ListType : Type 0 where
  pub kind : Kind
  pub amount : ℕ

-- What is known of a process at an instruction: the mode at which it offers, what its variables stand for, how much
-- potential it has, and the type that it is to provide.
pub record Judgement : Type 0 where
  pub mode : Mode
  -- the kinds of values
  pub kinds : List (VarId × Kind)
  -- the lists that carry potential
  pub lists : List (VarId × ListType)
  -- the types of references to shared channels
  pub shared : List (VarId × TypeId)
  -- the types of channels that are used exactly once
  pub linear : List (VarId × TypeId)
  -- the potential, in Dths
  pub q : ℕ
  -- where in the code
  pub code : CodeId
  -- the type of `self`
  pub offers : TypeId

-- 1 where there is something, 0 where not
abbrev pub count_one : {X : Type 0} → Option X → ℕ
count_one (Some x) = 1
count_one None = 0

-- in how many parts of the judgement the variable is bound
abbrev pub parts_with : Judgement → ℕ → ℕ
parts_with j v =
    count_one (bound_to v j.kinds)
    + count_one (bound_to v j.lists)
    + count_one (bound_to v j.shared)
    + count_one (bound_to v j.linear)

-- no part of the judgement has the variable
abbrev pub IsFree : Judgement → VarId → Type 0
IsFree j v = parts_with j v.0 ≡ 0

-- Each part is a map, and no variable stands in two. References have mode S, and channels that are used exactly once a
-- mode of such channels.
pub record IsJudgement (lists : ProgramLists) (j : Judgement) : Type 0 where
  pub kinds : IsAscending j.kinds
  pub lists_ascend : IsAscending j.lists
  pub shared : IsAscending j.shared
  pub linear : IsAscending j.linear
  pub apart : (v : ℕ) → parts_with j v ≤ 1
  pub shared_modes : All (λ b. HasMode lists b.1 mode.S) j.shared
  pub linear_modes : All (λ b. (m : Mode) × HasMode lists b.1 m × IsLinearMode m) j.linear

-- What the process has suits its mode: it may hold each channel that is used exactly once, and `self` has its mode.
pub record SuitsMode (lists : ProgramLists) (j : Judgement) : Type 0 where
  pub held : All (λ b. (m : Mode) × HasMode lists b.1 m × IsTrue (may_hold j.mode m)) j.linear
  pub offers : HasMode lists j.offers j.mode

-- the type of `self`, or of a linear channel
abbrev pub channel_type : Judgement → Chan → Option TypeId
channel_type j chan.Own = Some j.offers
channel_type j (chan.Var v) = bound_to v.0 j.linear

-- the type that the judgement has for a variable: that of a reference, or else of a channel that is used exactly once
abbrev pub type_held : Judgement → ℕ → Option TypeId
type_held j v = option_or (bound_to v j.shared) (bound_to v j.linear)

-- the process goes on at an instruction
abbrev pub at_code : Judgement → CodeId → Judgement
at_code j next = record j { code = next }

-- the channel goes on at a type, and the process at an instruction
abbrev pub goes_on : Judgement → Chan → TypeId → CodeId → Judgement
goes_on j chan.Own t next = record j { offers = t; code = next }
goes_on j (chan.Var v) t next = record j { linear = bind v t j.linear; code = next }

-- the potential is q
abbrev pub with_potential : Judgement → ℕ → Judgement
with_potential j q = record j { q = q }

-- a value is bound
abbrev pub binds_value : Judgement → VarId → Kind → Judgement
binds_value j v kind = record j { kinds = bind v kind j.kinds }

-- a list is bound
abbrev pub binds_list : Judgement → VarId → ListType → Judgement
binds_list j v list = record j { lists = bind v list j.lists }

-- a channel of that mode and type is bound: a reference at mode S, and otherwise a channel that is used exactly once
abbrev pub binds_channel : Judgement → VarId → Mode → TypeId → Judgement
binds_channel j v mode.S t = record j { shared = bind v t j.shared }
binds_channel j v _ t = record j { linear = bind v t j.linear }

-- the value that stands for the payer's account in a transaction
abbrev pub payer_kinds : Option VarId → List (VarId × Kind)
payer_kinds (Some v) = (v, int_kind) ∷ []
payer_kinds None = []

-- a parameter that is a value, with its kind
abbrev pub value_par : VarId → Kind → Option Amount → List (VarId × Kind)
value_par v kind None = (v, kind) ∷ []
value_par v kind (Some amount) = []

-- a parameter that is a list with potential, with the kind and the amount of its elements
abbrev pub list_par : Annotations → VarId → Kind → Option Amount → List (VarId × ListType)
list_par x v kind None = []
list_par x v kind (Some amount) = (v, record { kind = kind; amount = dths x amount }) ∷ []

-- whether a channel parameter is a reference
abbrev pub is_shared_mode : Mode → Bool
is_shared_mode mode.S = true
is_shared_mode _ = false

-- whether a parameter is a reference to a shared channel
abbrev pub is_shared : ProgramLists → VarId × TypeId → Bool
is_shared lists par = is_shared_mode (parameter_mode lists par.1)

-- the judgement at the start of a declaration: its parameters, and its declared potential
abbrev pub start_of : ProgramLists → Annotations → ProcDecl → Judgement
start_of lists x d = record {
  mode = d.mode;
  kinds = bindings_of (payer_kinds d.me ++ flat_map (λ par. value_par par.var par.kind par.amount) d.values);
  lists = bindings_of (flat_map (λ par. list_par x par.var par.kind par.amount) d.values);
  shared = bindings_of (filter (is_shared lists) d.channels);
  linear = bindings_of (filter (λ par. not (is_shared lists par)) d.channels);
  q = dths x d.amount;
  code = d.first;
  offers = d.offers;
}
