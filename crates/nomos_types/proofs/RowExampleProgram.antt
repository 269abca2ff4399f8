-- Types, declarations and instructions, on which the typing rules are tried, and judgements at the instructions.
use Rattle.std.proofs.Common.{ℕ, List, [], ◌∷◌, true, None, Some}
use Rattle.std.specs.Prelude.{codes}
use Rattle.nomos_ir.specs.declared.amount.Amount.TheVariants.{Written}
use Rattle.nomos_ir.specs.declared.code_node.Arm.{Arm}
use Rattle.nomos_ir.specs.declared.code_node.Chan.TheVariants as chan
use Rattle.nomos_ir.specs.declared.code_node.CodeNode.{CodeNode}
use Rattle.nomos_ir.specs.declared.code_node.CodeNode.TheVariants as code
use Rattle.nomos_ir.specs.declared.code_node.ValueArg.{ValueArg}
use Rattle.nomos_ir.specs.declared.code_node.ValueArg.TheVariants as arg
use Rattle.nomos_ir.specs.declared.declaration.Par.{Par}
use Rattle.nomos_ir.specs.declared.declaration.ProcDecl.{ProcDecl}
use Rattle.nomos_ir.specs.declared.ids.CodeId.{CodeId}
use Rattle.nomos_ir.specs.declared.ids.Label.{Label}
use Rattle.nomos_ir.specs.declared.ids.ProcId.{ProcId}
use Rattle.nomos_ir.specs.declared.ids.TermId.{TermId}
use Rattle.nomos_ir.specs.declared.ids.TypeId.{TypeId}
use Rattle.nomos_ir.specs.declared.ids.VarId.{VarId}
use Rattle.nomos_ir.specs.declared.lists.ProgramLists.{ProgramLists}
use Rattle.nomos_ir.specs.declared.mode.Mode.{Mode}
use Rattle.nomos_ir.specs.declared.mode.Mode.TheVariants as mode
use Rattle.nomos_ir.specs.declared.term_node.TermNode.TheVariants as term
use Rattle.nomos_ir.specs.declared.type_node.Branch.{Branch}
use Rattle.nomos_ir.specs.declared.type_node.Def.{Def}
use Rattle.nomos_ir.specs.declared.type_node.TypeAt.{TypeAt}
use Rattle.nomos_ir.specs.declared.type_node.TypeNode.{TypeNode}
use Rattle.nomos_ir.specs.declared.type_node.TypeNode.TheVariants as node
use Rattle.nomos_ir.specs.TermKind.{int_kind}
use Rattle.nomos_types.specs.Amount.{Annotations}
use Rattle.nomos_types.specs.Judgement.{Judgement, ListType}

-- ids by their numbers
abbrev pub type_id : ℕ → TypeId
type_id n = record { 0 = n }

abbrev pub var_id : ℕ → VarId
var_id n = record { 0 = n }

abbrev pub code_id : ℕ → CodeId
code_id n = record { 0 = n }

abbrev pub term_id : ℕ → TermId
term_id n = record { 0 = n }

abbrev pub label_id : ℕ → Label
label_id n = record { 0 = n }

abbrev pub proc_id : ℕ → ProcId
proc_id n = record { 0 = n }

-- ---- types

abbrev branch_to : ℕ → ℕ → Branch
branch_to l t = record { label = label_id l; goes = type_id t }

-- the branches of the two choices
abbrev pub plus_branches : List Branch
plus_branches = branch_to 0 2 ∷ branch_to 1 3 ∷ []

abbrev pub with_branches : List Branch
with_branches = branch_to 0 5 ∷ branch_to 1 6 ∷ []

-- the definition of the closed channel, and of the shared one
abbrev end : TypeNode
end = node.Named (record { 0 = 0 })

abbrev market : TypeNode
market = node.Named (record { 0 = 9 })

abbrev type_of : TypeNode → TypeAt
type_of n = record { node = n; at = 0 }

abbrev tried_types : List TypeAt
tried_types =
    type_of node.One
    ∷ type_of (node.Plus plus_branches) ∷ type_of end ∷ type_of end
    ∷ type_of (node.With with_branches) ∷ type_of end ∷ type_of end
    ∷ type_of (node.Tensor (type_id 8) (type_id 9)) ∷ type_of end ∷ type_of end
    ∷ type_of (node.Lolli (type_id 11) (type_id 12)) ∷ type_of end ∷ type_of end
    ∷ type_of (node.ValueOut int_kind (type_id 14)) ∷ type_of end
    ∷ type_of (node.ValueIn int_kind (type_id 16)) ∷ type_of end
    ∷ type_of (node.PotOut (Written 3) (type_id 18)) ∷ type_of end
    ∷ type_of (node.PotIn (Written 3) (type_id 20)) ∷ type_of end
    ∷ type_of (node.Up (type_id 22)) ∷ type_of (node.Down (type_id 23)) ∷ type_of market
    ∷ type_of (node.Down (type_id 25)) ∷ type_of market
    ∷ type_of end ∷ type_of end
    ∷ type_of market ∷ type_of market ∷ type_of end
    ∷ type_of end ∷ type_of end ∷ type_of end
    ∷ type_of end
    ∷ []

abbrev def : Mode → ℕ → Def
def m body = record { name = codes "d"; mode = m; body = type_id body }

abbrev tried_defs : List Def
tried_defs =
    def mode.R 0 ∷ def mode.R 1 ∷ def mode.R 4 ∷ def mode.R 7 ∷ def mode.R 10 ∷ def mode.R 13 ∷ def mode.R 15 ∷
    def mode.R 17
    ∷ def mode.R 19 ∷ def mode.S 21 ∷ def mode.L 24
    ∷ []

-- ---- declarations, all at R and with an amount of 1

abbrev proc_of : List Par → List (VarId × TypeId) → ℕ → ProcDecl
proc_of values channels offers =
    record {
      name = codes "p";
      mode = mode.R;
      me = None;
      values = values;
      channels = channels;
      amount = Written 1;
      offers = type_id offers;
      first = code_id 0;
    }

-- a parameter that is a list of numbers, each of which carries 2
abbrev list_parameter : ℕ → Par
list_parameter v = record { var = var_id v; kind = int_kind; amount = Some (Written 2) }

-- with one channel; with two references; with two channels; with two lists
abbrev pub one_channel : ProcDecl
one_channel = proc_of [] ((var_id 0, type_id 26) ∷ []) 27

abbrev pub two_references : ProcDecl
two_references = proc_of [] ((var_id 0, type_id 28) ∷ (var_id 1, type_id 29) ∷ []) 30

abbrev pub two_channels : ProcDecl
two_channels = proc_of [] ((var_id 0, type_id 31) ∷ (var_id 1, type_id 32) ∷ []) 33

abbrev pub two_lists : ProcDecl
two_lists = proc_of (list_parameter 0 ∷ list_parameter 1 ∷ []) [] 34

-- ---- instructions; each goes on at instruction 0

abbrev arm_of : ℕ → Arm
arm_of l = record { label = label_id l; goes = code_id 0 }

abbrev var_ids : List ℕ → List VarId
var_ids [] = []
var_ids (v ∷ vs) = var_id v ∷ var_ids vs

abbrev list_args : List ℕ → List ValueArg
list_args [] = []
list_args (v ∷ vs) = arg.List (var_id v) ∷ list_args vs

abbrev spawns : ℕ → List ℕ → List ℕ → CodeNode
spawns p lists channels =
    code.Spawn 0 (var_id 2) (proc_id p) (record { values = list_args lists; channels = var_ids channels }) (code_id 0)

abbrev tried_code : List CodeNode
tried_code =
    code.Close 0
    ∷ code.Label 0 chan.Own (label_id 0) (code_id 0)
    ∷ code.Label 0 (chan.Var (var_id 1)) (label_id 0) (code_id 0)
    ∷ code.Case 0 (chan.Var (var_id 1)) (arm_of 0 ∷ arm_of 1 ∷ [])
    ∷ code.Case 0 (chan.Var (var_id 1)) (arm_of 0 ∷ [])
    ∷ code.Case 0 (chan.Var (var_id 1)) (arm_of 0 ∷ arm_of 1 ∷ arm_of 2 ∷ [])
    ∷ code.Send 0 chan.Own (var_id 1) (code_id 0)
    ∷ code.Send 0 (chan.Var (var_id 1)) (var_id 1) (code_id 0)
    ∷ code.Recv 0 chan.Own (var_id 1) (code_id 0)
    ∷ code.Put 0 chan.Own (term_id 0) (code_id 0)
    ∷ code.Put 0 chan.Own (term_id 1) (code_id 0)
    ∷ code.Take 0 chan.Own (var_id 1) (code_id 0)
    ∷ code.Pay 0 chan.Own (Written 3) (code_id 0)
    ∷ code.Get 0 chan.Own (Written 3) (code_id 0)
    ∷ code.Get 0 chan.Own (Written 4) (code_id 0)
    ∷ code.Work 0 (Written 3) (code_id 0)
    ∷ code.Wait 0 (var_id 1) (code_id 0)
    ∷ code.Accept 0 (code_id 0)
    ∷ code.Detach 0 (code_id 0)
    ∷ code.Acquire 0 (var_id 1) (var_id 2) (code_id 0)
    ∷ code.Release 0 (var_id 1) (var_id 2) (code_id 0)
    ∷ spawns 0 [] (1 ∷ [])
    ∷ spawns 1 [] (1 ∷ 1 ∷ [])
    ∷ spawns 2 [] (1 ∷ 1 ∷ [])
    ∷ spawns 3 (1 ∷ 1 ∷ []) []
    ∷ code.Let 0 (var_id 1) (term_id 0) (code_id 0)
    ∷ code.Emit 0 (term_id 0) (code_id 0)
    ∷ code.If 0 (term_id 1) (code_id 0) (code_id 0)
    ∷ code.If 0 (term_id 0) (code_id 0) (code_id 0)
    ∷ code.Fwd 0 (var_id 1)
    ∷ code.Call 0 (proc_id 0) (record { values = []; channels = var_id 1 ∷ [] })
    ∷ code.Empty 0 (var_id 1) (Written 2) int_kind (code_id 0)
    ∷ code.Add 0 (var_id 2) (term_id 0) (var_id 1) (code_id 0)
    ∷ code.Match 0 (var_id 1) (code_id 0) (var_id 2) (var_id 3) (code_id 0)
    ∷ code.Match 0 (var_id 1) (code_id 0) (var_id 2) (var_id 2) (code_id 0)
    ∷ spawns 3 (1 ∷ 3 ∷ []) []
    ∷ []

-- 7 and `true` as terms
abbrev pub tried : ProgramLists
tried =
    record {
      defs = tried_defs;
      types = tried_types;
      terms = term.Number 0 7 ∷ term.Truth 0 true ∷ [];
      code = tried_code;
      fns = [];
      procs = one_channel ∷ two_references ∷ two_channels ∷ two_lists ∷ [];
      labels = codes "a" ∷ codes "b" ∷ codes "c" ∷ [];
    }

-- ---- judgements

-- no stars, and amounts in whole units
abbrev pub units : Annotations
units = record { stars = []; unit = 1 }

-- a process with nothing in hand: its mode, its potential, where it stands, and what it offers
abbrev pub empty_handed : Mode → ℕ → ℕ → ℕ → Judgement
empty_handed m q c t =
    record { mode = m; kinds = []; lists = []; shared = []; linear = []; q = q; code = code_id c; offers = type_id t }

-- with a channel that is used exactly once; with a reference; with a list of numbers that each carry 2; with a number
abbrev pub holding : ℕ → Judgement → Judgement
holding t j = record j { linear = (var_id 1, type_id t) ∷ [] }

abbrev pub referring : ℕ → Judgement → Judgement
referring t j = record j { shared = (var_id 1, type_id t) ∷ [] }

abbrev pub two_each : ListType
two_each = record { kind = int_kind; amount = 2 }

abbrev pub listing : Judgement → Judgement
listing j = record j { lists = (var_id 1, two_each) ∷ [] }

abbrev pub knowing : Judgement → Judgement
knowing j = record j { kinds = (var_id 1, int_kind) ∷ [] }
