-- Examples, which nobody need believe: small programs by which the machine is tried, one that has every instruction,
-- and five short contracts.
use Rattle.std.specs.Prelude.{ℕ, List, [], ◌∷◌, Some, None, codes}
use Rattle.nomos_ir.specs.TermKind.{int_kind}
use Rattle.nomos_ir.specs.declared.amount.Amount.TheVariants.{Written}
use Rattle.nomos_ir.specs.declared.code_node.Arm.{Arm}
use Rattle.nomos_ir.specs.declared.code_node.Args.{Args}
use Rattle.nomos_ir.specs.declared.code_node.Chan.TheVariants as chan
use Rattle.nomos_ir.specs.declared.code_node.CodeNode.TheVariants as code
use Rattle.nomos_ir.specs.declared.code_node.ValueArg.TheVariants as arg
use Rattle.nomos_ir.specs.declared.declaration.Par.{Par}
use Rattle.nomos_ir.specs.declared.declaration.ProcDecl.{ProcDecl}
use Rattle.nomos_ir.specs.declared.ids.CodeId.{CodeId}
use Rattle.nomos_ir.specs.declared.ids.Label.{Label}
use Rattle.nomos_ir.specs.declared.ids.ProcId.{ProcId}
use Rattle.nomos_ir.specs.declared.ids.TermId.{TermId}
use Rattle.nomos_ir.specs.declared.ids.TypeId.{TypeId}
use Rattle.nomos_ir.specs.declared.ids.VarId.{VarId}
use Rattle.nomos_ir.specs.declared.mode.Mode.TheVariants as mode
use Rattle.nomos_ir.specs.declared.term_node.TermNode.TheVariants as term
use Rattle.nomos_ir.specs.declared.type_node.Branch.{Branch}
use Rattle.nomos_ir.specs.declared.type_node.TypeAt.{TypeAt}
use Rattle.nomos_ir.specs.declared.type_node.TypeNode.{TypeNode}
use Rattle.nomos_ir.specs.declared.type_node.TypeNode.TheVariants as node
use Rattle.nomos_types.specs.Acceptance.{Acceptance, acceptance}

-- ---- ids by their numbers, and parts of programs

abbrev pub type_id : ℕ → TypeId
type_id n = record { 0 = n }

abbrev pub var_id : ℕ → VarId
var_id n = record { 0 = n }

abbrev pub code_id : ℕ → CodeId
code_id n = record { 0 = n }

abbrev pub label_id : ℕ → Label
label_id n = record { 0 = n }

abbrev term_id : ℕ → TermId
term_id n = record { 0 = n }

abbrev proc_id : ℕ → ProcId
proc_id n = record { 0 = n }

abbrev type_of : TypeNode → TypeAt
type_of n = record { node = n; at = 0 }

-- a branch of a type, and one of a `case`
abbrev branch_to : ℕ → ℕ → Branch
branch_to l t = record { label = label_id l; goes = type_id t }

abbrev arm_to : ℕ → ℕ → Arm
arm_to l c = record { label = label_id l; goes = code_id c }

-- nothing is passed; one channel is passed
abbrev no_args : Args
no_args = record { values = []; channels = [] }

abbrev passes_channel : ℕ → Args
passes_channel v = record { values = []; channels = var_id v ∷ [] }

-- a parameter for a number, and one for a list of numbers each of which carries 2
abbrev number_parameter : ℕ → Par
number_parameter v = record { var = var_id v; kind = int_kind; amount = None }

abbrev list_parameter : ℕ → Par
list_parameter v = record { var = var_id v; kind = int_kind; amount = Some (Written 2) }

-- A declaration of resources without parameters or potential, by what it offers and its first instruction; one of
-- transactions, whose `me` is variable 9.
abbrev pub resource_decl : ℕ → ℕ → ProcDecl
resource_decl offers first = record {
  name = codes "p";
  mode = mode.R;
  me = None;
  values = [];
  channels = [];
  amount = Written 0;
  offers = type_id offers;
  first = code_id first;
}

abbrev pub transaction_decl : ℕ → ℕ → ProcDecl
transaction_decl offers first = record (resource_decl offers first) { mode = mode.T; me = Some (var_id 9) }

-- ---- every instruction

-- The ends are of their own for each type. Type 21 is the body of the shared definition, and 23 and 24 are its name.
abbrev each_type : List TypeAt
each_type =
    type_of node.One
    ∷ type_of (node.Plus (branch_to 0 2 ∷ branch_to 1 3 ∷ [])) ∷ type_of node.One ∷ type_of node.One
    ∷ type_of (node.With (branch_to 0 5 ∷ branch_to 1 6 ∷ [])) ∷ type_of node.One ∷ type_of node.One
    ∷ type_of (node.Tensor (type_id 8) (type_id 9)) ∷ type_of node.One ∷ type_of node.One
    ∷ type_of (node.Lolli (type_id 11) (type_id 12)) ∷ type_of node.One ∷ type_of node.One
    ∷ type_of (node.ValueOut int_kind (type_id 14)) ∷ type_of node.One
    ∷ type_of (node.ValueIn int_kind (type_id 16)) ∷ type_of node.One
    ∷ type_of (node.PotOut (Written 3) (type_id 18)) ∷ type_of node.One
    ∷ type_of (node.PotIn (Written 3) (type_id 20)) ∷ type_of node.One
    ∷ type_of (node.Up (type_id 22)) ∷ type_of (node.Down (type_id 23)) ∷ type_of (node.Named (record { 0 = 0 }))
    ∷ type_of (node.Named (record { 0 = 0 }))
    ∷ []

-- with one number, one list and one channel, and a potential of 1
abbrev pub helper : ProcDecl
helper = record (resource_decl 0 0) {
  values = number_parameter 0 ∷ list_parameter 1 ∷ [];
  channels = (var_id 2, type_id 0) ∷ [];
  amount = Written 1;
}

-- a shared one, with a reference
abbrev pub asker : ProcDecl
asker = record (resource_decl 0 0) { mode = mode.S; offers = type_id 23; channels = (var_id 2, type_id 24) ∷ [] }

-- with two numbers
abbrev pub two_numbers : ProcDecl
two_numbers = record (resource_decl 0 0) { values = number_parameter 0 ∷ number_parameter 1 ∷ [] }

-- Each goes on at instruction 0, and where there is another way, at instruction 1. Its channel is variable 1, a second
-- one is variable 2, and what it gets as a channel is variable 3. Its list is variable 4, and one that comes of it is
-- variable 5; what it gets as a value is variable 6. Its term is 7 divided by variable 0, and its test whether that is
-- less than 7.
abbrev pub every_row : Acceptance
every_row =
    acceptance
    (record {
      defs = record { name = codes "market"; mode = mode.S; body = type_id 21 } ∷ [];
      types = each_type;
      terms =
          term.Number 0 7
          ∷ term.Var 0 (var_id 0)
          ∷ term.Div 0 (term_id 0) (term_id 1)
          ∷ term.Less 0 (term_id 2) (term_id 0)
          ∷ term.Var 0 (var_id 6)
          ∷ term.Add 0 (term_id 4) (term_id 0)
          ∷ [];
      code =
          code.Close 0
          ∷ code.Fwd 0 (var_id 1)
          ∷ code.Label 0 chan.Own (label_id 1) (code_id 0)
          ∷ code.Label 0 (chan.Var (var_id 1)) (label_id 1) (code_id 0)
          ∷ code.Case 0 (chan.Var (var_id 1)) (arm_to 0 0 ∷ arm_to 1 1 ∷ [])
          ∷ code.Case 0 chan.Own (arm_to 0 0 ∷ arm_to 1 1 ∷ [])
          ∷ code.Send 0 chan.Own (var_id 2) (code_id 0)
          ∷ code.Send 0 (chan.Var (var_id 1)) (var_id 2) (code_id 0)
          ∷ code.Recv 0 (chan.Var (var_id 1)) (var_id 3) (code_id 0)
          ∷ code.Put 0 chan.Own (term_id 2) (code_id 0)
          ∷ code.Take 0 chan.Own (var_id 6) (code_id 0)
          ∷ code.Pay 0 chan.Own (Written 3) (code_id 0)
          ∷ code.Get 0 (chan.Var (var_id 1)) (Written 3) (code_id 0)
          ∷ code.Work 0 (Written 3) (code_id 0)
          ∷ code.Wait 0 (var_id 1) (code_id 0)
          ∷ code.Accept 0 (code_id 0)
          ∷ code.Detach 0 (code_id 0)
          ∷ code.Acquire 0 (var_id 1) (var_id 3) (code_id 0)
          ∷ code.Release 0 (var_id 1) (var_id 3) (code_id 0)
          ∷ code.Spawn
          0
          (var_id 3)
          (proc_id 0)
          (record { values = arg.Term (term_id 2) ∷ arg.List (var_id 4) ∷ []; channels = var_id 1 ∷ [] })
          (code_id 0)
          ∷ code.Spawn 0 (var_id 3) (proc_id 2) (passes_channel 1) (code_id 0)
          ∷ code.Let 0 (var_id 6) (term_id 2) (code_id 0)
          ∷ code.Emit 0 (term_id 2) (code_id 0)
          ∷ code.If 0 (term_id 3) (code_id 0) (code_id 1)
          ∷ code.Call
          0
          (proc_id 0)
          (record { values = arg.Term (term_id 2) ∷ arg.List (var_id 4) ∷ []; channels = var_id 1 ∷ [] })
          ∷ code.Call 0 (proc_id 1) no_args
          ∷ code.Empty 0 (var_id 5) (Written 2) int_kind (code_id 0)
          ∷ code.Add 0 (var_id 5) (term_id 2) (var_id 4) (code_id 0)
          ∷ code.Match 0 (var_id 4) (code_id 0) (var_id 6) (var_id 5) (code_id 1)
          ∷ code.Call
          0
          (proc_id 3)
          (record { values = arg.Term (term_id 5) ∷ arg.Term (term_id 2) ∷ []; channels = [] })
          ∷ [];
      fns = [];
      procs = helper ∷ transaction_decl 0 0 ∷ asker ∷ two_numbers ∷ [];
      labels = codes "a" ∷ codes "b" ∷ [];
    })
    []
    1

-- ---- forwards: what is said on both of their channels comes in the order in which it was said

-- proc R speaker(;) : +{ last : 1 } = self.last; close;
-- proc R front(; x : +{ last : 1 }) : +{ first : +{ last : 1 } } = self.first; fwd x;
-- proc T hearer(;) = spawn x = speaker(;); spawn y = front(; x); case y { first => case y { last => wait y; close } };
-- proc R listener(;) : &{ first : &{ last : 1 } } = case self { first => case self { last => close } };
-- proc R back(; x : &{ first : &{ last : 1 } }) : &{ last : 1 } = x.first; fwd x;
-- proc T teller(;) = spawn x = listener(;); spawn y = back(; x); y.last; wait y; close;
abbrev pub speaker : ProcDecl
speaker = resource_decl 1 1

abbrev pub listener : ProcDecl
listener = resource_decl 10 12

abbrev pub hearer : ProcDecl
hearer = transaction_decl 7 9

abbrev pub teller : ProcDecl
teller = transaction_decl 16 19

abbrev pub forwarding : Acceptance
forwarding =
    acceptance
    (record {
      defs = [];
      types =
          type_of node.One ∷ type_of (node.Plus (branch_to 0 0 ∷ []))
          ∷ type_of node.One ∷ type_of (node.Plus (branch_to 0 2 ∷ []))
          ∷ type_of node.One ∷ type_of (node.Plus (branch_to 0 4 ∷ [])) ∷ type_of (node.Plus (branch_to 1 5 ∷ []))
          ∷ type_of node.One
          ∷ type_of node.One ∷ type_of (node.With (branch_to 0 8 ∷ [])) ∷ type_of (node.With (branch_to 1 9 ∷ []))
          ∷ type_of node.One ∷ type_of (node.With (branch_to 0 11 ∷ [])) ∷ type_of (node.With (branch_to 1 12 ∷ []))
          ∷ type_of node.One ∷ type_of (node.With (branch_to 0 14 ∷ []))
          ∷ type_of node.One
          ∷ [];
      terms = [];
      code =
          code.Close 0
          ∷ code.Label 0 chan.Own (label_id 0) (code_id 0)
          ∷ code.Fwd 0 (var_id 0)
          ∷ code.Label 0 chan.Own (label_id 1) (code_id 2)
          ∷ code.Close 0
          ∷ code.Wait 0 (var_id 2) (code_id 4)
          ∷ code.Case 0 (chan.Var (var_id 2)) (arm_to 0 5 ∷ [])
          ∷ code.Case 0 (chan.Var (var_id 2)) (arm_to 1 6 ∷ [])
          ∷ code.Spawn 0 (var_id 2) (proc_id 1) (passes_channel 1) (code_id 7)
          ∷ code.Spawn 0 (var_id 1) (proc_id 0) no_args (code_id 8)
          ∷ code.Close 0
          ∷ code.Case 0 chan.Own (arm_to 0 10 ∷ [])
          ∷ code.Case 0 chan.Own (arm_to 1 11 ∷ [])
          ∷ code.Fwd 0 (var_id 0)
          ∷ code.Label 0 (chan.Var (var_id 0)) (label_id 1) (code_id 13)
          ∷ code.Close 0
          ∷ code.Wait 0 (var_id 2) (code_id 15)
          ∷ code.Label 0 (chan.Var (var_id 2)) (label_id 0) (code_id 16)
          ∷ code.Spawn 0 (var_id 2) (proc_id 4) (passes_channel 1) (code_id 17)
          ∷ code.Spawn 0 (var_id 1) (proc_id 3) no_args (code_id 18)
          ∷ [];
      fns = [];
      procs =
          speaker
          ∷ record (resource_decl 6 3) { channels = (var_id 0, type_id 3) ∷ [] }
          ∷ hearer
          ∷ listener
          ∷ record (resource_decl 15 14) { channels = (var_id 0, type_id 13) ∷ [] }
          ∷ teller
          ∷ [];
      labels = codes "last" ∷ codes "first" ∷ [];
    })
    []
    1

-- ---- two contracts that are acquired in this order and in that

-- type S cell = up down cell;
-- proc S cell_holder(;) : cell = accept; detach; call cell_holder(;);
-- proc T takes_both(; a : cell, b : cell) =
--     acquire a as x; acquire b as y; release x as c; release y as d; close;
abbrev pub cell_holder : ProcDecl
cell_holder = record (resource_decl 3 2) { mode = mode.S }

abbrev pub takes_both : ProcDecl
takes_both = record (transaction_decl 6 7) { channels = (var_id 1, type_id 4) ∷ (var_id 2, type_id 5) ∷ [] }

abbrev pub cells : Acceptance
cells =
    acceptance
    (record {
      defs = record { name = codes "cell"; mode = mode.S; body = type_id 0 } ∷ [];
      types =
          type_of (node.Up (type_id 1)) ∷ type_of (node.Down (type_id 2)) ∷ type_of (node.Named (record { 0 = 0 }))
          ∷ type_of (node.Named (record { 0 = 0 }))
          ∷ type_of (node.Named (record { 0 = 0 })) ∷ type_of (node.Named (record { 0 = 0 }))
          ∷ type_of node.One
          ∷ [];
      terms = [];
      code =
          code.Call 0 (proc_id 0) no_args
          ∷ code.Detach 0 (code_id 0)
          ∷ code.Accept 0 (code_id 1)
          ∷ code.Close 0
          ∷ code.Release 0 (var_id 4) (var_id 6) (code_id 3)
          ∷ code.Release 0 (var_id 3) (var_id 5) (code_id 4)
          ∷ code.Acquire 0 (var_id 2) (var_id 4) (code_id 5)
          ∷ code.Acquire 0 (var_id 1) (var_id 3) (code_id 6)
          ∷ [];
      fns = [];
      procs = cell_holder ∷ takes_both ∷ [];
      labels = [];
    })
    []
    1

-- ---- a list each of whose elements pays for its turn

-- proc T pays_all(xs : list {2} int;) = match xs { nil => close | h :: t => work {2}; emit h; call pays_all(t;) };
-- proc T pays_three(;) {6} =
--     let a = list {2} int; let b = list 5, a; let c = list 7, b; let d = list 9, c; call pays_all(d;);
abbrev pub pays_all : ProcDecl
pays_all = record (transaction_decl 0 4) { values = list_parameter 0 ∷ [] }

abbrev pub pays_three : ProcDecl
pays_three = record (transaction_decl 1 9) { amount = Written 6 }

abbrev pub payments : Acceptance
payments =
    acceptance
    (record {
      defs = [];
      types = type_of node.One ∷ type_of node.One ∷ [];
      terms = term.Var 0 (var_id 1) ∷ term.Number 0 5 ∷ term.Number 0 7 ∷ term.Number 0 9 ∷ [];
      code =
          code.Close 0
          ∷ code.Call 0 (proc_id 0) (record { values = arg.List (var_id 2) ∷ []; channels = [] })
          ∷ code.Emit 0 (term_id 0) (code_id 1)
          ∷ code.Work 0 (Written 2) (code_id 2)
          ∷ code.Match 0 (var_id 0) (code_id 0) (var_id 1) (var_id 2) (code_id 3)
          ∷ code.Call 0 (proc_id 0) (record { values = arg.List (var_id 6) ∷ []; channels = [] })
          ∷ code.Add 0 (var_id 6) (term_id 3) (var_id 5) (code_id 5)
          ∷ code.Add 0 (var_id 5) (term_id 2) (var_id 4) (code_id 6)
          ∷ code.Add 0 (var_id 4) (term_id 1) (var_id 3) (code_id 7)
          ∷ code.Empty 0 (var_id 3) (Written 2) int_kind (code_id 8)
          ∷ [];
      fns = [];
      procs = pays_all ∷ pays_three ∷ [];
      labels = [];
    })
    []
    1

-- ---- a contract that is acquired and spoken to

-- type S bell = up &{ ring : down bell };
-- proc S ringer(;) : bell = accept; case self { ring => detach; call ringer(;) };
-- proc T visitor(; b : bell) {3} = acquire b as x; x.ring; work {3}; release x as c; close;
abbrev pub ringer : ProcDecl
ringer = record (resource_decl 4 3) { mode = mode.S }

abbrev pub visitor : ProcDecl
visitor = record (transaction_decl 6 8) { channels = (var_id 1, type_id 5) ∷ []; amount = Written 3 }

abbrev pub bells : Acceptance
bells =
    acceptance
    (record {
      defs = record { name = codes "bell"; mode = mode.S; body = type_id 0 } ∷ [];
      types =
          type_of (node.Up (type_id 1)) ∷ type_of (node.With (branch_to 0 2 ∷ [])) ∷ type_of (node.Down (type_id 3))
          ∷ type_of (node.Named (record { 0 = 0 }))
          ∷ type_of (node.Named (record { 0 = 0 })) ∷ type_of (node.Named (record { 0 = 0 }))
          ∷ type_of node.One
          ∷ [];
      terms = [];
      code =
          code.Call 0 (proc_id 0) no_args
          ∷ code.Detach 0 (code_id 0)
          ∷ code.Case 0 chan.Own (arm_to 0 1 ∷ [])
          ∷ code.Accept 0 (code_id 2)
          ∷ code.Close 0
          ∷ code.Release 0 (var_id 2) (var_id 3) (code_id 4)
          ∷ code.Work 0 (Written 3) (code_id 5)
          ∷ code.Label 0 (chan.Var (var_id 2)) (label_id 0) (code_id 6)
          ∷ code.Acquire 0 (var_id 1) (var_id 2) (code_id 7)
          ∷ [];
      fns = [];
      procs = ringer ∷ visitor ∷ [];
      labels = codes "ring" ∷ [];
    })
    []
    1

-- ---- a number that is taken

-- proc R number_taker(;) : int -> 1 = take self v; close;
abbrev pub number_taker : ProcDecl
number_taker = resource_decl 1 1

abbrev pub takes_number : Acceptance
takes_number =
    acceptance
    (record {
      defs = [];
      types = type_of node.One ∷ type_of (node.ValueIn int_kind (type_id 0)) ∷ [];
      terms = [];
      code = code.Close 0 ∷ code.Take 0 chan.Own (var_id 0) (code_id 0) ∷ [];
      fns = [];
      procs = number_taker ∷ [];
      labels = [];
    })
    []
    1
