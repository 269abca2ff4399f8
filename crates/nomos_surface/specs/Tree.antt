-- The trees of a contract text, by the nonterminals of the grammar. A tree keeps the offsets of all that a program and
-- an answer may name.
use Rattle.std.specs.Prelude.{ℕ, Bool, List, Option}
use Rattle.nomos_surface.specs.declared.declarations.OfferedMode.{OfferedMode}
use Rattle.nomos_surface.specs.declared.declarations.ProcessPar.{ProcessPar}
use Rattle.nomos_surface.specs.declared.declarations.ValuePar.{ValuePar}
use Rattle.nomos_surface.specs.declared.name_at.NameAt.{NameAt}
use Rattle.nomos_surface.specs.declared.potential.Potential.{Potential}
use Rattle.nomos_surface.specs.declared.steps.ChanAt.{ChanAt}
use Rattle.nomos_surface.specs.declared.surface.CostLine.{CostLine}
use Rattle.nomos_surface.specs.declared.terms.Operator.{Operator}
use Rattle.nomos_surface.specs.declared.types.Sender.{Sender}
use Rattle.nomos_surface.specs.declared.value_type.ValueType.{ValueType}

-- type = "up" type | "down" type
--      | "|" pot ">" type | "<" pot "|" type
--      | vtype ("/\" | "->") type
--      | atom [ ("*" | "-o") type ]
-- atom = "1" | NAME | ("+" | "&") "{" lab { "|" lab } "}" | "(" type ")"
-- lab  = NAME ":" type
mutual
  pub data TypeTree : Type 0 where
    one : (at : ℕ) → TypeTree
    named : (name : NameAt) → TypeTree
    choice : (sender : Sender) → (at : ℕ) → (branches : BranchTrees) → TypeTree
    channel : (sender : Sender) → (at : ℕ) → (carried goes : TypeTree) → TypeTree
    valued : (sender : Sender) → (at : ℕ) → (value : ValueType) → (goes : TypeTree) → TypeTree
    paying : (sender : Sender) → (at : ℕ) → (potential : Potential) → (goes : TypeTree) → TypeTree
    going_up : (at : ℕ) → (goes : TypeTree) → TypeTree
    going_down : (at : ℕ) → (goes : TypeTree) → TypeTree
    grouped : (inner : TypeTree) → TypeTree

  -- the branches of a choice, in order of text
  pub data BranchTrees : Type 0 where
    no_branches : BranchTrees
    branch : (label : NameAt) → (goes : TypeTree) → (branches : BranchTrees) → BranchTrees

-- term = "if" term "then" term "else" term
--      | "match" term "{" "nil" "=>" term "|" NAME "::" NAME "=>" term "}"
--      | orx
-- orx  = andx { "or" andx }
-- andx = notx { "and" notx }
-- notx = "not" notx | cmp
-- cmp  = cons [ ("<" | "=") cons ]
-- cons = sum [ "::" cons ]
-- sum  = prod { ("+" | "-") prod }
-- prod = prim { ("*" | "/" | "%") prim }
-- prim = NUMBER | "true" | "false" | "me" | NAME [ "(" [ term { "," term } ] ")" ]
--      | "nil" vtype | "(" term ")"
mutual
  pub data TermTree : Type 0 where
    number : (at value : ℕ) → TermTree
    truth : (at : ℕ) → (value : Bool) → TermTree
    me : (at : ℕ) → TermTree
    variable : (name : NameAt) → TermTree
    application : (function : NameAt) → (arguments : TermTrees) → TermTree
    no_items : (at : ℕ) → (element : ValueType) → TermTree
    binary : (operator : Operator) → (at : ℕ) → (left right : TermTree) → TermTree
    negation : (at : ℕ) → (inner : TermTree) → TermTree
    choosing : (at : ℕ) → (test holds fails : TermTree) → TermTree
    matching : (at : ℕ) → (matched empty : TermTree) → (head tail : NameAt) → (more : TermTree) → TermTree
    parenthesized : (inner : TermTree) → TermTree

  -- the arguments of a call, in order of text
  pub data TermTrees : Type 0 where
    no_terms : TermTrees
    term : (first : TermTree) → (rest : TermTrees) → TermTrees

-- args = "(" [ term { "," term } ] ";" [ NAME { "," NAME } ] ")"
pub record ArgTrees : Type 0 where
  pub values : List TermTree
  pub channels : List NameAt

-- step = chan "." NAME | "send" chan NAME | "recv" chan NAME
--      | "put" chan term | "take" chan NAME
--      | "pay" chan pot | "get" chan pot | "work" pot
--      | "wait" NAME | "accept" | "detach"
--      | "acquire" NAME "as" NAME | "release" NAME "as" NAME
--      | "spawn" NAME "=" NAME args | "let" NAME "=" term
--      | "let" NAME "=" "list" pot vtype | "let" NAME "=" "list" term "," NAME | "emit" term
pub data StepTree : Type 0 where
  label : (chan : ChanAt) → (l : NameAt) → StepTree
  send : (at : ℕ) → (chan : ChanAt) → (sent : NameAt) → StepTree
  recv : (at : ℕ) → (chan : ChanAt) → (bound : NameAt) → StepTree
  put : (at : ℕ) → (chan : ChanAt) → (value : TermTree) → StepTree
  taking : (at : ℕ) → (chan : ChanAt) → (bound : NameAt) → StepTree
  pay : (at : ℕ) → (chan : ChanAt) → (potential : Potential) → StepTree
  getting : (at : ℕ) → (chan : ChanAt) → (potential : Potential) → StepTree
  work : (at : ℕ) → (potential : Potential) → StepTree
  wait : (at : ℕ) → (chan : NameAt) → StepTree
  accept : (at : ℕ) → StepTree
  detach : (at : ℕ) → StepTree
  acquire : (at : ℕ) → (shared bound : NameAt) → StepTree
  release : (at : ℕ) → (held bound : NameAt) → StepTree
  spawn : (at : ℕ) → (bound process : NameAt) → (arguments : ArgTrees) → StepTree
  binding : (at : ℕ) → (bound : NameAt) → (value : TermTree) → StepTree
  empty_list : (at : ℕ) → (bound : NameAt) → (list_at : ℕ) → (potential : Potential) → (element : ValueType) →
      StepTree
  longer_list : (at : ℕ) → (bound : NameAt) → (first : TermTree) → (rest : NameAt) → StepTree
  emit : (at : ℕ) → (value : TermTree) → StepTree

-- code = { step ";" } last
-- last = "close" | "fwd" NAME | "call" NAME args
--      | "if" term "{" code "}" "else" "{" code "}"
--      | "case" chan "{" arm { "|" arm } "}"
--      | "match" NAME "{" "nil" "=>" code "|" NAME "::" NAME "=>" code "}"
-- arm  = NAME "=>" code
mutual
  pub data CodeTree : Type 0 where
    code : (steps : List StepTree) → (last : LastTree) → CodeTree

  pub data LastTree : Type 0 where
    close : (at : ℕ) → LastTree
    fwd : (at : ℕ) → (chan : NameAt) → LastTree
    calling : (at : ℕ) → (process : NameAt) → (arguments : ArgTrees) → LastTree
    code_if : (at : ℕ) → (test : TermTree) → (holds fails : CodeTree) → LastTree
    case : (at : ℕ) → (chan : ChanAt) → (arms : ArmTrees) → LastTree
    code_match : (at : ℕ) → (matched : NameAt) → (empty : CodeTree) → (head tail : NameAt) → (more : CodeTree) →
        LastTree

  -- the branches of a `case`, in order of text
  pub data ArmTrees : Type 0 where
    no_arms : ArmTrees
    arm : (l : NameAt) → (goes : CodeTree) → (arms : ArmTrees) → ArmTrees

-- cpar = NAME ":" type
pub record ChanParTree : Type 0 where
  pub name : NameAt
  pub goes : TypeTree

-- pars = "(" [ par { "," par } ] ";" [ cpar { "," cpar } ] ")"
-- par  = NAME ":" vtype | NAME ":" "list" pot vtype
pub record ParTrees : Type 0 where
  pub values : List ProcessPar
  pub channels : List ChanParTree

-- decl = "type" ("R" | "S" | "L") NAME "=" type ";"
--      | "fn" NAME "(" [ vpar { "," vpar } ] ")" ":" vtype "=" term ";"
--      | "proc" ("R" | "S" | "L") NAME pars [ pot ] ":" type "=" code ";"
--      | "proc" "T" NAME pars [ pot ] "=" code ";"
-- vpar = NAME ":" vtype
pub data DeclTree : Type 0 where
  definition : (at : ℕ) → (mode : OfferedMode) → (name : NameAt) → (body : TypeTree) → DeclTree
  function : (at : ℕ) → (name : NameAt) → (pars : List ValuePar) → (gives : ValueType) → (body : TermTree) →
      DeclTree
  process : (at : ℕ) → (mode : OfferedMode) → (name : NameAt) → (pars : ParTrees) →
      (potential : Option Potential) → (offers : TypeTree) → (body : CodeTree) → DeclTree
  transaction : (at : ℕ) → (name : NameAt) → (pars : ParTrees) → (potential : Option Potential) →
      (body : CodeTree) → DeclTree

-- file = [ "cost" ("ticks" | "sends" | "all") ";" ] { decl }
pub record FileTree : Type 0 where
  pub cost : Option CostLine
  pub decls : List DeclTree
