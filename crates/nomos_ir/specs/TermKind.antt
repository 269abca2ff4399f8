-- Kinds of terms: one rule for each form of term.
use Rattle.std.specs.Prelude.{◌≡◌, ◌+◌, ℕ, Bool, List, [], ◌∷◌, Some, slice_get, All}
use Rattle.nomos_ir.specs.declared.declaration.FnDecl.{FnDecl}
use Rattle.nomos_ir.specs.declared.ids.FnId.{FnId}
use Rattle.nomos_ir.specs.declared.ids.TermId.{TermId}
use Rattle.nomos_ir.specs.declared.ids.VarId.{VarId}
use Rattle.nomos_ir.specs.declared.kind.Base.TheVariants as base
use Rattle.nomos_ir.specs.declared.kind.Kind.{Kind}
use Rattle.nomos_ir.specs.declared.lists.ProgramLists.{ProgramLists}
use Rattle.nomos_ir.specs.declared.term_node.TermNode.{TermNode}
use Rattle.nomos_ir.specs.declared.term_node.TermNode.TheVariants as node
use Rattle.nomos_ir.specs.Bindings.{bound_to}

-- the kind of numbers
abbrev pub int_kind : Kind
int_kind = record { lists = 0; base = base.Int }

-- the kind of truth values
abbrev pub bool_kind : Kind
bool_kind = record { lists = 0; base = base.Bool }

-- the kind of lists whose elements have this kind
abbrev pub list_kind : Kind → Kind
list_kind kind = record { lists = kind.lists + 1; base = kind.base }

-- variables, each with its kind
abbrev pub VariableKinds : Type 0
VariableKinds = List (VarId × Kind)

-- the kinds of the variables where a list was taken apart
abbrev pub with_parts : VarId → VarId → Kind → VariableKinds → VariableKinds
with_parts head tail kind vars = (tail, list_kind kind) ∷ (head, kind) ∷ vars

mutual
  -- the term has this kind where the variables have those
  pub data HasKind (lists : ProgramLists) : VariableKinds → TermId → Kind → Type 0 where
    term : (vars : VariableKinds) (t : TermId) (kind : Kind) (n : TermNode)
        → slice_get lists.terms t.0 ≡ Some n → NodeHasKind lists vars n kind
        → HasKind lists vars t kind

  pub data NodeHasKind (lists : ProgramLists) : VariableKinds → TermNode → Kind → Type 0 where
    number : (vars : VariableKinds) (at n : ℕ) → NodeHasKind lists vars (node.Number at n) int_kind
    truth : (vars : VariableKinds) (at : ℕ) (b : Bool) → NodeHasKind lists vars (node.Truth at b) bool_kind
    variable : (vars : VariableKinds) (at : ℕ) (v : VarId) (kind : Kind)
        → bound_to v.0 vars ≡ Some kind
        → NodeHasKind lists vars (node.Var at v) kind
    call : (vars : VariableKinds) (at : ℕ) (f : FnId) (values : List TermId) (d : FnDecl) (kind : Kind)
        → slice_get lists.fns f.0 ≡ Some d → HaveKinds lists vars values d.pars → d.gives ≡ kind
        → NodeHasKind lists vars (node.Call at f values) kind
    nil : (vars : VariableKinds) (at : ℕ) (kind : Kind)
        → NodeHasKind lists vars (node.Nil at kind) (list_kind kind)
    plus : (vars : VariableKinds) (at : ℕ) (a b : TermId)
        → HasKind lists vars a int_kind → HasKind lists vars b int_kind
        → NodeHasKind lists vars (node.Add at a b) int_kind
    minus : (vars : VariableKinds) (at : ℕ) (a b : TermId)
        → HasKind lists vars a int_kind → HasKind lists vars b int_kind
        → NodeHasKind lists vars (node.Sub at a b) int_kind
    times : (vars : VariableKinds) (at : ℕ) (a b : TermId)
        → HasKind lists vars a int_kind → HasKind lists vars b int_kind
        → NodeHasKind lists vars (node.Mul at a b) int_kind
    quotient : (vars : VariableKinds) (at : ℕ) (a b : TermId)
        → HasKind lists vars a int_kind → HasKind lists vars b int_kind
        → NodeHasKind lists vars (node.Div at a b) int_kind
    remainder : (vars : VariableKinds) (at : ℕ) (a b : TermId)
        → HasKind lists vars a int_kind → HasKind lists vars b int_kind
        → NodeHasKind lists vars (node.Rem at a b) int_kind
    less : (vars : VariableKinds) (at : ℕ) (a b : TermId)
        → HasKind lists vars a int_kind → HasKind lists vars b int_kind
        → NodeHasKind lists vars (node.Less at a b) bool_kind
    equal : (vars : VariableKinds) (at : ℕ) (a b : TermId)
        → HasKind lists vars a int_kind → HasKind lists vars b int_kind
        → NodeHasKind lists vars (node.Equal at a b) bool_kind
    and : (vars : VariableKinds) (at : ℕ) (a b : TermId)
        → HasKind lists vars a bool_kind → HasKind lists vars b bool_kind
        → NodeHasKind lists vars (node.And at a b) bool_kind
    or : (vars : VariableKinds) (at : ℕ) (a b : TermId)
        → HasKind lists vars a bool_kind → HasKind lists vars b bool_kind
        → NodeHasKind lists vars (node.Or at a b) bool_kind
    cons : (vars : VariableKinds) (at : ℕ) (a b : TermId) (kind : Kind)
        → HasKind lists vars a kind → HasKind lists vars b (list_kind kind)
        → NodeHasKind lists vars (node.Cons at a b) (list_kind kind)
    not : (vars : VariableKinds) (at : ℕ) (a : TermId)
        → HasKind lists vars a bool_kind
        → NodeHasKind lists vars (node.Not at a) bool_kind
    choice : (vars : VariableKinds) (at : ℕ) (test a b : TermId) (kind : Kind)
        → HasKind lists vars test bool_kind → HasKind lists vars a kind → HasKind lists vars b kind
        → NodeHasKind lists vars (node.If at test a b) kind
    parts : (vars : VariableKinds) (at : ℕ) (list empty full : TermId) (head tail : VarId) (element kind : Kind)
        → HasKind lists vars list (list_kind element) → HasKind lists vars empty kind
        → HasKind lists (with_parts head tail element vars) full kind
        → NodeHasKind lists vars (node.Match at list empty head tail full) kind

  -- the arguments have the kinds of the parameters, one by one
  pub data HaveKinds (lists : ProgramLists) : VariableKinds → List TermId → VariableKinds → Type 0 where
    none : (vars : VariableKinds) → HaveKinds lists vars [] []
    more : (vars : VariableKinds) (a : TermId) (values : List TermId) (par : VarId × Kind) (pars : VariableKinds)
        → HasKind lists vars a par.1 → HaveKinds lists vars values pars
        → HaveKinds lists vars (a ∷ values) (par ∷ pars)

-- the body of each function has the declared kind among the parameters
abbrev pub FunctionsAreTyped : ProgramLists → Type 0
FunctionsAreTyped lists = All (λ f. HasKind lists f.pars f.body f.gives) lists.fns
