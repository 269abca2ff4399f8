-- What refuses a text is a cause, and then it is typed under no amounts.
use Rattle.std.proofs.Common.{◌≡◌, ℕ, List, All, Some, None, IsTrue, ◌≢◌, sym, subst, ◌∙◌}
use Rattle.std.proofs.lemmas.List.Elements.{All-contains}
use Rattle.nomos_accept.proofs.AcceptLaws.{one-tree}
use Rattle.nomos_accept.specs.TypedText.{IsNeverTypedText}
use Rattle.nomos_elaborate.specs.Elaborated.{BreaksCosts}
use Rattle.nomos_elaborate.specs.NameClaim.{first_broken}
use Rattle.nomos_elaborate.specs.FileClaims.{claims_of}
use Rattle.nomos_elaborate.specs.WrittenWork.{written_work}
use Rattle.nomos_ir.proofs.NodeLaws.{All-at}
use Rattle.nomos_ir.specs.Nodes.{type_node}
use Rattle.nomos_ir.specs.Unfold.{IsConstructor, IsContractive}
use Rattle.nomos_ir.specs.declared.ids.TypeId.{TypeId}
use Rattle.nomos_ir.specs.declared.lists.ProgramLists.{ProgramLists}
use Rattle.nomos_ir.specs.declared.type_node.Def.{Def}
use Rattle.nomos_ir.specs.declared.type_node.TypeNode.{TypeNode}
use Rattle.nomos_ir.specs.declared.type_node.TypeNode.TheVariants as node
use Rattle.nomos_rows.specs.PartFaults.{IsNeverTyped}
use Rattle.nomos_reader.specs.Parsing.{ReadsAsNone}
use Rattle.nomos_surface.specs.TreeReading.{ReadsAs}
use Rattle.nomos_surface.specs.Tree.{FileTree}
use Rattle.nomos_types.specs.Forming.{IsFirstBareName, IsFirstOffence}
use Rattle.nomos_types.specs.Modes.{Offends, forbidden, not_held, of_transactions, ObeysModes, may_hold, parameter_mode}
use Rattle.nomos_ir.specs.declared.declaration.ProcDecl.{ProcDecl}
use Rattle.nomos_ir.specs.declared.ids.VarId.{VarId}
use Rattle.nomos_ir.specs.declared.mode.Mode.TheVariants as mode

-- a text that reads as no tree is typed under no amounts
pub unread-never : (text : List ℕ) → ReadsAsNone text → IsNeverTypedText text
unread-never text none = λ lists x typed. none typed.read.tree typed.read.reads

-- nor is one with a name that breaks a rule, or with a `work` where none may stand
pub name-never : (text : List ℕ) (tree : FileTree) (at : ℕ) → ReadsAs text tree →
    first_broken (claims_of tree) ≡ Some at → IsNeverTypedText text
name-never text tree at reads broken = λ lists x typed.
    let same : typed.read.tree ≡ tree = one-tree text typed.read.tree tree typed.read.reads reads in
    let obeys : first_broken (claims_of tree) ≡ None =
    subst (λ (t : FileTree). first_broken (claims_of t) ≡ None) same typed.read.elaborates.names in
    let both : None ≡ Some at = sym obeys ∙ broken in
    absurd cc

pub cost-never : (text : List ℕ) (tree : FileTree) (at : ℕ) → ReadsAs text tree → BreaksCosts tree at →
    IsNeverTypedText text
cost-never text tree at reads breaks = λ lists x typed.
    let same : typed.read.tree ≡ tree = one-tree text typed.read.tree tree typed.read.reads reads in
    let obeys : written_work tree ≡ None =
    subst (λ (t : FileTree). written_work t ≡ None) same typed.read.elaborates.costs in
    let both : None ≡ Some at = sym obeys ∙ breaks.work in
    absurd cc

-- a definition that is a bare name is not contractive
pub bare-not_contractive : (lists : ProgramLists) (at : ℕ) → IsFirstBareName lists at → ¬ IsContractive lists
bare-not_contractive lists at bare contractive =
    All-at (λ (def : Def). (n : TypeNode) → type_node lists def.body.0 ≡ Some n → IsConstructor n) lists.defs bare.place
    bare.def contractive bare.there (node.Named bare.named) bare.bare

-- a type node that offends breaks the modes
pub offends-not_obeying : (lists : ProgramLists) (t : TypeId) → Offends lists t → ¬ ObeysModes lists
offends-not_obeying lists _ (forbidden m n has there other) obeys = other (obeys.allowed _ m n has there)
offends-not_obeying lists _ (not_held d k t within channel other) obeys =
    other (All-contains (λ (par : VarId × TypeId). IsTrue (may_hold d.mode (parameter_mode lists par.1))) d.channels
    (k, t)
    (All-contains (λ (p : ProcDecl). All (λ par. IsTrue (may_hold p.mode (parameter_mode lists par.1))) p.channels)
    lists.procs d obeys.held within) channel)
offends-not_obeying lists _ (of_transactions d within is) obeys =
    All-contains (λ (d : Def). d.mode ≢ mode.T) lists.defs d obeys.definitions within is

pub offence-not_obeying : (lists : ProgramLists) (at : ℕ) → IsFirstOffence lists at → ¬ ObeysModes lists
offence-not_obeying lists at offence = let (t, offends, stands) = offence.there in offends-not_obeying lists t offends

pub bare-never : (lists : ProgramLists) (at : ℕ) → IsFirstBareName lists at → IsNeverTyped lists
bare-never lists at bare = λ x typed. bare-not_contractive lists at bare typed.formed.contractive

pub offence-never : (lists : ProgramLists) (at : ℕ) → IsFirstOffence lists at → IsNeverTyped lists
offence-never lists at offence = λ x typed. offence-not_obeying lists at offence typed.formed.modes
