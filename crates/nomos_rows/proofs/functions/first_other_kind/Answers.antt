use Rattle.std.proofs.Common.{◌≡◌, ℕ, List, Some, length, slice_get, ap, sym, subst, ◌∙◌, arith}
use Rattle.std.proofs.lemmas.Option.{slice_get-get_or}
use Rattle.nomos_ir.specs.declared.declaration.FnDecl.{FnDecl}
use Rattle.nomos_ir.specs.declared.lists.ProgramLists.{ProgramLists}
use Rattle.nomos_rows.proofs.FunctionLemmas.{fine-no_fault, function-told}
use Rattle.nomos_rows.proofs.TellingLemmas.{tells-more}
use Rattle.nomos_rows.proofs.functions.first_other_kind.Goals as goal
use Rattle.nomos_rows.specs.mirror.Declarations.{FunctionFault, FunctionFine}
use Rattle.nomos_rows.specs.mirror.FirstFault.{TellsBelow}

-- the slice has the program's functions
fns-of : (lists other : ProgramLists) (fns : List FnDecl) → fns ≡ other.fns → other ≡ lists → fns ≡ lists.fns
fns-of lists other fns slice same = slice ∙ ap (λ (l : ProgramLists). l.fns) same

-- one function more
pub loop-function-preserved : goal.loop-function-preserved
loop-function-preserved c =
    let lists = c.args.program.now in
    let fns = c.as_slice-function-items.result.now in
    let k = c.loop-function.function-index in
    let f = c.function-item.result in
    let same = fns-of lists c.lists.result.now fns c.as_slice-function-items.ensures c.lists.ensures.lists in
    let here : slice_get fns k ≡ Some f = slice_get-get_or fns k f c.loop-function-test.true ∙ ap Some
    (sym c.function-item.is) in
    let declared : slice_get lists.fns k ≡ Some f = subst (λ (fs : List FnDecl). slice_get fs k ≡ Some f) same here in
    let found = c.in_ok-found.found in
    let told = function-told lists k f found declared c.in_ok-found.ensures in
    let more = tells-more (FunctionFault lists) (FunctionFine lists)
    (fine-no_fault lists) k c.loop-function.first found c.loop-function.invariant told in
    rw c.earliest-first.ensures more

pub returns : goal.returns
returns c =
    let lists = c.args.program.now in
    let same = fns-of lists c.lists.result.now c.as_slice-function-items.result.now c.as_slice-function-items.ensures
    c.lists.ensures.lists in
    let fns_length : length c.as_slice-function-items.result.now ≡ length lists.fns = ap length same in
    let all : c.loop-function.function-index ≡ length lists.fns = omega arith in
    subst (λ (n : ℕ). TellsBelow (FunctionFault lists) (FunctionFine lists) n c.loop-function.first) all
    c.loop-function.invariant
