use Rattle.std.proofs.Common.{◌≡◌, ℕ, List, Some, length, slice_get, ap, sym, subst, ◌∙◌, arith}
use Rattle.std.proofs.lemmas.Option.{slice_get-get_or}
use Rattle.nomos_ir.specs.declared.lists.ProgramLists.{ProgramLists}
use Rattle.nomos_ir.specs.declared.type_node.Def.{Def}
use Rattle.nomos_types.proofs.OffenceLemmas.{transactions-more}
use Rattle.nomos_types.proofs.forming.first_of_transactions.Goals as goal
use Rattle.nomos_types.specs.mirror.Least.{IsLeast}
use Rattle.nomos_types.specs.mirror.Offences.{OfTransactionsBelow}

-- the slice has the program's definitions
defs-of : (lists other : ProgramLists) (defs : List Def) → defs ≡ other.defs → other ≡ lists → defs ≡ lists.defs
defs-of lists other defs slice same = slice ∙ ap (λ (l : ProgramLists). l.defs) same

-- one definition more
pub loop-def-preserved : goal.loop-def-preserved
loop-def-preserved c =
    let lists = c.args.program.now in
    let defs = c.as_slice-def-items.result.now in
    let i = c.loop-def.def-index in
    let d = c.def-item.result in
    let same = defs-of lists c.lists.result.now defs c.as_slice-def-items.ensures c.lists.ensures.lists in
    let here : slice_get defs i ≡ Some d = slice_get-get_or defs i d c.loop-def-test.true
    ∙ ap Some (sym c.def-item.is) in
    let found : slice_get lists.defs i ≡ Some d = subst (λ (ds : List Def). slice_get ds i ≡ Some d) same here in
    let more = transactions-more lists i d found c.loop-def.first c.of_transactions_at.result c.loop-def.invariant
    c.of_transactions_at.ensures in
    rw c.lesser-first.ensures more

pub returns : goal.returns
returns c =
    let lists = c.args.program.now in
    let same = defs-of lists c.lists.result.now c.as_slice-def-items.result.now c.as_slice-def-items.ensures
    c.lists.ensures.lists in
    let defs_length : length c.as_slice-def-items.result.now ≡ length lists.defs = ap length same in
    let all : c.loop-def.def-index ≡ length lists.defs = omega arith in
    subst (λ (n : ℕ). IsLeast (OfTransactionsBelow lists n) c.loop-def.first) all c.loop-def.invariant
