use Rattle.std.proofs.Common.{◌≡◌, ℕ, List, Some, length, slice_get, ap, sym, subst, ◌∙◌, arith}
use Rattle.std.proofs.lemmas.Option.{slice_get-get_or}
use Rattle.nomos_ir.specs.declared.declaration.ProcDecl.{ProcDecl}
use Rattle.nomos_ir.specs.declared.lists.ProgramLists.{ProgramLists}
use Rattle.nomos_types.proofs.OffenceLemmas.{not_held_in-more}
use Rattle.nomos_types.proofs.forming.first_not_held_in_all.Goals as goal
use Rattle.nomos_types.specs.mirror.Least.{IsLeast}
use Rattle.nomos_types.specs.mirror.Offences.{NotHeldInBelow}

-- the slice has the program's declarations
procs-of : (lists other : ProgramLists) (procs : List ProcDecl) → procs ≡ other.procs → other ≡ lists
    → procs ≡ lists.procs
procs-of lists other procs slice same = slice ∙ ap (λ (l : ProgramLists). l.procs) same

-- one declaration more
pub loop-d-preserved : goal.loop-d-preserved
loop-d-preserved c =
    let lists = c.args.program.now in
    let procs = c.as_slice-d-items.result.now in
    let i = c.loop-d.d-index in
    let d = c.d-item.result in
    let same = procs-of lists c.lists.result.now procs c.as_slice-d-items.ensures c.lists.ensures.lists in
    let here : slice_get procs i ≡ Some d = slice_get-get_or procs i d c.loop-d-test.true ∙ ap Some (sym c.d-item.is) in
    let found : slice_get lists.procs i ≡ Some d = subst (λ (ps : List ProcDecl). slice_get ps i ≡ Some d) same here in
    let more = not_held_in-more lists i d found c.loop-d.first c.first_not_held.result c.loop-d.invariant
    c.first_not_held.ensures in
    rw c.lesser-first.ensures more

pub returns : goal.returns
returns c =
    let lists = c.args.program.now in
    let same = procs-of lists c.lists.result.now c.as_slice-d-items.result.now c.as_slice-d-items.ensures
    c.lists.ensures.lists in
    let procs_length : length c.as_slice-d-items.result.now ≡ length lists.procs = ap length same in
    let all : c.loop-d.d-index ≡ length lists.procs = omega arith in
    subst (λ (n : ℕ). IsLeast (NotHeldInBelow lists n) c.loop-d.first) all c.loop-d.invariant
