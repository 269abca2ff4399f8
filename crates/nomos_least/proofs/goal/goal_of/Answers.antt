use Rattle.std.proofs.Common.{◌≡◌, ◌<◌, ◌≤◌, ℤ, ℕ, List, All, Some, length, take, get_or, slice_get, pos, ◌≤ℤ◌, ap, sym, subst, ◌∙◌, arith}
use Rattle.std.proofs.lemmas.List.{take_all}
use Rattle.std.proofs.lemmas.Option.{slice_get-get_or}
use Rattle.nomos_check.specs.Account.{form_of, no_account}
use Rattle.nomos_check.specs.Room.{HasRoom}
use Rattle.nomos_forms.specs.Bounds.{IsForm}
use Rattle.nomos_forms.specs.declared.form.Form.{Form}
use Rattle.nomos_ir.specs.Amounts.{star_count}
use Rattle.nomos_ir.specs.declared.declaration.ProcDecl.{ProcDecl}
use Rattle.nomos_ir.specs.declared.lists.ProgramLists.{ProgramLists}
use Rattle.nomos_least.proofs.GoalLaws.{gains-next, declared-room, goal-is_form, goal-coefs}
use Rattle.nomos_least.specs.Goal.{gains_all, goal_of}
use Rattle.nomos_least.proofs.goal.goal_of.Goals as goal

-- the slice has the program's declarations
procs-of : (lists other : ProgramLists) (procs : List ProcDecl) → procs ≡ other.procs → other ≡ lists
    → procs ≡ lists.procs
procs-of lists other procs slice same = slice ∙ ap (λ (l : ProgramLists). l.procs) same

-- the declaration at a place of the slice is that of the program
declared-at : (lists other : ProgramLists) (procs : List ProcDecl) (k : ℕ) (d : ProcDecl) → procs ≡ other.procs
    → other ≡ lists → k < length procs → d ≡ get_or procs k d → slice_get lists.procs k ≡ Some d
declared-at lists other procs k d slice same inside is =
    subst (λ (ps : List ProcDecl). slice_get ps k ≡ Some d) (procs-of lists other procs slice same)
    (slice_get-get_or procs k d inside ∙ ap Some (sym is))

pub gain_declared-requires : goal.gain_declared-requires
gain_declared-requires c =
    let lists = c.args.program.now in
    let k = c.loop-declaration.declaration-index in
    let d = c.declaration-item.result in
    subst (λ (f : Form). HasRoom f d.amount) (sym c.loop-declaration.invariant)
    (declared-room lists k d c.lists.ensures.program
    (declared-at lists c.lists.result.now c.as_slice-declaration-items.result.now k d
    c.as_slice-declaration-items.ensures
    c.lists.ensures.lists c.loop-declaration-test.true c.declaration-item.is))

pub loop-declaration-preserved : goal.loop-declaration-preserved
loop-declaration-preserved c =
    let lists = c.args.program.now in
    let k = c.loop-declaration.declaration-index in
    let d = c.declaration-item.result in
    let n = star_count lists in
    c.gain_declared.ensures n (gains_all (take k lists.procs) no_account) c.loop-declaration.invariant
    ∙ ap (form_of n)
    (gains-next lists.procs d k no_account
    (declared-at lists c.lists.result.now c.as_slice-declaration-items.result.now k d
    c.as_slice-declaration-items.ensures
    c.lists.ensures.lists c.loop-declaration-test.true c.declaration-item.is))

-- at the end the sum is the goal
made : (lists : ProgramLists) (procs : List ProcDecl) (k : ℕ) (sum form : Form) → procs ≡ lists.procs → length procs ≤ k
    → sum ≡ form_of (star_count lists) (gains_all (take k lists.procs) no_account) → form ≡ sum → form ≡ goal_of lists
made lists procs k sum form same long is form_is =
    let past : length lists.procs ≤ k = subst (λ (ps : List ProcDecl). length ps ≤ k) same long in
    form_is ∙ is
    ∙ ap (λ (ds : List ProcDecl). form_of (star_count lists) (gains_all ds no_account)) (take_all k lists.procs past)

pub returns-clause-goal : goal.returns-clause-goal
returns-clause-goal c =
    let lists = c.args.program.now in
    let procs = c.as_slice-declaration-items.result.now in
    let same = procs-of lists c.lists.result.now procs c.as_slice-declaration-items.ensures c.lists.ensures.lists in
    made lists procs c.loop-declaration.declaration-index c.loop-declaration.sum c.into_form.result same (omega arith)
    c.loop-declaration.invariant c.into_form.ensures

pub returns-clause-form : goal.returns-clause-form
returns-clause-form c =
    let lists = c.args.program.now in
    subst (λ (f : Form). IsForm (star_count lists) f) (sym (returns-clause-goal c))
    (goal-is_form lists c.lists.ensures.program)

pub returns-clause-coefs : goal.returns-clause-coefs
returns-clause-coefs c =
    subst (λ (f : Form). All (λ (z : ℤ). pos 0 ≤ℤ z) f.coefs) (sym (returns-clause-goal c))
    (goal-coefs c.args.program.now)
