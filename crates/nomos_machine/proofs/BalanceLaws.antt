-- No firing lowers any balance. A start takes from its payer the declared potential and no more, and from no other
-- account; a deposit and a new account bring what they say, to that account alone.
use Rattle.std.proofs.Common.{◌≡◌, ◌≢◌, ◌∙◌, ◌≤◌, ◌<◌, inl, inr, ℕ, zero, suc, ◌+◌, ◌-◌, Bool, cond, List, [], ◌∷◌, ◌++◌, length, get_or, set, Option, Some, None, sum_by, refl, sym, subst, ap, arith}
use Rattle.std.proofs.lemmas.Bool.{cases_eq, eq-eqb, ne_eqb}
use Rattle.std.proofs.lemmas.List.{set-get_or, get_or-set_same, get_or-set_other}
use Rattle.std.proofs.lemmas.List.Sums.{sum_by-cons, sum_by-append}
use Rattle.nomos_ir.specs.Value.{Value}
use Rattle.nomos_ir.specs.declared.declaration.ProcDecl.{ProcDecl}
use Rattle.nomos_ir.specs.declared.ids.VarId.{VarId}
use Rattle.nomos_types.specs.Acceptance.{Acceptance}
use Rattle.nomos_types.specs.Amount.{dths}
use Rattle.nomos_machine.specs.Balances.{balance_of, NoBalanceFalls, paid_by, HavePaid}
use Rattle.nomos_machine.specs.Change.{Change, CanGive, paid_in, paid_out, made, changed}
use Rattle.nomos_machine.specs.Run.{run}
use Rattle.nomos_machine.specs.Starting.{CanStart, opened, credits, credited, starts, started}
use Rattle.nomos_machine.specs.State.{State}
use Rattle.nomos_machine.specs.Step.{step}
use Rattle.nomos_machine.proofs.PlainLaws.{made-gives, step-made, run-by_any_steps}

-- ---- one balance is set

set-more : (xs : List ℕ) (i j v : ℕ) → get_or xs i 0 ≤ v → get_or xs j 0 ≤ get_or (set xs i v) j 0
set-more [] i j v more = omega arith
set-more (x ∷ xs) zero zero v more = more
set-more (x ∷ xs) zero (suc j) v more = omega arith
set-more (x ∷ xs) (suc i) zero v more = omega arith
set-more (x ∷ xs) (suc i) (suc j) v more = set-more xs i j v more

paid_in-more : (gets : Option (ℕ × ℕ)) (balances : List ℕ) (account : ℕ)
    → get_or balances account 0 ≤ get_or (paid_in gets balances) account 0
paid_in-more (Some e) balances account =
    set-more balances e.0 account (get_or balances e.0 0 + e.1) (omega arith)
paid_in-more None balances account = omega arith

-- ---- firings

-- a change that takes from no account lowers no balance
pub changed-balances : (s : State) (c : Change) → c.gives ≡ None → NoBalanceFalls s (changed s c)
changed-balances s c none account =
    let same : balance_of (changed s c) account ≡ get_or (paid_in c.gets s.balances) account 0 =
    ap (λ (gives : Option (ℕ × ℕ)). get_or (paid_in c.gets (paid_out gives s.balances)) account 0) none
    in
    omega (arith, same, paid_in-more c.gets s.balances account)

-- so no firing does
pub step-balances : (a : Acceptance) (s t : State) (pid : ℕ) → step a s pid ≡ Some t → NoBalanceFalls s t
step-balances a s t pid is =
    let firing = step-made a s pid t is in
    subst (NoBalanceFalls s) firing.after (changed-balances s firing.c (made-gives firing.c firing.is_made))

-- what falls neither here nor there falls nowhere
pub balances-through : (s u t : State) → NoBalanceFalls s u → NoBalanceFalls u t → NoBalanceFalls s t
balances-through s u t first rest account = omega (arith, first account, rest account)

-- nor does a run
pub run-balances : (a : Acceptance) (s t : State) (pids : List ℕ) → run a s pids ≡ Some t → NoBalanceFalls s t
run-balances a s t pids is =
    run-by_any_steps a (λ n s t. NoBalanceFalls s t) (λ s account. omega arith)
    (λ n s u t pid steps rest. balances-through s u t (step-balances a s u pid steps) rest) s t pids is

-- ---- what is paid

-- where nothing is paid all is as it was
pub paid-nothing : (s : State) → HavePaid [] s s
paid-nothing s account = omega arith

-- what is paid one after another is paid in all
pub paid-through : (first rest : List (ℕ × ℕ)) (s u t : State) → HavePaid first s u → HavePaid rest u t
    → HavePaid (first ++ rest) s t
paid-through first rest s u t before after account =
    omega (arith, before account, after account, sum_by-append (paid_by account) first rest)

-- whoever was paid has no less
pub paid-falls : (payments : List (ℕ × ℕ)) (s t : State) → HavePaid payments t s → NoBalanceFalls s t
paid-falls payments s t paid account = omega (arith, paid account)

-- of one payment the payer pays all, and no other account anything
paid-own : (payer gas : ℕ) → sum_by (paid_by payer) ((payer, gas) ∷ []) ≡ gas
paid-own payer gas =
    let own = ap (λ (b : Bool). cond b gas 0) (eq-eqb payer payer refl) in
    omega (arith, own, sum_by-cons (paid_by payer) (payer, gas) [])

paid-other : (payer gas account : ℕ) → account ≢ payer → sum_by (paid_by account) ((payer, gas) ∷ []) ≡ 0
paid-other payer gas account other =
    let none = ap (λ (b : Bool). cond b gas 0) (ne_eqb payer account (λ same. other (sym same))) in
    omega (arith, none, sum_by-cons (paid_by account) (payer, gas) [])

-- where one balance is another one by so much, the account's own, that much was paid
set-paid : (payer gas less more account : ℕ) (balances : List ℕ) → payer < length balances → more ≡ less + gas
    → get_or (set balances payer more) account 0
    ≡ get_or (set balances payer less) account 0 + sum_by (paid_by account) ((payer, gas) ∷ [])
set-paid payer gas less more account balances within is =
    elim (cases_eq account payer) [
      | inl own ↦
          let at_payer : get_or (set balances payer more) payer 0
          ≡ get_or (set balances payer less) payer 0 + sum_by (paid_by payer) ((payer, gas) ∷ []) =
          omega (
            arith,
            is,
            get_or-set_same balances payer more 0 within,
            get_or-set_same balances payer less 0 within,
            paid-own payer gas,
          )
          in
          subst (λ (k : ℕ). get_or (set balances payer more) k 0
          ≡ get_or (set balances payer less) k 0 + sum_by (paid_by k) ((payer, gas) ∷ [])) (sym own) at_payer
      | inr other ↦
          omega (
            arith,
            get_or-set_other balances payer account more 0 other,
            get_or-set_other balances payer account less 0 other,
            paid-other payer gas account other,
          )
    ]

-- ---- changes of one account

-- where a change takes from an account, and brings nothing to any, that account pays, and no other one
pub gives-paid : (s : State) (c : Change) (payer gas : ℕ) → c.gives ≡ Some (payer, gas) → c.gets ≡ None
    → CanGive (Some (payer, gas)) s.balances → HavePaid ((payer, gas) ∷ []) s (made s c)
gives-paid s c payer gas gives gets can account =
    let has = get_or s.balances payer 0 in
    let enough : gas ≤ has = can.1 in
    let after : balance_of (made s c) account ≡ get_or (set s.balances payer (has - gas)) account 0 =
    ap (λ (e : Option (ℕ × ℕ)). get_or (paid_in e (paid_out c.gives s.balances)) account 0) gets
    ∙ ap (λ (e : Option (ℕ × ℕ)). get_or (paid_out e s.balances) account 0) gives
    in
    let before = ap (λ (balances : List ℕ). get_or balances account 0) (set-get_or s.balances payer 0) in
    omega (arith, after, before, set-paid payer gas (has - gas) has account s.balances can.0 (omega arith))

-- where it takes from none, and brings to one, that one gets so much, and no other one anything
pub gets-paid : (s : State) (c : Change) (account gas : ℕ) → c.gives ≡ None → c.gets ≡ Some (account, gas)
    → account < length s.balances → HavePaid ((account, gas) ∷ []) (made s c) s
gets-paid s c account gas gives gets within k =
    let has = get_or s.balances account 0 in
    let after : balance_of (made s c) k ≡ get_or (set s.balances account (has + gas)) k 0 =
    ap (λ (e : Option (ℕ × ℕ)). get_or (paid_in e (paid_out c.gives s.balances)) k 0) gets
    ∙ ap (λ (e : Option (ℕ × ℕ)). get_or (paid_in (Some (account, gas)) (paid_out e s.balances)) k 0) gives
    in
    let before = ap (λ (balances : List ℕ). get_or balances k 0) (set-get_or s.balances account 0) in
    omega (arith, after, before, set-paid account gas has (has + gas) k s.balances within refl)

-- ---- starts and deposits

-- a start takes from its payer the declared potential, and from no other account
pub started-paid : (a : Acceptance) (s : State) (d : ProcDecl) (values : List (VarId × Value))
    (channels : List (VarId × ℕ)) (payer : ℕ) → CanStart a s d values channels payer
    → HavePaid ((payer, dths a.annotations d.amount) ∷ []) s (started a s d values channels payer)
started-paid a s d values channels payer can =
    let gas = dths a.annotations d.amount in
    gives-paid s (starts a s d values channels payer) payer gas refl refl (can.account, can.has)

-- a deposit brings what it says to its account, and nothing to others
pub credited-paid : (s : State) (account gas : ℕ) → account < length s.balances
    → HavePaid ((account, gas) ∷ []) (credited s account gas) s
credited-paid s account gas within = gets-paid s (credits s account gas) account gas refl refl within

-- a new account has what it begins with
pub opened-paid : (s : State) (gas : ℕ) → HavePaid ((length s.balances, gas) ∷ []) (opened s gas) s
opened-paid s gas account =
    elim (cases_eq account (length s.balances)) [
      | inl own ↦
          subst (λ (k : ℕ). get_or (s.balances ++ gas ∷ []) k 0
          ≡ get_or s.balances k 0 + sum_by (paid_by k) ((length s.balances, gas) ∷ [])) (sym own)
          (omega (arith, last-own s.balances, paid-own (length s.balances) gas))
      | inr other ↦
          omega (arith, last-other s.balances account other, paid-other (length s.balances) gas account other)
    ]
  where
    last-own : (balances : List ℕ)
        → get_or (balances ++ gas ∷ []) (length balances) 0 ≡ get_or balances (length balances) 0 + gas
    last-own [] = omega arith
    last-own (x ∷ balances) = last-own balances

    last-other : (balances : List ℕ) (k : ℕ) → k ≢ length balances
        → get_or (balances ++ gas ∷ []) k 0 ≡ get_or balances k 0
    last-other [] zero other = absurd (other refl)
    last-other [] (suc k) other = refl
    last-other (x ∷ balances) zero other = refl
    last-other (x ∷ balances) (suc k) other =
        last-other balances k (λ same. other (ap (λ (n : ℕ). suc n) same))
