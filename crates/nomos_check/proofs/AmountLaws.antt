-- What holds of all amounts of a program, and of those with which a process begins, holds of the amounts of all
-- accounts to which it gets.
use Rattle.std.proofs.Common.{◌≡◌, ℕ, List, [], ◌∷◌, ◌++◌, map, All, Contains, Option, Some, None, slice_get, refl, arith}
use Rattle.std.specs.List.{flat_map}
use Rattle.std.specs.Option.{option_to_list}
use Rattle.std.proofs.lemmas.List.Elements.{All-nil, All-cons, All-head, All-tail, All-append, All-contains, All-weaker, All-contains_itself, Contains-append_left, Contains-append_right}
use Rattle.nomos_ir.specs.declared.amount.Amount.{Amount}
use Rattle.nomos_ir.specs.declared.code_node.Arm.{Arm}
use Rattle.nomos_ir.specs.declared.code_node.CodeNode.{CodeNode}
use Rattle.nomos_ir.specs.declared.code_node.CodeNode.TheVariants as code
use Rattle.nomos_ir.specs.declared.code_node.ValueArg.{ValueArg}
use Rattle.nomos_ir.specs.declared.code_node.ValueArg.TheVariants as arg
use Rattle.nomos_ir.specs.declared.declaration.Par.{Par}
use Rattle.nomos_ir.specs.declared.declaration.ProcDecl.{ProcDecl}
use Rattle.nomos_ir.specs.declared.ids.VarId.{VarId}
use Rattle.nomos_ir.specs.declared.lists.ProgramLists.{ProgramLists}
use Rattle.nomos_ir.specs.declared.type_node.TypeAt.{TypeAt}
use Rattle.nomos_ir.specs.Amounts.{IsAmount, amounts_of, proc_amounts, par_amounts}
use Rattle.nomos_ir.specs.Bindings.{bound_to, bind, unbind}
use Rattle.nomos_ir.specs.CodeParts.{code_amounts}
use Rattle.nomos_ir.specs.Program.{IsProgram}
use Rattle.nomos_ir.specs.TypeParts.{type_amounts}
use Rattle.nomos_ir.proofs.BindingLaws.{all-after_bind, all-after_unbind, all-in_bindings_of, all-bound}
use Rattle.nomos_types.proofs.OccurrenceLaws.{contains-part}
use Rattle.nomos_types.specs.Judgement.{Judgement}
use Rattle.nomos_check.specs.Account.{Account, start_account, gains, spends, with_lists, carried_by}
use Rattle.nomos_check.specs.Accounting.{accounts_after, without_passed, spends_for, grows_list, parts_list}
use Rattle.nomos_check.specs.Reaching.{Outset, GetsTo, IsPointAt, IsPoint}
use Rattle.nomos_check.specs.Reaching as reaching
use Rattle.nomos_check.proofs.ListLemmas.{paired-second}

-- what holds of all of two lists holds of all of each
all-split : {X : Type 0} (P : X → Type 0) (xs ys : List X) → All P (xs ++ ys) → All P xs × All P ys
all-split P [] ys all = (All-nil P, all)
all-split P (x ∷ xs) ys all =
    let rest = all-split P xs ys (All-tail P x (xs ++ ys) all) in
    (All-cons P x xs (All-head P x (xs ++ ys) all) rest.0, rest.1)

-- ---- the amounts of a program

module _ (lists : ProgramLists) where
  -- an amount of a code node
  pub code-amount : (c : ℕ) (n : CodeNode) (r : Amount) → slice_get lists.code c ≡ Some n → Contains (code_amounts n) r
      → Contains (amounts_of lists) r
  code-amount c n r there among =
      let types = flat_map (λ (t : TypeAt). type_amounts t.node) lists.types in
      let codes = flat_map code_amounts lists.code in
      let procs = flat_map proc_amounts lists.procs in
      Contains-append_left (types ++ codes) procs r
      (Contains-append_right types codes r (contains-part code_amounts lists.code c n r there among))

  -- an amount of a declaration
  pub proc-amount : (p : ℕ) (d : ProcDecl) (r : Amount) → slice_get lists.procs p ≡ Some d → Contains (proc_amounts d) r
      → Contains (amounts_of lists) r
  proc-amount p d r there among =
      let types = flat_map (λ (t : TypeAt). type_amounts t.node) lists.types in
      let codes = flat_map code_amounts lists.code in
      let procs = flat_map proc_amounts lists.procs in
      Contains-append_right (types ++ codes) procs r (contains-part proc_amounts lists.procs p d r there among)

  -- an amount of a type node
  pub type-amount : (t : ℕ) (at : TypeAt) (r : Amount) → slice_get lists.types t ≡ Some at
      → Contains (type_amounts at.node) r → Contains (amounts_of lists) r
  type-amount t at r there among =
      let types = flat_map (λ (u : TypeAt). type_amounts u.node) lists.types in
      let codes = flat_map code_amounts lists.code in
      let procs = flat_map proc_amounts lists.procs in
      Contains-append_left (types ++ codes) procs r
      (Contains-append_left types codes r
      (contains-part (λ (u : TypeAt). type_amounts u.node) lists.types t at r there among))

  -- the potential of a declaration
  pub declared-amount : (p : ℕ) (d : ProcDecl) → slice_get lists.procs p ≡ Some d → Contains (amounts_of lists) d.amount
  declared-amount p d there =
      proc-amount p d d.amount there
      (Contains-append_right (flat_map par_amounts d.values) (d.amount ∷ []) d.amount (0, omega arith, refl))

-- an amount of a program has the size of an amount
pub program-amount : {lists : ProgramLists} → IsProgram lists → (r : Amount) → Contains (amounts_of lists) r
    → IsAmount r
program-amount {lists} is_program r among = All-contains IsAmount (amounts_of lists) r is_program.amounts among

-- ---- accounts

-- each amount of the account has the property
pub record HasAmounts (P : Amount → Type 0) (a : Account) : Type 0 where
  pub gained : All P a.gained
  pub spent : All P a.spent
  pub lists : All (λ b. P b.1) a.lists

-- so has each what follows from the property
pub amounts-weaker : {P Q : Amount → Type 0} (a : Account) → ((r : Amount) → P r → Q r) → HasAmounts P a
    → HasAmounts Q a
amounts-weaker {P} {Q} a weaker amounts =
    record {
      gained = All-weaker P Q weaker a.gained amounts.gained;
      spent = All-weaker P Q weaker a.spent amounts.spent;
      lists = All-weaker (λ (b : VarId × Amount). P b.1) (λ b. Q b.1) (λ b. weaker b.1) a.lists amounts.lists;
    }

module _ (P : Amount → Type 0) where
  -- an amount more
  pub spends-amounts : (r : Amount) (a : Account) → P r → HasAmounts P a
      → HasAmounts P (spends r a)
  spends-amounts r a among amounts =
      record {
        gained = amounts.gained;
        spent = All-cons P r a.spent among amounts.spent;
        lists = amounts.lists;
      }

  pub gains-amounts : (r : Amount) (a : Account) → P r → HasAmounts P a
      → HasAmounts P (gains r a)
  gains-amounts r a among amounts =
      record {
        gained = All-cons P r a.gained among amounts.gained;
        spent = amounts.spent;
        lists = amounts.lists;
      }

  -- other lists
  lists-amounts : (a : Account) (bs : List (VarId × Amount)) → HasAmounts P a
      → All (λ b. P b.1) bs
      → HasAmounts P (with_lists a bs)
  lists-amounts a bs amounts all = record { gained = amounts.gained; spent = amounts.spent; lists = all }

  -- lists that are passed on
  passed-amounts : (args : List ValueArg) (bs : List (VarId × Amount)) → All (λ b. P b.1) bs
      → All (λ b. P b.1) (without_passed args bs)
  passed-amounts [] bs all = all
  passed-amounts (arg.Term e ∷ args) bs all = passed-amounts args bs all
  passed-amounts (arg.List w ∷ args) bs all =
      passed-amounts args (unbind w.0 bs) (all-after_unbind P w.0 bs all)

  -- one account
  one-account : (b : Account) → HasAmounts P b → All (HasAmounts P) (b ∷ [])
  one-account b amounts = All-cons (HasAmounts P) b [] amounts (All-nil (HasAmounts P))

  two-accounts : (b c : Account) → HasAmounts P b → HasAmounts P c
      → All (HasAmounts P) (b ∷ c ∷ [])
  two-accounts b c first second = All-cons (HasAmounts P) b (c ∷ []) first (one-account c second)

  -- the arms have the same account
  arms-accounts : (a : Account) (arms : List Arm) → HasAmounts P a
      → All (HasAmounts P) (map (λ arm. a) arms)
  arms-accounts a [] amounts = All-nil (HasAmounts P)
  arms-accounts a (arm ∷ arms) amounts =
      All-cons (HasAmounts P) a (map (λ b. a) arms) amounts (arms-accounts a arms amounts)

  -- a list that grows, if it is there
  grown-accounts : (o : Option Amount) (v w : VarId) (a : Account) → bound_to w.0 a.lists ≡ o → HasAmounts P a
      → All (HasAmounts P) (grows_list o v w a)
  grown-accounts None v w a found amounts = All-nil (HasAmounts P)
  grown-accounts (Some r) v w a found amounts =
      let among : P r = all-bound P w.0 r a.lists amounts.lists found in
      let grown = bind v r (unbind w.0 a.lists) in
      let all = all-after_bind P v r (unbind w.0 a.lists) (all-after_unbind P w.0 a.lists amounts.lists) among in
      one-account (spends r (with_lists a grown))
      (spends-amounts r (with_lists a grown) among (lists-amounts a grown amounts all))

  -- a list that is taken apart, if it is there
  parted-accounts : (o : Option Amount) (w tail : VarId) (a : Account) → bound_to w.0 a.lists ≡ o
      → HasAmounts P a
      → All (HasAmounts P) (parts_list o w tail a)
  parted-accounts None w tail a found amounts = All-nil (HasAmounts P)
  parted-accounts (Some r) w tail a found amounts =
      let among : P r = all-bound P w.0 r a.lists amounts.lists found in
      let left = unbind w.0 a.lists in
      let parted = bind tail r left in
      let left_all = all-after_unbind P w.0 a.lists amounts.lists in
      let all = all-after_bind P tail r left left_all among in
      two-accounts (with_lists a left) (gains r (with_lists a parted)) (lists-amounts a left amounts left_all)
      (gains-amounts r (with_lists a parted) among (lists-amounts a parted amounts all))

module _ (lists : ProgramLists) (P : Amount → Type 0) (known : (r : Amount) → Contains (amounts_of lists) r → P r) where
  -- what is spent for a declaration
  declared-amounts : (f : ℕ) (o : Option ProcDecl) (a : Account) → slice_get lists.procs f ≡ o
      → HasAmounts P a → HasAmounts P (spends_for o a)
  declared-amounts f None a found amounts = amounts
  declared-amounts f (Some d) a found amounts =
      spends-amounts P d.amount a (known d.amount (declared-amount lists f d found)) amounts

  -- the accounts after an instruction
  amounts-after : (c : ℕ) (n : CodeNode) (a : Account) → slice_get lists.code c ≡ Some n
      → HasAmounts P a → All (HasAmounts P) (accounts_after lists n a)
  amounts-after c (code.Case at x arms) a there amounts = arms-accounts P a arms amounts
  amounts-after c (code.Pay at x r next) a there amounts =
      let among = known r (code-amount lists c (code.Pay at x r next) r there (0, omega arith, refl)) in
      one-account P (spends r a) (spends-amounts P r a among amounts)
  amounts-after c (code.Get at x r next) a there amounts =
      let among = known r (code-amount lists c (code.Get at x r next) r there (0, omega arith, refl)) in
      one-account P (gains r a) (gains-amounts P r a among amounts)
  amounts-after c (code.Work at r next) a there amounts =
      let among = known r (code-amount lists c (code.Work at r next) r there (0, omega arith, refl)) in
      one-account P (spends r a) (spends-amounts P r a among amounts)
  amounts-after c (code.Spawn at v f args next) a there amounts =
      let left = with_lists a (without_passed args.values a.lists) in
      let left_amounts = lists-amounts P a left.lists amounts
      (passed-amounts P args.values a.lists amounts.lists) in
      one-account P (spends_for (slice_get lists.procs f.0) left)
      (declared-amounts f.0 (slice_get lists.procs f.0) left refl left_amounts)
  amounts-after c (code.If at e then_next else_next) a there amounts = two-accounts P a a amounts amounts
  amounts-after c (code.Close at) a there amounts = All-nil (HasAmounts P)
  amounts-after c (code.Fwd at v) a there amounts = All-nil (HasAmounts P)
  amounts-after c (code.Call at f args) a there amounts = All-nil (HasAmounts P)
  amounts-after c (code.Empty at v r kind next) a there amounts =
      let among = known r (code-amount lists c (code.Empty at v r kind next) r there (0, omega arith, refl)) in
      let all = all-after_bind P v r a.lists amounts.lists among in
      one-account P (with_lists a (bind v r a.lists)) (lists-amounts P a (bind v r a.lists) amounts all)
  amounts-after c (code.Add at v e w next) a there amounts =
      grown-accounts P (bound_to w.0 a.lists) v w a refl amounts
  amounts-after c (code.Match at w empty_next head tail full_next) a there amounts =
      parted-accounts P (bound_to w.0 a.lists) w tail a refl amounts
  amounts-after c n a there amounts = one-account P a amounts

  -- one more parameter is a list or not
  parameter-amounts : (v : VarId) (o : Option Amount) → All P (option_to_list o)
      → All (λ b. P b.1) (carried_by v o)
  parameter-amounts v None all = All-nil (λ b. P b.1)
  parameter-amounts v (Some r) all =
      All-cons (λ b. P b.1) (v, r) [] (All-head P r [] all) (All-nil (λ b. P b.1))

  parameters-amounts : (pars : List Par) → All P (flat_map par_amounts pars)
      → All (λ b. P b.1) (flat_map (λ par. carried_by par.var par.amount) pars)
  parameters-amounts [] all = All-nil (λ b. P b.1)
  parameters-amounts (par ∷ pars) all =
      let both = all-split P (par_amounts par) (flat_map par_amounts pars) all in
      All-append (λ b. P b.1) (carried_by par.var par.amount) (flat_map (λ (q : Par). carried_by q.var q.amount) pars)
      (parameter-amounts par.var par.amount both.0) (parameters-amounts pars both.1)

  -- the account at the start of a declaration
  pub start-amounts : (p : ℕ) (d : ProcDecl) → slice_get lists.procs p ≡ Some d
      → HasAmounts P (start_account d)
  start-amounts p d there =
      let its : All P (proc_amounts d) =
      All-weaker (Contains (proc_amounts d)) P (λ r among. known r (proc-amount lists p d r there among))
      (proc_amounts d)
      (All-contains_itself (proc_amounts d))
      in
      let both = all-split P (flat_map par_amounts d.values) (d.amount ∷ []) its in
      record {
        gained = both.1;
        spent = All-nil P;
        lists = all-in_bindings_of P (flat_map (λ (par : Par). carried_by par.var par.amount) d.values)
            (parameters-amounts d.values both.0);
      }

  -- each account to which the process gets
  pub reached-amounts : {o : Outset} → HasAmounts P o.account → (j : Judgement) (a : Account) → GetsTo lists o j a
      → HasAmounts P a
  reached-amounts begins _ _ reaching.start = begins
  reached-amounts begins k b (reaching.next {j} {a = a} n after before stands row among) =
      All-contains (HasAmounts P) (accounts_after lists n a) b
      (amounts-after j.code.0 n a stands (reached-amounts begins j a before))
      (paired-second after (accounts_after lists n a) k b among)

  -- and each point of it
  point-at-amounts : (j : Judgement) (a c : Account) → HasAmounts P a → IsPointAt lists j a c → HasAmounts P c
  point-at-amounts j a _ amounts reaching.before = amounts
  point-at-amounts j a _ amounts (reaching.called {f = f} stands e found) =
      spends-amounts P e.amount a (known e.amount (declared-amount lists f.0 e found)) amounts

  pub point-amounts : {o : Outset} → HasAmounts P o.account → (c : Account) → IsPoint lists o c → HasAmounts P c
  point-amounts begins c point =
      point-at-amounts point.judgement point.account c
      (reached-amounts begins point.judgement point.account point.reached) point.needs
