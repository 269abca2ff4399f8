-- The goal of a program is worth what its transactions declare, and its numbers are small.
use Rattle.std.proofs.Common.{◌≡◌, ◌≤◌, ◌+◌, ℕ, zero, suc, Bool, true, false, if◌then◌else◌, List, [], ◌∷◌, take, length, All, Contains, get_or, Some, slice_get, refl, ap, sym, subst, ◌∙◌, arith, ℤ, pos, ◌-ℤ◌, ◌≤ℤ◌}
use Rattle.std.specs.Prelude.{sum_by}
use Rattle.std.specs.List.{range_with_len}
use Rattle.std.proofs.lemmas.Int.{ints}
use Rattle.std.proofs.Math.Nat.{min-le_right}
use Rattle.std.proofs.lemmas.List.Elements.{All-nil, All-head, All-tail, All-take, All-map, All-weaker, All-contains, All-contains_itself, Contains-append_right}
use Rattle.std.proofs.lemmas.List.{length-take, take_all}
use Rattle.std.proofs.lemmas.Option.{slice_get-get_or}
use Rattle.std.proofs.lemmas.List.Sums.{sum_by-cons}
use Rattle.nomos_check.proofs.LimitLemmas.{star-below}
use Rattle.nomos_check.specs.Account.{Account, worth_of, shares, gains, form_of, no_account}
use Rattle.nomos_check.specs.Room.{HasRoom}
use Rattle.nomos_check.proofs.AmountLaws.{HasAmounts, amounts-weaker, program-amount, gains-amounts, proc-amount}
use Rattle.nomos_check.proofs.FormLaws.{form-worth}
use Rattle.nomos_check.proofs.SizeLaws.{amount_count, account-is_form, shares-count}
use Rattle.nomos_check.proofs.StarLaws.{program-star}
use Rattle.nomos_forms.specs.Bounds.{IsForm}
use Rattle.nomos_forms.specs.Linear.{form_value}
use Rattle.nomos_ir.specs.Amounts.{amounts_of, proc_amounts, star_count, star_of, IsAmount}
use Rattle.nomos_ir.specs.Program.{IsProgram}
use Rattle.nomos_ir.proofs.NodeLaws.{All-at}
use Rattle.nomos_ir.specs.declared.amount.Amount.{Amount}
use Rattle.nomos_ir.specs.declared.amount.Amount.TheVariants as amount
use Rattle.nomos_ir.specs.declared.declaration.ProcDecl.{ProcDecl}
use Rattle.nomos_ir.specs.declared.ids.VarId.{VarId}
use Rattle.nomos_ir.specs.declared.lists.ProgramLists.{ProgramLists}
use Rattle.nomos_least.specs.Goal.{is_transaction, declared_in, all_declared, gains_declared, gains_all, goal_of}
use Rattle.nomos_types.specs.Amount.{Annotations, dths}

-- one declaration after the other

gains-suc : (ds : List ProcDecl) (d : ProcDecl) (k : ℕ) (a : Account) → slice_get ds k ≡ Some d
    → gains_all (take (suc k) ds) a ≡ gains_declared d (gains_all (take k ds) a)
gains-suc [] d k a there = cc
gains-suc (e ∷ ds) d zero a there = cc
gains-suc (e ∷ ds) d (suc k) a there = gains-suc ds d k (gains_declared e a) there

pub gains-next : (ds : List ProcDecl) (d : ProcDecl) (k : ℕ) (a : Account) → slice_get ds k ≡ Some d
    → gains_declared d (gains_all (take k ds) a) ≡ gains_all (take (k + 1) ds) a
gains-next ds d k a there =
    let one_more : k + 1 ≡ suc k = omega arith in
    sym (ap (λ (n : ℕ). gains_all (take n ds) a) one_more ∙ gains-suc ds d k a there)

-- its amounts

-- the amount is one of the program's
abbrev Declares : ProgramLists → ProcDecl → Type 0
Declares lists d = Contains (amounts_of lists) d.amount

module _ (lists : ProgramLists) where
  last-amount : (d : ProcDecl) → Contains (proc_amounts d) d.amount
  last-amount d = Contains-append_right _ (d.amount ∷ []) d.amount (zero, omega arith, refl)

  all-declare : All (Declares lists) lists.procs
  all-declare = λ k d inside.
      let e = get_or lists.procs k d in
      proc-amount lists k e e.amount (slice_get-get_or lists.procs k d inside) (last-amount e)

  gained-one : (t : Bool) (d : ProcDecl) (a : Account) → Declares lists d → HasAmounts (Contains (amounts_of lists)) a
      → HasAmounts (Contains (amounts_of lists)) (if t then gains d.amount a else a)
  gained-one true d a among amounts = gains-amounts (Contains (amounts_of lists)) d.amount a among amounts
  gained-one false d a among amounts = amounts

  gained-amounts : (ds : List ProcDecl) (a : Account) → All (Declares lists) ds
      → HasAmounts (Contains (amounts_of lists)) a
      → HasAmounts (Contains (amounts_of lists)) (gains_all ds a)
  gained-amounts [] a all amounts = amounts
  gained-amounts (d ∷ ds) a all amounts =
      gained-amounts ds (gains_declared d a) (All-tail (Declares lists) d ds all)
      (gained-one (is_transaction d.mode) d a (All-head (Declares lists) d ds all) amounts)

  none-amounts : HasAmounts (Contains (amounts_of lists)) no_account
  none-amounts =
      let Among = Contains (amounts_of lists) in
      record {
        gained = All-nil Among;
        spent = All-nil Among;
        lists = All-nil (λ (b : VarId × Amount). Among b.1);
      }

-- how many there are
counted-one : (t : Bool) (d : ProcDecl) (a : Account)
    → amount_count (if t then gains d.amount a else a) ≤ suc (amount_count a)
counted-one true d a = omega arith
counted-one false d a = omega arith

counted : (ds : List ProcDecl) (a : Account) → amount_count (gains_all ds a) ≤ amount_count a + length ds
counted [] a = omega arith
counted (d ∷ ds) a =
    omega (arith, counted ds (gains_declared d a), counted-one (is_transaction d.mode) d a)

-- nothing is spent
spent-one : (t : Bool) (d : ProcDecl) (a : Account) → a.spent ≡ [] → (if t then gains d.amount a else a).spent ≡ []
spent-one true d a none = none
spent-one false d a none = none

spent-none : (ds : List ProcDecl) (a : Account) → a.spent ≡ [] → (gains_all ds a).spent ≡ []
spent-none [] a none = none
spent-none (d ∷ ds) a none = spent-none ds (gains_declared d a) (spent-one (is_transaction d.mode) d a none)

-- its numbers

-- after some declarations the form has small numbers
pub gained-is_form : (lists : ProgramLists) (k n : ℕ) → IsProgram lists
    → IsForm n (form_of n (gains_all (take k lists.procs) no_account))
gained-is_form lists k n is_program =
    let ds = take k lists.procs in
    let few : amount_count (gains_all ds no_account) ≤ 20001 =
    omega (
      arith,
      counted ds no_account,
      length-take k lists.procs,
      is_program.size.declarations,
      min-le_right k (length lists.procs),
    )
    in
    let amounts = gained-amounts lists ds no_account (All-take (Declares lists) k lists.procs (all-declare lists))
    (none-amounts lists) in
    account-is_form n (gains_all ds no_account)
    (amounts-weaker (gains_all ds no_account) (program-amount is_program) amounts) few

pub goal-is_form : (lists : ProgramLists) → IsProgram lists → IsForm (star_count lists) (goal_of lists)
goal-is_form lists is_program =
    subst (λ (ds : List ProcDecl). IsForm (star_count lists) (form_of (star_count lists) (gains_all ds no_account)))
    (take_all (length lists.procs) lists.procs (omega arith))
    (gained-is_form lists (length lists.procs) (star_count lists) is_program)

-- there is room for what the next one declares
pub declared-room : (lists : ProgramLists) (k : ℕ) (d : ProcDecl) → IsProgram lists → slice_get lists.procs k ≡ Some d
    → HasRoom (form_of (star_count lists) (gains_all (take k lists.procs) no_account)) d.amount
declared-room lists k d is_program there =
    let n = star_count lists in
    let form = gained-is_form lists k n is_program in
    let among : Declares lists d = All-at (Declares lists) lists.procs k d (all-declare lists) there in
    record {
      form = subst (λ m. IsForm m (form_of n (gains_all (take k lists.procs) no_account))) (sym form.width) form;
      small = All-contains IsAmount (amounts_of lists) d.amount is_program.amounts among;
      star = subst (λ m. star_of d.amount ≤ m) (sym form.width)
          (star-below n d.amount (program-star d.amount is_program among));
    }

-- no coefficient of the goal is below 0
not_below : (amounts others : List Amount) → others ≡ [] → (star : ℕ)
    → pos 0 ≤ℤ (shares amounts star -ℤ shares others star)
not_below amounts others none star =
    let (m, is, low) = shares-count amounts star in
    subst (λ (rs : List Amount). pos 0 ≤ℤ (shares amounts star -ℤ shares rs star)) (sym none)
    (subst (λ z. pos 0 ≤ℤ (z -ℤ pos 0)) (sym is) (over m))
  where
    over : (m : ℕ) → pos 0 ≤ℤ (pos m -ℤ pos 0)
    over m = omega (arith, ints)

pub goal-coefs : (lists : ProgramLists) → All (λ c. pos 0 ≤ℤ c) (goal_of lists).coefs
goal-coefs lists =
    let a = gains_all lists.procs no_account in
    let stars = range_with_len 1 (star_count lists) in
    let f : ℕ → ℤ = λ star. shares a.gained star -ℤ shares a.spent star in
    let Over : ℤ → Type 0 = λ c. pos 0 ≤ℤ c in
    All-map Over f stars
    (All-weaker (Contains stars) (λ star. Over (f star))
    (λ star among. not_below a.gained a.spent (spent-none lists.procs no_account refl) star) stars
    (All-contains_itself stars))

-- its value

worth-one : (x : Annotations) (t : Bool) (d : ProcDecl) (a : Account)
    → worth_of x (if t then gains d.amount a else a).gained
    ≡ worth_of x a.gained + (if t then dths x d.amount else 0)
worth-one x true d a = omega (arith, sum_by-cons (dths x) d.amount a.gained)
worth-one x false d a = omega arith

gained-worth : (x : Annotations) (ds : List ProcDecl) (a : Account)
    → worth_of x (gains_all ds a).gained ≡ worth_of x a.gained + sum_by (declared_in x) ds
gained-worth x [] a = omega arith
gained-worth x (d ∷ ds) a =
    omega (
      arith,
      gained-worth x ds (gains_declared d a),
      worth-one x (is_transaction d.mode) d a,
      sum_by-cons (declared_in x) d ds,
    )

-- the goal is worth what the transactions declare
pub goal-worth : (lists : ProgramLists) (x : Annotations) → IsProgram lists → length x.stars ≡ star_count lists
    → form_value x.stars x.unit (goal_of lists) ≡ pos (all_declared x lists)
goal-worth lists x is_program width =
    let n = star_count lists in
    let a = gains_all lists.procs no_account in
    let amounts = gained-amounts lists lists.procs no_account (all-declare lists) (none-amounts lists) in
    let stars = amounts-weaker a (λ r among. program-star r is_program among) amounts in
    let none : worth_of x a.spent ≡ 0 = ap (worth_of x) (spent-none lists.procs no_account refl) in
    form-worth x n a width stars
    ∙ less (worth_of x a.gained) (worth_of x a.spent) (all_declared x lists) none
    (gained-worth x lists.procs no_account)
  where
    less : (g s t : ℕ) → s ≡ 0 → g ≡ 0 + t → pos g -ℤ pos s ≡ pos t
    less g s t e f = omega (arith, ints, e, f)
