-- The numbers of forms are small: an account has no more amounts than there are instructions on the way to it and one.
use Rattle.std.proofs.Common.{◌≡◌, ◌≤◌, ◌+◌, ◌*◌, ◌==◌, ℕ, suc, Bool, true, false, if◌then◌else◌, List, [], ◌∷◌, map, length, All, Contains, Option, Some, None, slice_get, refl, sym, subst, ◌∙◌, arith, ℤ, pos, ◌+ℤ◌, ◌-ℤ◌, unsigned_abs}
use Rattle.std.specs.Prelude.{sum_by}
use Rattle.std.specs.List.{range_with_len}
use Rattle.std.proofs.lemmas.Int.{ints}
use Rattle.std.proofs.lemmas.List.{length-map}
use Rattle.std.proofs.lemmas.List.FromFn.{length-range_with_len}
use Rattle.std.proofs.lemmas.List.Elements.{All-nil, All-cons, All-head, All-tail, All-map, All-weaker, All-contains, All-contains_itself}
use Rattle.std.proofs.lemmas.List.Sums.{sum_by-cons}
use Rattle.nomos_ir.specs.declared.amount.Amount.{Amount}
use Rattle.nomos_ir.specs.declared.amount.Amount.TheVariants as amount
use Rattle.nomos_ir.specs.declared.code_node.Arm.{Arm}
use Rattle.nomos_ir.specs.declared.code_node.CodeNode.{CodeNode}
use Rattle.nomos_ir.specs.declared.code_node.CodeNode.TheVariants as code
use Rattle.nomos_ir.specs.declared.declaration.ProcDecl.{ProcDecl}
use Rattle.nomos_ir.specs.declared.ids.VarId.{VarId}
use Rattle.nomos_ir.specs.declared.lists.ProgramLists.{ProgramLists}
use Rattle.nomos_ir.specs.Amounts.{IsAmount, star_of}
use Rattle.nomos_ir.specs.Bindings.{bound_to}
use Rattle.nomos_ir.specs.Ids.{ProcInRange}
use Rattle.nomos_ir.proofs.NodeLaws.{All-at}
use Rattle.nomos_forms.specs.Bounds.{IsSmall, IsForm}
use Rattle.nomos_forms.specs.RowsOf.{share_of, units_in}
use Rattle.nomos_types.proofs.InversionLaws.{row-descends}
use Rattle.nomos_types.specs.Judgement.{Judgement}
use Rattle.nomos_types.specs.Typed.{IsWellFormed}
use Rattle.nomos_check.specs.Account.{Account, start_account, shares, form_of}
use Rattle.nomos_check.specs.Accounting.{accounts_after, spends_for, grows_list, parts_list}
use Rattle.nomos_check.specs.Reaching.{Outset, GetsTo, IsPointAt, IsPoint}
use Rattle.nomos_check.specs.Reaching as reaching
use Rattle.nomos_check.proofs.AmountLaws.{HasAmounts, program-amount, point-amounts}
use Rattle.nomos_check.proofs.ListLemmas.{paired-first, paired-second}

-- how many amounts were gained and spent
abbrev pub amount_count : Account → ℕ
amount_count a = length a.gained + length a.spent

-- ---- one instruction

-- at most one amount more
abbrev OneMore : Account → Account → Type 0
OneMore a b = amount_count b ≤ suc (amount_count a)

module _ (a : Account) where
  one-account : (b : Account) → OneMore a b → All (OneMore a) (b ∷ [])
  one-account b more = All-cons (OneMore a) b [] more (All-nil (OneMore a))

  two-accounts : (b c : Account) → OneMore a b → OneMore a c → All (OneMore a) (b ∷ c ∷ [])
  two-accounts b c first second = All-cons (OneMore a) b (c ∷ []) first (one-account c second)

  arms-accounts : (arms : List Arm) → All (OneMore a) (map (λ arm. a) arms)
  arms-accounts [] = All-nil (OneMore a)
  arms-accounts (arm ∷ arms) = All-cons (OneMore a) a (map (λ b. a) arms) (omega arith) (arms-accounts arms)

  spent-count : (o : Option ProcDecl) (b : Account) → amount_count b ≡ amount_count a → OneMore a (spends_for o b)
  spent-count None b same = omega (arith, same)
  spent-count (Some d) b same = omega (arith, same)

  grown-accounts : (o : Option Amount) (v w : VarId) → All (OneMore a) (grows_list o v w a)
  grown-accounts None v w = All-nil (OneMore a)
  grown-accounts (Some r) v w = one-account _ (omega arith)

  parted-accounts : (o : Option Amount) (w tail : VarId) → All (OneMore a) (parts_list o w tail a)
  parted-accounts None w tail = All-nil (OneMore a)
  parted-accounts (Some r) w tail = two-accounts _ _ (omega arith) (omega arith)

  -- an instruction gains or spends at most one amount
  count-after : (lists : ProgramLists) (n : CodeNode) → All (OneMore a) (accounts_after lists n a)
  count-after lists (code.Case at c arms) = arms-accounts arms
  count-after lists (code.Pay at c r next) = one-account _ (omega arith)
  count-after lists (code.Get at c r next) = one-account _ (omega arith)
  count-after lists (code.Work at r next) = one-account _ (omega arith)
  count-after lists (code.Spawn at v f args next) = one-account _ (spent-count (slice_get lists.procs f.0) _ refl)
  count-after lists (code.If at e then_next else_next) = two-accounts a a (omega arith) (omega arith)
  count-after lists (code.Close at) = All-nil (OneMore a)
  count-after lists (code.Fwd at v) = All-nil (OneMore a)
  count-after lists (code.Call at f args) = All-nil (OneMore a)
  count-after lists (code.Empty at v r kind next) = one-account _ (omega arith)
  count-after lists (code.Add at v e w next) = grown-accounts (bound_to w.0 a.lists) v w
  count-after lists (code.Match at w empty_next head tail full_next) = parted-accounts (bound_to w.0 a.lists) w tail
  count-after lists n = one-account a (omega arith)

-- ---- a process

-- an account that a place has to afford has at most one amount more than that of the place
point-at-count : {lists : ProgramLists} (j : Judgement) (a c : Account)
    → amount_count a + j.code.0 ≤ length lists.code → IsPointAt lists j a c → amount_count c ≤ suc (length lists.code)
point-at-count j a _ count reaching.before = omega (arith, count)
point-at-count j a _ count (reaching.called there e found) = omega (arith, count)

module _ {lists : ProgramLists} {o : Outset} (formed : IsWellFormed lists)
    (begins : amount_count o.account + o.judgement.code.0 ≤ length lists.code) where
  -- an account has no more amounts than instructions are behind its place, and one
  pub reached-count : (j : Judgement) (a : Account) → GetsTo lists o j a
      → amount_count a + j.code.0 ≤ length lists.code
  reached-count _ _ reaching.start = begins
  reached-count k b (reaching.next {j} {a = a} n after before there row among) =
      let lower = row-descends formed row (paired-first after (accounts_after lists n a) k b among) in
      let more = All-contains (OneMore a) (accounts_after lists n a) b (count-after a lists n)
      (paired-second after (accounts_after lists n a) k b among)
      in
      omega (arith, lower, more, reached-count j a before)

  -- at a point there are at most as many amounts as the program has instructions, and one
  pub point-count : (c : Account) → IsPoint lists o c → amount_count c ≤ suc (length lists.code)
  point-count c point =
      point-at-count point.judgement point.account c (reached-count point.judgement point.account point.reached)
      point.needs

-- a declaration starts with one amount, at one of the instructions
pub start-count : {lists : ProgramLists} {d : ProcDecl} (p : ℕ) → IsWellFormed lists
    → slice_get lists.procs p ≡ Some d → amount_count (start_account d) + d.first.0 ≤ length lists.code
start-count {lists} {d} p formed declared =
    let first = (All-at (ProcInRange lists) lists.procs p d formed.program.ids.procs declared).first in
    omega (arith, first)

-- ---- numbers

abs-difference : (m k : ℕ) → unsigned_abs (pos m -ℤ pos k) ≤ m + k
abs-difference m k = omega (arith, ints)

-- a star stands in an amount at most once
share-one : (r : Amount) (star : ℕ) → (m : ℕ) × (share_of r star ≡ pos m) × (m ≤ 1)
share-one r star = by (star_of r == star)
  where
    by : (t : Bool) → (m : ℕ) × ((if t then pos 1 else pos 0) ≡ pos m) × (m ≤ 1)
    by true = (1, refl, omega arith)
    by false = (0, refl, omega arith)

-- and among amounts at most as often as there are amounts
pub shares-count : (rs : List Amount) (star : ℕ) → (m : ℕ) × (shares rs star ≡ pos m) × (m ≤ length rs)
shares-count [] star = (0, refl, omega arith)
shares-count (r ∷ rs) star =
    let (m, first, low) = share-one r star in
    let (k, rest, rest_low) = shares-count rs star in
    (m + k, λ p. first p +ℤ rest p, omega (arith, low, rest_low))

-- a coefficient is at most the number of amounts
pub coefficient-size : (a : Account) (star : ℕ)
    → unsigned_abs (shares a.gained star -ℤ shares a.spent star) ≤ amount_count a
coefficient-size a star =
    let (m, gained, gained_low) = shares-count a.gained star in
    let (k, spent, spent_low) = shares-count a.spent star in
    let same : shares a.gained star -ℤ shares a.spent star ≡ pos m -ℤ pos k = λ p. gained p -ℤ spent p in
    subst (λ (z : ℤ). unsigned_abs z ≤ amount_count a) (sym same)
    (omega (arith, abs-difference m k, gained_low, spent_low))

-- the whole units of an amount, and of amounts
units-small : (r : Amount) → IsAmount r → units_in r ≤ 1000000000
units-small (amount.Written units) is_amount = is_amount
units-small (amount.Star star) is_amount = omega arith

units-size : (rs : List Amount) → All IsAmount rs → sum_by units_in rs ≤ 1000000000 * length rs
units-size [] all = omega arith
units-size (r ∷ rs) all =
    let first = units-small r (All-head IsAmount r rs all) in
    let rest = units-size rs (All-tail IsAmount r rs all) in
    omega (arith, sum_by-cons units_in r rs, first, rest)

-- an account of such amounts has whole units of this size
pub plus-size : (n : ℕ) (a : Account) → HasAmounts IsAmount a
    → unsigned_abs (form_of n a).plus ≤ 1000000000 * amount_count a
plus-size n a amounts =
    let gained = units-size a.gained amounts.gained in
    let spent = units-size a.spent amounts.spent in
    omega (arith, abs-difference (sum_by units_in a.gained) (sum_by units_in a.spent), gained, spent)

-- an account with few amounts has a form of small numbers
pub account-is_form : (n : ℕ) (a : Account) → HasAmounts IsAmount a → amount_count a ≤ 20001 → IsForm n (form_of n a)
account-is_form n a amounts few =
    let f : ℕ → ℤ = λ star. shares a.gained star -ℤ shares a.spent star in
    let stars = range_with_len 1 n in
    let each : (star : ℕ) → Contains stars star → IsSmall (f star) =
    λ star among. omega (arith, coefficient-size a star, few) in
    record {
      width = length-map stars f ∙ length-range_with_len 1 n;
      coefs = All-map IsSmall f stars
          (All-weaker (Contains stars) (λ star. IsSmall (f star)) each stars (All-contains_itself stars));
      plus = omega (arith, plus-size n a amounts, few);
    }

-- at each point of a process the form has small numbers
pub point-is_form : {lists : ProgramLists} {o : Outset} (n : ℕ) (c : Account) → IsWellFormed lists
    → HasAmounts IsAmount o.account → amount_count o.account + o.judgement.code.0 ≤ length lists.code
    → IsPoint lists o c → IsForm n (form_of n c)
point-is_form {lists} n c formed amounts begins point =
    let count = point-count formed begins c point in
    let small = formed.program.size.code in
    let known = program-amount formed.program in
    account-is_form n c (point-amounts lists IsAmount known amounts c point) (omega (arith, count, small))
