-- No gas appears or is lost: all gas of a state stays where a change gives what it takes.
use Rattle.std.proofs.Common.{◌≡◌, ◌<◌, ◌≤◌, ℕ, ◌+◌, ◌-◌, List, [], length, get_or, Option, Some, None, sum, sum_by, refl, sym, subst, arith}
use Rattle.std.proofs.lemmas.List.{length-set}
use Rattle.std.proofs.lemmas.List.Sums.{sum_by-set, sum_by_push}
use Rattle.std.specs.Prelude.{slice_index}
use Rattle.std.specs.Option.{option_to_list}
use Rattle.nomos_machine.proofs.ChangeLaws.{Replaces, done, news, made-weight}
use Rattle.nomos_machine.specs.Change.{Change, CanGive, CanGet, paid_out, paid_in, changed}
use Rattle.nomos_machine.specs.Objects.{purse_of}
use Rattle.nomos_machine.specs.Starting.{opened, credited, credits, cleared}
use Rattle.nomos_machine.specs.State.{State, gas_of}
use Rattle.nomos_machine.specs.declared.object.Object.{Object}

-- what an account gives or gets
abbrev pub amount_of : Option (ℕ × ℕ) → ℕ
amount_of (Some e) = e.1
amount_of None = 0

pub paid_out-sum : (gives : Option (ℕ × ℕ)) (balances : List ℕ) → CanGive gives balances
    → sum (paid_out gives balances) + amount_of gives ≡ sum balances
paid_out-sum None balances can = omega arith
paid_out-sum (Some e) balances can =
    let same = sum_by-set (λ (n : ℕ). n) balances e.0 (get_or balances e.0 0 - e.1) 0 can.0 in
    let has : e.1 ≤ get_or balances e.0 0 = can.1 in
    omega (arith, same)

pub paid_in-sum : (gets : Option (ℕ × ℕ)) (balances : List ℕ) → CanGet gets balances
    → sum (paid_in gets balances) ≡ sum balances + amount_of gets
paid_in-sum None balances can = omega arith
paid_in-sum (Some e) balances can =
    omega (arith, sum_by-set (λ (n : ℕ). n) balances e.0 (get_or balances e.0 0 + e.1) 0 can)

-- a change leaves as many accounts as there were
pub paid_out-length : (gives : Option (ℕ × ℕ)) (balances : List ℕ) → length (paid_out gives balances) ≡ length balances
paid_out-length None balances = refl
paid_out-length (Some e) balances = length-set balances e.0 (slice_index balances e.0 - e.1)

pub paid_in-length : (gets : Option (ℕ × ℕ)) (balances : List ℕ) → length (paid_in gets balances) ≡ length balances
paid_in-length None balances = refl
paid_in-length (Some e) balances = length-set balances e.0 (slice_index balances e.0 + e.1)

can-get : (gets : Option (ℕ × ℕ)) (balances others : List ℕ) → length others ≡ length balances → CanGet gets balances
    → CanGet gets others
can-get None balances others same can = can
can-get (Some e) balances others same can = subst (λ (n : ℕ). e.0 < n) (sym same) can

-- what is burnt, what an account gets and what comes in purses is what an account gives and what goes in purses
abbrev pub IsEven : Change → List Object → Type 0
IsEven c olds =
    c.burnt + amount_of c.gets + sum_by purse_of (news c.places) + sum_by purse_of (option_to_list c.comes)
    ≡ amount_of c.gives + sum_by purse_of olds

-- the accounts are there, the one that gives has what it gives, and the change is even
pub record KeepsGas (s : State) (c : Change) (olds : List Object) : Type 0 where
  pub gives : CanGive c.gives s.balances
  pub gets : CanGet c.gets s.balances
  pub even : IsEven c olds

-- such a change keeps all gas
pub gas-changed : (s : State) (c : Change) (olds : List Object) → Replaces c.places s.objects olds → KeepsGas s c olds
    → gas_of (changed s c) ≡ gas_of s
gas-changed s c olds replaces keeps =
    let out = paid_out-sum c.gives s.balances keeps.gives in
    let into = paid_in-sum c.gets (paid_out c.gives s.balances)
    (can-get c.gets s.balances (paid_out c.gives s.balances) (paid_out-length c.gives s.balances) keeps.gets)
    in
    let even = keeps.even in
    let purses = made-weight purse_of s c olds replaces in
    omega arith

-- a new account has what it begins with
pub gas-opened : (s : State) (gas : ℕ) → gas_of (opened s gas) ≡ gas_of s + gas
gas-opened s gas = omega (arith, sum_by_push (λ (n : ℕ). n) s.balances gas)

-- a deposit raises all gas by what it brings
pub gas-credited : (s : State) (account gas : ℕ) → account < length s.balances
    → gas_of (credited s account gas) ≡ gas_of s + gas
gas-credited s account gas within =
    let into = paid_in-sum (Some (account, gas)) s.balances within in
    let purses = made-weight purse_of s (credits s account gas) [] (done s.objects) in
    omega arith

-- and what was emitted has none
pub gas-cleared : (s : State) → gas_of (cleared s) ≡ gas_of s
gas-cleared s = refl
