-- What holds of the code's data wherever a process gets to from an outset in order.
use Rattle.std.proofs.Common.{◌≡◌, ◌<◌, ◌≤◌, ◌+◌, ℕ, List, map, length, All, Contains, Some, slice_get, sym, subst, arith}
use Rattle.std.proofs.lemmas.List.{length-map, get_or-map}
use Rattle.std.proofs.lemmas.Option.{slice_get_within}
use Rattle.nomos_ir.proofs.NodeLaws.{All-at}
use Rattle.nomos_ir.specs.declared.amount.Amount.{Amount}
use Rattle.nomos_ir.specs.declared.declaration.ProcDecl.{ProcDecl}
use Rattle.nomos_ir.specs.declared.ids.VarId.{VarId}
use Rattle.nomos_ir.specs.declared.lists.ProgramLists.{ProgramLists}
use Rattle.nomos_ir.specs.Amounts.{star_count, amounts_of}
use Rattle.nomos_ir.specs.Ids.{ProcInRange}
use Rattle.nomos_ir.specs.Bindings.{each_bound}
use Rattle.nomos_forms.specs.declared.form.Form.{Form}
use Rattle.nomos_forms.specs.Bounds.{IsForm}
use Rattle.nomos_types.proofs.InversionLaws.{row-descends}
use Rattle.nomos_types.proofs.StartLaws.{start-suits_mode}
use Rattle.nomos_types.specs.Equality.{no_amounts}
use Rattle.nomos_types.specs.Judgement.{Judgement, SuitsMode}
use Rattle.nomos_types.specs.Typed.{IsWellFormed}
use Rattle.nomos_check.proofs.AmountLaws.{HasAmounts, amounts-weaker, start-amounts, reached-amounts}
use Rattle.nomos_check.proofs.LimitLemmas.{is-amount}
use Rattle.nomos_check.proofs.ListLemmas.{paired-first}
use Rattle.nomos_check.proofs.ReachingLaws.{HasItsAccount, start-has, stands-reached, suits-reached}
use Rattle.nomos_check.proofs.SizeLaws.{amount_count, start-count, point-is_form}
use Rattle.nomos_check.specs.Account.{Account}
use Rattle.nomos_check.specs.Accounting.{accounts_after}
use Rattle.nomos_check.specs.Reaching.{Outset, outset_of, GetsTo, IsPointAt, IsPoint}
use Rattle.nomos_check.specs.declared.standing.Carried.{Carried}
use Rattle.nomos_check.specs.declared.standing.Standing.{Standing}
use Rattle.nomos_check.specs.mirror.StandingData.{shape_of, amount_of, HasAccount, IsWithin}
use Rattle.nomos_check.specs.mirror.Walking.{StaysWithin, IsOnWay}
use Rattle.nomos_check.specs.mirror.FormLimits.{IsAmountOf}

-- what holds of all that is mapped holds of what it is mapped from
all-unmap : {X Y : Type 0} (P : Y → Type 0) (f : X → Y) (xs : List X) → All P (map f xs) → All (λ x. P (f x)) xs
all-unmap P f xs all =
    λ k e inside. subst P (get_or-map f xs k e (f e) inside) (all k (f e) (rw length-map inside))

-- An outset in order: a judgement with its account, at an instruction of the program, with few amounts.
pub record IsInOrder (lists : ProgramLists) (o : Outset) : Type 0 where
  pub stands : HasItsAccount lists o.judgement o.account
  pub suits : SuitsMode lists o.judgement
  pub inside : o.judgement.code.0 < length lists.code
  pub amounts : HasAmounts (IsAmountOf lists) o.account
  pub few : amount_count o.account + o.judgement.code.0 ≤ length lists.code

module _ {lists : ProgramLists} {o : Outset} (formed : IsWellFormed lists) (order : IsInOrder lists o) where
  -- an instruction that is reached is one of the program
  reached-code : (j : Judgement) (a : Account) → GetsTo lists o j a → j.code.0 < length lists.code
  reached-code _ _ GetsTo.start = order.inside
  reached-code k b (GetsTo.next {j} {a = a} n after before stands row among) =
      let lower = row-descends formed row (paired-first after (accounts_after lists n a) k b among) in
      let inside = slice_get_within lists.code j.code.0 n stands in
      omega arith

  -- what the process has in hand there is in order
  within-reached : (s : Standing) (a : Account) → HasAccount (star_count lists) s a → GetsTo lists o (shape_of s) a
      → IsWithin lists s
  within-reached s a has reached =
      let known : (r : Amount) → Contains (amounts_of lists) r → IsAmountOf lists r = is-amount formed.program in
      let amounts = reached-amounts lists (IsAmountOf lists) known order.amounts (shape_of s) a reached in
      let Known : VarId × Amount → Type 0 = λ e. IsAmountOf lists e.1 in
      let carried : All Known (each_bound amount_of s.lists) = subst (All Known) (sym has.lists) amounts.lists in
      let numbers = amounts-weaker o.account (λ r (is : IsAmountOf lists r). is.small) order.amounts in
      let point : IsPoint lists o a =
      record { judgement = shape_of s; account = a; reached = reached; needs = IsPointAt.before }
      in
      let small = point-is_form (star_count lists) a formed numbers order.few point in
      record {
        code = reached-code (shape_of s) a reached;
        judgement = (stands-reached formed order.stands (shape_of s) a reached).judgement;
        suits = suits-reached formed order.stands order.suits (shape_of s) a reached;
        amounts = all-unmap Known (λ (q : VarId × Carried). (q.0, q.1.amount)) s.lists carried;
        potential = subst (λ (f : Form). IsForm (star_count lists) f) (sym has.potential) small;
      }

  -- so wherever the process gets to, the code's data is in order
  pub order-within : StaysWithin lists (star_count lists) o
  order-within s reached = within-reached s reached.account reached.has reached.reached

-- the start of a declaration is in order
pub start-in_order : {lists : ProgramLists} {d : ProcDecl} (p : ℕ) → IsWellFormed lists
    → slice_get lists.procs p ≡ Some d → IsInOrder lists (outset_of lists d)
start-in_order {lists} {d} p formed declared =
    let known : (r : Amount) → Contains (amounts_of lists) r → IsAmountOf lists r = is-amount formed.program in
    record {
      stands = start-has p formed declared;
      suits = start-suits_mode no_amounts p formed declared;
      inside = (All-at (λ (e : ProcDecl). ProcInRange lists e) lists.procs p d formed.program.ids.procs declared).first;
      amounts = start-amounts lists (IsAmountOf lists) known p d declared;
      few = start-count p formed declared;
    }

-- so its walk stays in order
pub start-within : {lists : ProgramLists} {d : ProcDecl} (p : ℕ) → IsWellFormed lists
    → slice_get lists.procs p ≡ Some d → StaysWithin lists (star_count lists) (outset_of lists d)
start-within p formed declared = order-within formed (start-in_order p formed declared)

pub within-on_way : {lists : ProgramLists} (s : Standing) → IsOnWay lists (star_count lists) s → IsWithin lists s
within-on_way s on_way = on_way.within s on_way.reached
