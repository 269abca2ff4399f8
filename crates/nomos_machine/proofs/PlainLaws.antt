-- The walk over the machine's table, said once: each change that a process makes leaves the outside names as they are
-- and takes from no account; or it is a forward, by which whoever used the process's name uses another one.
use Rattle.std.proofs.Common.{◌≡◌, ◌∙◌, ◌+◌, nat_le, ℕ, suc, Bool, true, false, not, cond, List, [], ◌∷◌, length, Option, Some, None, Ok, Err, slice_get, refl, sym, subst, ap}
use Rattle.std.proofs.lemmas.List.{length-map}
use Rattle.std.specs.Option.{option_map}
use Rattle.nomos_ir.specs.Bindings.{bound_to}
use Rattle.nomos_ir.specs.CodeParts.{code_terms}
use Rattle.nomos_ir.specs.TermsEvaluation.{TermsResult, terms_evaluation}
use Rattle.nomos_ir.specs.Value.{Value}
use Rattle.nomos_ir.specs.declared.code_node.Chan.{Chan}
use Rattle.nomos_ir.specs.declared.code_node.CodeNode.{CodeNode}
use Rattle.nomos_ir.specs.declared.code_node.CodeNode.TheVariants as code
use Rattle.nomos_ir.specs.declared.ids.CodeId.{CodeId}
use Rattle.nomos_ir.specs.declared.ids.TypeId.{TypeId}
use Rattle.nomos_ir.specs.declared.ids.VarId.{VarId}
use Rattle.nomos_ir.specs.declared.mode.Mode.{Mode}
use Rattle.nomos_ir.specs.declared.mode.Mode.TheVariants as mode
use Rattle.nomos_types.specs.Acceptance.{Acceptance}
use Rattle.nomos_types.specs.Amount.{dths}
use Rattle.nomos_machine.specs.Change.{Change, changed}
use Rattle.nomos_machine.specs.Deeds.{Deed, changes, has_fault, label_in, value_in, channel_in, potential_in, close_in, arm_for, one_of, lengthened, is_light, where_it_has, sends, receives, hears_end, closes, forwards, acquires, releases, adds, takes_apart, deed_at}
use Rattle.nomos_machine.specs.Given.{given}
use Rattle.nomos_machine.specs.Objects.{potential_of}
use Rattle.nomos_machine.specs.Optional.{◌>>=◌}
use Rattle.nomos_machine.specs.Revised.{renamed, standing_at, under_name, with_channel, with_value}
use Rattle.nomos_machine.specs.Run.{run}
use Rattle.nomos_machine.specs.Sight.{is_own, present_name, message_on, offering, after_acquire, accept_next, detach_next}
use Rattle.nomos_machine.specs.State.{State, process_at, node_of}
use Rattle.nomos_machine.specs.Step.{deed_by, deed, state_after, step}
use Rattle.nomos_machine.specs.declared.object.PotentialList.{PotentialList}
use Rattle.nomos_machine.specs.declared.object.Payload.{Payload}
use Rattle.nomos_machine.specs.declared.object.Process.{Process}

-- it leaves the outside names as they are, and takes from no account
pub record IsPlain (s : State) (c : Change) : Type 0 where
  pub outside : c.outside ≡ s.outside
  pub gives : c.gives ≡ None

-- a change by which the process at `fwd` leaves its place to the channel of a variable
pub record IsForward (a : Acceptance) (s : State) (p : Process) (v : VarId) (c : Change) : Type 0 where
  pub name : ℕ
  pub bound : bound_to v.0 p.channels ≡ Some name
  pub is : c ≡ forwards a s p name

-- what a change at an instruction is
pub data IsMadeAt (a : Acceptance) (s : State) (p : Process) (node : CodeNode) (c : Change) : Type 0 where
  plain : IsPlain s c → IsMadeAt a s p node c
  forward : (at : ℕ) (v : VarId) → node ≡ code.Fwd at v → IsForward a s p v c → IsMadeAt a s p node c

-- what holds of the change of a deed, if it is one
abbrev pub OfDeed : (Change → Type 0) → Option Deed → Type 0
OfDeed P (Some (changes c)) = P c
OfDeed P (Some (has_fault f)) = Unit {0}
OfDeed P None = Unit {0}

-- what holds of a change that may be there
abbrev OfSome : (Change → Type 0) → Option Change → Type 0
OfSome P (Some c) = P c
OfSome P None = Unit {0}

does-so : (P : Change → Type 0) (change : Option Change) → OfSome P change → OfDeed P (option_map changes change)
does-so P (Some c) so = so
does-so P None so = tt

-- it holds of what goes on with what is there, where it does whatever that is
then-deed : {X : Type 0} (P : Change → Type 0) (o : Option X) (f : X → Option Deed) → ((x : X) → OfDeed P (f x))
    → OfDeed P (o >>= f)
then-deed P (Some x) f so = so x
then-deed P None f so = tt

then-change : {X : Type 0} (P : Change → Type 0) (o : Option X) (f : X → Option Change)
    → ((x : X) → o ≡ Some x → OfSome P (f x)) → OfSome P (o >>= f)
then-change P (Some x) f so = so x refl
then-change P None f so = tt

one-or_none : (P : Change → Type 0) (b : Bool) (change : Option Change) → OfSome P change
    → OfSome P (cond b change None)
one-or_none P true change so = so
one-or_none P false change so = tt

one-or_other : (P : Change → Type 0) (b : Bool) (d e : Option Deed) → OfDeed P d → OfDeed P e → OfDeed P (cond b d e)
one-or_other P true d e one other = one
one-or_other P false d e one other = other

module _ (a : Acceptance) (s : State) (p : Process) where
  abbrev P : Change → Type 0
  P c = IsPlain s c

  as-plain : (node : CodeNode) (d : Option Deed) → OfDeed P d → OfDeed (IsMadeAt a s p node) d
  as-plain node (Some (changes c)) so = plain so
  as-plain node (Some (has_fault f)) so = tt
  as-plain node None so = tt

  where-it_has : (gas : ℕ) (change : Option Change) → OfSome P change → OfSome P (where_it_has gas p change)
  where-it_has gas change so = one-or_none P (nat_le (gas + potential_of p) p.purse) change so

  sends-so : (c : Chan) (brought : Payload) (gas : ℕ) (q : Process) (goes : Option TypeId) (next : CodeId)
      → OfSome P (sends a s p c brought gas q goes next)
  sends-so c brought gas q goes next =
      then-change P (present_name p c) _ (λ from is.
      then-change P goes _ (λ t so. record { outside = refl; gives = refl }))

  receives-so : (c : Chan) (reads : Payload → Process → Option Process) → OfSome P (receives a s p c reads)
  receives-so c reads =
      then-change P (present_name p c) _ (λ from is. then-change P (message_on s.objects (not (is_own c)) from) _
      (λ m there. then-change P m.next _ (λ name next. then-change P (reads m.payload (under_name c name p)) _
      (λ q read. record { outside = refl; gives = refl }))))

  hears_end-so : (v : VarId) (next : CodeId) → OfSome P (hears_end a s p v next)
  hears_end-so v next =
      then-change P (bound_to v.0 p.channels) _ (λ from is. then-change P (message_on s.objects true from) _
      (λ m there. then-change P (close_in m.payload) _ (λ u closed. record { outside = refl; gives = refl })))

  closes-so : (m : Mode) → P (closes a s p m)
  closes-so mode.R = record { outside = refl; gives = refl }
  closes-so mode.L = record { outside = refl; gives = refl }
  closes-so mode.S = record { outside = refl; gives = refl }
  closes-so mode.T = record { outside = refl; gives = refl }

  acquires-so : (r v : VarId) (next : CodeId) → OfSome P (acquires a s p r v next)
  acquires-so r v next =
      then-change P (bound_to r.0 p.channels) _ (λ shared is. then-change P (offering s.objects shared) _
      (λ other there. then-change P (slice_get a.program.code other.code.0) _
      (λ node stands. then-change P (accept_next node) _
      (λ onward accepts. then-change P (node_of a.program s.types shared >>= after_acquire) _
      (λ t after. record { outside = refl; gives = refl })))))

  releases-so : (v r : VarId) (next : CodeId) → OfSome P (releases a s p v r next)
  releases-so v r next =
      then-change P (bound_to v.0 p.channels) _ (λ name is. then-change P (offering s.objects name) _
      (λ other there. then-change P (slice_get a.program.code other.code.0) _
      (λ node stands. then-change P (detach_next node) _ (λ onward detaches. then-change P other.base _
      (λ shared based. record { outside = refl; gives = refl })))))

  adds-so : (v w : VarId) (next : CodeId) (x : Value) → OfDeed P (adds a s p v w next x)
  adds-so v w next x =
      then-deed P (bound_to w.0 p.lists) _ (λ l. one-or_other P (is_light (lengthened x l)) _ _
      (does-so P _ (where-it_has l.amount _ (record { outside = refl; gives = refl }))) tt)

  takes_apart-so : (w : VarId) (empty_next : CodeId) (head tail : VarId) (full_next : CodeId) (l : PotentialList)
      (xs : List Value) → P (takes_apart a s p w empty_next head tail full_next l xs)
  takes_apart-so w empty_next head tail full_next l [] = record { outside = refl; gives = refl }
  takes_apart-so w empty_next head tail full_next l (x ∷ xs) = record { outside = refl; gives = refl }

  -- ---- one line for each instruction

  deed_at-so : (vs : List Value) (node : CodeNode) → OfDeed (IsMadeAt a s p node) (deed_at a s p vs node)
  deed_at-so vs (code.Label at c l next) = as-plain _ _ (does-so P _ (sends-so c _ 0 p _ next))
  deed_at-so vs (code.Case at c arms) =
      as-plain _ _ (does-so P _ (receives-so c
      (λ brought q. label_in brought >>= arm_for arms >>= λ next. Some (standing_at next q))))
  deed_at-so vs (code.Send at c y next) =
      as-plain _ _ (does-so P _ (then-change P (bound_to y.0 p.channels) _ (λ name is. sends-so c _ 0 _ _ next)))
  deed_at-so vs (code.Recv at c y next) =
      as-plain _ _ (does-so P _ (receives-so c
      (λ brought q. channel_in brought >>= λ name. Some (standing_at next (with_channel y name q)))))
  deed_at-so vs (code.Put at c e next) =
      as-plain _ _ (does-so P _ (then-change P (one_of vs) _ (λ x is. sends-so c _ 0 p _ next)))
  deed_at-so vs (code.Take at c v next) =
      as-plain _ _ (does-so P _ (receives-so c
      (λ brought q. value_in brought >>= λ x. Some (standing_at next (with_value v x q)))))
  deed_at-so vs (code.Pay at c r next) =
      as-plain _ _ (does-so P _ (where-it_has (dths a.annotations r) _ (sends-so c _ _ _ _ next)))
  deed_at-so vs (code.Get at c r next) =
      as-plain _ _ (does-so P _ (receives-so c
      (λ brought q. potential_in brought >>= λ u. Some (standing_at next q))))
  deed_at-so vs (code.Work at r next) =
      as-plain _ _ (does-so P _ (where-it_has (dths a.annotations r) _ (record { outside = refl; gives = refl })))
  deed_at-so vs (code.Wait at v next) = as-plain _ _ (does-so P _ (hears_end-so v next))
  deed_at-so vs (code.Accept at next) = tt
  deed_at-so vs (code.Detach at next) = tt
  deed_at-so vs (code.Acquire at r v next) = as-plain _ _ (does-so P _ (acquires-so r v next))
  deed_at-so vs (code.Release at v r next) = as-plain _ _ (does-so P _ (releases-so v r next))
  deed_at-so vs (code.Spawn at v f args next) =
      as-plain _ _ (then-deed P (slice_get a.program.procs f.0) _ (λ d. then-deed P (given p vs args d) _
      (λ g. does-so P _ (where-it_has (dths a.annotations d.amount) _ (record { outside = refl; gives = refl })))))
  deed_at-so vs (code.Let at v e next) =
      as-plain _ _ (does-so P _ (then-change P (one_of vs) _ (λ x is. record { outside = refl; gives = refl })))
  deed_at-so vs (code.Emit at e next) =
      as-plain _ _ (does-so P _ (then-change P (one_of vs) _ (λ x is. record { outside = refl; gives = refl })))
  deed_at-so vs (code.If at e then_next else_next) =
      as-plain _ _ (does-so P _ (then-change P (one_of vs) _ (λ x is. record { outside = refl; gives = refl })))
  deed_at-so vs (code.Close at) = plain (closes-so p.mode)
  deed_at-so vs (code.Fwd at v) =
      let Q : Change → Type 0 = IsMadeAt a s p (code.Fwd at v) in
      does-so Q _ (then-change Q (bound_to v.0 p.channels) _
      (λ name is. forward at v refl (record { name = name; bound = is; is = refl })))
  deed_at-so vs (code.Call at f args) =
      as-plain _ _ (then-deed P (slice_get a.program.procs f.0) _ (λ d. then-deed P (given p vs args d) _
      (λ g. does-so P _ (where-it_has (dths a.annotations d.amount) _ (record { outside = refl; gives = refl })))))
  deed_at-so vs (code.Empty at v r kind next) = plain (record { outside = refl; gives = refl })
  deed_at-so vs (code.Add at v e w next) = as-plain _ _ (then-deed P (one_of vs) _ (λ x. adds-so v w next x))
  deed_at-so vs (code.Match at w empty_next head tail full_next) =
      as-plain _ _ (does-so P _ (then-change P (bound_to w.0 p.lists) _
      (λ l is. takes_apart-so w empty_next head tail full_next l l.items)))

  deed_by-so : (node : CodeNode) (r : TermsResult) → OfDeed (IsMadeAt a s p node) (deed_by a s p node r)
  deed_by-so node (Ok vs) = deed_at-so vs node
  deed_by-so node (Err f) = tt

  -- what a process does where it stands
  pub deed-made : (node : CodeNode) → slice_get a.program.code p.code.0 ≡ Some node
      → OfDeed (IsMadeAt a s p node) (deed a s p)
  deed-made node stands =
      let does : Option CodeNode → Option Deed =
      λ o. o >>= λ n. deed_by a s p n (terms_evaluation a.program p.values (code_terms n))
      in
      subst (OfDeed (IsMadeAt a s p node)) (ap does (sym stands))
      (deed_by-so node (terms_evaluation a.program p.values (code_terms node)))

-- ---- what both kinds have in common

module _ {a : Acceptance} {s : State} {p : Process} {node : CodeNode} where
  -- nothing is taken from an account
  pub made-gives : (c : Change) → IsMadeAt a s p node c → c.gives ≡ None
  made-gives c (plain so) = so.gives
  made-gives c (forward at v stands goes) = ap (λ (d : Change). d.gives) goes.is

  -- there are as many outside names as before
  pub made-outside : (c : Change) → IsMadeAt a s p node c → length c.outside ≡ length s.outside
  made-outside c (plain so) = ap (λ (names : List ℕ). length names) so.outside
  made-outside c (forward at v stands goes) =
      ap (λ (d : Change). length d.outside) goes.is ∙ length-map s.outside (renamed p.offers goes.name)

-- so no deed takes anything from an account
pub deed-gives : (a : Acceptance) (s : State) (p : Process) (c : Change) → deed a s p ≡ Some (changes c)
    → c.gives ≡ None
deed-gives a s p c is = at (slice_get a.program.code p.code.0) refl is
  where
    at : (o : Option CodeNode) → slice_get a.program.code p.code.0 ≡ o
        → (o >>= λ n. deed_by a s p n (terms_evaluation a.program p.values (code_terms n))) ≡ Some (changes c)
        → c.gives ≡ None
    at (Some node) stands makes =
        made-gives c (subst (OfDeed (IsMadeAt a s p node)) is (deed-made a s p node stands))
    at None stands makes = absurd cc

-- ---- steps and runs

-- A step, of any state, is such a change of the process that has the number.
pub record StepMade (a : Acceptance) (s : State) (pid : ℕ) (t : State) : Type 0 where
  pub p : Process
  pub found : process_at s pid ≡ Some p
  pub node : CodeNode
  pub stands : slice_get a.program.code p.code.0 ≡ Some node
  pub c : Change
  pub makes : deed a s p ≡ Some (changes c)
  pub is_made : IsMadeAt a s p node c
  pub after : changed s c ≡ t

pub step-made : (a : Acceptance) (s : State) (pid : ℕ) (t : State) → step a s pid ≡ Some t → StepMade a s pid t
step-made a s pid t is = by_process (process_at s pid) refl is
  where
    by_deed : (p : Process) → process_at s pid ≡ Some p → (node : CodeNode)
        → slice_get a.program.code p.code.0 ≡ Some node → (d : Option Deed) → deed a s p ≡ d
        → OfDeed (IsMadeAt a s p node) d → (d >>= state_after s) ≡ Some t → StepMade a s pid t
    by_deed p found node stands (Some (changes c)) makes made steps = record {
      p = p;
      found = found;
      node = node;
      stands = stands;
      c = c;
      makes = makes;
      is_made = made;
      after = cc;
    }
    by_deed p found node stands (Some (has_fault f)) makes made steps = absurd cc
    by_deed p found node stands None makes made steps = absurd cc

    by_node : (p : Process) → process_at s pid ≡ Some p → (o : Option CodeNode) → slice_get a.program.code p.code.0 ≡ o
        → ((o >>= λ n. deed_by a s p n (terms_evaluation a.program p.values (code_terms n))) >>= state_after s) ≡ Some t
        → StepMade a s pid t
    by_node p found (Some node) stands steps =
        let does : Option CodeNode → Option Deed =
        λ o. o >>= λ n. deed_by a s p n (terms_evaluation a.program p.values (code_terms n))
        in
        by_deed p found node stands (deed a s p) refl (deed-made a s p node stands)
        (ap (λ (o : Option CodeNode). does o >>= state_after s) stands ∙ steps)
    by_node p found None stands steps = absurd cc

    by_process : (o : Option Process) → process_at s pid ≡ o → ((o >>= deed a s) >>= state_after s) ≡ Some t
        → StepMade a s pid t
    by_process (Some p) found steps = by_node p found (slice_get a.program.code p.code.0) refl steps
    by_process None found steps = absurd cc

-- What holds of a state and itself, and goes on through each step, holds from the first state of a run to its last one.
pub run-by_any_steps : (a : Acceptance) (P : ℕ → State → State → Type 0) → ((s : State) → P 0 s s)
    → ((n : ℕ) (s u t : State) (pid : ℕ) → step a s pid ≡ Some u → P n u t → P (suc n) s t)
    → (s t : State) (pids : List ℕ) → run a s pids ≡ Some t → P (length pids) s t
run-by_any_steps a P same goes s t [] is = subst (P 0 s) (one-state is) (same s)
  where
    one-state : Some s ≡ Some t → s ≡ t
    one-state e = cc
run-by_any_steps a P same goes s t (pid ∷ pids) is =
    at (step a s pid) refl is (λ u. run-by_any_steps a P same goes u t pids)
  where
    at : (o : Option State) → step a s pid ≡ o → (o >>= λ next. run a next pids) ≡ Some t
        → ((u : State) → run a u pids ≡ Some t → P (length pids) u t) → P (length (pid ∷ pids)) s t
    at (Some u) steps runs rest = goes (length pids) s u t pid steps (rest u runs)
    at None steps runs rest = absurd cc
