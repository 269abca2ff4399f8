-- Transactions come by starts and spawns alone: no firing turns a process that was there into one. So each that is left
-- in a batch has a number that its origin had not given.
use Rattle.std.proofs.Common.{◌≡◌, ◌∙◌, ◌≤◌, ◌<◌, ◌+◌, ◌-◌, ℕ, nat_le, Bool, true, false, not, cond, List, [], ◌∷◌, ◌++◌, map, length, All, Contains, Option, Some, None, Ok, Err, slice_get, refl, sym, subst, arith}
use Rattle.std.proofs.lemmas.List.Elements.{All-nil, All-cons, All-append, All-contains, All-weaker, All-contains_itself}
use Rattle.std.specs.Option.{option_map, option_to_list}
use Rattle.nomos_ir.specs.Bindings.{bound_to}
use Rattle.nomos_ir.specs.CodeParts.{code_terms}
use Rattle.nomos_ir.specs.TermsEvaluation.{TermsResult, terms_evaluation}
use Rattle.nomos_ir.specs.Value.{Value}
use Rattle.nomos_ir.specs.declared.code_node.Args.{Args}
use Rattle.nomos_ir.specs.declared.code_node.Chan.{Chan}
use Rattle.nomos_ir.specs.declared.code_node.Chan.TheVariants as chan
use Rattle.nomos_ir.specs.declared.code_node.CodeNode.{CodeNode}
use Rattle.nomos_ir.specs.declared.code_node.CodeNode.TheVariants as code
use Rattle.nomos_ir.specs.declared.code_node.ValueArg.{ValueArg}
use Rattle.nomos_ir.specs.declared.code_node.ValueArg.TheVariants as arg
use Rattle.nomos_ir.specs.declared.declaration.ProcDecl.{ProcDecl}
use Rattle.nomos_ir.specs.declared.ids.CodeId.{CodeId}
use Rattle.nomos_ir.specs.declared.ids.TypeId.{TypeId}
use Rattle.nomos_ir.specs.declared.ids.VarId.{VarId}
use Rattle.nomos_ir.specs.declared.mode.Mode.{Mode}
use Rattle.nomos_ir.specs.declared.mode.Mode.TheVariants as mode
use Rattle.nomos_types.specs.Acceptance.{Acceptance, IsAccepted}
use Rattle.nomos_types.specs.Amount.{dths}
use Rattle.nomos_machine.specs.Change.{Change}
use Rattle.nomos_machine.specs.Deeds.{Deed, changes, has_fault, takes, label_in, value_in, channel_in, potential_in, close_in, arm_for, one_of, lengthened, is_light, where_it_has, sends, receives, hears_end, closes, forwards, acquires, releases, adds, takes_apart, unless_shared, hands_over, hands_over_all, hands_over_lists, deed_at}
use Rattle.nomos_machine.specs.Given.{given}
use Rattle.nomos_machine.specs.Objects.{object_number, potential_of}
use Rattle.nomos_machine.specs.Optional.{◌>>=◌}
use Rattle.nomos_machine.specs.Revised.{standing_at, under_name, uses_instead, with_channel, with_value}
use Rattle.nomos_machine.specs.Run.{run}
use Rattle.nomos_machine.specs.Sight.{is_own, is_shared_name, present_name, message_on, offering, user_of, after_acquire, accept_next, detach_next}
use Rattle.nomos_machine.specs.Starting.{channel_bindings, started, value_bindings}
use Rattle.nomos_machine.specs.State.{State, node_of}
use Rattle.nomos_machine.specs.Step.{deed, deed_by}
use Rattle.nomos_machine.specs.TypedState.{IsTyped}
use Rattle.nomos_machine.specs.declared.object.Message.{Message}
use Rattle.nomos_machine.specs.declared.object.Object.{Object}
use Rattle.nomos_machine.specs.declared.object.Object.TheVariants as object
use Rattle.nomos_machine.specs.declared.object.Payload.{Payload}
use Rattle.nomos_machine.specs.declared.object.PotentialList.{PotentialList}
use Rattle.nomos_machine.specs.declared.object.Process.{Process}
use Rattle.nomos_machine.proofs.ChangeLaws.{made-all, news}
use Rattle.nomos_machine.proofs.FiringLaws.{FiringChange, run-by_steps}
use Rattle.nomos_machine.proofs.PutLaws.{object_at-found}
use Rattle.nomos_machine.proofs.UserLaws.{user_of-found}
use Rattle.nomos_deeds.specs.Readers.{IsTransaction}
use Rattle.nomos_legal.specs.Batch.{after_start, after_starts, state_or}
use Rattle.nomos_legal.specs.Ending.{HasTransaction}
use Rattle.nomos_legal.specs.Ledger.{LedgerState}
use Rattle.nomos_legal.specs.StandsFor.{WorldStandsFor}
use Rattle.nomos_legal.specs.World.{WorldState, pids_of, ledger_begun}
use Rattle.nomos_legal.specs.declared.resolved.Resolved.{Resolved}
use Rattle.nomos_legal.proofs.WorldLaws.{world-rises, world-run}

-- an object that is a transaction has a number from this one on
abbrev IsLate : ℕ → Object → Type 0
IsLate first (object.Process p) = p.mode ≡ mode.T → first ≤ p.pid
IsLate first (object.Message m) = Unit {0}

-- it is not given yet, and each transaction has one from it on
record AreLate (first : ℕ) (s : State) : Type 0 where
  next : first ≤ s.next_object
  each : All (IsLate first) s.objects

-- ---- what a process does

module _ (first : ℕ) where
  abbrev Late : Object → Type 0
  Late o = IsLate first o

  -- what comes at the places of a change is no transaction that is not late; a deed, if it is a change, is such a one
  abbrev LateChange : Change → Type 0
  LateChange c = All Late (news c.places)

  abbrev LateSome : Option Change → Type 0
  LateSome (Some c) = LateChange c
  LateSome None = Unit {0}

  abbrev LateDeed : Option Deed → Type 0
  LateDeed (Some (changes c)) = LateChange c
  LateDeed (Some (has_fault f)) = Unit {0}
  LateDeed None = Unit {0}

  does-late : (change : Option Change) → LateSome change → LateDeed (option_map changes change)
  does-late (Some c) late = late
  does-late None late = tt

  -- what goes on with what is there is late where that is
  then-deed : {X : Type 0} (o : Option X) (f : X → Option Deed) → ((x : X) → LateDeed (f x)) → LateDeed (o >>= f)
  then-deed (Some x) f late = late x
  then-deed None f late = tt

  then-change : {X : Type 0} (o : Option X) (f : X → Option Change) → ((x : X) → o ≡ Some x → LateSome (f x))
      → LateSome (o >>= f)
  then-change (Some x) f late = late x refl
  then-change None f late = tt

  one-or_none : (b : Bool) (change : Option Change) → LateSome change → LateSome (cond b change None)
  one-or_none true change late = late
  one-or_none false change late = tt

  one-or_other : (b : Bool) (d e : Option Deed) → LateDeed d → LateDeed e → LateDeed (cond b d e)
  one-or_other true d e one other = one
  one-or_other false d e one other = other

  module _ (a : Acceptance) (s : State) (p : Process) (all : All (IsLate first) s.objects)
      (there : Contains s.objects (object.Process p)) where
    -- the number and the mode of the process
    record IsOwn (q : Process) : Type 0 where
      number : q.pid ≡ p.pid
      same_mode : q.mode ≡ p.mode

    abbrev OwnSome : Option Process → Type 0
    OwnSome (Some q) = IsOwn q
    OwnSome None = Unit {0}

    then-own : {X : Type 0} (o : Option X) (f : X → Option Process) → ((x : X) → OwnSome (f x)) → OwnSome (o >>= f)
    then-own (Some x) f own = own x
    then-own None f own = tt

    own : IsOwn p
    own = record { number = refl; same_mode = refl }

    own-late : (q : Process) → IsOwn q → Late (object.Process q)
    own-late q is at_t =
        let was : Late (object.Process p) = All-contains Late s.objects (object.Process p) all there in
        subst (λ (n : ℕ). first ≤ n) (sym is.number) (was (sym is.same_mode ∙ at_t))

    one-late : (o : Object) → Late o → All Late (o ∷ [])
    one-late o late = All-cons Late o [] late (All-nil Late)

    alone-late : (q : Process) → IsOwn q → All Late (object.Process q ∷ [])
    alone-late q is = one-late (object.Process q) (own-late q is)

    -- ---- the process with one thing changed

    under-own : (c : Chan) (name : ℕ) (q : Process) → IsOwn q → IsOwn (under_name c name q)
    under-own chan.Own name q is = record { number = is.number; same_mode = is.same_mode }
    under-own (chan.Var v) name q is = record { number = is.number; same_mode = is.same_mode }

    unless-own : (v : VarId) (shared : Option Bool) (q : Process) → IsOwn q → IsOwn (unless_shared a s p v shared q)
    unless-own v (Some true) q is = is
    unless-own v (Some false) q is = record { number = is.number; same_mode = is.same_mode }
    unless-own v None q is = record { number = is.number; same_mode = is.same_mode }

    hands-own : (v : VarId) (q : Process) → IsOwn q → IsOwn (hands_over a s p v q)
    hands-own v q is =
        unless-own v (option_map (is_shared_name a.program s.types) (bound_to v.0 q.channels)) q is

    hands_all-own : (vs : List VarId) (q : Process) → IsOwn q → IsOwn (hands_over_all a s p vs q)
    hands_all-own [] q is = is
    hands_all-own (v ∷ vs) q is = hands_all-own vs (hands_over a s p v q) (hands-own v q is)

    hands_lists-own : (args : List ValueArg) (q : Process) → IsOwn q → IsOwn (hands_over_lists a s p args q)
    hands_lists-own [] q is = is
    hands_lists-own (arg.Term e ∷ args) q is = hands_lists-own args q is
    hands_lists-own (arg.List w ∷ args) q is =
        hands_lists-own args _ (record { number = is.number; same_mode = is.same_mode })

    -- ---- the kinds of change

    where-it_has : (gas : ℕ) (change : Option Change) → LateSome change → LateSome (where_it_has gas p change)
    where-it_has gas change late = one-or_none (nat_le (gas + potential_of p) p.purse) change late

    sends-late : (c : Chan) (brought : Payload) (gas : ℕ) (q : Process) (goes : Option TypeId) (next : CodeId)
        → IsOwn q → LateSome (sends a s p c brought gas q goes next)
    sends-late c brought gas q goes next is =
        then-change (present_name p c) _ (λ from is_from. then-change goes _ (λ t is_t.
        let under : IsOwn (under_name c s.next_name q) = under-own c s.next_name q is in
        alone-late (standing_at next (under_name c s.next_name q))
        (record { number = under.number; same_mode = under.same_mode })))

    takes-late : (m : Message) (q : Process) → IsOwn q → LateChange (takes a s p m q)
    takes-late m q is = alone-late _ (record { number = is.number; same_mode = is.same_mode })

    receives-late : (c : Chan) (reads : Payload → Process → Option Process)
        → ((brought : Payload) (q : Process) → IsOwn q → OwnSome (reads brought q))
        → LateSome (receives a s p c reads)
    receives-late c reads own_read =
        then-change (present_name p c) _ (λ from is_from.
        then-change (message_on s.objects (not (is_own c)) from) _ (λ m is_m. then-change m.next _ (λ name is_name.
        then-change (reads m.payload (under_name c name p)) _ (λ q is_q.
        takes-late m q
        (subst OwnSome is_q (own_read m.payload (under_name c name p) (under-own c name p own)))))))

    hears_end-late : (v : VarId) (next : CodeId) → LateSome (hears_end a s p v next)
    hears_end-late v next =
        then-change (bound_to v.0 p.channels) _ (λ from is_from.
        then-change (message_on s.objects true from) _ (λ m is_m. then-change (close_in m.payload) _ (λ u is_u.
        takes-late m _ (record { number = refl; same_mode = refl }))))

    closes-late : (m : Mode) → LateChange (closes a s p m)
    closes-late mode.R = All-nil Late
    closes-late mode.L = All-nil Late
    closes-late mode.S = All-nil Late
    closes-late mode.T = All-nil Late

    instead-late : (name : ℕ) (u : Object) → Late u → Late (uses_instead p.offers name u)
    instead-late name (object.Process q) late = late
    instead-late name (object.Message m) late = tt

    forwards-late : (name : ℕ) → LateChange (forwards a s p name)
    forwards-late name = by_user (user_of s.objects p.offers) refl
      where
        by_user : (user : Option Object) → user_of s.objects p.offers ≡ user
            → All Late (news (map (λ o. (object_number o, Some (uses_instead p.offers name o))) (option_to_list user) ++
            (p.pid, None) ∷ []))
        by_user None found = All-nil Late
        by_user (Some u) found =
            one-late (uses_instead p.offers name u)
            (instead-late name u
            (All-contains Late s.objects u all (user_of-found p.offers u s.objects found).0))

    -- two go on, of which the other one is no transaction
    both-late : (q r : Process) → IsOwn q → Late (object.Process r)
        → All Late (object.Process q ∷ object.Process r ∷ [])
    both-late q r is other =
        All-cons Late (object.Process q) (object.Process r ∷ []) (own-late q is) (one-late (object.Process r) other)

    acquires-late : (r v : VarId) (next : CodeId) → LateSome (acquires a s p r v next)
    acquires-late r v next =
        then-change (bound_to r.0 p.channels) _ (λ shared is. then-change (offering s.objects shared) _
        (λ other is_other. then-change (slice_get a.program.code other.code.0) _
        (λ node is_node. then-change (accept_next node) _
        (λ onward is_onward. then-change (node_of a.program s.types shared >>= after_acquire) _
        (λ t is_t. both-late _ _ (record { number = refl; same_mode = refl }) (λ at_t. absurd (differ at_t)))))))
      where
        differ : mode.L ≡ mode.T → ⊥
        differ is = cc

    releases-late : (v r : VarId) (next : CodeId) → LateSome (releases a s p v r next)
    releases-late v r next =
        then-change (bound_to v.0 p.channels) _ (λ name is. then-change (offering s.objects name) _
        (λ other is_other. then-change (slice_get a.program.code other.code.0) _
        (λ node is_node. then-change (detach_next node) _ (λ onward is_onward. then-change other.base _
        (λ shared is_shared.
        both-late _ _ (record { number = refl; same_mode = refl }) (λ at_t. absurd (differ at_t)))))))
      where
        differ : mode.S ≡ mode.T → ⊥
        differ is = cc

    adds-late : (v w : VarId) (next : CodeId) (x : Value) → LateDeed (adds a s p v w next x)
    adds-late v w next x =
        then-deed (bound_to w.0 p.lists) _ (λ l. one-or_other (is_light (lengthened x l)) _ _
        (does-late _ (where-it_has l.amount _ (alone-late _ (record { number = refl; same_mode = refl })))) tt)

    takes_apart-late : (w : VarId) (empty_next : CodeId) (head tail : VarId) (full_next : CodeId) (l : PotentialList)
        (xs : List Value) → LateChange (takes_apart a s p w empty_next head tail full_next l xs)
    takes_apart-late w empty_next head tail full_next l [] = alone-late _ (record { number = refl; same_mode = refl })
    takes_apart-late w empty_next head tail full_next l (x ∷ xs) =
        alone-late _ (record { number = refl; same_mode = refl })

    -- what is left of a parent
    parent-own : (args : Args) → IsOwn (hands_over_all a s p args.channels (hands_over_lists a s p args.values p))
    parent-own args = hands_all-own args.channels _ (hands_lists-own args.values p own)

    -- ---- one line or some for each instruction

    deed_at-late : (vs : List Value) (node : CodeNode) → LateDeed (deed_at a s p vs node)
    deed_at-late vs (code.Label at c l next) = does-late _ (sends-late c _ 0 p _ next own)
    deed_at-late vs (code.Case at c arms) =
        does-late _ (receives-late c
        (λ brought q. label_in brought >>= arm_for arms >>= λ next. Some (standing_at next q))
        (λ brought q is. then-own (label_in brought >>= arm_for arms) _ (λ next.
        record { number = is.number; same_mode = is.same_mode })))
    deed_at-late vs (code.Send at c y next) =
        does-late _ (then-change (bound_to y.0 p.channels) _ (λ name is_name.
        sends-late c _ 0 _ _ next (hands-own y p own)))
    deed_at-late vs (code.Recv at c y next) =
        does-late _ (receives-late c
        (λ brought q. channel_in brought >>= λ name. Some (standing_at next (with_channel y name q)))
        (λ brought q is. then-own (channel_in brought) _ (λ name.
        record { number = is.number; same_mode = is.same_mode })))
    deed_at-late vs (code.Put at c e next) =
        does-late _ (then-change (one_of vs) _ (λ x is_x. sends-late c _ 0 p _ next own))
    deed_at-late vs (code.Take at c v next) =
        does-late _ (receives-late c
        (λ brought q. value_in brought >>= λ x. Some (standing_at next (with_value v x q)))
        (λ brought q is. then-own (value_in brought) _ (λ x.
        record { number = is.number; same_mode = is.same_mode })))
    deed_at-late vs (code.Pay at c r next) =
        does-late _ (where-it_has (dths a.annotations r) _
        (sends-late c _ _ _ _ next (record { number = refl; same_mode = refl })))
    deed_at-late vs (code.Get at c r next) =
        does-late _ (receives-late c (λ brought q. potential_in brought >>= λ u. Some (standing_at next q))
        (λ brought q is. then-own (potential_in brought) _ (λ u.
        record { number = is.number; same_mode = is.same_mode })))
    deed_at-late vs (code.Work at r next) =
        does-late _ (where-it_has (dths a.annotations r) _
        (alone-late _ (record { number = refl; same_mode = refl })))
    deed_at-late vs (code.Wait at v next) = does-late _ (hears_end-late v next)
    deed_at-late vs (code.Accept at next) = tt
    deed_at-late vs (code.Detach at next) = tt
    deed_at-late vs (code.Acquire at r v next) = does-late _ (acquires-late r v next)
    deed_at-late vs (code.Release at v r next) = does-late _ (releases-late v r next)
    deed_at-late vs (code.Spawn at v f args next) =
        then-deed (slice_get a.program.procs f.0) _ (λ d. then-deed (given p vs args d) _ (λ g.
        let rest = parent-own args in
        does-late _ (where-it_has (dths a.annotations d.amount) _
        (alone-late _ (record { number = rest.number; same_mode = rest.same_mode })))))
    deed_at-late vs (code.Let at v e next) =
        does-late _ (then-change (one_of vs) _ (λ x is_x.
        alone-late _ (record { number = refl; same_mode = refl })))
    deed_at-late vs (code.Emit at e next) =
        does-late _ (then-change (one_of vs) _ (λ x is_x.
        alone-late _ (record { number = refl; same_mode = refl })))
    deed_at-late vs (code.If at e then_next else_next) =
        does-late _ (then-change (one_of vs) _ (λ x is_x.
        alone-late _ (record { number = refl; same_mode = refl })))
    deed_at-late vs (code.Close at) = closes-late p.mode
    deed_at-late vs (code.Fwd at v) =
        does-late _ (then-change (bound_to v.0 p.channels) _ (λ name is_name. forwards-late name))
    deed_at-late vs (code.Call at f args) =
        then-deed (slice_get a.program.procs f.0) _ (λ d. then-deed (given p vs args d) _ (λ g.
        does-late _ (where-it_has (dths a.annotations d.amount) _
        (alone-late _ (record { number = refl; same_mode = refl })))))
    deed_at-late vs (code.Empty at v r kind next) = alone-late _ (record { number = refl; same_mode = refl })
    deed_at-late vs (code.Add at v e w next) = then-deed (one_of vs) _ (λ x. adds-late v w next x)
    deed_at-late vs (code.Match at w empty_next head tail full_next) =
        does-late _ (then-change (bound_to w.0 p.lists) _ (λ l is_l.
        takes_apart-late w empty_next head tail full_next l l.items))

    deed_by-late : (node : CodeNode) (r : TermsResult) → LateDeed (deed_by a s p node r)
    deed_by-late node (Ok vs) = deed_at-late vs node
    deed_by-late node (Err f) = tt

    deed-late : LateDeed (deed a s p)
    deed-late =
        then-deed (slice_get a.program.code p.code.0) _
        (λ node. deed_by-late node (terms_evaluation a.program p.values (code_terms node)))

  -- ---- firings, runs and starts

  came-late : (n : ℕ) → first ≤ n → (o : Object) → object_number o ≡ n → Late o
  came-late n low (object.Process p) is = λ at_t. subst (λ (k : ℕ). first ≤ k) (sym is) low
  came-late n low (object.Message m) is = tt

  -- where they are late they are so after a firing
  firing-late : {a : Acceptance} {s t : State} → FiringChange a s t → AreLate first s → AreLate first t
  firing-late {a} {s} firing late =
      subst (AreLate first) firing.after (record {
        next = omega (arith, late.next);
        each =
            made-all Late s firing.c late.each
            (subst LateDeed firing.makes (deed-late a s firing.p late.each firing.there))
            (All-weaker (λ (o : Object). object_number o ≡ s.next_object) Late
            (λ o is. came-late s.next_object late.next o is) (option_to_list firing.c.comes) firing.fits.numbered);
      })

  run-late : {a : Acceptance} → IsAccepted a → (s t : State) (pids : List ℕ) → IsTyped a s → run a s pids ≡ Some t
      → AreLate first s → AreLate first t
  run-late accepted s t pids typed is =
      run-by_steps accepted (λ n s t. AreLate first s → AreLate first t) (λ s late. late)
      (λ n s u t typed firing rest late. rest (firing-late firing late)) s t pids typed is

  start-late : (a : Acceptance) (l : LedgerState) (r : Resolved) → AreLate first l.state
      → AreLate first (after_start a l r).state
  start-late a l r late = by (slice_get a.program.procs r.proc.0)
    where
      came : (o : Object) → object_number o ≡ l.state.next_object → All Late (l.state.objects ++ o ∷ [])
      came o is =
          All-append Late l.state.objects (o ∷ []) late.each
          (All-cons Late o [] (came-late l.state.next_object late.next o is) (All-nil Late))

      by : (o : Option ProcDecl) → AreLate first (state_or l.state (o >>= λ d.
          Some (started a l.state d (value_bindings d r.values) (channel_bindings d r.names) r.payer)))
      by (Some d) = record { next = omega (arith, late.next); each = came _ refl }
      by None = late

  starts-late : (a : Acceptance) (l : LedgerState) (rs : List Resolved) → AreLate first l.state
      → AreLate first (after_starts a l rs).state
  starts-late a l [] late = late
  starts-late a l (r ∷ rs) late = starts-late a (after_start a l r) rs (start-late a l r late)

-- a start brings one object at most
start-few : (a : Acceptance) (l : LedgerState) (r : Resolved)
    → (after_start a l r).state.next_object ≤ l.state.next_object + 1
start-few a l r = by (slice_get a.program.procs r.proc.0)
  where
    by : (o : Option ProcDecl) → (state_or l.state (o >>= λ d.
        Some (started a l.state d (value_bindings d r.values) (channel_bindings d r.names) r.payer))).next_object
        ≤ l.state.next_object + 1
    by (Some d) = omega arith
    by None = omega arith

starts-few : (a : Acceptance) (l : LedgerState) (rs : List Resolved)
    → (after_starts a l rs).state.next_object ≤ l.state.next_object + length rs
starts-few a l [] = omega arith
starts-few a l (r ∷ rs) = omega (arith, start-few a l r, starts-few a (after_start a l r) rs)

-- ---- worlds

-- in a state in which no transaction is left each has a number that is not given yet
none-late : (s : State) → ¬ (HasTransaction s) → AreLate s.next_object s
none-late s none = record {
  next = omega arith;
  each =
      All-weaker (Contains s.objects) (IsLate s.next_object) (λ o there. nobody o there) s.objects
      (All-contains_itself s.objects);
}
  where
    nobody : (o : Object) → Contains s.objects o → IsLate s.next_object o
    nobody (object.Process p) there = λ at_t. absurd (none (record { process = p; there = there; at_t = at_t }))
    nobody (object.Message m) there = tt

-- each transaction that is left in a batch has a number which its origin had not given
world-late : {a : Acceptance} → IsAccepted a → {w : WorldState} → WorldStandsFor a w → (pid : ℕ)
    → IsTransaction w.state.objects pid → w.origin.state.next_object ≤ pid
world-late {a} accepted {w} stands pid is =
    let first : ℕ = w.origin.state.next_object in
    let at_start = starts-late first a w.origin w.starts (none-late w.origin.state stands.origin.no_transaction) in
    let late =
    run-late first accepted (ledger_begun a w).state w.state (pids_of w.firings) stands.start.typed
    (world-run accepted stands) at_start
    in
    let (number, there) = object_at-found pid (object.Process is.process) w.state.objects is.there in
    let from = All-contains (IsLate first) w.state.objects (object.Process is.process) late.each there is.at_t in
    omega (arith, number, from)

-- so it is over a number just below one that is no higher than the first of these
pub world-over : {a : Acceptance} → IsAccepted a → {w : WorldState} → WorldStandsFor a w → (first : ℕ)
    → first ≤ w.origin.state.next_object → (pid : ℕ) → IsTransaction w.state.objects pid → first - 1 < pid
world-over accepted stands first low pid is =
    let from = world-late accepted stands pid is in
    let next = stands.origin.settled.typed.numbered.next in
    omega (arith, low, from, next)

-- each start and each firing brings one object at most
pub world-few : {a : Acceptance} → IsAccepted a → {w : WorldState} → WorldStandsFor a w
    → w.state.next_object ≤ w.origin.state.next_object + (length w.starts + length w.firings)
world-few {a} accepted {w} stands =
    omega (arith, starts-few a w.origin w.starts, (world-rises accepted stands).objects)
