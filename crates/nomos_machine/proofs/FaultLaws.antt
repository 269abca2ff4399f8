-- A fault stays while others fire: a firing leaves the instruction, the values and the lists of each process that waits
-- for nobody, and a fault comes of these alone.
use Rattle.std.proofs.Common.{if◌then◌else◌, ◌≡◌, ◌≢◌, ◌∙◌, ◌==◌, inl, inr, ℕ, not, Bool, true, false, cond, List, [], ◌∷◌, ◌++◌, map, All, Contains, Option, Some, None, Ok, Err, slice_get, option_and_then, refl, sym, subst, ap}
use Rattle.std.proofs.lemmas.Bool.{cases_eq}
use Rattle.std.proofs.lemmas.List.Folds.{find-append}
use Rattle.std.proofs.lemmas.List.Elements.{All-nil, All-cons, All-head, All-tail}
use Rattle.std.specs.Option.{option_map, option_or, option_to_list}
use Rattle.nomos_ir.specs.Bindings.{bound_to}
use Rattle.nomos_ir.specs.CodeParts.{code_terms}
use Rattle.nomos_ir.specs.Value.{Value}
use Rattle.nomos_ir.specs.declared.code_node.Chan.{Chan}
use Rattle.nomos_ir.specs.declared.code_node.CodeNode.{CodeNode}
use Rattle.nomos_ir.specs.declared.code_node.CodeNode.TheVariants as code
use Rattle.nomos_ir.specs.declared.fault.Fault.{Fault}
use Rattle.nomos_ir.specs.declared.fault.Fault.TheVariants as fault_of
use Rattle.nomos_ir.specs.declared.ids.CodeId.{CodeId}
use Rattle.nomos_ir.specs.declared.ids.TypeId.{TypeId}
use Rattle.nomos_ir.specs.declared.ids.VarId.{VarId}
use Rattle.nomos_ir.specs.declared.mode.Mode.{Mode}
use Rattle.nomos_ir.specs.declared.mode.Mode.TheVariants as mode
use Rattle.nomos_types.specs.Acceptance.{Acceptance, IsAccepted}
use Rattle.nomos_types.specs.Amount.{dths}
use Rattle.nomos_machine.specs.Change.{Change, put_at, put_all, changed}
use Rattle.nomos_machine.specs.Deeds.{Deed, changes, has_fault, alone, sends, receives, hears_end, closes, forwards, takes_apart, adds, deed_at, label_in, value_in, channel_in, potential_in, close_in, arm_for, one_of, lengthened, is_light, where_it_has}
use Rattle.nomos_ir.specs.TermsEvaluation.{TermsResult, terms_evaluation}
use Rattle.nomos_machine.specs.Given.{given}
use Rattle.nomos_machine.specs.Objects.{object_number, object_at, process_of}
use Rattle.nomos_machine.specs.Optional.{◌>>=◌}
use Rattle.nomos_machine.specs.Revised.{standing_at, under_name, with_channel, with_value, with_list, list_used_up, renamed, uses_instead}
use Rattle.nomos_machine.specs.Run.{run}
use Rattle.nomos_machine.specs.Sight.{is_own, present_name, message_on, offering, user_of, after_acquire, accept_next, detach_next}
use Rattle.nomos_machine.specs.State.{State, node_of, process_at}
use Rattle.nomos_machine.specs.Step.{deed, deed_by, fault, fault_in, step}
use Rattle.nomos_machine.specs.TypedState.{IsTyped}
use Rattle.nomos_machine.specs.declared.object.Message.{Message}
use Rattle.nomos_machine.specs.declared.object.Object.{Object}
use Rattle.nomos_machine.specs.declared.object.Object.TheVariants as object
use Rattle.nomos_machine.specs.declared.object.Payload.{Payload}
use Rattle.nomos_machine.specs.declared.object.PotentialList.{PotentialList}
use Rattle.nomos_machine.specs.declared.object.Process.{Process}
use Rattle.nomos_machine.proofs.ChangeLaws.{Replaces, done, further}
use Rattle.nomos_machine.proofs.EachChangeLaws.{OfChange, OfDeed, change-some, change-bind, change-where, deed-does, deed-some, deed-bind, deed-either, deed-none, deed-fault}
use Rattle.nomos_machine.proofs.FiringLaws.{step-fires}
use Rattle.nomos_machine.proofs.MessageLaws.{message_on-found}
use Rattle.nomos_machine.proofs.PlainLaws.{run-by_any_steps}
use Rattle.nomos_machine.proofs.PreservationLaws.{process_at-there, step-keeps}
use Rattle.nomos_machine.proofs.PutLaws.{InOrder, HasNumber, object_at-own, object_at-other, object_at-put}
use Rattle.nomos_machine.proofs.SectionLaws.{offering-found}
use Rattle.nomos_machine.proofs.UserLaws.{user_of-found}

-- ---- which places a deed has

module _ (a : Acceptance) (s : State) (p : Process) where
  -- A place of a change is the process's own; that of a message that leaves; that of an object which goes on under
  -- another name; or that of a process that does nothing by itself.
  data Place : ℕ × Option Object → Type 0 where
    own : (new : Option Object) → Place (p.pid, new)
    read : (m : Message) → Contains s.objects (object.Message m) → Place (m.number, None)
    named : (o : Object) (name : ℕ) → Contains s.objects o
        → Place (object_number o, Some (uses_instead p.offers name o))
    met : (other q : Process) → Contains s.objects (object.Process other) → deed a s other ≡ None
        → Place (other.pid, Some (object.Process q))

  abbrev EachPlace : Change → Type 0
  EachPlace c = All Place c.places

  -- ---- the kinds of change

  own-place : (new : Option Object) → All Place ((p.pid, new) ∷ [])
  own-place new = All-cons Place (p.pid, new) [] (own new) (All-nil Place)

  two-places : (new : Option Object) (e : ℕ × Option Object) → Place e → All Place ((p.pid, new) ∷ e ∷ [])
  two-places new e other =
      All-cons Place (p.pid, new) (e ∷ []) (own new) (All-cons Place e [] other (All-nil Place))

  sends-places : (c : Chan) (brought : Payload) (gas : ℕ) (q : Process) (goes : Option TypeId) (next : CodeId)
      → OfChange EachPlace (sends a s p c brought gas q goes next)
  sends-places c brought gas q goes next =
      change-bind (present_name p c) _ (λ from is.
      change-bind goes _ (λ t is_t. change-some _ (own-place _)))

  receives-places : (c : Chan) (reads : Payload → Process → Option Process)
      → OfChange EachPlace (receives a s p c reads)
  receives-places c reads =
      change-bind (present_name p c) _ (λ from is.
      change-bind (message_on s.objects (not (is_own c)) from) _ (λ m is_m.
      change-bind m.next _ (λ name is_name.
      change-bind (reads m.payload (under_name c name p)) _ (λ q is_q.
      change-some _ (two-places _ (m.number, None)
      (read m (message_on-found (not (is_own c)) from m s.objects is_m).waiting))))))

  hears-places : (v : VarId) (next : CodeId) → OfChange EachPlace (hears_end a s p v next)
  hears-places v next =
      change-bind (bound_to v.0 p.channels) _ (λ from is.
      change-bind (message_on s.objects true from) _ (λ m is_m.
      change-bind (close_in m.payload) _ (λ over is_over.
      change-some _ (two-places _ (m.number, None) (read m (message_on-found true from m s.objects is_m).waiting)))))

  closes-places : (m : Mode) → EachPlace (closes a s p m)
  closes-places mode.R = own-place None
  closes-places mode.S = own-place None
  closes-places mode.L = own-place None
  closes-places mode.T = own-place None

  forwards-places : (name : ℕ) → EachPlace (forwards a s p name)
  forwards-places name = by_user (user_of s.objects p.offers) refl
    where
      instead : Object → ℕ × Option Object
      instead o = (object_number o, Some (uses_instead p.offers name o))

      by_user : (user : Option Object) → user_of s.objects p.offers ≡ user
          → All Place (map instead (option_to_list user) ++ (p.pid, None) ∷ [])
      by_user None found = own-place None
      by_user (Some u) found =
          All-cons Place (instead u) ((p.pid, None) ∷ [])
          (named u name (user_of-found p.offers u s.objects found).0) (own-place None)

  apart-places : (w : VarId) (empty_next : CodeId) (head tail : VarId) (full_next : CodeId) (l : PotentialList)
      (xs : List Value) → EachPlace (takes_apart a s p w empty_next head tail full_next l xs)
  apart-places w empty_next head tail full_next l [] = own-place _
  apart-places w empty_next head tail full_next l (x ∷ xs) = own-place _

  -- ---- who stands at `accept` or at `detach`

  none-at : (other : Process) (n : CodeNode) → slice_get a.program.code other.code.0 ≡ Some n
      → deed_by a s other n (terms_evaluation a.program other.values (code_terms n)) ≡ None → deed a s other ≡ None
  none-at other n stands none =
      ap (λ (o : Option CodeNode). o >>= λ n. deed_by a s other n
      (terms_evaluation a.program other.values (code_terms n)))
      stands ∙ none

  accepting-none : (other : Process) (n : CodeNode) → slice_get a.program.code other.code.0 ≡ Some n
      → (onward : CodeId) → accept_next n ≡ Some onward → deed a s other ≡ None
  accepting-none other (code.Accept at next) stands onward is = none-at other (code.Accept at next) stands refl
  accepting-none other n stands onward is = absurd cc

  detaching-none : (other : Process) (n : CodeNode) → slice_get a.program.code other.code.0 ≡ Some n
      → (onward : CodeId) → detach_next n ≡ Some onward → deed a s other ≡ None
  detaching-none other (code.Detach at next) stands onward is = none-at other (code.Detach at next) stands refl
  detaching-none other n stands onward is = absurd cc

  -- ---- one line or some for each instruction

  deed_at-places : (n : CodeNode) (vs : List Value) → OfDeed EachPlace (deed_at a s p vs n)
  deed_at-places (code.Label at c l next) vs = deed-does _ (sends-places c _ 0 p _ next)
  deed_at-places (code.Case at c arms) vs =
      deed-does _ (receives-places c (λ brought q.
      label_in brought >>= arm_for arms >>= λ next. Some (standing_at next q)))
  deed_at-places (code.Send at c y next) vs =
      deed-does _ (change-bind (bound_to y.0 p.channels) _ (λ name is. sends-places c _ 0 _ _ next))
  deed_at-places (code.Recv at c y next) vs =
      deed-does _ (receives-places c (λ brought q.
      channel_in brought >>= λ name. Some (standing_at next (with_channel y name q))))
  deed_at-places (code.Put at c e next) vs =
      deed-does _ (change-bind (one_of vs) _ (λ x is. sends-places c _ 0 p _ next))
  deed_at-places (code.Take at c v next) vs =
      deed-does _ (receives-places c (λ brought q.
      value_in brought >>= λ x. Some (standing_at next (with_value v x q))))
  deed_at-places (code.Pay at c r next) vs =
      deed-does _ (change-where p (dths a.annotations r) _ (sends-places c _ _ _ _ next))
  deed_at-places (code.Get at c r next) vs =
      deed-does _ (receives-places c (λ brought q. potential_in brought >>= λ _. Some (standing_at next q)))
  deed_at-places (code.Work at r next) vs =
      deed-does _ (change-where p (dths a.annotations r) _ (change-some _ (own-place _)))
  deed_at-places (code.Wait at v next) vs = deed-does _ (hears-places v next)
  deed_at-places (code.Accept at next) vs = deed-none
  deed_at-places (code.Detach at next) vs = deed-none
  deed_at-places (code.Acquire at r v next) vs =
      deed-does _ (change-bind (bound_to r.0 p.channels) _ (λ shared is.
      change-bind (offering s.objects shared) _ (λ other is_other.
      change-bind (slice_get a.program.code other.code.0) _ (λ n stands.
      change-bind (accept_next n) _ (λ onward is_onward.
      change-bind (node_of a.program s.types shared >>= after_acquire) _ (λ t is_t.
      change-some _ (two-places _ _
      (met other _ (offering-found s.objects shared other is_other).0
      (accepting-none other n stands onward is_onward)))))))))
  deed_at-places (code.Release at v r next) vs =
      deed-does _ (change-bind (bound_to v.0 p.channels) _ (λ name is.
      change-bind (offering s.objects name) _ (λ other is_other.
      change-bind (slice_get a.program.code other.code.0) _ (λ n stands.
      change-bind (detach_next n) _ (λ onward is_onward.
      change-bind other.base _ (λ shared is_base.
      change-some _ (two-places _ _
      (met other _ (offering-found s.objects name other is_other).0
      (detaching-none other n stands onward is_onward)))))))))
  deed_at-places (code.Spawn at v f args next) vs =
      deed-bind (slice_get a.program.procs f.0) _ (λ d declared.
      deed-bind (given p vs args d) _ (λ g is_given.
      deed-does _ (change-where p (dths a.annotations d.amount) _ (change-some _ (own-place _)))))
  deed_at-places (code.Let at v e next) vs =
      deed-does _ (change-bind (one_of vs) _ (λ x is. change-some _ (own-place _)))
  deed_at-places (code.Emit at e next) vs =
      deed-does _ (change-bind (one_of vs) _ (λ x is. change-some _ (own-place _)))
  deed_at-places (code.If at e then_next else_next) vs =
      deed-does _ (change-bind (one_of vs) _ (λ x is. change-some _ (own-place _)))
  deed_at-places (code.Close at) vs = deed-some _ (closes-places p.mode)
  deed_at-places (code.Fwd at v) vs =
      deed-does _ (change-bind (bound_to v.0 p.channels) _ (λ name is. change-some _ (forwards-places name)))
  deed_at-places (code.Call at f args) vs =
      deed-bind (slice_get a.program.procs f.0) _ (λ d declared.
      deed-bind (given p vs args d) _ (λ g is_given.
      deed-does _ (change-where p (dths a.annotations d.amount) _ (change-some _ (own-place _)))))
  deed_at-places (code.Empty at v r kind next) vs = deed-some _ (own-place _)
  deed_at-places (code.Add at v e w next) vs =
      deed-bind (one_of vs) _ (λ x is.
      deed-bind (bound_to w.0 p.lists) _ (λ l is_l.
      deed-either (is_light (lengthened x l)) _ _
      (deed-does _ (change-where p l.amount _ (change-some _ (own-place _)))) (deed-fault _)))
  deed_at-places (code.Match at w empty_next head tail full_next) vs =
      deed-does _ (change-bind (bound_to w.0 p.lists) _ (λ l is.
      change-some _ (apart-places w empty_next head tail full_next l l.items)))

  deed_by-places : (n : CodeNode) (values : TermsResult) → OfDeed EachPlace (deed_by a s p n values)
  deed_by-places n (Ok vs) = deed_at-places n vs
  deed_by-places n (Err f) = deed-fault f

  -- so each place of a change that the process makes is one of these
  deed-places : (c : Change) → deed a s p ≡ Some (changes c) → EachPlace c
  deed-places c is =
      (deed-bind (slice_get a.program.code p.code.0) _ (λ n stands.
      deed_by-places n (terms_evaluation a.program p.values (code_terms n)))).of_changes c is

-- ---- a process that has a fault goes on as it is, but for the names of its channels

-- the same instruction, values and lists
record GoesOnAs (r q : Process) : Type 0 where
  code : q.code ≡ r.code
  values : q.values ≡ r.values
  lists : q.lists ≡ r.lists

-- the number stands for such a process
record StandsAs (r : Process) (objects : List Object) : Type 0 where
  q : Process
  found : object_at objects r.pid ≡ Some (object.Process q)
  same : GoesOnAs r q

module _ (a : Acceptance) (s : State) (order : InOrder s.objects) {p r : Process} (c : Change) (f : Fault)
    (makes : deed a s p ≡ Some (changes c)) (has : deed a s r ≡ Some (has_fault f))
    (firing : Contains s.objects (object.Process p)) (there : Contains s.objects (object.Process r)) where
  -- objects of one number are one
  one-number : (o : Object) → Contains s.objects o → object_number o ≡ r.pid → o ≡ object.Process r
  one-number o inside same =
      one (sym (object_at-own o s.objects order inside)
      ∙ (ap (object_at s.objects) same ∙ object_at-own (object.Process r) s.objects order there))
    where
      one : {x y : Object} → Some x ≡ Some y → x ≡ y
      one is = cc

  same-process : {x y : Process} → object.Process x ≡ object.Process y → x ≡ y
  same-process is = cc

  other-own : p.pid ≢ r.pid
  other-own same =
      let is : p ≡ r = same-process (one-number (object.Process p) firing same) in
      let both : Some (changes c) ≡ Some (has_fault f) = sym makes ∙ (ap (deed a s) is ∙ has) in
      absurd cc

  other-read : (m : Message) → Contains s.objects (object.Message m) → m.number ≢ r.pid
  other-read m inside same =
      let is : object.Message m ≡ object.Process r = one-number (object.Message m) inside same in
      absurd cc

  other-met : (other : Process) → Contains s.objects (object.Process other) → deed a s other ≡ None → other.pid ≢ r.pid
  other-met other inside none same =
      let is : other ≡ r = same-process (one-number (object.Process other) inside same) in
      let both : None ≡ Some (has_fault f) = sym none ∙ (ap (deed a s) is ∙ has) in
      absurd cc

  -- at one place
  kept-other : (n : ℕ) (new : Option Object) (objects : List Object) → n ≢ r.pid → HasNumber n new
      → StandsAs r objects → StandsAs r (put_at n new objects)
  kept-other n new objects other numbered stands = record {
    q = stands.q;
    found = object_at-other n r.pid new objects other numbered ∙ stands.found;
    same = stands.same;
  }

  named-own : (name : ℕ) (objects : List Object) → StandsAs r objects
      → StandsAs r (put_at r.pid (Some (uses_instead p.offers name (object.Process r))) objects)
  named-own name objects stands = record {
    q = record r { channels = map (λ e. (e.0, renamed p.offers name e.1)) r.channels };
    found =
        object_at-put r.pid (uses_instead p.offers name (object.Process r)) (object.Process stands.q) objects
        stands.found
        refl;
    same = record { code = refl; values = refl; lists = refl };
  }

  kept-named : (o : Object) (name : ℕ) (objects : List Object) → Contains s.objects o
      → HasNumber (object_number o) (Some (uses_instead p.offers name o)) → StandsAs r objects
      → StandsAs r (put_at (object_number o) (Some (uses_instead p.offers name o)) objects)
  kept-named o name objects inside numbered stands =
      elim (cases_eq (object_number o) r.pid) [
        | inl same ↦
            subst (λ (e : Object).
            StandsAs r (put_at (object_number e) (Some (uses_instead p.offers name e)) objects))
            (sym (one-number o inside same)) (named-own name objects stands)
        | inr other ↦ kept-other (object_number o) (Some (uses_instead p.offers name o)) objects other numbered stands
      ]

  kept-at : (e : ℕ × Option Object) → Place a s p e → (objects : List Object) → HasNumber e.0 e.1
      → StandsAs r objects → StandsAs r (put_at e.0 e.1 objects)
  kept-at _ (own new) objects numbered stands = kept-other p.pid new objects other-own numbered stands
  kept-at _ (read m inside) objects numbered stands =
      kept-other m.number None objects (other-read m inside) numbered stands
  kept-at _ (named o name inside) objects numbered stands = kept-named o name objects inside numbered stands
  kept-at _ (met other q inside none) objects numbered stands =
      kept-other other.pid (Some (object.Process q)) objects (other-met other inside none) numbered stands

  kept-all : (places : List (ℕ × Option Object)) (objects olds : List Object) → Replaces places objects olds
      → All (Place a s p) places → StandsAs r objects → StandsAs r (put_all places objects)
  kept-all _ objects _ (done _) are stands = stands
  kept-all _ objects _ (further o new places _ olds found numbered rest) are stands =
      let e : ℕ × Option Object = (object_number o, new) in
      kept-all places (put_at e.0 e.1 objects) olds rest (All-tail (Place a s p) e places are)
      (kept-at e (All-head (Place a s p) e places are) objects numbered stands)

  -- it goes on as it is
  faulty-stays : (olds : List Object) → Replaces c.places s.objects olds → StandsAs r (changed s c).objects
  faulty-stays olds replaces =
      let own : StandsAs r s.objects = record {
        q = r;
        found = object_at-own (object.Process r) s.objects order there;
        same = record { code = refl; values = refl; lists = refl };
      } in
      let placed = kept-all c.places s.objects olds replaces (deed-places a s p c makes) own in
      let is_it : Object → Bool = λ o. object_number o == r.pid in
      record {
        q = placed.q;
        found =
            find-append is_it (put_all c.places s.objects) (option_to_list c.comes)
            ∙ ap (λ (o : Option Object). option_or o (object_at (option_to_list c.comes) r.pid)) placed.found;
        same = placed.same;
      }

-- ---- and has the same fault

-- where the first has a fault, so has the second
record SameFault (d e : Option Deed) : Type 0 where
  goes : (f : Fault) → d ≡ Some (has_fault f) → e ≡ Some (has_fault f)

-- it has none
record NoFault (d : Option Deed) : Type 0 where
  none : (f : Fault) → d ≢ Some (has_fault f)

no_fault-does : (change : Option Change) → NoFault (option_map changes change)
no_fault-does None = record { none = λ f is. absurd cc }
no_fault-does (Some c) = record { none = λ f is. absurd cc }

no_fault-bind : {X : Type 0} (o : Option X) (next : X → Option Deed) → ((x : X) → NoFault (next x))
    → NoFault (option_and_then next o)
no_fault-bind None next rest = record { none = λ f is. absurd cc }
no_fault-bind (Some x) next rest = rest x

same-none : (d e : Option Deed) → NoFault d → SameFault d e
same-none d e free = record { goes = λ f is. absurd (free.none f is) }

same-does : (change : Option Change) (e : Option Deed) → SameFault (option_map changes change) e
same-does change e = same-none (option_map changes change) e (no_fault-does change)

same-bind : {X : Type 0} (o : Option X) (next onward : X → Option Deed) → ((x : X) → SameFault (next x) (onward x))
    → SameFault (option_and_then next o) (option_and_then onward o)
same-bind None next onward rest = record { goes = λ f is. absurd cc }
same-bind (Some x) next onward rest = rest x

same-either : (b : Bool) (change other : Option Change) (d : Option Deed)
    → SameFault (cond b (option_map changes change) d) (cond b (option_map changes other) d)
same-either true change other d = same-does change (option_map changes other)
same-either false change other d = record { goes = λ f is. is }

module _ (a : Acceptance) (s t : State) (r q : Process) (alike : GoesOnAs r q) where
  add-same : (v w : VarId) (next : CodeId) (x : Value) → SameFault (adds a s r v w next x) (adds a t q v w next x)
  add-same v w next x =
      subst (λ (lists : List (VarId × PotentialList)).
      SameFault (adds a s r v w next x) (bound_to w.0 lists >>= after)) (sym alike.lists)
      (same-bind (bound_to w.0 r.lists) _ _ (λ l. same-either (is_light (lengthened x l)) _ _ _))
    where
      after : PotentialList → Option Deed
      after l =
          if is_light (lengthened x l) then
          option_map changes (where_it_has l.amount q (Some (alone a t q
          (standing_at next (with_list v (lengthened x l) (list_used_up w q)))))) else
          Some (has_fault fault_of.ListLength)

  -- one line for each instruction
  deed_at-same : (n : CodeNode) (vs : List Value) → SameFault (deed_at a s r vs n) (deed_at a t q vs n)
  deed_at-same (code.Label at c l next) vs = same-does _ _
  deed_at-same (code.Case at c arms) vs = same-does _ _
  deed_at-same (code.Send at c y next) vs = same-does _ _
  deed_at-same (code.Recv at c y next) vs = same-does _ _
  deed_at-same (code.Put at c e next) vs = same-does _ _
  deed_at-same (code.Take at c v next) vs = same-does _ _
  deed_at-same (code.Pay at c gas next) vs = same-does _ _
  deed_at-same (code.Get at c gas next) vs = same-does _ _
  deed_at-same (code.Work at gas next) vs = same-does _ _
  deed_at-same (code.Wait at v next) vs = same-does _ _
  deed_at-same (code.Accept at next) vs = record { goes = λ f is. is }
  deed_at-same (code.Detach at next) vs = record { goes = λ f is. is }
  deed_at-same (code.Acquire at x v next) vs = same-does _ _
  deed_at-same (code.Release at v x next) vs = same-does _ _
  deed_at-same (code.Spawn at v f args next) vs =
      same-none _ _ (no_fault-bind (slice_get a.program.procs f.0) _ (λ d.
      no_fault-bind (given r vs args d) _ (λ g. no_fault-does _)))
  deed_at-same (code.Let at v e next) vs = same-does _ _
  deed_at-same (code.Emit at e next) vs = same-does _ _
  deed_at-same (code.If at e then_next else_next) vs = same-does _ _
  deed_at-same (code.Close at) vs = same-none _ _ (record { none = λ f is. absurd cc })
  deed_at-same (code.Fwd at v) vs = same-does _ _
  deed_at-same (code.Call at f args) vs =
      same-none _ _ (no_fault-bind (slice_get a.program.procs f.0) _ (λ d.
      no_fault-bind (given r vs args d) _ (λ g. no_fault-does _)))
  deed_at-same (code.Empty at v gas kind next) vs = same-none _ _ (record { none = λ f is. absurd cc })
  deed_at-same (code.Add at v e w next) vs = same-bind (one_of vs) _ _ (λ x. add-same v w next x)
  deed_at-same (code.Match at w empty_next head tail full_next) vs = same-does _ _

  deed_by-same : (n : CodeNode) (values : TermsResult) → SameFault (deed_by a s r n values) (deed_by a t q n values)
  deed_by-same n (Ok vs) = deed_at-same n vs
  deed_by-same n (Err f) = record { goes = λ g is. is }

  deed-same : SameFault (deed a s r) (deed a t q)
  deed-same =
      let at : (values : List (VarId × Value)) (c : CodeId) → Option Deed =
      λ values c. slice_get a.program.code c.0 >>= λ n. deed_by a t q n
      (terms_evaluation a.program values (code_terms n))
      in
      let here : SameFault (deed a s r) (at r.values r.code) =
      same-bind (slice_get a.program.code r.code.0) _ _ (λ n.
      deed_by-same n (terms_evaluation a.program r.values (code_terms n)))
      in
      let there : at r.values r.code ≡ at q.values q.code =
      ap (λ (values : List (VarId × Value)). at values r.code) (sym alike.values)
      ∙ ap (λ (c : CodeId). at q.values c) (sym alike.code)
      in
      record { goes = λ f is. sym there ∙ here.goes f is }

-- ---- the law

-- what a fault comes of
record FaultyProcess (a : Acceptance) (s : State) (pid : ℕ) (f : Fault) : Type 0 where
  r : Process
  found : process_at s pid ≡ Some r
  has : deed a s r ≡ Some (has_fault f)

faulty-process : (a : Acceptance) (s : State) (pid : ℕ) (f : Fault) → fault a s pid ≡ Some f → FaultyProcess a s pid f
faulty-process a s pid f is = at (process_at s pid) refl is
  where
    of_deed : (d : Option Deed) → (d >>= fault_in) ≡ Some f → d ≡ Some (has_fault f)
    of_deed None is = absurd cc
    of_deed (Some (changes c)) is = absurd cc
    of_deed (Some (has_fault g)) is = cc

    at : (o : Option Process) → process_at s pid ≡ o → ((o >>= deed a s) >>= fault_in) ≡ Some f
        → FaultyProcess a s pid f
    at (Some r) found is = record { r = r; found = found; has = of_deed (deed a s r) is }
    at None found is = absurd cc

-- A process that has a fault has it still when another one has fired.
pub fault-stays : {a : Acceptance} → IsAccepted a → {s t : State} → IsTyped a s → (fires pid : ℕ) (f : Fault)
    → step a s fires ≡ Some t → fault a s pid ≡ Some f → fault a t pid ≡ Some f
fault-stays {a} accepted {s} {t} typed fires pid f steps is =
    let faulty = faulty-process a s pid f is in
    let (there, number) = process_at-there s pid faulty.r faulty.found in
    let firing = step-fires accepted typed fires t steps in
    let stays : StandsAs faulty.r (changed s firing.c).objects =
    faulty-stays a s typed.numbered.ascending firing.c f firing.makes faulty.has firing.there there firing.olds
    firing.replaces
    in
    let stands : StandsAs faulty.r t.objects =
    subst (λ (u : State). StandsAs faulty.r u.objects) firing.after stays
    in
    let found : process_at t pid ≡ Some stands.q =
    ap (process_at t) (sym number) ∙ ap (option_and_then process_of) stands.found
    in
    ap (λ (o : Option Process). (o >>= deed a t) >>= fault_in) found
    ∙ ap (λ (d : Option Deed). d >>= fault_in) ((deed-same a s t faulty.r stands.q stands.same).goes f faulty.has)

-- and through a run of others
pub run-fault_stays : {a : Acceptance} → IsAccepted a → (s t : State) (pids : List ℕ) → IsTyped a s
    → run a s pids ≡ Some t → (pid : ℕ) (f : Fault) → fault a s pid ≡ Some f → fault a t pid ≡ Some f
run-fault_stays {a} accepted s t pids typed is =
    run-by_any_steps a (λ n s t. IsTyped a s → (pid : ℕ) (f : Fault) → fault a s pid ≡ Some f → fault a t pid ≡ Some f)
    (λ s typed pid f is. is)
    (λ n s u t fires steps rest typed pid f is. rest (step-keeps accepted typed fires u steps).typed pid f
    (fault-stays accepted typed fires pid f steps is)) s t pids is typed
