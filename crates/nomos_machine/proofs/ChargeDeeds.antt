-- What each instruction costs where a `work` of one unit stands before each other one: at a `work` one unit is burnt,
-- and at each other instruction one process fewer is idle.
use Rattle.std.proofs.Common.{◌≡◌, ◌∙◌, ◌≤◌, ◌⊎◌, inl, inr, ℕ, ◌+◌, not, Bool, true, false, cond, List, [], ◌∷◌, ◌++◌, map, Contains, Option, Some, None, slice_get, option_and_then, refl, sym, subst, ap, arith, nat_le}
use Rattle.std.proofs.lemmas.Bool.{cases_eq}
use Rattle.std.specs.Option.{option_map, option_to_list}
use Rattle.std.proofs.lemmas.List.Elements.{All-nil, All-cons}
use Rattle.std.proofs.lemmas.List.Sums.{sum_by-cons}
use Rattle.nomos_ir.specs.Bindings.{bound_to}
use Rattle.nomos_ir.specs.CodeParts.{code_next}
use Rattle.nomos_ir.specs.CostAll.{is_work, IsUnderCostAll}
use Rattle.nomos_ir.specs.Value.{Value, truth_in}
use Rattle.nomos_ir.specs.declared.amount.Amount.{Amount}
use Rattle.nomos_ir.specs.declared.code_node.Arm.{Arm}
use Rattle.nomos_ir.specs.declared.code_node.Chan.{Chan}
use Rattle.nomos_ir.specs.declared.code_node.CodeNode.{CodeNode}
use Rattle.nomos_ir.specs.declared.code_node.CodeNode.TheVariants as code
use Rattle.nomos_ir.specs.declared.fault.Fault.{Fault}
use Rattle.nomos_ir.specs.declared.ids.CodeId.{CodeId}
use Rattle.nomos_ir.specs.declared.ids.Label.{Label}
use Rattle.nomos_ir.specs.declared.ids.TypeId.{TypeId}
use Rattle.nomos_ir.specs.declared.ids.VarId.{VarId}
use Rattle.nomos_ir.specs.declared.mode.Mode.{Mode}
use Rattle.nomos_ir.specs.declared.mode.Mode.TheVariants as mode
use Rattle.nomos_types.specs.Acceptance.{Acceptance}
use Rattle.nomos_types.specs.Amount.{dths}
use Rattle.nomos_machine.specs.Change.{Change, put_at}
use Rattle.nomos_machine.specs.Deeds.{Deed, changes, has_fault, alone, sends, receives, hears_end, leaves, closes, forwards, takes_apart, deed_at, label_in, value_in, channel_in, potential_in, close_in, arm_for, one_of, empty_list, lengthened, is_light, where_it_has}
use Rattle.nomos_machine.specs.Given.{given}
use Rattle.nomos_machine.specs.Objects.{object_number, object_at, potential_of}
use Rattle.nomos_machine.specs.Optional.{◌>>=◌}
use Rattle.nomos_machine.specs.Revised.{standing_at, under_name, with_channel, with_value, with_list, poorer, renamed, uses_instead}
use Rattle.nomos_machine.specs.Sight.{is_own, present_name, message_on, offering, user_of, after_acquire, accept_next, detach_next}
use Rattle.nomos_machine.specs.State.{State, node_of}
use Rattle.nomos_machine.specs.declared.object.Object.{Object}
use Rattle.nomos_machine.specs.declared.object.Object.TheVariants as object
use Rattle.nomos_machine.specs.declared.object.Payload.{Payload}
use Rattle.nomos_machine.specs.declared.object.Payload.TheVariants as payload
use Rattle.nomos_machine.specs.declared.object.PotentialList.{PotentialList}
use Rattle.nomos_machine.specs.declared.object.Process.{Process}
use Rattle.nomos_machine.proofs.ChangeLaws.{Replaces, news}
use Rattle.nomos_machine.proofs.IdleLaws.{idle, idle_at, idle_among, idle_at-most, idle-own, idle-instead, idle-first, idle-next, idle-second, idle-chosen, idle-accepted, idle-detached, idle-found, idle-either, placed-first, placed-weighs}
use Rattle.nomos_machine.proofs.PutLaws.{InOrder, object_at-own, object_at-other, object_at-put}
use Rattle.nomos_machine.proofs.RenameLaws.{instead-number}
use Rattle.nomos_machine.proofs.UserLaws.{user_of-found}

-- what comes by a change, and is idle
abbrev pub idle_news : Acceptance → Change → ℕ
idle_news a c = idle_among a (news c.places) + idle_among a (option_to_list c.comes)

-- One idle process fewer comes than goes, or one unit is burnt, and one idle process at most comes.
abbrev pub Charges : Acceptance → Change → List Object → Type 0
Charges a c olds =
    (1 + idle_news a c ≤ idle_among a olds) ⊎ ((c.burnt ≡ a.annotations.unit) × (idle_news a c ≤ 1))

module _ (a : Acceptance) (under : IsUnderCostAll a.program) (s : State) (order : InOrder s.objects) {p : Process}
    (there : Contains s.objects (object.Process p)) where
  abbrev Paid : Change → Type 0
  Paid c = (olds : List Object) → Replaces c.places s.objects olds → Charges a c olds

  -- each change that may come of it is paid for
  record EachChange (change : Option Change) : Type 0 where
    paid : (c : Change) → change ≡ Some c → Paid c

  record EachDeed (d : Option Deed) : Type 0 where
    deed_paid : (c : Change) → d ≡ Some (changes c) → Paid c

  each-some : (c : Change) → Paid c → EachChange (Some c)
  each-some c paid = record { paid = λ d is. subst Paid (same d is) paid }
    where
      same : (d : Change) → Some c ≡ Some d → c ≡ d
      same d is = cc

  each-bind : {X : Type 0} (o : Option X) (f : X → Option Change) → ((x : X) → o ≡ Some x → EachChange (f x))
      → EachChange (option_and_then f o)
  each-bind None f each = record { paid = λ c is. absurd cc }
  each-bind (Some x) f each = each x refl

  each-where : (gas : ℕ) (change : Option Change) → EachChange change → EachChange (where_it_has gas p change)
  each-where gas change each = either (nat_le (gas + potential_of p) p.purse)
    where
      either : (b : Bool) → EachChange (cond b change None)
      either true = each
      either false = record { paid = λ c is. absurd cc }

  deed-does : (change : Option Change) → EachChange change → EachDeed (option_map changes change)
  deed-does None each = record { deed_paid = λ c is. absurd cc }
  deed-does (Some d) each = record { deed_paid = λ c is. each.paid c (same c is) }
    where
      same : (c : Change) → Some (changes d) ≡ Some (changes c) → Some d ≡ Some c
      same c is = cc

  deed-bind : {X : Type 0} (o : Option X) (f : X → Option Deed) → ((x : X) → o ≡ Some x → EachDeed (f x))
      → EachDeed (option_and_then f o)
  deed-bind None f each = record { deed_paid = λ c is. absurd cc }
  deed-bind (Some x) f each = each x refl

  -- ---- at an instruction that is no `work`

  abbrev At : CodeNode → Type 0
  At n = slice_get a.program.code p.code.0 ≡ Some n

  found-p : object_at s.objects p.pid ≡ Some (object.Process p)
  found-p = object_at-own (object.Process p) s.objects order there

  module _ (n : CodeNode) (stands : At n) (no_work : is_work n ≡ false) where
    own-idle : idle a (object.Process p) ≡ 1
    own-idle = idle-own a p.code.0 n stands no_work

    -- the process goes on, and nobody comes who is idle
    rests : (new : Option Object) (places : List (ℕ × Option Object)) (c : Change) → c.places ≡ (p.pid, new) ∷ places
        → idle_news a c ≡ 0 → Paid c
    rests new places c are none olds replaces =
        let first = placed-weighs a (object.Process p) new p.pid places s.objects olds found-p
        (subst (λ (ps : List (ℕ × Option Object)). Replaces ps s.objects olds) are replaces)
        in
        inl (omega (arith, first, none, own-idle))

    each-rests : (new : Option Object) (places : List (ℕ × Option Object)) (c : Change)
        → c.places ≡ (p.pid, new) ∷ places → idle_news a c ≡ 0 → EachChange (Some c)
    each-rests new places c are none = each-some c (rests new places c are none)

    -- it sends
    sends-rests : (c : Chan) (brought : Payload) (gas : ℕ) (q : Process) (goes : Option TypeId) (next : CodeId)
        → idle_at (slice_get a.program.code next.0) ≡ 0 → EachChange (sends a s p c brought gas q goes next)
    sends-rests c brought gas q goes next none =
        each-bind (present_name p c) _ (λ from is.
        each-bind goes _ (λ t is_t. each-rests _ _ _ refl (omega (arith, none))))

    -- it takes a message, and goes on as one that is not idle
    receives-rests : (c : Chan) (reads : Payload → Process → Option Process)
        → ((brought : Payload) (r q : Process) → reads brought r ≡ Some q → idle a (object.Process q) ≡ 0)
        → EachChange (receives a s p c reads)
    receives-rests c reads none =
        each-bind (present_name p c) _ (λ from is.
        each-bind (message_on s.objects (not (is_own c)) from) _ (λ m is_m.
        each-bind m.next _ (λ name is_name.
        each-bind (reads m.payload (under_name c name p)) _ (λ q is_q.
        each-rests _ _ _ refl (omega (arith, none m.payload (under_name c name p) q is_q))))))

    hears-rests : (v : VarId) (next : CodeId) → idle_at (slice_get a.program.code next.0) ≡ 0
        → EachChange (hears_end a s p v next)
    hears-rests v next none =
        each-bind (bound_to v.0 p.channels) _ (λ from is.
        each-bind (message_on s.objects true from) _ (λ m is_m.
        each-bind (close_in m.payload) _ (λ over is_over. each-rests _ _ _ refl (omega (arith, none)))))

    -- it ends
    closes-rests : (m : Mode) → Paid (closes a s p m)
    closes-rests mode.R = rests None [] (closes a s p mode.R) refl refl
    closes-rests mode.S = rests None [] (closes a s p mode.S) refl refl
    closes-rests mode.L = rests None [] (closes a s p mode.L) refl refl
    closes-rests mode.T = rests None [] (closes a s p mode.T) refl refl

    abbrev instead : ℕ → Object → Object
    instead name o = uses_instead p.offers name o

    abbrev moves : ℕ → Option Object → Change
    moves name user = record (leaves a s p) {
      places =
          map (λ o. (object_number o, Some (instead name o))) (option_to_list user) ++ (p.pid, None) ∷ [];
      outside = map (renamed p.offers name) s.outside;
    }

    -- Where the user of its name has gone on under another one, whoever is found in its own place is idle: it is the
    -- process, or what has come there, which stands where the process does.
    forwards-last : (name : ℕ) (u : Object) → Contains s.objects u → (o : Object)
        → object_at (put_at (object_number u) (Some (instead name u)) s.objects) p.pid ≡ Some o → idle a o ≡ 1
    forwards-last name u inside o found =
        elim (cases_eq (object_number u) p.pid) [
          | inl same ↦
              let found_u = object_at-own u s.objects order inside in
              let is_p : u ≡ object.Process p = one (sym found_u ∙ ap (object_at s.objects) same ∙ found-p) in
              let numbered = instead-number p.offers name u in
              let placed = object_at-put (object_number u) (instead name u) u s.objects found_u numbered in
              let there_too : object_at (put_at (object_number u) (Some (instead name u)) s.objects) p.pid
              ≡ Some (instead name u) =
              subst (λ (k : ℕ). object_at (put_at (object_number u) (Some (instead name u)) s.objects) k
              ≡ Some (instead name u)) same placed
              in
              ap (idle a) (one (sym found ∙ there_too)) ∙ idle-instead a p.offers name u ∙ ap (idle a) is_p ∙ own-idle
          | inr other ↦
              let HasIt : Object → Type 0 = λ e. object_number e ≡ object_number u in
              let others = object_at-other (object_number u) p.pid (Some (instead name u)) s.objects other
              (All-cons HasIt (instead name u) [] (instead-number p.offers name u) (All-nil HasIt))
              in
              ap (idle a) (one (sym found ∙ others ∙ found-p)) ∙ own-idle
        ]
      where
        one : {o q : Object} → Some o ≡ Some q → o ≡ q
        one is = cc

    -- it leaves its place to another name, and the user of its own name stands where it stood
    forwards-rests : (name : ℕ) → Paid (forwards a s p name)
    forwards-rests name = by_user (user_of s.objects p.offers) refl
      where
        one : {o q : Object} → Some o ≡ Some q → o ≡ q
        one is = cc

        by_user : (user : Option Object) → user_of s.objects p.offers ≡ user → Paid (moves name user)
        by_user None found olds replaces =
            let first = placed-weighs a (object.Process p) None p.pid [] s.objects olds found-p replaces in
            inl (omega (arith, first, own-idle))
        by_user (Some u) found olds replaces =
            let (inside, uses) = user_of-found p.offers u s.objects found in
            let new : Option Object = Some (instead name u) in
            let placed = placed-first (object_number u) new ((p.pid, None) ∷ []) s.objects olds replaces in
            let midway : List Object = put_at (object_number u) new s.objects in
            let second = placed-first p.pid None [] midway placed.others placed.rest in
            let is_u : placed.first ≡ u = one (sym placed.found ∙ object_at-own u s.objects order inside) in
            let same : idle a placed.first ≡ idle a u = ap (idle a) is_u in
            let all : idle_among a olds ≡ idle a placed.first + idle_among a placed.others =
            ap (idle_among a) placed.are ∙ sum_by-cons (idle a) placed.first placed.others
            in
            let behind : idle_among a placed.others ≡ idle a second.first + idle_among a second.others =
            ap (idle_among a) second.are ∙ sum_by-cons (idle a) second.first second.others
            in
            let last = forwards-last name u inside second.first second.found in
            inl (omega (arith, same, all, behind, last, idle-instead a p.offers name u))

  -- ---- what is looked up leads to where nobody is idle

  -- the first instruction behind this one
  none-next : (n : CodeNode) → At n → is_work n ≡ false → (next : CodeId) (ks : List ℕ) → code_next n ≡ next.0 ∷ ks
      → idle_at (slice_get a.program.code next.0) ≡ 0
  none-next n stands no_work next ks is = idle-next a under p.code.0 n stands no_work next.0 ks is

  none-chosen : (at : ℕ) (c : Chan) (arms : List Arm) → At (code.Case at c arms) → (o : Option Label) (next : CodeId)
      → (o >>= arm_for arms) ≡ Some next → idle_at (slice_get a.program.code next.0) ≡ 0
  none-chosen at c arms stands None next is = absurd cc
  none-chosen at c arms stands (Some l) next is =
      idle-chosen a under p.code.0 (code.Case at c arms) stands refl l arms refl next is

  -- ---- deeds

  deed-some : (c : Change) → Paid c → EachDeed (Some (changes c))
  deed-some c paid = record { deed_paid = λ d is. subst Paid (same d is) paid }
    where
      same : (d : Change) → Some (changes c) ≡ Some (changes d) → c ≡ d
      same d is = cc

  deed-either : (b : Bool) (d e : Option Deed) → EachDeed d → EachDeed e → EachDeed (cond b d e)
  deed-either true d e first second = first
  deed-either false d e first second = second

  deed-fault : (f : Fault) → EachDeed (Some (has_fault f))
  deed-fault f = record { deed_paid = λ c is. absurd cc }

  deed-none : EachDeed None
  deed-none = record { deed_paid = λ c is. absurd cc }

  work-paid : (at : ℕ) (r : Amount) (next : CodeId) → At (code.Work at r next)
      → EachDeed (deed_at a s p [] (code.Work at r next))
  work-paid at r next stands =
      let unit : dths a.annotations r ≡ a.annotations.unit =
      ap (dths a.annotations) (under.one_unit p.code.0 at r next stands) ∙ (omega arith)
      in
      deed-does _ (each-where (dths a.annotations r) _ (each-some _ (λ olds replaces.
      inr (unit, omega (arith, idle_at-most (slice_get a.program.code next.0))))))

  apart-rests : (at : ℕ) (w : VarId) (empty_next : CodeId) (head tail : VarId) (full_next : CodeId)
      → At (code.Match at w empty_next head tail full_next) → (l : PotentialList) (xs : List Value)
      → EachChange (Some (takes_apart a s p w empty_next head tail full_next l xs))
  apart-rests at w empty_next head tail full_next stands l [] =
      let n : CodeNode = code.Match at w empty_next head tail full_next in
      each-rests n stands refl _ _ _ refl
      (omega (arith, none-next n stands refl empty_next (full_next.0 ∷ []) refl))
  apart-rests at w empty_next head tail full_next stands l (x ∷ xs) =
      let n : CodeNode = code.Match at w empty_next head tail full_next in
      each-rests n stands refl _ _ _ refl
      (omega (arith, idle-second a under p.code.0 n stands refl empty_next.0 full_next.0 [] refl))

  -- one line or some for each instruction
  deed-each : (n : CodeNode) → At n → (vs : List Value) → EachDeed (deed_at a s p vs n)
  deed-each (code.Label at c l next) stands vs =
      let n : CodeNode = code.Label at c l next in
      deed-does _ (sends-rests n stands refl c (payload.Label l) 0 p _ next (none-next n stands refl next [] refl))
  deed-each (code.Case at c arms) stands vs =
      let n : CodeNode = code.Case at c arms in
      deed-does _ (receives-rests n stands refl c _ (λ brought r q is.
      idle-found a (label_in brought >>= arm_for arms) (λ next. standing_at next r) q
      (λ next is_next. none-chosen at c arms stands (label_in brought) next is_next) is))
  deed-each (code.Send at c y next) stands vs =
      let n : CodeNode = code.Send at c y next in
      deed-does _ (each-bind (bound_to y.0 p.channels) _ (λ name is.
      sends-rests n stands refl c (payload.Channel name) 0 _ _ next (none-next n stands refl next [] refl)))
  deed-each (code.Recv at c y next) stands vs =
      let n : CodeNode = code.Recv at c y next in
      deed-does _ (receives-rests n stands refl c _ (λ brought r q is.
      idle-found a (channel_in brought) (λ name. standing_at next (with_channel y name r)) q
      (λ name is_name. none-next n stands refl next [] refl) is))
  deed-each (code.Put at c e next) stands vs =
      let n : CodeNode = code.Put at c e next in
      deed-does _ (each-bind (one_of vs) _ (λ x is.
      sends-rests n stands refl c (payload.Value x) 0 p _ next (none-next n stands refl next [] refl)))
  deed-each (code.Take at c v next) stands vs =
      let n : CodeNode = code.Take at c v next in
      deed-does _ (receives-rests n stands refl c _ (λ brought r q is.
      idle-found a (value_in brought) (λ x. standing_at next (with_value v x r)) q
      (λ x is_x. none-next n stands refl next [] refl) is))
  deed-each (code.Pay at c r next) stands vs =
      let n : CodeNode = code.Pay at c r next in
      let gas : ℕ = dths a.annotations r in
      deed-does _ (each-where gas _
      (sends-rests n stands refl c payload.Pay gas (poorer gas p) _ next (none-next n stands refl next [] refl)))
  deed-each (code.Get at c r next) stands vs =
      let n : CodeNode = code.Get at c r next in
      deed-does _ (receives-rests n stands refl c _ (λ brought q_before q is.
      idle-found a (potential_in brought) (λ paid. standing_at next q_before) q
      (λ paid is_paid. none-next n stands refl next [] refl) is))
  deed-each (code.Work at r next) stands vs = work-paid at r next stands
  deed-each (code.Wait at v next) stands vs =
      let n : CodeNode = code.Wait at v next in
      deed-does _ (hears-rests n stands refl v next (none-next n stands refl next [] refl))
  deed-each (code.Accept at next) stands vs = deed-none
  deed-each (code.Detach at next) stands vs = deed-none
  deed-each (code.Acquire at r v next) stands vs =
      let n : CodeNode = code.Acquire at r v next in
      let goes_on = none-next n stands refl next [] refl in
      deed-does _ (each-bind (bound_to r.0 p.channels) _ (λ shared is.
      each-bind (offering s.objects shared) _ (λ other is_other.
      each-bind (slice_get a.program.code other.code.0) _ (λ m stands_other.
      each-bind (accept_next m) _ (λ onward is_onward.
      each-bind (node_of a.program s.types shared >>= after_acquire) _ (λ t is_t.
      each-rests n stands refl _ _ _ refl
      (omega (arith, goes_on, idle-accepted a under other.code.0 m stands_other onward is_onward))))))))
  deed-each (code.Release at v r next) stands vs =
      let n : CodeNode = code.Release at v r next in
      let goes_on = none-next n stands refl next [] refl in
      deed-does _ (each-bind (bound_to v.0 p.channels) _ (λ name is.
      each-bind (offering s.objects name) _ (λ other is_other.
      each-bind (slice_get a.program.code other.code.0) _ (λ m stands_other.
      each-bind (detach_next m) _ (λ onward is_onward.
      each-bind other.base _ (λ shared is_base.
      each-rests n stands refl _ _ _ refl
      (omega (arith, goes_on, idle-detached a under other.code.0 m stands_other onward is_onward))))))))
  deed-each (code.Spawn at v f args next) stands vs =
      let n : CodeNode = code.Spawn at v f args next in
      let goes_on = none-next n stands refl next [] refl in
      deed-bind (slice_get a.program.procs f.0) _ (λ d declared.
      deed-bind (given p vs args d) _ (λ g is_given.
      deed-does _ (each-where (dths a.annotations d.amount) _
      (each-rests n stands refl _ _ _ refl (omega (arith, goes_on, idle-first a under f.0 d declared))))))
  deed-each (code.Let at v e next) stands vs =
      let n : CodeNode = code.Let at v e next in
      deed-does _ (each-bind (one_of vs) _ (λ x is.
      each-rests n stands refl _ _ _ refl (omega (arith, none-next n stands refl next [] refl))))
  deed-each (code.Emit at e next) stands vs =
      let n : CodeNode = code.Emit at e next in
      deed-does _ (each-bind (one_of vs) _ (λ x is.
      each-rests n stands refl _ _ _ refl (omega (arith, none-next n stands refl next [] refl))))
  deed-each (code.If at e then_next else_next) stands vs =
      let n : CodeNode = code.If at e then_next else_next in
      deed-does _ (each-bind (one_of vs) _ (λ x is.
      each-rests n stands refl _ _ _ refl
      (omega (
        arith,
        idle-either a then_next else_next (none-next n stands refl then_next (else_next.0 ∷ []) refl)
            (idle-second a under p.code.0 n stands refl then_next.0 else_next.0 [] refl) (truth_in x),
      ))))
  deed-each (code.Close at) stands vs = deed-some _ (closes-rests (code.Close at) stands refl p.mode)
  deed-each (code.Fwd at v) stands vs =
      deed-does _ (each-bind (bound_to v.0 p.channels) _ (λ name is.
      each-some _ (forwards-rests (code.Fwd at v) stands refl name)))
  deed-each (code.Call at f args) stands vs =
      deed-bind (slice_get a.program.procs f.0) _ (λ d declared.
      deed-bind (given p vs args d) _ (λ g is_given.
      deed-does _ (each-where (dths a.annotations d.amount) _
      (each-rests (code.Call at f args) stands refl _ _ _ refl (omega (arith, idle-first a under f.0 d declared))))))
  deed-each (code.Empty at v r kind next) stands vs =
      let n : CodeNode = code.Empty at v r kind next in
      let q : Process = standing_at next (with_list v (empty_list (dths a.annotations r)) p) in
      deed-some (alone a s p q)
      (rests n stands refl (Some (object.Process q)) [] (alone a s p q) refl
      (omega (arith, none-next n stands refl next [] refl)))
  deed-each (code.Add at v e w next) stands vs =
      let n : CodeNode = code.Add at v e w next in
      deed-bind (one_of vs) _ (λ x is.
      deed-bind (bound_to w.0 p.lists) _ (λ l is_l.
      deed-either (is_light (lengthened x l)) _ _
      (deed-does _ (each-where l.amount _
      (each-rests n stands refl _ _ _ refl (omega (arith, none-next n stands refl next [] refl))))) (deed-fault _)))
  deed-each (code.Match at w empty_next head tail full_next) stands vs =
      deed-does _ (each-bind (bound_to w.0 p.lists) _ (λ l is.
      apart-rests at w empty_next head tail full_next stands l l.items))

  -- so whatever change a deed is, it is charged
  pub deed-charges : (n : CodeNode) → slice_get a.program.code p.code.0 ≡ Some n → (vs : List Value) → (c : Change)
      → deed_at a s p vs n ≡ Some (changes c) → (olds : List Object) → Replaces c.places s.objects olds
      → Charges a c olds
  deed-charges n stands vs c is olds replaces = (deed-each n stands vs).deed_paid c is olds replaces
