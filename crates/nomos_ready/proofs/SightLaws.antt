-- What is found in a typed state: a message that waits, and the one process that uses a name.
use Rattle.std.proofs.Common.{cond, ◌≡◌, ◌≢◌, ◌∙◌, ◌≤◌, ◌==◌, ◌&&◌, inl, inr, ℕ, Bool, true, false, List, [], ◌∷◌, find, length, Contains, Option, Some, None, IsSome, slice_get, option_and_then, refl, sym, subst, ap, arith, eq-eqb}
use Rattle.std.proofs.lemmas.Bool.{cases_eq}
use Rattle.std.specs.Option.{option_map}
use Rattle.nomos_ir.specs.Order.{count_of}
use Rattle.std.proofs.lemmas.List.Elements.{All-contains, Contains-append_cases}
use Rattle.nomos_ir.specs.Bindings.{bound_to}
use Rattle.nomos_ir.specs.Unfold.{Unfolds}
use Rattle.nomos_ir.specs.declared.code_node.CodeNode.{CodeNode}
use Rattle.nomos_ir.specs.declared.code_node.CodeNode.TheVariants as code
use Rattle.nomos_ir.specs.declared.ids.TypeId.{TypeId}
use Rattle.nomos_ir.specs.declared.mode.Mode.{Mode}
use Rattle.nomos_ir.specs.declared.mode.Mode.TheVariants as mode
use Rattle.nomos_ir.specs.declared.type_node.TypeNode.{TypeNode}
use Rattle.nomos_ir.specs.declared.type_node.TypeNode.TheVariants as node
use Rattle.nomos_ir.proofs.PairedLaws.{paired-right}
use Rattle.nomos_types.specs.Acceptance.{Acceptance, IsAccepted}
use Rattle.nomos_types.specs.Modes.{HasMode, IsLinearMode, Allows}
use Rattle.nomos_types.proofs.ModeLaws.{unfolding-keeps_mode}
use Rattle.nomos_types.proofs.OccurrenceLaws.{counted}
use Rattle.nomos_types.proofs.RowLaws.{row-inverted}
use Rattle.nomos_machine.specs.Objects.{object_number, used, times, message_of}
use Rattle.nomos_machine.specs.Sight.{same_way, is_read_on, message_on, user_of, owner, detach_next}
use Rattle.nomos_machine.specs.State.{State, type_of}
use Rattle.nomos_machine.specs.TypedMessage.{Brings, MessageTyped, end}
use Rattle.nomos_machine.specs.TypedState.{ObjectTyped, IsTyped}
use Rattle.nomos_machine.specs.declared.object.Message.{Message}
use Rattle.nomos_machine.specs.declared.object.Object.{Object}
use Rattle.nomos_machine.specs.declared.object.Object.TheVariants as object
use Rattle.nomos_machine.specs.declared.object.Payload.{Payload}
use Rattle.nomos_machine.specs.declared.object.Process.{Process}
use Rattle.nomos_machine.proofs.ApartLaws.{times-two}
use Rattle.nomos_machine.proofs.GoesLaws.{process-typed, own-row, own-stands}
use Rattle.nomos_machine.proofs.NameLaws.{times-contains}
use Rattle.nomos_machine.proofs.ObjectLaws.{bound-among}
use Rattle.nomos_machine.proofs.PutLaws.{contains-one}
use Rattle.nomos_machine.proofs.TalkLaws.{brings-linear}
use Rattle.nomos_machine.proofs.UserLaws.{user_of-found, user_of-none}

-- ---- a message that waits is found

same-way : (way : Bool) → same_way way way ≡ true
same-way true = refl
same-way false = refl

is-read : (way : Bool) (name : ℕ) (m : Message) → m.to_client ≡ way → m.from ≡ name
    → is_read_on way name (object.Message m) ≡ true
is-read way name m goes from =
    ap (λ (b : Bool). same_way way b && m.from == name) goes
    ∙ ap (λ (b : Bool). b && m.from == name) (same-way way)
    ∙ eq-eqb m.from name from

-- who passes is a message
pub record SomeMessage (objects : List Object) (way : Bool) (name : ℕ) : Type 0 where
  pub message : Message
  pub found : message_on objects way name ≡ Some message

some-first : (way : Bool) (name : ℕ) (m : Message) (e : Object) (objects : List Object) (t : Bool)
    → is_read_on way name e ≡ t → m.to_client ≡ way → m.from ≡ name → Contains (e ∷ objects) (object.Message m)
    → (Contains objects (object.Message m) → SomeMessage objects way name)
    → (n : Message) × (option_and_then message_of (cond t (Some e) (find (is_read_on way name) objects)) ≡ Some n)
some-first way name m (object.Process p) objects true is goes from there rest = absurd cc
some-first way name m (object.Message n) objects true is goes from there rest = (n, refl)
some-first way name m e objects false is goes from there rest =
    elim (Contains-append_cases (e ∷ []) objects (object.Message m) there) [
      | inl first ↦
          let read : is_read_on way name e ≡ true =
          ap (is_read_on way name) (contains-one e (object.Message m) first) ∙ is-read way name m goes from in
          absurd (differ (sym is ∙ read))
      | inr further ↦ let some = rest further in (some.message, some.found)
    ]
  where
    differ : false ≡ true → ⊥
    differ e = cc

pub message_on-some : (way : Bool) (name : ℕ) (m : Message) (objects : List Object)
    → Contains objects (object.Message m) → m.to_client ≡ way → m.from ≡ name → SomeMessage objects way name
message_on-some way name m [] there goes from = absurd (omega (arith, there.1))
message_on-some way name m (e ∷ objects) there goes from =
    let (n, found) = some-first way name m e objects (is_read_on way name e) refl goes from there
    (λ further. message_on-some way name m objects further goes from)
    in
    record { message = n; found = found }

module _ {a : Acceptance} (accepted : IsAccepted a) {s : State} (typed : IsTyped a s) where
  -- ---- the one user of a name

  -- a process that uses a name of another mode than S is its owner
  pub user-alone : (p : Process) → Contains s.objects (object.Process p) → (name : ℕ) (t : TypeId) (m : Mode)
      → type_of s.types name ≡ Some t → HasMode a.program t m → m ≢ mode.S
      → Contains (used (object.Process p)) name → owner s name ≡ Some p.pid
  user-alone p there name t m found has other among =
      by_mode m has other (times-contains used name s.objects (object.Process p) there among)
    where
      own : 1 ≤ count_of name (used (object.Process p))
      own = counted name (used (object.Process p)) among

      once : times used s.objects name ≡ 1 → owner s name ≡ Some p.pid
      once one = by_user (user_of s.objects name) refl
        where
          by_user : (user : Option Object) → user_of s.objects name ≡ user → owner s name ≡ Some p.pid
          by_user (Some u) is =
              let (inside, uses) = user_of-found name u s.objects is in
              elim (cases_eq (object_number u) p.pid) [
                | inl number ↦
                    ap (λ (o : Option Object). option_map object_number o) is ∙ ap (λ (n : ℕ). Some n) number
                | inr other ↦
                    let two = times-two s.objects typed.numbered.ascending used name (object.Process p) u there inside
                    other in
                    absurd (omega (arith, two, own, uses, one))
              ]
          by_user None is = absurd (omega (arith, user_of-none name s.objects is, one))

      by_mode : (m : Mode) → HasMode a.program t m → m ≢ mode.S → 1 ≤ times used s.objects name
          → owner s name ≡ Some p.pid
      by_mode mode.R has other some = once (omega (arith, some, (typed.owned name t mode.R found has).1))
      by_mode mode.L has other some = once (typed.owned name t mode.L found has).1
      by_mode mode.T has other some = absurd (omega (arith, some, (typed.owned name t mode.T found has).1))
      by_mode mode.S has other some = absurd (other refl)

  -- ---- the mode of a name on which something waits

  -- no message is read on a shared name
  pub message-unshared : (m : Message) → Contains s.objects (object.Message m) → (own : TypeId) (at : Mode)
      → type_of s.types m.from ≡ Some own → HasMode a.program own at → at ≢ mode.S
  message-unshared m there own at found has is =
      by_end t.goes t.brings
    where
      t : MessageTyped a s.types m
      t = All-contains (ObjectTyped a s.types (length s.balances)) s.objects (object.Message m) typed.each there

      one : t.own ≡ own
      one =
          let read : type_of s.types m.from ≡ Some t.own = t.found in
          cc

      unfolds : Unfolds a.program own.0 t.head
      unfolds = subst (λ (u : TypeId). Unfolds a.program u.0 t.head) one t.unfolds

      at_s : HasMode a.program own mode.S
      at_s = subst (HasMode a.program own) is has

      unshared : IsLinearMode mode.S → ⊥
      unshared (inl at_r) = absurd cc
      unshared (inr at_l) = absurd cc

      ends-at : {way : Bool} {n : TypeNode} {brought : Payload} {gas : ℕ}
          → Brings a.program a.annotations s.types way n brought gas None → n ≡ node.One
      ends-at end = refl

      neither : Allows a.program mode.S node.One → ⊥
      neither (inl at_r) = cc
      neither (inr at_t) = cc

      by_end : (goes : Option TypeId)
          → Brings a.program a.annotations s.types m.to_client t.head m.payload m.purse goes → ⊥
      by_end (Some u) brings = unshared (brings-linear accepted.typed.formed at_s unfolds brings)
      by_end None brings =
          let (u, stands, keeps) = unfolding-keeps_mode accepted.typed.formed.program
          accepted.typed.formed.contractive accepted.typed.formed.modes at_s unfolds in
          neither (subst (λ (e : TypeNode). Allows a.program mode.S e) (ends-at brings)
          (accepted.typed.formed.modes.allowed u mode.S t.head keeps stands))

  -- a process that has the name of a message for a variable is its owner
  pub message-user : (p : Process) → Contains s.objects (object.Process p) → (m : Message)
      → Contains s.objects (object.Message m) → (v : ℕ) → bound_to v p.channels ≡ Some m.from
      → owner s m.from ≡ Some p.pid
  message-user p there m waiting v bound =
      let (held, is, has) = paired-right m.from ((process-typed typed there).matches.channels v) bound in
      let at_mode : HasMode a.program has.own has.alike.mode = has.alike.left_mode in
      user-alone p there m.from has.own has.alike.mode has.found at_mode
      (message-unshared m waiting has.own has.alike.mode has.found at_mode) (bound-among p.channels v m.from bound)

  -- who stands at `detach` has mode L
  pub detaching-at_l : (p : Process) (there : Contains s.objects (object.Process p)) (n : CodeNode)
      → slice_get a.program.code p.code.0 ≡ Some n → IsSome (detach_next n) → p.mode ≡ mode.L
  detaching-at_l p there (code.Detach at next) stands detaches =
      let n : CodeNode = code.Detach at next in
      let (after, row) = own-row typed there accepted in
      let (t, detaches_it, goes_on) = row-inverted n (own-stands typed there n stands) row in
      (process-typed typed there).matches.mode ∙ detaches_it.mode
  detaching-at_l p there n stands detaches = absurd cc
