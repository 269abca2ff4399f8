-- Objects are apart by their numbers: what two of them do with a name counts twice, and sections lead on.
use Rattle.std.proofs.Common.{◌≡◌, ◌≢◌, ◌∙◌, ◌≤◌, ◌⊎◌, inl, inr, ℕ, ◌+◌, List, [], ◌∷◌, Contains, Some, None, refl, sym, subst, ap, arith}
use Rattle.std.proofs.lemmas.Bool.{cases_eq}
use Rattle.nomos_ir.specs.Order.{count_of}
use Rattle.nomos_ir.specs.declared.mode.Mode.TheVariants as mode
use Rattle.nomos_types.proofs.OccurrenceLaws.{counted}
use Rattle.nomos_machine.specs.Change.{put_at}
use Rattle.nomos_machine.specs.Objects.{object_number, provided, talk_end, times, object_at}
use Rattle.nomos_machine.specs.TypedState.{LeadsToBase, at_base, further}
use Rattle.nomos_machine.specs.declared.object.Message.{Message}
use Rattle.nomos_machine.specs.declared.object.Object.{Object}
use Rattle.nomos_machine.specs.declared.object.Object.TheVariants as object
use Rattle.nomos_machine.specs.declared.object.Process.{Process}
use Rattle.nomos_machine.proofs.NameLaws.{times-one}
use Rattle.nomos_machine.proofs.PutLaws.{InOrder, put-weight, put-kept, object_at-own}

module _ (objects : List Object) (order : InOrder objects) where
  -- what two objects do with a name counts twice
  pub times-two : (does : Object → List ℕ) (name : ℕ) (o e : Object) → Contains objects o → Contains objects e
      → object_number e ≢ object_number o
      → count_of name (does o) + count_of name (does e) ≤ times does objects name
  times-two does name o e there inside other =
      let found = object_at-own o objects order there in
      let weighs = put-weight (λ d. count_of name (does d)) None o objects found in
      let kept = put-kept (object_number o) None e objects other inside in
      let one = times-one does name (put_at (object_number o) None objects) e kept in
      omega (arith, weighs, one)

  -- objects of one number are one
  pub one-object : (o e : Object) → Contains objects o → Contains objects e → object_number e ≡ object_number o → e ≡ o
  one-object o e there inside same =
      let first = object_at-own o objects order there in
      let second = object_at-own e objects order inside in
      some-one (sym second ∙ ap (object_at objects) same ∙ first)
    where
      some-one : Some e ≡ Some o → e ≡ o
      some-one is = cc

  pub one-process : (p r : Process) → Contains objects (object.Process p) → Contains objects (object.Process r)
      → r.pid ≡ p.pid → r ≡ p
  one-process p r there inside same =
      process-same (one-object (object.Process p) (object.Process r) there inside same)
    where
      process-same : object.Process r ≡ object.Process p → r ≡ p
      process-same is = cc

  pub one-message : (m n : Message) → Contains objects (object.Message m) → Contains objects (object.Message n)
      → n.number ≡ m.number → n ≡ m
  one-message m n there inside same =
      message-same (one-object (object.Message m) (object.Message n) there inside same)
    where
      message-same : object.Message n ≡ object.Message m → n ≡ m
      message-same is = cc

  -- a process and a message have different numbers
  pub numbers-differ : (p : Process) (m : Message) → Contains objects (object.Process p)
      → Contains objects (object.Message m) → p.pid ≢ m.number
  numbers-differ p m there inside same =
      differ (one-object (object.Process p) (object.Message m) there inside (sym same))
    where
      differ : object.Message m ≡ object.Process p → ⊥
      differ is = cc

  -- a process that alone provides its name is the end of the section to which the name leads
  leads-end : (p : Process) (base name : ℕ) → Contains objects (object.Process p)
      → times provided objects p.offers ≤ 1 → LeadsToBase objects base name → name ≡ p.offers → p.base ≡ Some base
  leads-end p base _ there once (at_base r inside at_l is) same =
      elim (cases_eq r.pid p.pid) [
        | inl number ↦ sym (ap (λ (q : Process). q.base) (one-process p r there inside number)) ∙ is
        | inr other ↦
            let two = times-two provided p.offers (object.Process p) (object.Process r) there inside other in
            let first = counted p.offers (p.offers ∷ []) (0, omega arith, refl) in
            let second = counted p.offers (r.offers ∷ []) (0, omega arith, same) in
            absurd (omega (arith, two, first, second))
      ]
  leads-end p base _ there once (further m name onward inside provides end leads) same =
      let other : m.number ≢ p.pid = λ is. numbers-differ p m there inside (sym is) in
      let two = times-two provided p.offers (object.Process p) (object.Message m) there inside other in
      let first = counted p.offers (p.offers ∷ []) (0, omega arith, refl) in
      let second = counted p.offers (provided (object.Message m))
      (subst (λ (n : ℕ). Contains (provided (object.Message m)) n) same provides) in
      absurd (omega (arith, two, first, second))

  pub leads-own : (p : Process) (base : ℕ) → Contains objects (object.Process p) → times provided objects p.offers ≤ 1
      → LeadsToBase objects base p.offers → p.base ≡ Some base
  leads-own p base there once leads = leads-end p base p.offers there once leads refl

-- Names that stay lead to their base in other objects too, where for the last process and for each message on the way
-- either the name leads there at once, or the next one stays and the name leads on to it.
pub leads-further : (stays : ℕ → Type 0) (objects others : List Object) (base : ℕ)
    → ((p : Process) → Contains objects (object.Process p) → p.mode ≡ mode.L → p.base ≡ Some base → stays p.offers
    → LeadsToBase others base p.offers)
    → ((m : Message) (name onward : ℕ) → Contains objects (object.Message m)
    → Contains (provided (object.Message m)) name → Contains (talk_end m) onward → stays name
    → LeadsToBase objects base onward
    → (LeadsToBase others base name) ⊎ (stays onward × (LeadsToBase others base onward → LeadsToBase others base name)))
    → (name : ℕ) → stays name → LeadsToBase objects base name → LeadsToBase others base name
leads-further stays objects others base ends goes _ stay (at_base p there at_l is) = ends p there at_l is stay
leads-further stays objects others base ends goes name stay (further m _ onward there provides end leads) =
    elim (goes m name onward there provides end stay leads) [
      | inl at_once ↦ at_once
      | inr step ↦ step.1 (leads-further stays objects others base ends goes onward step.0 leads)
    ]
