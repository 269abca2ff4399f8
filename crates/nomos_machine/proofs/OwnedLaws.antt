-- Who provides and who uses the names of a state after a change.
use Rattle.std.proofs.Common.{◌≡◌, ◌≢◌, ◌∙◌, inl, inr, ℕ, ◌+◌, List, Contains, Option, Some, None, IsSome, refl, arith}
use Rattle.std.specs.Option.{option_to_list}
use Rattle.std.proofs.lemmas.Bool.{cases_eq}
use Rattle.nomos_ir.specs.Order.{count_of}
use Rattle.nomos_ir.specs.declared.ids.TypeId.{TypeId}
use Rattle.nomos_ir.specs.declared.mode.Mode.{Mode}
use Rattle.nomos_ir.specs.declared.mode.Mode.TheVariants as mode
use Rattle.nomos_types.specs.Acceptance.{Acceptance}
use Rattle.nomos_machine.specs.Change.{Change, made}
use Rattle.nomos_machine.specs.Objects.{provided, used, based, shared_names, mentioned, times, talk_end}
use Rattle.nomos_machine.specs.State.{State, type_of}
use Rattle.nomos_machine.specs.TypedState.{IsOwned, LeadsToBase, at_base, further, IsTyped}
use Rattle.nomos_machine.specs.declared.object.Message.{Message}
use Rattle.nomos_machine.specs.declared.object.Object.{Object}
use Rattle.nomos_machine.specs.declared.object.Object.TheVariants as object
use Rattle.nomos_machine.specs.declared.object.Process.{Process}
use Rattle.nomos_machine.proofs.ChangeLaws.{Replaces, news, made-weight}
use Rattle.nomos_machine.proofs.NameLaws.{mentioned-sum, type_of-below}

-- ---- counts after a change

-- what objects did with a name that are replaced is done no more, and what those do that come is
pub made-times : (does : Object → List ℕ) (name : ℕ) (s : State) (c : Change) (olds : List Object)
    → Replaces c.places s.objects olds
    → times does (made s c).objects name + times does olds name
    ≡ times does s.objects name + times does (news c.places) name + times does (option_to_list c.comes) name
made-times does name s c olds replaces = made-weight (λ o. count_of name (does o)) s c olds replaces

-- A name has as many providers and users as before. For a shared name only those count that stand for it, for all
-- others only its providers and its users.
pub record CountsAsBefore (m : Mode) (before after : State) (name : ℕ) : Type 0 where
  pub provided : m ≢ mode.S → times provided after.objects name ≡ times provided before.objects name
  pub used : m ≢ mode.S → times used after.objects name ≡ times used before.objects name
  pub shared : m ≡ mode.S → times shared_names after.objects name ≡ times shared_names before.objects name
  pub outside : count_of name after.outside ≡ count_of name before.outside

pub owned-as_before : (m : Mode) (before after : State) (name : ℕ) → CountsAsBefore m before after name
    → IsOwned m before name → IsOwned m after name
owned-as_before mode.R before after name counts owned =
    let one = counts.provided (λ same. absurd cc) in
    let two = counts.used (λ same. absurd cc) in
    (one ∙ owned.0, omega (arith, counts.outside, owned.1))
owned-as_before mode.L before after name counts owned =
    (counts.provided (λ same. absurd cc) ∙ owned.0, counts.used (λ same. absurd cc) ∙ owned.1, counts.outside ∙ owned.2)
owned-as_before mode.T before after name counts owned =
    (counts.provided (λ same. absurd cc) ∙ owned.0, counts.used (λ same. absurd cc) ∙ owned.1, counts.outside ∙ owned.2)
owned-as_before mode.S before after name counts owned = (counts.shared refl ∙ owned.0, counts.outside ∙ owned.1)

-- ---- the next name is new

module _ {a : Acceptance} {s : State} (typed : IsTyped a s) where
  -- a name that no object mentions is neither provided nor used nor a base
  pub unmentioned : (name : ℕ) → times mentioned s.objects name ≡ 0
      → (times provided s.objects name ≡ 0) × (times used s.objects name ≡ 0) × (times based s.objects name ≡ 0)
  unmentioned name none =
      let sum = mentioned-sum s.objects name in
      (omega arith, omega arith, omega arith)

  pub next-unmentioned : times mentioned s.objects s.next_name ≡ 0
  next-unmentioned =
      elim (cases_eq (times mentioned s.objects s.next_name) 0) [
        | inl none ↦ none
        | inr some ↦ absurd (typed-below (type_of s.types s.next_name) refl
            ((typed.numbered.typed s.next_name).1 (omega arith)))
      ]
    where
      typed-below : (o : Option TypeId) → type_of s.types s.next_name ≡ o → IsSome o → ⊥
      typed-below (Some t) found some =
          omega (arith, type_of-below s.types s.next_name s.next_name t typed.numbered.names found)
      typed-below None found some = cc

  pub next-not_outside : count_of s.next_name s.outside ≡ 0
  next-not_outside =
      elim (cases_eq (count_of s.next_name s.outside) 0) [
        | inl none ↦ none
        | inr some ↦
            let (t, found, at_r) = typed.outside s.next_name (omega arith) in
            absurd (omega (arith, type_of-below s.types s.next_name s.next_name t typed.numbered.names found))
      ]

-- ---- where names of mode L lead

-- Names that stay lead to their base in other objects too, where the last process and each message on the way have what
-- takes their place there.
pub leads-map : (stays : ℕ → Type 0) (objects others : List Object) (base : ℕ)
    → ((p : Process) → Contains objects (object.Process p) → p.mode ≡ mode.L → p.base ≡ Some base → stays p.offers
    → LeadsToBase others base p.offers)
    → ((m : Message) (name onward : ℕ) → Contains objects (object.Message m)
    → Contains (provided (object.Message m)) name → Contains (talk_end m) onward → stays name
    → stays onward × (LeadsToBase others base onward → LeadsToBase others base name))
    → (name : ℕ) → stays name → LeadsToBase objects base name → LeadsToBase others base name
leads-map stays objects others base ends goes _ stay (at_base p there mode is) = ends p there mode is stay
leads-map stays objects others base ends goes name stay (further m _ onward there provides end leads) =
    let (stays_on, then) = goes m name onward there provides end stay in
    then (leads-map stays objects others base ends goes onward stays_on leads)
