-- In a typed state each name that is used exactly once has one owner, and an outside name has none.
use Rattle.std.proofs.Common.{◌≡◌, ◌≤◌, inl, inr, ℕ, Option, Some, None, refl, ap, arith}
use Rattle.std.specs.Option.{option_map}
use Rattle.std.proofs.lemmas.Bool.{cases_eq}
use Rattle.nomos_ir.specs.Order.{count_of}
use Rattle.nomos_ir.specs.declared.ids.TypeId.{TypeId}
use Rattle.nomos_ir.specs.declared.mode.Mode.{Mode}
use Rattle.nomos_ir.specs.declared.mode.Mode.TheVariants as mode
use Rattle.nomos_types.specs.Acceptance.{Acceptance, IsAccepted}
use Rattle.nomos_types.specs.Modes.{HasMode, IsLinearMode}
use Rattle.nomos_machine.specs.Objects.{object_number, used, times}
use Rattle.nomos_machine.specs.Sight.{user_of, owner, HasOneOwner}
use Rattle.nomos_machine.specs.State.{State, type_of}
use Rattle.nomos_machine.specs.TypedState.{IsTyped}
use Rattle.nomos_machine.specs.declared.object.Object.{Object}
use Rattle.nomos_machine.proofs.ApartLaws.{one-object, times-two}
use Rattle.nomos_machine.proofs.NameLaws.{times-one}
use Rattle.nomos_machine.proofs.NotWrongLaws.{name-used_once, outside-unused}
use Rattle.nomos_machine.proofs.UserLaws.{user_of-found, user_of-none}

module _ {a : Acceptance} (accepted : IsAccepted a) {s : State} (typed : IsTyped a s) where
  -- a name that is used once has an owner
  used-owned : (name : ℕ) → times used s.objects name ≡ 1 → HasOneOwner s name
  used-owned name once = by_user (user_of s.objects name) refl
    where
      by_user : (user : Option Object) → user_of s.objects name ≡ user → HasOneOwner s name
      by_user (Some u) is =
          let (inside, some) = user_of-found name u s.objects is in
          record {
            object = u;
            there = inside;
            found = ap (λ (o : Option Object). option_map object_number o) is;
            uses = omega (arith, some, times-one used name s.objects u inside, once);
            alone = λ o within uses.
                elim (cases_eq (object_number o) (object_number u)) [
                  | inl same ↦ one-object s.objects typed.numbered.ascending u o inside within same
                  | inr other ↦
                      let two = times-two s.objects typed.numbered.ascending used name u o inside within other in
                      absurd (omega (arith, two, some, uses, once))
                ];
          }
      by_user None is = absurd (omega (arith, user_of-none name s.objects is, once))

  unused-unowned : (name : ℕ) → times used s.objects name ≡ 0 → owner s name ≡ None
  unused-unowned name none = by_user (user_of s.objects name) refl
    where
      by_user : (user : Option Object) → user_of s.objects name ≡ user → owner s name ≡ None
      by_user (Some u) is =
          let (inside, some) = user_of-found name u s.objects is in
          absurd (omega (arith, some, times-one used name s.objects u inside, none))
      by_user None is = ap (λ (o : Option Object). option_map object_number o) is

  -- each name of mode R or L that is no outside name has one owner
  pub name-has_owner : (name : ℕ) (t : TypeId) (m : Mode) → type_of s.types name ≡ Some t → HasMode a.program t m
      → IsLinearMode m → count_of name s.outside ≡ 0 → HasOneOwner s name
  name-has_owner name t m found has linear inside =
      used-owned name (name-used_once accepted typed name t m found has linear inside)

  -- an outside name has none
  pub outside-has_no_owner : (name : ℕ) → 1 ≤ count_of name s.outside → owner s name ≡ None
  outside-has_no_owner name some = unused-unowned name (outside-unused accepted typed name some).0

  -- nor has one of mode T
  pub transaction-has_no_owner : (name : ℕ) (t : TypeId) → type_of s.types name ≡ Some t → HasMode a.program t mode.T
      → owner s name ≡ None
  transaction-has_no_owner name t found has = unused-unowned name (typed.owned name t mode.T found has).1
