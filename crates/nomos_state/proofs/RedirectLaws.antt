-- Who uses a name first is redirected by its number.
use Rattle.std.proofs.Common.{◌≡◌, ◌∙◌, ℕ, List, map, Option, Some, None, refl, sym, ap}
use Rattle.std.proofs.lemmas.Option.{none-some, same_Some}
use Rattle.std.specs.Option.{option_map, option_to_list}
use Rattle.nomos_machine.specs.Change.{put_all}
use Rattle.nomos_machine.specs.Objects.{object_at, object_number}
use Rattle.nomos_machine.specs.Revised.{uses_instead}
use Rattle.nomos_machine.specs.Sight.{owner, user_of}
use Rattle.nomos_machine.specs.State.{State}
use Rattle.nomos_machine.specs.declared.object.Object.{Object}
use Rattle.nomos_machine.proofs.PutLaws.{InOrder, object_at-own}
use Rattle.nomos_machine.proofs.UserLaws.{user_of-found}
use Rattle.nomos_changes.specs.SmallChanges.{redirected}
use Rattle.nomos_state.specs.Redirected.{redirected_at}

module _ (s : State) (old new : ℕ) where
  -- who is redirected
  abbrev redirects : Option Object → List Object
  redirects user =
      put_all (map (λ o. (object_number o, Some (uses_instead old new o))) (option_to_list user)) s.objects

  -- the owner of the name stands under its number
  pub owner-stands : (number : ℕ) → InOrder s.objects → owner s old ≡ Some number
      → user_of s.objects old ≡ object_at s.objects number
  owner-stands number order owned = at (user_of s.objects old) refl
    where
      at : (o : Option Object) → user_of s.objects old ≡ o → user_of s.objects old ≡ object_at s.objects number
      at None none =
          absurd (none-some number (sym (ap (option_map object_number) none) ∙ owned))
      at (Some u) is =
          let own : object_number u ≡ number =
          same_Some (object_number u) number (sym (ap (option_map object_number) is) ∙ owned) in
          is
          ∙ sym (ap (object_at s.objects) (sym own)
          ∙ object_at-own u s.objects order (user_of-found old u s.objects is).0)

  -- so the first user of the name is redirected by its number
  pub redirected-at_owner : (number : ℕ) → InOrder s.objects → owner s old ≡ Some number
      → redirected old new s.objects ≡ redirected_at number old new s.objects
  redirected-at_owner number order owned = ap redirects (owner-stands number order owned)
