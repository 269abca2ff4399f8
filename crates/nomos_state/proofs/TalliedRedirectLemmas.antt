-- Whoever uses a name uses another one instead, where tallies tell who that is.
use Rattle.std.proofs.Common.{◌≡◌, ◌∙◌, ◌==◌, ℕ, List, [], ◌∷◌, map, Option, Some, sym, ap, subst, arith}
use Rattle.std.specs.Option.{option_to_list}
use Rattle.nomos_ir.specs.Order.{count_of}
use Rattle.nomos_machine.specs.Change.{put_all, put_at}
use Rattle.nomos_machine.specs.Objects.{object_at, object_number, times, used}
use Rattle.nomos_machine.specs.Revised.{renamed, uses_instead}
use Rattle.nomos_machine.specs.State.{State}
use Rattle.nomos_machine.specs.declared.object.Object.{Object}
use Rattle.nomos_machine.proofs.NameLaws.{times-one}
use Rattle.nomos_machine.proofs.PutLaws.{object_at-found}
use Rattle.nomos_changes.specs.SmallChanges.{redirected}
use Rattle.nomos_state.specs.Redirected.{redirected_at}
use Rattle.nomos_state.specs.NameUses.{DoesAt}
use Rattle.nomos_state.specs.Moving.{Moves}
use Rattle.nomos_state.specs.Tallying.{AreRight, names_of, only}
use Rattle.nomos_state.specs.declared.tallies.Tallies.{Tallies}
use Rattle.nomos_state.specs.declared.tally.NameUse.TheVariants as doing
use Rattle.nomos_state.proofs.CountLaws.{find-none, instead-exchanges, right-put}
use Rattle.nomos_state.specs.Tallied.{AreTalliesOf}
use Rattle.nomos_state.proofs.FindLemmas.{user-one, uses-does}
use Rattle.nomos_state.proofs.KeepLemmas.{moved-tallied}
use Rattle.std.specs.List.{list_any}

module _ (old new : ℕ) (s : State) where
  -- the objects, where one that may be there uses the new name instead
  abbrev instead : Option Object → List Object
  instead o = put_all (map (λ e. (object_number e, Some (uses_instead old new e))) (option_to_list o)) s.objects

  -- the state afterwards
  abbrev pub after_redirect : List Object → State
  after_redirect objects = record s { objects = objects; outside = map (renamed old new) s.outside }

  pub nobody-redirected : times (names_of doing.Uses) s.objects old ≡ 0 → s.objects ≡ redirected old new s.objects
  nobody-redirected none =
      sym (ap instead
      (find-none (names_of doing.Uses) old (λ o. list_any (λ n. n == old) (used o)) (uses-does old) s.objects none))

  module _ (number : ℕ) (one : times (names_of doing.Uses) s.objects old ≡ 1)
      (does : DoesAt (names_of doing.Uses) s.objects number old) where
    pub one-redirected : redirected_at number old new s.objects ≡ redirected old new s.objects
    one-redirected =
        let (o, there, did) = does in
        let (numbered, inside) = object_at-found number o s.objects there in
        ap instead there ∙ sym (ap instead (user-one s old o one inside did))

    pub redirected-tallied : (before after : Tallies) (t : State) → AreTalliesOf before s
        → Moves before after (only doing.Uses (old ∷ [])) (only doing.Uses (new ∷ []))
        → t ≡ after_redirect (redirected_at number old new s.objects) → AreTalliesOf after t
    redirected-tallied before after t of moves is =
        let (o, there, did) = does in
        let (numbered, inside) = object_at-found number o s.objects there in
        let once : count_of old (names_of doing.Uses o) ≡ 1 =
        omega (arith, times-one (names_of doing.Uses) old s.objects o inside)
        in
        let own = subst (λ (n : ℕ). object_at s.objects n ≡ Some o) (sym numbered) there in
        let placed : redirected_at number old new s.objects
        ≡ put_at (object_number o) (Some (uses_instead old new o)) s.objects =
        ap instead there
        in
        moved-tallied before after s t (only doing.Uses (old ∷ [])) (only doing.Uses (new ∷ [])) of
        (ap (λ (u : State). u.next_name) is) (ap (λ (u : State). u.types) is) moves
        (λ right shifts. subst (λ (os : List Object). AreRight after.names.now os)
        (sym (ap (λ (u : State). u.objects) is ∙ placed))
        (right-put before.names.now after.names.now s.objects right o (Some (uses_instead old new o))
        (only doing.Uses (old ∷ [])) (only doing.Uses (new ∷ [])) own (instead-exchanges old new o once) shifts))
