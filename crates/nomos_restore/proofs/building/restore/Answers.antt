use Rattle.std.proofs.Common.{◌≡◌, ◌∙◌, ◌++◌, ℕ, List, [], All, length, sym, ap, subst, arith}
use Rattle.nomos_ir.specs.declared.ids.TypeId.{TypeId}
use Rattle.nomos_contents.specs.Data.{state_of}
use Rattle.nomos_machine.specs.Change.{tidied}
use Rattle.nomos_machine.specs.Objects.{object_number}
use Rattle.nomos_machine.specs.State.{State}
use Rattle.nomos_machine.specs.TypedState.{HasVariables}
use Rattle.nomos_machine.specs.declared.object.Object.{Object}
use Rattle.nomos_restore.specs.Numbering.{AreNext, nothing_drawn}
use Rattle.nomos_restore.proofs.BuiltLemmas.{all-built, first-names, first-objects}
use Rattle.nomos_restore.proofs.MentionLemmas.{tidied-same}
use Rattle.nomos_restore.proofs.building.restore.Goals as goal

abbrev name_of : ℕ × TypeId → ℕ
name_of t = t.0

pub come_names-requires-clause-next : goal.come_names-requires-clause-next
come_names-requires-clause-next g c =
    let plain = c.args.plain in
    let begins = c.make_room.ensures.state ∙ c.requires.begins in
    subst (λ (s : State). AreNext name_of s.next_name plain.next_name c.into_vec-types.result.items) (sym begins)
    (subst (λ (types : List (ℕ × TypeId)). AreNext name_of 0 plain.next_name types) (sym c.into_vec-types.ensures)
    (first-names plain c.requires.ordered))

pub come_names-requires-clause-above : goal.come_names-requires-clause-above
come_names-requires-clause-above g c =
    let begins = c.make_room.ensures.state ∙ c.requires.begins in
    omega (arith, ap (λ (s : State). s.next_name) begins)

pub come_objects-requires-clause-next : goal.come_objects-requires-clause-next
come_objects-requires-clause-next g c =
    let plain = c.args.plain in
    let begins = c.make_room.ensures.state ∙ c.requires.begins in
    let number : (g.P.Sight.state c.come_names.new.parts).next_object ≡ 0 =
    ap (λ (s : State). s.next_object) c.come_names.ensures.state ∙ ap (λ (s : State). s.next_object) begins in
    subst (λ (n : ℕ). AreNext object_number n plain.next_object c.into_vec-objects.result.items) (sym number)
    (subst (λ (objects : List Object). AreNext object_number 0 plain.next_object objects)
    (sym c.into_vec-objects.ensures)
    (first-objects plain c.requires.ordered))

pub come_objects-requires-clause-above : goal.come_objects-requires-clause-above
come_objects-requires-clause-above g c =
    let begins = c.make_room.ensures.state ∙ c.requires.begins in
    let number : (g.P.Sight.state c.come_names.new.parts).next_object ≡ 0 =
    ap (λ (s : State). s.next_object) c.come_names.ensures.state ∙ ap (λ (s : State). s.next_object) begins in
    omega (arith, number)

pub come_objects-requires-clause-variables : goal.come_objects-requires-clause-variables
come_objects-requires-clause-variables g c =
    subst (All HasVariables) (sym c.into_vec-objects.ensures) c.requires.ordered.variables

pub open_accounts-requires : goal.open_accounts-requires
open_accounts-requires g c =
    let begins = c.make_room.ensures.state ∙ c.requires.begins in
    let none : (g.P.Sight.state c.come_objects.new.parts).balances ≡ [] =
    ap (λ (s : State). s.balances) c.in_ok-come_objects.ensures.ok
    ∙ ap (λ (s : State). s.balances) c.come_names.ensures.state
    ∙ ap (λ (s : State). s.balances) begins in
    omega (arith, ap length none, ap length c.as_slice.ensures, c.requires.ordered.few)

pub burn-requires : goal.burn-requires
burn-requires g c =
    let begins = c.make_room.ensures.state ∙ c.requires.begins in
    let none : (g.P.Sight.state c.open_accounts.new.parts).spent ≡ 0 =
    ap (λ (s : State). s.spent) c.in_ok-open_accounts.ensures.ok
    ∙ ap (λ (s : State). s.spent) c.in_ok-come_objects.ensures.ok
    ∙ ap (λ (s : State). s.spent) c.come_names.ensures.state
    ∙ ap (λ (s : State). s.spent) begins in
    omega (arith, none)

pub returns-clause-ok : goal.returns-clause-ok
returns-clause-ok g c =
    let plain = c.args.plain in
    let named = g.P.Sight.state c.come_names.new.parts in
    let filled = g.P.Sight.state c.come_objects.new.parts in
    let opened = g.P.Sight.state c.open_accounts.new.parts in
    let burnt = g.P.Sight.state c.burn.new.self in
    let begins = c.make_room.ensures.state ∙ c.requires.begins in
    let names = c.come_names.ensures.state
    ∙ ap (λ (s : State). record s {
      next_name = plain.next_name;
      types = s.types ++ c.into_vec-types.result.items;
    }) begins
    ∙ ap (λ (types : List (ℕ × TypeId)). record nothing_drawn { next_name = plain.next_name; types = types })
    c.into_vec-types.ensures in
    let objects = c.in_ok-come_objects.ensures.ok
    ∙ ap (λ (os : List Object). record named { next_object = plain.next_object; objects = named.objects ++ os })
    c.into_vec-objects.ensures in
    let accounts = c.in_ok-open_accounts.ensures.ok
    ∙ ap (λ (bs : List ℕ). record filled { balances = filled.balances ++ bs }) c.as_slice.ensures in
    let built = all-built plain named filled opened burnt names objects accounts c.burn.ensures.state in
    c.tidy.ensures.state ∙ ap tidied built ∙ tidied-same (state_of plain) c.requires.mentioned
