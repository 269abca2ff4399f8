use Rattle.std.proofs.Common.{◌<◌, ◌∙◌, ℕ, List, Contains, flat_map, length, map, sym, subst}
use Rattle.std.proofs.lemmas.List.Elements.{All-contains_itself, All-weaker}
use Rattle.std.proofs.lemmas.List.Kept.{IsStrictlySortedBy-filter}
use Rattle.std.proofs.lemmas.List.Sorted.{Contains-permutation, IsPermutation-sym}
use Rattle.std.specs.List.Sorted.{IsPermutation, IsStrictlySortedBy}
use Rattle.std.specs.Ordering.{nat_cmp}
use Rattle.nomos_ir.specs.declared.ids.TypeId.{TypeId}
use Rattle.nomos_ir.specs.declared.lists.ProgramLists.{ProgramLists}
use Rattle.nomos_ir.specs.declared.mode.Mode.{Mode}
use Rattle.nomos_machine.specs.declared.object.Object.{Object}
use Rattle.nomos_types.specs.ModeTable.{AreModesOf}
use Rattle.nomos_typed.specs.declared.leading.Led.{Led}
use Rattle.nomos_typed.specs.declared.sections.Talk.{Talk}
use Rattle.nomos_typed.specs.declared.told.Told.{Told}
use Rattle.nomos_typed.specs.mirror.Leading.{AreLed, led_of, onward_of}
use Rattle.nomos_typed.specs.mirror.TypedTalks.{talks_at_l}
use Rattle.nomos_typed.specs.mirror.ComparedWith.{AreInOrder, IsTold}
use Rattle.nomos_typed.proofs.SectionLemmas.{sections-exact}
use Rattle.nomos_typed.proofs.sections.are_in_sections.Goals as goal

pub names_back-requires : goal.names_back-requires
names_back-requires c =
    let lists = c.args.accepted.now.program in
    let made : List Talk = c.in_ok-talks_of.field-0.items in
    let sorted : List Talk = c.as_slice-5.result.now in
    let Inside : Talk → Type 0 = λ t. (t.own.0 < length lists.types) × (t.shared.0 < length lists.types) in
    let same : IsPermutation made sorted =
    subst (λ (ts : List Talk). IsPermutation made ts) (sym c.as_slice-5.ensures.value) c.by_types-talks.ensures in
    All-weaker (Contains sorted) Inside
    (λ t among.
    let from = (c.in_ok-talks_of.ensures t).0
    (Contains-permutation sorted made t (IsPermutation-sym made sorted same) among) in
    (from.talk.own_in, from.talk.shared_in))
    sorted (All-contains_itself sorted)

pub are_numbers-requires : goal.are_numbers-requires
are_numbers-requires c =
    let told : Told =
    record { accepted = c.args.accepted; modes = c.as_slice.result; types = c.as_slice-2.result } in
    let right = c.as_slice-6.ensures.value ∙ c.in_ok-wanted.ensures in
    let order = subst AreInOrder (sym c.as_slice-2.ensures) c.requires.ordered.table in
    subst (IsStrictlySortedBy nat_cmp) (sym right)
    (IsStrictlySortedBy-filter nat_cmp (talks_at_l told) (map (λ (t : ℕ × TypeId). t.0) told.types.now) order)

pub returns : goal.returns
returns c =
    let told : Told =
    record { accepted = c.args.accepted; modes = c.as_slice.result; types = c.as_slice-2.result } in
    let state = c.args.state.now in
    let modes = subst (λ (l : ProgramLists). AreModesOf l c.as_slice.result.now) c.program.ensures.program
    (subst (λ (ms : List Mode). AreModesOf c.program.result.now ms) (sym c.as_slice.ensures.value)
    c.in_ok-modes.ensures) in
    let is_told : IsTold told =
    record { modes = modes; types = subst AreInOrder (sym c.as_slice-2.ensures) c.requires.ordered.table } in
    let led : List Led = c.as_slice-4.result.now in
    let made : List Talk = c.in_ok-talks_of.field-0.items in
    let sorted : List Talk = c.as_slice-5.result.now in
    let same : IsPermutation made sorted =
    subst (λ (ts : List Talk). IsPermutation made ts) (sym c.as_slice-5.ensures.value) c.by_types-talks.ensures in
    let are_led : AreLed (flat_map led_of state.objects) (flat_map onward_of state.objects) led =
    subst (λ (os : List Object). AreLed (flat_map led_of os) (flat_map onward_of os) led) c.as_slice-3.ensures
    (subst (λ (ls : List Led). AreLed (flat_map led_of c.as_slice-3.result.now)
    (flat_map onward_of c.as_slice-3.result.now) ls) (sym c.as_slice-4.ensures.value) c.in_ok-led.ensures) in
    let exact = sections-exact told is_told c.program.ensures.accepted.is_program state c.as_slice-2.ensures led made
    sorted c.in_ok-names.names.items c.as_slice-6.result.now are_led c.in_ok-talks_of.ensures
    (λ t among. Contains-permutation made sorted t same among)
    (λ t among. Contains-permutation sorted made t (IsPermutation-sym made sorted same) among)
    c.in_ok-names.ensures (c.as_slice-6.ensures.value ∙ c.in_ok-wanted.ensures) in
    (λ yes. exact.0 (c.are_numbers.ensures.0 yes), λ are. c.are_numbers.ensures.1 (exact.1 are))
