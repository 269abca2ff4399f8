use Rattle.std.proofs.Common.{◌∙◌, Bool, true, false, List, All, IfOk, ℕ, filter, sym, subst}
use Rattle.std.proofs.lemmas.Result.{IfOk-weaker}
use Rattle.nomos_ir.specs.Bindings.{IsAscending}
use Rattle.nomos_ir.specs.Paired.{ArePaired}
use Rattle.nomos_ir.specs.declared.ids.TypeId.{TypeId}
use Rattle.nomos_ir.specs.declared.ids.VarId.{VarId}
use Rattle.nomos_typed.specs.Telling.{Tells}
use Rattle.nomos_typed.specs.mirror.AtPlaces.{HasChannels, is_reference}
use Rattle.nomos_typed.specs.mirror.ComparedWith.{IsTypeIn, NameFits, amounts_in}
use Rattle.nomos_typed.proofs.PlacingLemmas.{channels-split, others-ascending, references-ascending}
use Rattle.nomos_typed.proofs.TellLemmas.{tells-same, tells-through}
use Rattle.nomos_typed.proofs.placing.has_channels.Goals as goal

pub channels_fit-requires-clause-channels : goal.channels_fit-requires-clause-channels
channels_fit-requires-clause-channels c =
    subst (λ (l : List (VarId × ℕ)). IsAscending l) (sym (c.as_slice.ensures.value ∙ c.in_ok-references.ensures))
    (references-ascending c.args.place.now.shared c.args.channels.now c.requires.channels)

pub channels_fit-requires-clause-wanted : goal.channels_fit-requires-clause-wanted
channels_fit-requires-clause-wanted c =
    subst (λ (l : List (VarId × TypeId)). IsAscending l) (sym c.as_slice-2.ensures) c.requires.types.shared

pub channels_fit-requires-clause-types : goal.channels_fit-requires-clause-types
channels_fit-requires-clause-types c =
    subst (λ (l : List (VarId × TypeId)). All (λ e. IsTypeIn c.args.told.now e.1) l) (sym c.as_slice-2.ensures)
    c.requires.types.shared_in

pub channels_fit-requires-2-clause-channels : goal.channels_fit-requires-2-clause-channels
channels_fit-requires-2-clause-channels c =
    subst (λ (l : List (VarId × ℕ)). IsAscending l) (sym (c.as_slice-3.ensures.value ∙ c.in_ok-others.ensures))
    (others-ascending c.args.place.now.shared c.args.channels.now c.requires.channels)

pub returns-then-not-branch-clause-tells : goal.returns-then-not-branch-clause-tells
returns-then-not-branch-clause-tells c =
    let told = c.args.told.now in
    let place = c.args.place.now in
    let channels = c.args.channels.now in
    let R : ℕ → TypeId → Type 0 = NameFits told in
    let references = filter (is_reference place.shared true) channels in
    let none = subst (λ (b : Bool). Tells (amounts_in told) c.args.equalities.now.amounts
    c.channels_fit.new.equalities.amounts (ArePaired R c.as_slice.result.now c.as_slice-2.result.now) b)
    c.if-not-branch.true c.in_ok-channels_fit.ensures.tells in
    λ has.
    let pairs = ((channels-split told place channels c.requires.types.apart).1 has).0 in
    none (subst (λ (l : List (VarId × ℕ)). ArePaired R l c.as_slice-2.result.now)
    (sym (c.as_slice.ensures.value ∙ c.in_ok-references.ensures))
    (subst (λ (l : List (VarId × TypeId)). ArePaired R references l) (sym c.as_slice-2.ensures) pairs))

pub returns-clause-tells : goal.returns-clause-tells
returns-clause-tells c =
    let told = c.args.told.now in
    let x = amounts_in told in
    let place = c.args.place.now in
    let channels = c.args.channels.now in
    let R : ℕ → TypeId → Type 0 = NameFits told in
    let references = filter (is_reference place.shared true) channels in
    let others = filter (is_reference place.shared false) channels in
    let old = c.args.equalities.now in
    let mid = c.channels_fit.new.equalities in
    let new = c.channels_fit-2.new.equalities in
    let First : List (VarId × ℕ) → List (VarId × TypeId) → Bool → Type 0 =
    λ cs ts yes. Tells x old.amounts mid.amounts (ArePaired R cs ts) yes in
    let Second : List (VarId × ℕ) → List (VarId × TypeId) → Bool → Type 0 =
    λ cs ts yes. Tells x mid.amounts new.amounts (ArePaired R cs ts) yes in
    let first : First references place.shared true =
    subst (λ (l : List (VarId × TypeId)). First references l true) c.as_slice-2.ensures
    (subst (λ (l : List (VarId × ℕ)). First l c.as_slice-2.result.now true)
    (c.as_slice.ensures.value ∙ c.in_ok-references.ensures)
    (subst (First c.as_slice.result.now c.as_slice-2.result.now) c.if-not-branch.false
    c.in_ok-channels_fit.ensures.tells)) in
    let tells : IfOk c.channels_fit-2.result (Second others place.linear) =
    subst (λ (l : List (VarId × TypeId)). IfOk c.channels_fit-2.result (Second others l)) c.as_slice-4.ensures
    (subst (λ (l : List (VarId × ℕ)). IfOk c.channels_fit-2.result (Second l c.as_slice-4.result.now))
    (c.as_slice-3.ensures.value ∙ c.in_ok-others.ensures) c.channels_fit-2.ensures.tells) in
    IfOk-weaker c.channels_fit-2.result (Second others place.linear)
    (λ (yes : Bool). Tells x old.amounts new.amounts (HasChannels told channels place) yes)
    (λ (yes : Bool) (second : Second others place.linear yes). tells-same x old.amounts new.amounts yes
    (channels-split told place channels c.requires.types.apart)
    (tells-through x old.amounts mid.amounts new.amounts (ArePaired R references place.shared)
    (ArePaired R others place.linear) yes first second)) tells
