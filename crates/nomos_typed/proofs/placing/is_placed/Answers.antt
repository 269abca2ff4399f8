use Rattle.std.proofs.Common.{◌↔◌, Bool, List, IfOk, ℕ, subst}
use Rattle.std.proofs.lemmas.Result.{IfOk-weaker}
use Rattle.nomos_ir.specs.declared.ids.VarId.{VarId}
use Rattle.nomos_places.specs.declared.place.Place.{Place}
use Rattle.nomos_typed.specs.Telling.{Tells}
use Rattle.nomos_typed.specs.StateTyped.{IsPlaced}
use Rattle.nomos_typed.specs.mirror.AtPlaces.{HasChannels, HasPlainly}
use Rattle.nomos_typed.specs.mirror.ComparedWith.{NameFits, acceptance_of, amounts_in}
use Rattle.nomos_typed.proofs.LeadingLemmas.{not-true}
use Rattle.nomos_typed.proofs.PlacingLemmas.{nowhere-placed, place-kinds, place-lists, place-offers, place-types, placed-exact}
use Rattle.nomos_typed.proofs.TellLemmas.{tells-same, tells-through}
use Rattle.nomos_typed.proofs.placing.is_placed.Goals as goal

pub has_plainly-requires-clause-kinds : goal.has_plainly-requires-clause-kinds
has_plainly-requires-clause-kinds c =
    let known = c.requires.known in
    let at = c.in-Some.ensures (acceptance_of c.args.told.now) known.wanted known.are in
    place-kinds c.know.ensures.accepted c.in-Some.place.now at.1

pub has_plainly-requires-clause-lists : goal.has_plainly-requires-clause-lists
has_plainly-requires-clause-lists c =
    let known = c.requires.known in
    let at = c.in-Some.ensures (acceptance_of c.args.told.now) known.wanted known.are in
    place-lists c.know.ensures.accepted c.in-Some.place.now at.1

pub has_type-requires-clause-other : goal.has_type-requires-clause-other
has_type-requires-clause-other c =
    let known = c.requires.known in
    let at = c.in-Some.ensures (acceptance_of c.args.told.now) known.wanted known.are in
    place-offers c.know.ensures.accepted c.in-Some.place.now at.1

pub has_channels-requires-clause-types : goal.has_channels-requires-clause-types
has_channels-requires-clause-types c =
    let known = c.requires.known in
    let at = c.in-Some.ensures (acceptance_of c.args.told.now) known.wanted known.are in
    place-types c.know.ensures.accepted c.in-Some.place.now at.1

pub returns-in-None-clause-tells : goal.returns-in-None-clause-tells
returns-in-None-clause-tells c =
    let known = c.requires.known in
    let nothing = c.in-None.ensures (acceptance_of c.args.told.now) known.wanted known.are in
    nowhere-placed c.know.ensures.accepted c.args.told.now.types.now c.args.process.now c.args.places.now
    known nothing

pub returns-then-not-has_plainly-clause-tells : goal.returns-then-not-has_plainly-clause-tells
returns-then-not-has_plainly-clause-tells c =
    let p = c.args.process.now in
    let place : Place = c.in-Some.place.now in
    let known = c.requires.known in
    let at = c.in-Some.ensures (acceptance_of c.args.told.now) known.wanted known.are in
    let exact = placed-exact c.know.ensures.accepted place at.1 c.args.told.now.types.now p at.0 in
    λ placed.
    not-true c.has_plainly.result c.if-not-has_plainly.true c.has_plainly.ensures (exact.1 placed).0

pub returns-then-not-branch-clause-tells : goal.returns-then-not-branch-clause-tells
returns-then-not-branch-clause-tells c =
    let told = c.args.told.now in
    let p = c.args.process.now in
    let place : Place = c.in-Some.place.now in
    let known = c.requires.known in
    let at = c.in-Some.ensures (acceptance_of told) known.wanted known.are in
    let exact = placed-exact c.know.ensures.accepted place at.1 told.types.now p at.0 in
    let none = subst (λ (b : Bool). Tells (amounts_in told) c.args.equalities.now.amounts
    c.has_type.new.equalities.amounts (NameFits told p.offers place.offers) b) c.if-not-branch.true
    c.in_ok-has_type.ensures.tells in
    λ placed. none (exact.1 placed).1.0

pub returns-clause-tells : goal.returns-clause-tells
returns-clause-tells c =
    let told = c.args.told.now in
    let x = amounts_in told in
    let p = c.args.process.now in
    let place : Place = c.in-Some.place.now in
    let known = c.requires.known in
    let at = c.in-Some.ensures (acceptance_of told) known.wanted known.are in
    let exact = placed-exact c.know.ensures.accepted place at.1 told.types.now p at.0 in
    let old = c.args.equalities.now in
    let mid = c.has_type.new.equalities in
    let new = c.has_channels.new.equalities in
    let plain : HasPlainly p place = c.has_plainly.ensures.0 c.if-not-has_plainly.false in
    let first = subst (λ (b : Bool). Tells x old.amounts mid.amounts (NameFits told p.offers place.offers) b)
    c.if-not-branch.false c.in_ok-has_type.ensures.tells in
    let Has : List (VarId × ℕ) → Bool → Type 0 =
    λ channels yes. Tells x mid.amounts new.amounts (HasChannels told channels place) yes in
    let tells : IfOk c.has_channels.result (Has p.channels) =
    subst (λ (l : List (VarId × ℕ)). IfOk c.has_channels.result (Has l)) c.as_slice.ensures
    c.has_channels.ensures.tells in
    let whole : (NameFits told p.offers place.offers × HasChannels told p.channels place)
    ↔ IsPlaced (acceptance_of told) told.types.now p =
    (λ parts. exact.0 (plain, parts), λ placed. (exact.1 placed).1) in
    IfOk-weaker c.has_channels.result (Has p.channels)
    (λ (yes : Bool). Tells x old.amounts new.amounts (IsPlaced (acceptance_of told) told.types.now p) yes)
    (λ (yes : Bool) (second : Has p.channels yes). tells-same x old.amounts new.amounts yes whole
    (tells-through x old.amounts mid.amounts new.amounts (NameFits told p.offers place.offers)
    (HasChannels told p.channels place) yes first second)) tells
