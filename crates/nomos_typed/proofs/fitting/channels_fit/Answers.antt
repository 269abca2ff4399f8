use Rattle.std.proofs.Common.{◌≡◌, ◌<◌, ℕ, Bool, true, length, get_or, refl, subst, arith}
use Rattle.nomos_ir.specs.declared.ids.TypeId.{TypeId}
use Rattle.nomos_ir.specs.declared.ids.VarId.{VarId}
use Rattle.nomos_typed.specs.Telling.{Tells}
use Rattle.nomos_typed.specs.mirror.ComparedWith.{NameFits, amounts_in}
use Rattle.nomos_typed.proofs.TellLemmas.{tells-plain, tells-same, tells-through}
use Rattle.nomos_typed.proofs.WalkLemmas.{SideBySide, order-long, order-side, paired-walk, side-next, side-none, side-paired}
use Rattle.nomos_typed.proofs.fitting.channels_fit.Goals as goal

pub loop-at-init : goal.loop-at-init
loop-at-init c =
    let told = c.args.told.now in
    record {
      within = omega arith;
      compared = c.requires.compared;
      tells =
          tells-plain (amounts_in told) c.args.equalities.now.amounts true
          (λ yes. side-none (NameFits told) c.args.channels.now c.args.wanted.now, λ side. refl);
    }

pub loop-at-preserved : goal.loop-at-preserved
loop-at-preserved c =
    let told = c.args.told.now in
    let channels = c.args.channels.now in
    let wanted = c.args.wanted.now in
    let at = c.loop-at.at in
    let inside : at < length channels = c.loop-at-test.true in
    let none : VarId × ℕ = (record { 0 = 0 }, 0) in
    let no_type : VarId × TypeId = (record { 0 = 0 }, record { 0 = 0 }) in
    let Here : Type 0 = ((get_or channels at none).0 ≡ (get_or wanted at no_type).0)
    × NameFits told (get_or channels at none).1 (get_or wanted at no_type).1 in
    let here = subst (λ (b : Bool). Tells (amounts_in told) c.loop-at.equalities.amounts
    c.channel_fits.new.equalities.amounts Here b) c.if-not-branch.false c.in_ok-channel_fits.ensures.tells in
    record {
      within = omega (arith, inside);
      compared = c.channel_fits.ensures.compared;
      tells =
          tells-same (amounts_in told) c.args.equalities.now.amounts c.channel_fits.new.equalities.amounts true
          (side-next (NameFits told) channels wanted at none no_type inside
          (omega (arith, inside, c.if-channels-wanted.false)))
          (tells-through (amounts_in told) c.args.equalities.now.amounts c.loop-at.equalities.amounts
          c.channel_fits.new.equalities.amounts (SideBySide (NameFits told) channels wanted at) Here true
          c.loop-at.invariant.tells here);
    }

pub returns-then-channels-wanted-clause-tells : goal.returns-then-channels-wanted-clause-tells
returns-then-channels-wanted-clause-tells c = λ pairs.
    let told = c.args.told.now in
    let channels = c.args.channels.now in
    let wanted = c.args.wanted.now in
    let long = order-long (NameFits told) channels wanted
    (paired-walk (NameFits told) channels wanted c.requires.channels c.requires.wanted pairs) in
    omega (arith, long, c.if-channels-wanted.true)

pub returns-then-not-branch-clause-tells : goal.returns-then-not-branch-clause-tells
returns-then-not-branch-clause-tells c =
    let told = c.args.told.now in
    let channels = c.args.channels.now in
    let wanted = c.args.wanted.now in
    let at = c.loop-at.at in
    let inside : at < length channels = c.loop-at-test.true in
    let none : VarId × ℕ = (record { 0 = 0 }, 0) in
    let no_type : VarId × TypeId = (record { 0 = 0 }, record { 0 = 0 }) in
    let Here : Type 0 = ((get_or channels at none).0 ≡ (get_or wanted at no_type).0)
    × NameFits told (get_or channels at none).1 (get_or wanted at no_type).1 in
    let no_pair = subst (λ (b : Bool). Tells (amounts_in told) c.loop-at.equalities.amounts
    c.channel_fits.new.equalities.amounts Here b) c.if-not-branch.true c.in_ok-channel_fits.ensures.tells in
    λ pairs. no_pair (order-side (NameFits told) channels wanted
    (paired-walk (NameFits told) channels wanted c.requires.channels c.requires.wanted pairs) at none no_type inside)

pub returns-clause-tells : goal.returns-clause-tells
returns-clause-tells c =
    let told = c.args.told.now in
    let channels = c.args.channels.now in
    let wanted = c.args.wanted.now in
    tells-same (amounts_in told) c.args.equalities.now.amounts c.loop-at.equalities.amounts true
    (side-paired (NameFits told) channels wanted c.loop-at.at
    (omega (arith, c.loop-at.invariant.within, c.loop-at-test.false)) c.if-channels-wanted.false c.requires.channels
    c.requires.wanted) c.loop-at.invariant.tells
