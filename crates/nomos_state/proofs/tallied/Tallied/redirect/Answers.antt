use Rattle.std.proofs.Common.{◌∙◌, map, sym, ap, subst, arith}
use Rattle.nomos_state.specs.Indexed.{Indexed}
use Rattle.nomos_state.specs.Redirected.{redirected_at}
use Rattle.nomos_state.specs.NameUses.{DoesAt}
use Rattle.nomos_machine.specs.Objects.{times}
use Rattle.nomos_machine.specs.Revised.{renamed}
use Rattle.nomos_machine.specs.State.{State}
use Rattle.nomos_machine.proofs.NameLaws.{times-one}
use Rattle.nomos_machine.proofs.PutLaws.{object_at-found}
use Rattle.nomos_state.specs.Tallying.{names_of}
use Rattle.nomos_state.specs.declared.tally.NameUse.TheVariants as doing
use Rattle.nomos_state.proofs.KeepLemmas.{marked-kept}
use Rattle.nomos_state.proofs.TalliedRedirectLemmas.{after_redirect, nobody-redirected, one-redirected, redirected-tallied}
use Rattle.nomos_state.proofs.tallied.Tallied.redirect.Goals as goal

pub redirect_once-requires : goal.redirect_once-requires
redirect_once-requires c o there =
    let s = c.self.inside.inside.state in
    let old = c.args.old in
    let (one, does) = c.in-One.ensures in
    let once = ap (λ (i : Indexed). times (names_of doing.Uses) i.state.objects old) c.self.view_is ∙ one in
    let (numbered, inside) = object_at-found c.in-One.by.object o s.objects there in
    omega (arith, times-one (names_of doing.Uses) old s.objects o inside, once)

pub invariant_of-self-in-One : goal.invariant_of-self-in-One
invariant_of-self-in-One c =
    let t = c.self.inside in
    let s = t.inside.state in
    let old = c.args.old in
    let new = c.args.new in
    let number = c.in-One.by.object in
    let (one, does) = c.in-One.ensures in
    let once = ap (λ (i : Indexed). times (names_of doing.Uses) i.state.objects old) c.self.view_is ∙ one in
    let does_here = subst (λ (i : Indexed). DoesAt (names_of doing.Uses) i.state.objects number old)
    (sym c.self.view_is) does
    in
    let is = c.rename_outside-in-One.ensures.state
    ∙ ap (λ (u : State). record u { outside = map (renamed old new) u.outside }) c.redirect_once.ensures.state
    in
    record {
      now =
          redirected-tallied old new s number once does_here t.tallies c.exchange.new.self
          c.rename_outside-in-One.new.self.state c.self.invariant.now c.exchange.ensures is;
      marked =
          marked-kept t.was_exact t.was_lost _ _ _ _ c.self.invariant.marked c.exchange.ensures.marked
          (c.rename_outside-in-One.ensures.marked ∙ c.redirect_once.ensures.marked);
    }

pub returns-in-Nobody-clause-state : goal.returns-in-Nobody-clause-state
returns-in-Nobody-clause-state c =
    let s = c.args.self.now.state in
    let old = c.args.old in
    let new = c.args.new in
    c.rename_outside.ensures.state
    ∙ ap (λ (i : Indexed). after_redirect old new i.state i.state.objects) c.self.view_is
    ∙ ap (after_redirect old new s) (nobody-redirected old new s c.in-Nobody.ensures)

pub returns-in-One-clause-state : goal.returns-in-One-clause-state
returns-in-One-clause-state c =
    let s = c.args.self.now.state in
    let old = c.args.old in
    let new = c.args.new in
    let number = c.in-One.by.object in
    let (one, does) = c.in-One.ensures in
    c.rename_outside-in-One.ensures.state
    ∙ ap (λ (u : State). record u { outside = map (renamed old new) u.outside }) c.redirect_once.ensures.state
    ∙ ap (λ (i : Indexed). after_redirect old new i.state (redirected_at number old new i.state.objects)) c.self.view_is
    ∙ ap (after_redirect old new s) (one-redirected old new s number one does)
