use Rattle.std.proofs.Common.{◌≡◌, ◌<◌, ◌↔◌, ℕ, List, Contains, length, get_or, subst, arith}
use Rattle.std.proofs.lemmas.List.{get_or_default, take_all}
use Rattle.nomos_typed.specs.declared.sections.Decided.{Decided}
use Rattle.nomos_typed.specs.declared.sections.Talk.{Talk}
use Rattle.nomos_typed.specs.mirror.TypedTalks.{HasBack}
use Rattle.nomos_typed.proofs.TalkLemmas.{back-none, decided-here, names-more}
use Rattle.nomos_typed.proofs.sections.names_back.Goals as goal

pub loop-talk-init : goal.loop-talk-init
loop-talk-init c = record {
  known = tt;
  names = back-none c.args.accepted.now c.new-names.result.items c.new-names.ensures.items;
}

pub loop-talk-preserved : goal.loop-talk-preserved
loop-talk-preserved c =
    let a = c.args.accepted.now in
    let talks = c.args.talks.now in
    let i = c.loop-talk.talk-index in
    let inside : i < length talks = c.loop-talk-test.true in
    let none : Talk = record { name = 0; own = record { 0 = 0 }; shared = record { 0 = 0 } } in
    let t : Talk = get_or talks i none in
    let is : t ≡ get_or talks i t = get_or_default talks i none t inside in
    let d : Decided = c.in_ok-decided.decided in
    record {
      known = c.in_ok-decided.ensures.1;
      names =
          names-more a talks i t inside is c.loop-talk.names.items c.push_if.new.names.items d.is_back
          (decided-here a d t c.in_ok-decided.ensures.0 c.in_ok-decided.ensures.1) c.loop-talk.invariant.names
          c.in_ok-push_if.ensures;
    }

pub returns : goal.returns
returns c =
    let a = c.args.accepted.now in
    subst (λ (ts : List Talk). (name : ℕ) → Contains c.loop-talk.names.items name ↔ HasBack a ts name)
    (take_all c.loop-talk.talk-index c.args.talks.now (omega arith)) c.loop-talk.invariant.names
