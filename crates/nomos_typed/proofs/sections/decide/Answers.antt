use Rattle.std.proofs.Common.{Option, IfSome, refl, subst}
use Rattle.nomos_typed.specs.declared.sections.Decided.{Decided}
use Rattle.nomos_typed.specs.mirror.TypedTalks.{IsDecided}
use Rattle.nomos_typed.proofs.TalkLemmas.{back-alike}
use Rattle.nomos_typed.proofs.sections.decide.Goals as goal

pub returns-then-are_alike : goal.returns-then-are_alike
returns-then-are_alike c =
    let a = c.args.accepted.now in
    let d = c.in-Some.decided in
    let is = subst (λ (o : Option Decided). IfSome o (IsDecided a)) c.in-Some.is c.requires.last in
    (refl, back-alike a d.talk c.args.talk d.is_back (c.are_alike.ensures.0 c.if-are_alike.true) is)
