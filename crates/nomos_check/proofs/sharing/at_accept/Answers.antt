use Rattle.std.proofs.Common.{refl}
use Rattle.nomos_ir.specs.declared.code_node.CodeNode.TheVariants as code
use Rattle.nomos_ir.specs.declared.mode.Mode.TheVariants as mode
use Rattle.nomos_types.specs.TypingRule as row
use Rattle.nomos_check.specs.mirror.StandingData.{shape_of}
use Rattle.nomos_check.proofs.LeadLemmas.{leads-on, not-true}
use Rattle.nomos_check.proofs.StepRows.{accept-stuck}
use Rattle.nomos_check.proofs.sharing.at_accept.Goals as goal

pub returns-then-not-is_mode : goal.returns-then-not-is_mode
returns-then-not-is_mode c =
    accept-stuck c.requires.stands.1 (λ t says. not-true c.if-not-is_mode.true (c.is_mode.ensures.1 says.mode))

pub returns-in-Some : goal.returns-in-Some
returns-in-Some c =
    let s = c.args.now.now in
    let t = c.in-Some.t in
    leads-on s (record s { mode = mode.L; offers = t; code = c.args.next })
    (record (shape_of s) { mode = mode.L; offers = t; code = c.args.next })
    (code.Accept c.requires.stands.0 c.args.next)
    c.requires.stands.1 (λ a. refl)
    (row.accept c.requires.stands.1 t
    (record { mode = c.is_mode.ensures.0 c.if-not-is_mode.false; channel = c.in-Some.ensures }))
    refl (record { lists = refl; potential = refl })

pub returns-in-None : goal.returns-in-None
returns-in-None c = accept-stuck c.requires.stands.1 (λ t says. c.in-None.ensures t says.channel)
