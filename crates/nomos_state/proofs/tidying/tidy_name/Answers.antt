use Rattle.std.proofs.Common.{◌∙◌, true, refl, sym, ap, subst}
use Rattle.std.proofs.lemmas.Bool.{false≢true}
use Rattle.nomos_machine.specs.Change.{tidied}
use Rattle.nomos_state.specs.Suspecting.{Suspicion}
use Rattle.nomos_state.specs.Tallied.{SayRight}
use Rattle.nomos_state.proofs.TalliedTidyLemmas.{dropped-tidied, idle-unmentioned, suspect-cleared, suspect-dropped}
use Rattle.nomos_state.proofs.tidying.tidy_name.Goals as goal

pub returns-then-is_idle-clause-tallies : goal.returns-then-is_idle-clause-tallies
returns-then-is_idle-clause-tallies c =
    let t = c.args.tallies.now in
    let after = c.leave.new.self.names.now in
    let s = c.drop_name.new.self.state in
    subst (λ (u : Suspicion). SayRight true u after s) (sym c.leave.ensures.suspects)
    (suspect-dropped t.names.now t.suspects c.args.name c.args.inside.now.state c.requires.tallies after s
    c.drop_name.ensures.state c.leave.ensures.order c.leave.ensures.counts)

pub returns-then-is_idle-clause-state : goal.returns-then-is_idle-clause-state
returns-then-is_idle-clause-state c =
    let s = c.args.inside.now.state in
    ap tidied c.drop_name.ensures.state
    ∙ dropped-tidied s c.args.name
    (idle-unmentioned c.args.tallies.now.names.now s.objects (c.requires.tallies.right refl) c.args.name
    (c.is_idle.ensures.0 c.if-is_idle.true))

pub returns-else-is_idle-clause-tallies : goal.returns-else-is_idle-clause-tallies
returns-else-is_idle-clause-tallies c =
    let t = c.args.tallies.now in
    suspect-cleared t.names.now t.suspects c.args.name c.args.inside.now.state c.requires.tallies
    (λ idle. false≢true (sym c.if-is_idle.false ∙ c.is_idle.ensures.1 idle))
