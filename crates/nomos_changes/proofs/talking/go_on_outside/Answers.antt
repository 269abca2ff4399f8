use Rattle.std.proofs.Common.{◌∙◌, ℕ, List, Option, ap, sym}
use Rattle.nomos_machine.specs.Hearing.{heard_names}
use Rattle.nomos_changes.proofs.HearingLemmas.{gone-inside}
use Rattle.nomos_changes.proofs.talking.go_on_outside.Goals as goal

pub returns-in-None-clause-state : goal.returns-in-None-clause-state
returns-in-None-clause-state g c =
    let s = g.P.Sight.state c.args.parts.now in
    c.take_outside.ensures.state
    ∙ ap (λ (names : List ℕ). record s { outside = names })
    (sym (gone-inside c.args.name s.outside c.requires.alone)
    ∙ ap (λ (next : Option ℕ). heard_names c.args.name next s.outside) (sym c.in-None.is))
