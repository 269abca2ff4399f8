-- The label that is said is the one that the line names.
use Rattle.std.proofs.Common.{◌≡◌, ◌∙◌, ℕ, Bool, [], ◌∷◌, sym, subst, ap}
use Rattle.std.specs.Prelude.{IfOk}
use Rattle.std.specs.List.{position_or_len}
use Rattle.std.specs.Str.{bytes_eq}
use Rattle.nomos_machine.specs.declared.object.Said.TheVariants as said
use Rattle.nomos_monitor.specs.TalkCourse.{PartyTurn, speaks}
use Rattle.nomos_visit.specs.TalkText.{turn_of}
use Rattle.nomos_visit.specs.mirror.Holding.{HasTaken}
use Rattle.nomos_visit.proofs.held.HeldTalk.take_turn.Goals as goal

pub returns-in_ok-label-in-Label-clause-taken : goal.returns-in_ok-label-in-Label-clause-taken
returns-in_ok-label-in-Label-clause-taken g c =
    let lists = c.args.self.now.talk.a.program in
    let number : c.in_ok-label-in-Label.field-0.0 ≡ position_or_len (λ l. bytes_eq l c.in-Label.name) lists.labels =
    c.in_ok-label-in-Label.ensures
    ∙ (λ i. position_or_len (λ l. bytes_eq l (c.as_bytes.ensures.bytes i)) (c.requires.labels i)) in
    let turn : speaks (said.Label c.in_ok-label-in-Label.field-0) ≡ turn_of lists c.args.line.now =
    ap (λ (n : ℕ). speaks (said.Label (record { 0 = n }))) number ∙ sym (ap (turn_of lists) c.in-Label.is) in
    subst (λ (t : PartyTurn). IfOk c.speak-in-Label.result (λ (more : Bool). HasTaken (c.args.number ∷ []) (t ∷ [])
    c.args.self.now more c.speak-in-Label.new.self)) turn c.speak-in-Label.ensures.taken
