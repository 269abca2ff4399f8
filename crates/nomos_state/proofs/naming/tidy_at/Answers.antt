use Rattle.std.proofs.Common.{◌≡◌, ◌∙◌, None, false, sym, ap}
use Rattle.nomos_machine.specs.Change.{is_mentioned}
use Rattle.nomos_slots.specs.Numbers.{numbers}
use Rattle.nomos_slots.proofs.NumberLaws.{numbers-put_at}
use Rattle.nomos_state.specs.Indexed.{held_now, state_of}
use Rattle.nomos_state.proofs.TidyLemmas.{holding-named, tidied-gap, tidied-kept, tidied-put}
use Rattle.nomos_state.proofs.naming.tidy_at.Goals.{else-is_some-via-then-is_some+else-not-is_mentioned, else-is_some-via-else-is_some}
use Rattle.nomos_state.proofs.naming.tidy_at.Goals as goal

pub returns-then-not-is_mentioned-clause-holding : goal.returns-then-not-is_mentioned-clause-holding
returns-then-not-is_mentioned-clause-holding c =
    let h = held_now c.args.contents.now in
    holding-named h c.put.new.self.now c.requires.holding
    (ap numbers c.put.ensures.now ∙ numbers-put_at h.names c.args.place None)

pub returns-then-not-is_mentioned-clause-names : goal.returns-then-not-is_mentioned-clause-names
returns-then-not-is_mentioned-clause-names c =
    let h = held_now c.args.contents.now in
    let not : is_mentioned (state_of h).objects c.in-Some.slot.number ≡ false =
    sym c.is_mentioned.ensures ∙ c.if-not-is_mentioned.true
    in
    c.put.ensures.now
    ∙ tidied-put (state_of h).objects h.names c.args.place c.in-Some.slot (sym c.in-Some.ensures) not

pub returns-else-is_some-clause-names : goal.returns-else-is_some-clause-names
returns-else-is_some-clause-names c =
    let h = held_now c.args.contents.now in
    elim c.else-is_some.branch [
      | else-is_some-via-then-is_some+else-not-is_mentioned w ↦
          tidied-kept (state_of h).objects h.names c.args.place c.in-Some.slot (sym c.in-Some.ensures)
          (sym w.is_mentioned.ensures ∙ w.if-not-is_mentioned.false)
      | else-is_some-via-else-is_some w ↦
          tidied-gap (state_of h).objects h.names c.args.place c.in-Some.slot (sym c.in-Some.ensures)
          (sym c.is_some.ensures ∙ w.if-is_some.false)
    ]
