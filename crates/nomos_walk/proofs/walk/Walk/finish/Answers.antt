use Rattle.std.proofs.Common.{◌≡◌, ◌∙◌, ℕ, ◌+◌, ◌<◌, ◌^◌, [], ap, arith, length, refl, subst, sym}
use Rattle.nomos_types.specs.Acceptance.{Acceptance}
use Rattle.nomos_script.specs.declared.item.Batch.{Batch}
use Rattle.nomos_legal.specs.Ending.{IsAllowed}
use Rattle.nomos_legal.specs.Leaving.{left_by}
use Rattle.nomos_legal.specs.Legal.{batch_limit}
use Rattle.nomos_legal.specs.StandsFor.{StandsFor, WorldStandsFor}
use Rattle.nomos_legal.specs.declared.journal.End.{End}
use Rattle.nomos_legal.specs.declared.journal.Entry.{Entry}
use Rattle.nomos_walk.proofs.MoreLaws.{walk-finished}
use Rattle.nomos_walk.specs.WalkState.{WalkState}
use Rattle.nomos_walk.proofs.walk.Walk.finish.Goals as goal

-- a batch at the line
abbrev at_line : ℕ → Batch
at_line line = record { line = line; starts = [] }

pub settle-ledger-requires : goal.settle-ledger-requires
settle-ledger-requires g c =
    let made = ap (λ (x : WalkState). x.made) (c.in_ok-entry.ensures.walk (at_line c.args.under.outset.line) refl) in
    omega (arith, made, c.requires.few)

pub returns-clause-ledger : goal.returns-clause-ledger
returns-clause-ledger g c =
    c.settle-ledger.ensures.ledger
    ∙ ap (λ (e : Entry). left_by e.end c.args.under.world) c.in_ok-entry.ensures.entry

pub returns-clause-walk : goal.returns-clause-walk
returns-clause-walk g c = λ batch same.
    walk-finished c.args.self.now c.written.new.self c.settle-ledger.new.self batch c.args.under.world c.args.end
    (c.in_ok-entry.ensures.walk batch same) c.settle-ledger.ensures.walk

pub returns-clause-stands : goal.returns-clause-stands
returns-clause-stands g c =
    let before : WalkState = c.args.self.now in
    let w = c.args.under.world in
    let program = ap (λ (x : WalkState). x.accepted)
    (c.in_ok-entry.ensures.walk (at_line c.args.under.outset.line) refl)
    in
    let ended = ap (λ (e : Entry). e.end) c.in_ok-entry.ensures.entry in
    let allowed : IsAllowed c.written.new.self.accepted w.state (length w.firings)
    (batch_limit before.limit before.made) c.in_ok-entry.entry.end =
    subst
    (λ (a : Acceptance). IsAllowed a w.state (length w.firings) (batch_limit before.limit before.made)
    c.in_ok-entry.entry.end) (sym program)
    (subst (λ (e : End). IsAllowed before.accepted w.state (length w.firings) (batch_limit before.limit before.made) e)
    (sym ended) c.requires.allowed)
    in
    subst (λ (a : Acceptance). StandsFor a c.settle-ledger.result) program
    (c.settle-ledger.ensures.stands (batch_limit before.limit before.made)
    (subst (λ (a : Acceptance). WorldStandsFor a w) (sym program) c.requires.stands) allowed)
