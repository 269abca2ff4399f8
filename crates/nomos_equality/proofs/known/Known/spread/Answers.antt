use Rattle.nomos_equality.proofs.KnownLemmas.{spread-all}
use Rattle.nomos_equality.proofs.VisitLemmas.{ok-map, ok-both}
use Rattle.nomos_equality.proofs.known.Known.spread.Goals as goal

pub returns-clause-spreads : goal.returns-clause-spreads
returns-clause-spreads c =
    ok-map c.follow_labels.result
    (λ last.
    (spread-all c.args.program.now c.args.left c.args.right c.args.self.now c.note.new.self c.follow.new.self
    c.follow-2.new.self c.follow_labels.new.self c.in_ok-note.ensures.spreads c.in_ok-note.ensures.paid
    c.in_ok-follow.ensures.spreads c.in_ok-follow.ensures.follows c.in_ok-follow-2.ensures.spreads
    c.in_ok-follow-2.ensures.follows last.0 last.1).0)
    (ok-both _ _ c.follow_labels.result c.follow_labels.ensures.spreads c.follow_labels.ensures.follows)

pub returns-clause-all : goal.returns-clause-all
returns-clause-all c =
    ok-map c.follow_labels.result
    (λ last.
    (spread-all c.args.program.now c.args.left c.args.right c.args.self.now c.note.new.self c.follow.new.self
    c.follow-2.new.self c.follow_labels.new.self c.in_ok-note.ensures.spreads c.in_ok-note.ensures.paid
    c.in_ok-follow.ensures.spreads c.in_ok-follow.ensures.follows c.in_ok-follow-2.ensures.spreads
    c.in_ok-follow-2.ensures.follows last.0 last.1).1)
    (ok-both _ _ c.follow_labels.result c.follow_labels.ensures.spreads c.follow_labels.ensures.follows)
