use Rattle.std.proofs.Common.{◌≡◌, ℕ, Option, Some, None, MatchOption, refl, sym, subst, arith}
use Rattle.std.proofs.lemmas.Grind.{common_steps}
use Rattle.nomos_machine.specs.Run.{IsNextReady, NoneReady}
use Rattle.nomos_ready.proofs.SeekLemmas.{reach-covers, seek-next}
use Rattle.nomos_ready.proofs.seeking.next_ready.Goals as goal

pub returns-in_err-pid-clause-next : goal.returns-in_err-pid-clause-next
returns-in_err-pid-clause-next g c =
    let known = c.if-not-knows_over.ensures in
    let found = c.seek.ensures in
    let a = c.args.accepted.now in
    let s = g.M.Sight.state c.args.machine.now in
    let answer : c.from_residual.result ≡ None = grind (arith, common_steps) in
    subst (λ (o : Option ℕ). MatchOption o (NoneReady a s c.args.after) (IsNextReady a s c.args.after)) (sym answer)
    (seek-next c.know.ensures.accepted c.requires.typed c.args.awake.now c.seek.new.awake found.covers
    c.args.after (known.known refl) (known.from refl) found.lost found.sought None c.in_err-pid.ensures.found)

pub returns-clause-covers : goal.returns-clause-covers
returns-clause-covers g c =
    let known = c.if-not-knows_over.ensures in
    let found = c.seek.ensures in
    let clauses = c.reach.ensures in
    reach-covers c.know.ensures.accepted c.requires.typed c.args.awake.now c.seek.new.awake found.covers
    c.args.after (known.known refl) (known.from refl) found.lost found.sought c.reach.new.self c.in_ok-pid.pid
    c.in_ok-pid.ensures.found clauses.sought clauses.ready clauses.same clauses.followed

pub returns-clause-next : goal.returns-clause-next
returns-clause-next g c =
    let known = c.if-not-knows_over.ensures in
    let found = c.seek.ensures in
    seek-next c.know.ensures.accepted c.requires.typed c.args.awake.now c.seek.new.awake found.covers
    c.args.after (known.known refl) (known.from refl) found.lost found.sought (Some c.in_ok-pid.pid)
    c.in_ok-pid.ensures.found

pub reach-requires : goal.reach-requires
reach-requires g c = c.in_ok-pid.ensures.found.3
