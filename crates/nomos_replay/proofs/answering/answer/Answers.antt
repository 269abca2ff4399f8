use Rattle.std.proofs.Common.{[], ℕ, List, subst, arith}
use Rattle.std.proofs.lemmas.Result.{err_from_is_err_and}
use Rattle.nomos_replay.specs.Answers as answers
use Rattle.nomos_replay.specs.Stand.{at_head, before}
use Rattle.nomos_replay.specs.Told.{nothing_told}
use Rattle.nomos_replay.specs.mirror.JournalReading.{Carries, Stops}
use Rattle.nomos_replay.proofs.ReadingLemmas.{carries-on, stops-later}
use Rattle.nomos_replay.proofs.WalkLemmas.{answer-all, refused-so}
use Rattle.nomos_replay.proofs.answering.answer.Goals as goal

pub returns-then-bytes-gt-MAX_BYTES : goal.returns-then-bytes-gt-MAX_BYTES
returns-then-bytes-gt-MAX_BYTES g c = answers.too_long (omega arith)

pub returns-in_err-version : goal.returns-in_err-version
returns-in_err-version g c =
    let a = c.args.accepted.now in
    let first = c.args.from in
    let items = c.args.asked.script.now in
    let p = err_from_is_err_and c.from_residual.result c.from_residual.ensures.1 in
    rw (p.1, p.2)
    (refused-so a first items c.args.bytes.now (omega arith) c.in_err-version.field-0.0
    (subst (λ (t : List ℕ). Stops a first items (record { lines = t; at = 0 }) at_head c.in_err-version.field-0.0)
    c.new.ensures (c.in_err-version.ensures.read first items)))

pub returns-in_err-limit : goal.returns-in_err-limit
returns-in_err-limit g c =
    let a = c.args.accepted.now in
    let first = c.args.from in
    let items = c.args.asked.script.now in
    let p = err_from_is_err_and c.from_residual-in_err-limit.result c.from_residual-in_err-limit.ensures.1 in
    let stops = stops-later a first items (c.in_ok-version.ensures.read first items) c.in_err-limit.field-0.0
    (c.in_err-limit.ensures.read first items c.in_ok-version.version) in
    rw (p.1, p.2)
    (refused-so a first items c.args.bytes.now (omega arith) c.in_err-limit.field-0.0
    (subst (λ (t : List ℕ). Stops a first items (record { lines = t; at = 0 }) at_head c.in_err-limit.field-0.0)
    c.new.ensures stops))

pub replay_all-requires-clause-limit : goal.replay_all-requires-clause-limit
replay_all-requires-clause-limit g c = (c.in_ok-limit.ensures.read c.args.from [] c.in_ok-version.version).0

pub returns : goal.returns
returns g c =
    let a = c.args.accepted.now in
    let first = c.args.from in
    let items = c.args.asked.script.now in
    let v = c.in_ok-version.version in
    let carries = subst
    (λ (t : List ℕ). Carries a first items (record { lines = t; at = 0 }) at_head c.read_limit.new.source
    (before v (nothing_told first c.in_ok-limit.limit) items))
    c.new.ensures
    (carries-on a first items (c.in_ok-version.ensures.read first items)
    (c.in_ok-limit.ensures.read first items v).1) in
    answer-all a first items c.args.bytes.now (omega arith) v c.in_ok-limit.limit c.args.asked.wanted
    c.read_limit.new.source carries c.replay_all.result c.replay_all.ensures
