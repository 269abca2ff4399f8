use Rattle.std.proofs.Common.{◌≡◌, []}
use Rattle.std.proofs.lemmas.Result.{on_ok_weaker}
use Rattle.nomos_ir.specs.Amounts.{star_count}
use Rattle.nomos_check.proofs.ConcludingLemmas.{declared-there, start-on_way, start-walking, start-walk, all-gathered}
use Rattle.nomos_check.proofs.WithinLemmas.{start-within}
use Rattle.nomos_check.specs.Reaching.{outset_of}
use Rattle.nomos_check.specs.mirror.ProcessAnswers.{GathersAll}
use Rattle.nomos_check.specs.mirror.Walking.{WalksOn}
use Rattle.nomos_check.proofs.checking.gather.Goals as goal

pub go_along-requires-clause-on_way : goal.go_along-requires-clause-on_way
go_along-requires-clause-on_way c =
    let lists = c.args.program.now in
    let (d, found) = declared-there lists.procs c.args.p.0 c.requires.p in
    start-on_way (outset_of lists d) (start-within c.args.p.0 c.requires.formed found) c.in_ok-first.first
    (c.in_ok-first.ensures d found) c.args.walk.now c.requires.fresh

pub go_all-requires-clause-walk : goal.go_all-requires-clause-walk
go_all-requires-clause-walk c =
    let lists = c.args.program.now in
    let (d, found) = declared-there lists.procs c.args.p.0 c.requires.p in
    start-walk (outset_of lists d) (start-within c.args.p.0 c.requires.formed found) c.in_ok-first.first
    (c.in_ok-first.ensures d found) c.args.walk.now c.requires.fresh c.go_along.new.walk c.in_ok-go_along.ensures.goes

pub returns-clause-gathers : goal.returns-clause-gathers
returns-clause-gathers c =
    let lists = c.args.program.now in
    let n = star_count lists in
    let p = c.args.p.0 in
    let old = c.args.walk.now in
    let between = c.go_along.new.walk in
    let new = c.go_all.new.walk in
    let s = c.in_ok-first.first in
    on_ok_weaker {P = WalksOn lists n between.todo between [] new} {Q = GathersAll lists c.args.p old new}
    c.go_all.result
    (λ walks d found.
    let is = c.in_ok-first.ensures d found in
    let o = outset_of lists d in
    let within = start-within p c.requires.formed found in
    let begun = start-walking o within s is old c.requires.fresh between c.in_ok-go_along.ensures.goes in
    all-gathered o within s is old c.requires.fresh new (walks o old begun))
    c.go_all.ensures.walks

pub returns-clause-kept : goal.returns-clause-kept
returns-clause-kept c = λ known front. c.go_all.ensures.kept known (c.go_along.ensures.kept known front)

pub returns-clause-wanted : goal.returns-clause-wanted
returns-clause-wanted c =
    let lists = c.args.program.now in
    let n = star_count lists in
    let p = c.args.p.0 in
    let old = c.args.walk.now in
    let between = c.go_along.new.walk in
    let new = c.go_all.new.walk in
    let s = c.in_ok-first.first in
    let (d, found) = declared-there lists.procs p c.requires.p in
    let within = start-within p c.requires.formed found in
    let begun =
    start-walking (outset_of lists d) within s (c.in_ok-first.ensures d found) old c.requires.fresh between
    c.in_ok-go_along.ensures.goes in
    on_ok_weaker {P = WalksOn lists n between.todo between [] new} {Q = new.wanted.now ≡ old.wanted.now}
    c.go_all.result (λ walks. (walks (outset_of lists d) old begun).grows.places.wanted) c.go_all.ensures.walks
