use Rattle.std.proofs.Common.{◌≡◌, ◌-◌, ℕ, ◌∙◌, ◌++◌, ◌∷◌, [], List, take, Contains, refl, sym, subst, ap}
use Rattle.std.proofs.lemmas.List.Elements.{Contains-push}
use Rattle.std.proofs.lemmas.Result.{on_ok_weaker}
use Rattle.nomos_ir.specs.Amounts.{star_count}
use Rattle.nomos_check.specs.declared.standing.Forks.{Forks}
use Rattle.nomos_check.specs.declared.standing.WayOn.{WayOn}
use Rattle.nomos_check.specs.mirror.Walking.{Goes}
use Rattle.nomos_check.proofs.WalkingLemmas.{walks-none, walks-way, way-light, way-room, way-on_way}
use Rattle.nomos_check.proofs.going.take_way.Goals as goal

pub returns-in-None-clause-walks : goal.returns-in-None-clause-walks
returns-in-None-clause-walks c =
    let ways = c.args.forks.ways.items in
    let e = c.in-None.ensures in
    let none : ways ≡ [] =
    e.items ∙ ap (λ (l : List WayOn). l ++ []) (e.rest ∙ ap (λ (n : ℕ). take (n - 1) ways) e.cases.0)
    in
    walks-none c.args.program.now (star_count c.args.program.now) c.args.forks c.args.walk.now.todo c.args.walk.now none

pub along-requires : goal.along-requires
along-requires c =
    let f = c.args.forks in
    let way = c.in-Some.way in
    let all : f.ways.items ≡ c.pop.new.self.items ++ way ∷ [] = c.in-Some.ensures.items in
    way-room f c.args.walk.now.todo c.args.walk.now c.requires.formed c.requires.walk way
    (subst (λ (l : List WayOn). Contains l way) (sym all) (Contains-push c.pop.new.self.items way))

pub go_along-requires-clause-on_way : goal.go_along-requires-clause-on_way
go_along-requires-clause-on_way c =
    let f = c.args.forks in
    let rest : Forks = record { before = f.before; ways = c.pop.new.self } in
    way-on_way f c.args.walk.now.todo c.args.walk.now c.requires.formed c.requires.walk rest refl c.in-Some.way
    c.in-Some.ensures.items c.in_ok-branch.branch c.in_ok-branch.ensures

pub returns-clause-walks : goal.returns-clause-walks
returns-clause-walks c =
    let lists = c.args.program.now in
    let n = star_count lists in
    let f = c.args.forks in
    let todo = c.args.walk.now.todo in
    let w = c.args.walk.now in
    let s = c.in_ok-branch.branch in
    let new = c.go_along.new.walk in
    let rest : Forks = record { before = f.before; ways = c.pop.new.self } in
    let From : List Forks → Type 0 = λ l. Goes lists n s (record w { todo = l }) new in
    on_ok_weaker c.go_along.result
    (λ (goes : From c.push.new.self).
    walks-way lists n f todo w rest refl c.in-Some.way c.in-Some.ensures.items s c.in_ok-branch.ensures new
    (subst From c.in_ok-push.ensures goes))
    c.go_along.ensures.goes

pub returns-clause-light : goal.returns-clause-light
returns-clause-light c =
    let lists = c.args.program.now in
    let n = star_count lists in
    let f = c.args.forks in
    let todo = c.args.walk.now.todo in
    let w = c.args.walk.now in
    let s = c.in_ok-branch.branch in
    let new = c.go_along.new.walk in
    let rest : Forks = record { before = f.before; ways = c.pop.new.self } in
    let From : List Forks → Type 0 = λ l. Goes lists n s (record w { todo = l }) new in
    on_ok_weaker c.go_along.result
    (λ (goes : From c.push.new.self).
    way-light lists n f todo w rest refl c.in-Some.way c.in-Some.ensures.items s c.in_ok-branch.ensures new
    (subst From c.in_ok-push.ensures goes))
    c.go_along.ensures.goes
