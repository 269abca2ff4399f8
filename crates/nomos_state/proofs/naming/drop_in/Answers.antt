use Rattle.std.proofs.Common.{◌∙◌, None, ap}
use Rattle.std.proofs.lemmas.Option.{MatchOption-at_none, MatchOption-at_some}
use Rattle.nomos_slots.specs.Numbers.{numbers}
use Rattle.nomos_slots.proofs.NumberLaws.{numbers-put_at}
use Rattle.nomos_state.specs.Indexed.{held_now}
use Rattle.nomos_state.specs.Objects.{types_of}
use Rattle.nomos_state.proofs.TidyLemmas.{holding-named, types-absent, types-dropped}
use Rattle.nomos_state.proofs.naming.drop_in.Goals as goal

pub returns-in_default-clause-types : goal.returns-in_default-clause-types
returns-in_default-clause-types c =
    types-absent c.args.name c.args.contents.now.names.now (MatchOption-at_none _ _ c.in_default.is c.place_of.ensures)

pub returns-clause-holding : goal.returns-clause-holding
returns-clause-holding c =
    let h = held_now c.args.contents.now in
    holding-named h c.put.new.self.now c.requires.holding
    (ap numbers c.put.ensures.now ∙ numbers-put_at h.names c.in-Some.place None)

pub returns-clause-types : goal.returns-clause-types
returns-clause-types c =
    let names = c.args.contents.now.names.now in
    ap types_of c.put.ensures.now
    ∙ types-dropped c.args.name names c.in-Some.place c.requires.holding.names_ascending
    (MatchOption-at_some _ _ c.in-Some.place c.in-Some.is c.place_of.ensures)
