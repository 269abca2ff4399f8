use Rattle.nomos_state.proofs.KeepLemmas.{marked-kept, named-tallied}
use Rattle.nomos_state.proofs.tallied.Tallied.come_name.Goals as goal

pub invariant_of-self : goal.invariant_of-self
invariant_of-self c =
    let t = c.self.inside in
    let came = c.come.ensures in
    record {
      now =
          named-tallied t.tallies c.come.new.self t.inside.state c.come_name.new.self.state c.args.t
          c.fresh_name-name.result
          c.self.invariant.now c.come_name.ensures.state c.fresh_name-name.ensures came.order came.above came.exact
          came.counts came.suspects came.suspect;
      marked =
          marked-kept t.was_exact t.was_lost _ _ _ _ c.self.invariant.marked came.marked c.come_name.ensures.marked;
    }
