use Rattle.std.proofs.Common.{◌≡◌, [], refl, arith}
use Rattle.nomos_equality.proofs.KnownLemmas.{no-length, gathering-begins, gathering-ends, gathering-goes, taken-nodes}
use Rattle.nomos_equality.proofs.known.Known.gather_all.Goals as goal

pub loop-init : goal.loop-init
loop-init c =
    gathering-begins c.args.program.now c.args.left c.args.right c.args.self.now c.meet.new.self c.requires.todo
    c.in_ok-meet.ensures.meets

pub returns-in_default-clause-gathered : goal.returns-in_default-clause-gathered
returns-in_default-clause-gathered c =
    let empty : c.loop.self.todo.items ≡ [] =
    no-length c.loop.self.todo.items (omega (arith, c.loop.self.todo.ok.0, c.in_default.ensures.cases.0)) in
    let g = gathering-ends c.args.program.now c.args.left c.args.right c.args.self.now c.loop.self c.requires.shapes
    c.loop.invariant empty in
    record {
      met = g.met;
      pairs = g.pairs;
      amounts = g.amounts;
      once = g.once;
      pairs_front = g.pairs_front;
      amounts_front = g.amounts_front;
    }

pub spread-requires-clause-nodes : goal.spread-requires-clause-nodes
spread-requires-clause-nodes c =
    taken-nodes c.args.program.now c.args.left c.args.right c.args.self.now c.loop.self
    (record c.loop.self { todo = c.pop.new.self }) c.in-Some.own c.in-Some.other c.loop.invariant
    c.in-Some.ensures.items

pub loop-preserved : goal.loop-preserved
loop-preserved c =
    gathering-goes c.args.program.now c.args.left c.args.right c.args.self.now c.loop.self
    (record c.loop.self { todo = c.pop.new.self }) c.in-Some.own c.in-Some.other c.loop.invariant
    c.in-Some.ensures.items
    c.spread.new.self refl refl c.in_ok-spread.ensures.spreads c.in_ok-spread.ensures.all
