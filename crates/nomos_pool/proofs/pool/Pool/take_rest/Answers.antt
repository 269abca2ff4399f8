use Rattle.std.proofs.Common.{◌≡◌, ◌∙◌, ◌+◌, [], ◌++◌, ◌∷◌, length, sym, refl, ap, arith, append_assoc, append-nil, length-append}
use Rattle.crossbeam_queue.specs.Passes.{view}
use Rattle.nomos_pool.proofs.CountLaws.{all-gone, rest-there}
use Rattle.nomos_pool.proofs.PoolMoves.{learns, takes}
use Rattle.nomos_pool.proofs.pool.Pool.take_rest.Goals as goal

pub len_as-count-requires-clause-rule : goal.len_as-count-requires-clause-rule
len_as-count-requires-clause-rule g c = learns _ _ c.requires.taker.takes c.requires.all

pub loop-init : goal.loop-init
loop-init g c =
    let q = c.len_as-count.ensures.queue in
    let t = c.requires.taker in
    record {
      alone = record {
        of_queue = (q.0.0 ∙ t.of_queue.0, q.0.2 ∙ t.of_queue.1);
        takes = ap (λ v. v.takes) q.1 ∙ t.takes;
        quiet = ap (λ v. v.sends) q.1 ∙ t.quiet;
      };
      known = refl;
      made = refl;
      taken = sym (ap (λ l. (view c.len_as-count.new.pass).taken ++ l) c.requires.empty.0
          ∙ append-nil (view c.len_as-count.new.pass).taken);
      many = c.requires.empty.1;
      length = ap length c.requires.empty.0;
      space = (let a = c.len_as-count.ensures.rule.0 in let b = c.requires.free in omega (arith, a, b));
    }

pub pop_as-requires-clause-queue : goal.pop_as-requires-clause-queue
pop_as-requires-clause-queue g c = c.loop.invariant.alone.of_queue

pub pop_as-requires-clause-rule : goal.pop_as-requires-clause-rule
pop_as-requires-clause-rule g c =
    let i = c.loop.invariant in
    let v = c.len_as-count.ensures.queue.1 in (
      takes _ _ i.alone.takes,
      learns _ _ i.alone.takes
          (ap length (i.known ∙ ap (λ w. w.known) v) ∙ (c.requires.all ∙ sym (i.made ∙ ap (λ w. w.made) v))),
    )

pub push_reserved-requires : goal.push_reserved-requires
push_reserved-requires g c =
    let i = c.loop.invariant in omega (arith, i.many, i.space, c.loop-test.true)

pub returns-in-None : goal.returns-in-None
returns-in-None g c =
    let i = c.loop.invariant in
    let v = c.len_as-count.ensures.queue.1 in
    let held = c.in-None.ensures.rule.1 in
    record {
      rest = rest-there (view c.loop.pass) (view c.args.pass.now) c.loop.room.items held.0
          (i.taken ∙ ap (λ w. w.taken ++ c.loop.room.items) v) (i.known ∙ ap (λ w. w.known) v) held.1 held.2;
    }

pub loop-preserved : goal.loop-preserved
loop-preserved g c =
    let i = c.loop.invariant in
    let q = c.in-Some.ensures.queue in
    let is = c.in-Some.ensures.rule in
    let p = c.push_reserved.ensures in
    record {
      alone = record {
        of_queue = (q.0 ∙ i.alone.of_queue.0, q.2 ∙ i.alone.of_queue.1);
        takes = ap (λ v. v.takes) is ∙ i.alone.takes;
        quiet = ap (λ v. v.sends) is ∙ i.alone.quiet;
      };
      known = ap (λ v. v.known) is ∙ i.known;
      made = ap (λ v. v.made) is ∙ i.made;
      taken =
          ap (λ v. v.taken) is
          ∙ (ap (λ l. l ++ c.in-Some.item ∷ []) i.taken
          ∙ (append_assoc (view c.len_as-count.new.pass).taken c.loop.room.items (c.in-Some.item ∷ [])
          ∙ ap (λ l. (view c.len_as-count.new.pass).taken ++ l) (sym p.items)));
      many = omega (arith, p.len, i.many);
      length = ap length p.items ∙ (length-append c.loop.room.items (c.in-Some.item ∷ []) ∙ ap (λ n. n + 1) i.length);
      space = omega (arith, p.capacity, i.space);
    }

pub learn_as-requires-clause-queue : goal.learn_as-requires-clause-queue
learn_as-requires-clause-queue g c = c.loop.invariant.alone.of_queue

pub learn_as-requires-clause-rule : goal.learn_as-requires-clause-rule
learn_as-requires-clause-rule g c =
    let i = c.loop.invariant in
    let v = c.len_as-count.ensures.queue.1 in
    learns _ _ i.alone.takes
    (ap length (i.known ∙ ap (λ w. w.known) v) ∙ (c.requires.all ∙ sym (i.made ∙ ap (λ w. w.made) v)))

pub returns : goal.returns
returns g c =
    let i = c.loop.invariant in
    let v = c.len_as-count.ensures.queue.1 in
    let counted = c.len_as-count.ensures.rule.1 in
    let told = c.learn_as.ensures.rule in
    let taken = i.taken ∙ ap (λ w. w.taken ++ c.loop.room.items) v in
    let known = i.known ∙ ap (λ w. w.known) v in
    let as_many : length counted.0 ≡ length c.loop.room.items =
    omega (arith, counted.1, i.length, c.loop.auto, c.loop-test.false) in
    record {
      rest = rest-there (view c.loop.pass) (view c.args.pass.now) c.loop.room.items told.0 taken known
          (all-gone (view c.loop.pass) (view c.args.pass.now) c.loop.room.items counted.0 told.0 taken known counted.2
          as_many told.1) told.1;
    }
