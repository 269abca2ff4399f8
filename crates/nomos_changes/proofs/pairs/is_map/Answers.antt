-- One pair is a map; one more before a map, with a lower variable, makes a longer one.
use Rattle.std.proofs.Common.{◌≡◌, ◌<◌, ◌-◌, ℕ, drop, ap, subst, arith}
use Rattle.nomos_ir.specs.Bindings.{bindings_of}
use Rattle.nomos_ir.specs.declared.ids.VarId.{VarId}
use Rattle.nomos_changes.proofs.AscentLemmas.{map-alone, map-from}
use Rattle.nomos_changes.proofs.pairs.is_map.Goals as goal

pub loop-at-init : goal.loop-at-init
loop-at-init g c = record {
  within = omega arith;
  map = map-alone c.args.pairs.now _ (omega arith);
}

pub loop-at-preserved : goal.loop-at-preserved
loop-at-preserved g c =
    let low = c.index-pairs-at-in-loop-at.result in
    let high = c.index-pairs-at.result in
    let low_there = ap (λ (e : VarId × g.row.X.Denot). e.0.0) c.index-pairs-at-in-loop-at.is in
    let high_there = ap (λ (e : VarId × g.row.X.Denot). e.0.0) c.index-pairs-at.is in
    let lower : low.0.0 < high.0.0 = omega (arith, low_there, high_there, c.if-pairs-at.false) in
    record {
      within = omega arith;
      map =
          map-from c.args.pairs.now (c.loop-at.at - 1) (c.loop-at.at - 1 - 1) low high (omega arith) (omega arith)
          c.index-pairs-at-in-loop-at.is c.index-pairs-at.is lower c.loop-at.invariant.map;
    }

pub returns : goal.returns
returns g c =
    λ is.
    (let P : ℕ → Type 0 = λ n. bindings_of (drop n c.args.pairs.now) ≡ drop n c.args.pairs.now in
    let none : c.loop-at.at - 1 ≡ 0 = omega arith in
    subst P none c.loop-at.invariant.map)
