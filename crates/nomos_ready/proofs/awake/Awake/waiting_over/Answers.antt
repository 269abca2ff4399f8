use Rattle.std.proofs.Common.{◌≡◌, Some, None, slice_get, sym, subst, arith}
use Rattle.std.proofs.lemmas.Grind.{common_steps}
use Rattle.nomos_deeds.specs.Lowest.{FindsNext}
use Rattle.nomos_ready.specs.Covering.{IsNoted}
use Rattle.nomos_ready.proofs.PairLemmas.{nothing-none, other-none, same-lowest}
use Rattle.nomos_ready.proofs.awake.Awake.waiting_over.Goals as goal

pub returns-in_err-first : goal.returns-in_err-first
returns-in_err-first c =
    let is = c.range.ensures.in_range tt in
    let found : slice_get c.range.result 0 ≡ None = grind (arith, common_steps) in
    let answer : c.from_residual.result ≡ None = grind (arith, common_steps) in
    subst (FindsNext (IsNoted c.args.self.now c.args.name) c.args.after) (sym answer)
    (nothing-none c.args.self.now.waiting c.range.result c.args.name c.args.after is.1 is.2 is.5 found)

pub returns-then-first-name : goal.returns-then-first-name
returns-then-first-name c =
    let is = c.range.ensures.in_range tt in
    let found : slice_get c.range.result 0 ≡ Some (c.args.name, c.in_ok-first.pid) = grind (arith, common_steps) in
    same-lowest c.args.self.now.waiting c.range.result c.args.name c.args.after is.1 is.2 is.5 c.in_ok-first.pid found

pub returns-else-first-name : goal.returns-else-first-name
returns-else-first-name c =
    let is = c.range.ensures.in_range tt in
    let found : slice_get c.range.result 0 ≡ Some (c.in_ok-first.first, c.in_ok-first.pid) =
    grind (arith, common_steps)
    in
    other-none c.args.self.now.waiting c.range.result c.args.name c.args.after is.1 is.2 is.5 c.in_ok-first.first
    c.in_ok-first.pid found c.if-first-name.false
