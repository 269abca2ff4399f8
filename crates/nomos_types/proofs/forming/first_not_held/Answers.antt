use Rattle.std.proofs.Common.{◌≡◌, ℕ, List, Some, get_or, length, slice_get, ap, subst, arith}
use Rattle.std.proofs.lemmas.Option.{slice_get-get_or}
use Rattle.nomos_ir.specs.declared.ids.TypeId.{TypeId}
use Rattle.nomos_ir.specs.declared.ids.VarId.{VarId}
use Rattle.nomos_types.proofs.OffenceLemmas.{not_held-more}
use Rattle.nomos_types.proofs.forming.first_not_held.Goals as goal
use Rattle.nomos_types.specs.mirror.Least.{IsLeast}
use Rattle.nomos_types.specs.mirror.Offences.{NotHeldBelow}

-- one parameter more
pub loop-par-preserved : goal.loop-par-preserved
loop-par-preserved c =
    let pars = c.as_slice-par-items.result.now in
    let i = c.loop-par.par-index in
    let none : VarId × TypeId = (record { 0 = 0 }, record { 0 = 0 }) in
    let found : slice_get c.args.d.now.channels i
    ≡ Some (get_or pars i none) = subst (λ (ps : List (VarId × TypeId)). slice_get ps i ≡ Some (get_or pars i none))
    c.as_slice-par-items.ensures (slice_get-get_or pars i none c.loop-par-test.true) in
    let more = not_held-more c.args.program.now c.args.d.now i (get_or pars i none) found c.loop-par.first
    c.not_held_at.result c.loop-par.invariant c.not_held_at.ensures in
    rw c.lesser-first.ensures more

pub returns : goal.returns
returns c =
    let pars_length : length c.as_slice-par-items.result.now
    ≡ length c.args.d.now.channels = ap length c.as_slice-par-items.ensures in
    let all : c.loop-par.par-index ≡ length c.args.d.now.channels = omega arith in
    subst (λ (n : ℕ). IsLeast (NotHeldBelow c.args.program.now c.args.d.now n) c.loop-par.first) all
    c.loop-par.invariant
