use Rattle.std.proofs.Common.{◌∙◌, ◌∷◌, [], ◌+◌, ◌≡◌, Some, List, ℕ, ap, sym, subst, arith}
use Rattle.nomos_ir.specs.Order.{count_of}
use Rattle.nomos_slots.specs.Numbers.{numbers}
use Rattle.nomos_slots.specs.declared.numbered.Slot.{Slot}
use Rattle.nomos_slots.proofs.NumberLaws.{numbers-put_at}
use Rattle.nomos_state.specs.Suspecting.{KeepsSuspects}
use Rattle.nomos_state.specs.Tallying.{only, tallied}
use Rattle.nomos_state.specs.declared.tally.NameUse.{NameUse}
use Rattle.nomos_state.specs.declared.tally.Tally.{Tally}
use Rattle.nomos_state.proofs.TallyLemmas.{less-counted, less-suspects}
use Rattle.nomos_state.proofs.tallies.Tallies.less.Goals as goal

pub returns : goal.returns
returns c =
    let t = c.args.self.now in
    let before = t.names.now in
    let next = c.in-Some-less.next in
    let counts : (d : NameUse) (n : ℕ)
    → tallied c.put.new.self.now d n + count_of n (only c.args.doing (c.args.name ∷ []) d) ≡ tallied before d n =
    λ d n.
    ap (λ (ts : List (Slot Tally)). tallied ts d n + count_of n (only c.args.doing (c.args.name ∷ []) d))
    c.put.ensures.now
    ∙ less-counted before c.requires c.in-Some.place c.args.name c.in-Some.tally next c.in-Some.ensures c.args.doing
    c.in-Some-less.ensures d n
    in
    record {
      order = ap numbers c.put.ensures.now ∙ numbers-put_at before c.in-Some.place (Some next);
      exact = λ still. still;
      counts = λ still d n. omega (arith, counts d n);
      suspects = λ still.
          subst (λ (ts : List (Slot Tally)). KeepsSuspects before ts t.suspects c.suspect.new.suspects)
          (sym c.put.ensures.now)
          (less-suspects before c.requires c.in-Some.place c.args.name c.in-Some.tally next c.in-Some.ensures t.suspects
          c.suspect.new.suspects c.suspect.ensures.lost c.suspect.ensures.kept c.suspect.ensures.idle);
      marked = c.put.ensures.marked;
    }
