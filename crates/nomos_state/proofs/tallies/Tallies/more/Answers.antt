use Rattle.std.proofs.Common.{◌∙◌, ◌∷◌, [], ◌+◌, ◌≡◌, Some, List, ℕ, ap, arith}
use Rattle.nomos_ir.specs.Order.{count_of}
use Rattle.nomos_slots.specs.Numbers.{numbers}
use Rattle.nomos_slots.specs.declared.numbered.Slot.{Slot}
use Rattle.nomos_slots.proofs.NumberLaws.{numbers-put_at}
use Rattle.nomos_state.specs.Tallying.{only, tallied}
use Rattle.nomos_state.specs.declared.tally.NameUse.{NameUse}
use Rattle.nomos_state.specs.declared.tally.Tally.{Tally}
use Rattle.nomos_state.proofs.TallyLemmas.{more-counted, more-suspects}
use Rattle.nomos_state.proofs.tallies.Tallies.more.Goals as goal

pub returns : goal.returns
returns c =
    let t = c.args.self.now in
    let before = t.names.now in
    let counts : (d : NameUse) (n : ℕ)
    → tallied c.put.new.self.now d n ≡ tallied before d n + count_of n (only c.args.doing (c.args.name ∷ []) d) =
    λ d n. ap (λ (ts : List (Slot Tally)). tallied ts d n) c.put.ensures.now
    ∙ more-counted before c.requires c.in-Some.place c.args.name c.in-Some.tally c.in-Some-more.next c.in-Some.ensures
    c.args.doing c.in-Some-more.ensures d n
    in
    record {
      order = ap numbers c.put.ensures.now ∙ numbers-put_at before c.in-Some.place (Some c.in-Some-more.next);
      exact = λ still. still;
      counts = λ still d n. omega (arith, counts d n);
      suspects = λ still.
          more-suspects before c.put.new.self.now t.suspects t.suspects (λ d n. omega (arith, counts d n))
          (λ known. known)
          (λ known n there. there);
      marked = c.put.ensures.marked;
    }
