-- A variable around a term is found among those that stand there.
use Rattle.std.proofs.Common.{ℕ, List, [], length, get_or, unwrap_or, refl, sym, ap, ◌∙◌, arith, pos}
use Rattle.std.proofs.lemmas.List.{append-nil}
use Rattle.nomos_ir.specs.Evaluation.{nought}
use Rattle.nomos_ir.specs.Value.{Value, ValueList}
use Rattle.nomos_ir.specs.declared.ids.VarId.{VarId}
use Rattle.nomos_eval.specs.declared.around.Around.{Around}
use Rattle.nomos_eval.specs.declared.datum.Datum.{Datum}
use Rattle.nomos_eval.specs.declared.datum.Datum.TheVariants as datum
use Rattle.nomos_eval.specs.mirror.Around.{IsLookedUp}
use Rattle.nomos_eval.specs.mirror.Ascending.{IsFirstAt, Rises, StandsNotBelow}
use Rattle.nomos_eval.specs.mirror.Load.{IsLoaded}
use Rattle.nomos_eval.proofs.AscendingLemmas.{first-bound, none-bound}

-- a variable without a value
pub looked-vain : (a : Around) (lists : List ValueList) (v : VarId) → Rises a.env.now a.known
    → StandsNotBelow a.env.now v (length a.env.now) → IsLookedUp a lists v a lists (datum.Int (pos 0))
looked-vain a lists v rises none =
    record {
      env = refl;
      grown = ([], sym (append-nil lists));
      rises = rises;
      there = omega arith;
      same = ap (λ o. unwrap_or o nought) (sym (none-bound a.env.now v none));
    }

-- a value that is taken in
pub looked-there : (a : Around) (lists after : List ValueList) (v : VarId) (n known : ℕ) (e : VarId × Value)
    (d : Datum) → IsFirstAt a.env.now v n → Rises a.env.now known → IsLoaded lists after (get_or a.env.now n e).1 d
    → IsLookedUp a lists v (record { env = a.env; known = known }) after d
looked-there a lists after v n known e d first rises loaded =
    record {
      env = refl;
      grown = loaded.grown;
      rises = rises;
      there = loaded.there;
      same = loaded.same ∙ ap (λ o. unwrap_or o nought) (sym (first-bound a.env.now v n e first));
    }
