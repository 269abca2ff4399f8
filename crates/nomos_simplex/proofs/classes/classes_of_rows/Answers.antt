use Rattle.std.proofs.Common.{ℕ, length, ◌+◌, ◌<◌, ◌≤◌, ◌++◌, [], ◌∷◌, All, sym, subst, ⊎_elim, arith}
use Rattle.std.proofs.lemmas.Bool.{cases_lt}
use Rattle.std.proofs.lemmas.List.Elements.{All-push}
use Rattle.nomos_simplex.specs.mirror.Classes.{IsClass, IsInOne}
use Rattle.nomos_simplex.specs.declared.classes.Class.{Class}
use Rattle.nomos_simplex.proofs.ClassExchangeLemmas.{in_one-front, in_one-last}
use Rattle.nomos_simplex.proofs.classes.classes_of_rows.Goals as goal

-- one class more
pub loop-before-preserved : goal.loop-before-preserved
loop-before-preserved c =
    let rows = c.args.rows.now in
    let before = c.loop-before.before in
    let last = c.last_of_class-last.result in
    let found = c.last_of_class-last.ensures in
    let within : last ≤ rows.stars + length rows.rows = omega (arith, found.most, c.in_ok-end.ensures) in
    let class : Class = record { first = before + 1; last = last } in
    let classes = c.loop-before.classes.items in
    let is = c.in_ok-push.ensures.items in
    let so_far = c.loop-before.invariant in
    record {
      least = omega (arith, so_far.least, found.some);
      most = within;
      classes = subst (All (IsClass rows)) (sym is) (All-push (IsClass rows) classes class so_far.classes (record {
        least = omega arith;
        some = found.some;
        most = within;
        alike = found.alike;
      }));
      rows = subst (All (λ (a : Class). rows.stars < a.first)) (sym is)
          (All-push (λ (a : Class). rows.stars < a.first) classes class so_far.rows (omega (arith, so_far.least)));
      cover = λ v h l. subst (λ cs. IsInOne cs v) (sym is) (⊎_elim
          (λ less. in_one-front classes class v (so_far.cover v h (omega (arith, less))))
          (λ more. in_one-last classes class v (record { from = more; to = l }))
          (cases_lt v (before + 1)));
    }
