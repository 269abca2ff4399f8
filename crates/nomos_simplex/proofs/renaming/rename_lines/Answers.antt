use Rattle.std.proofs.Common.{rules, FitsSigned, to_z, of_z, ◌≡◌, ℕ, ◌<◌, List, length, map, get_or, set, ap, sym, subst, ◌∙◌, arith, pos, ⊎_elim}
use Rattle.std.proofs.lemmas.Bool.{cases_lt}
use Rattle.std.proofs.lemmas.List.{get_or-map, get_or_default, length-set, map-set}
use Rattle.std.proofs.lemmas.Int.{to_z-of_z}
use Rattle.std.specs.Int.{w128}
use Rattle.nomos_simplex.specs.Tables.{bound_of}
use Rattle.std.proofs.lemmas.List.Elements.{All-set}
use Rattle.nomos_simplex.specs.Nearest.{line_at}
use Rattle.nomos_simplex.specs.Sizes.{IsLine}
use Rattle.nomos_simplex.specs.mirror.Classes.{IsIn, IsLead, SameNumbers, class_at, named}
use Rattle.nomos_simplex.specs.mirror.Keeping.{over_of}
use Rattle.nomos_simplex.specs.declared.table.TableLine.{TableLine}
use Rattle.nomos_simplex.proofs.ClassLemmas.{no_class, no_line}
use Rattle.nomos_simplex.proofs.RenamingLemmas.{where_set, named-is_line}
use Rattle.nomos_simplex.proofs.renaming.rename_lines.Goals as goal

pub loop-i-preserved : goal.loop-i-preserved
loop-i-preserved c =
    let rows = c.args.rows.now in
    let classes = c.args.classes.now in
    let n = length c.args.bounds.now in
    let lines = c.loop-i.lines in
    let i = c.loop-i.i in
    let x = c.rename_line.new.line in
    let made = c.rename_line.ensures in
    let so_far = c.loop-i.invariant in
    let within : i < length lines = omega arith in
    let old = c.index-lines-i.result in
    let at : get_or lines i old ≡ line_at lines i = get_or_default lines i old no_line within in
    let is : x ≡ named x.basic (line_at lines i) = made.named ∙ ap (named x.basic) at in
    let class = get_or_default classes i (record { first = 0; last = 0 }) no_class
    (omega (arith, c.requires.long, so_far.long, within)) in
    let fits : FitsSigned w128 (get_or c.loop-i.over i (pos 0)) = search rules in
    let fits_made : FitsSigned w128 c.rename_line.result = search rules in
    let over_at : (nonbasic : List ℕ) → c.args.bounds.now ≡ map (bound_of rows) nonbasic →
    c.args.over.now ≡ map (over_of rows nonbasic) c.args.lines.now →
    to_z w128 (of_z w128 (get_or c.loop-i.over i (pos 0))) ≡ over_of rows nonbasic (get_or lines i old) =
    λ nonbasic b e.
    to_z-of_z w128 (get_or c.loop-i.over i (pos 0)) fits
    ∙ ap (λ zs. get_or zs i (pos 0)) (so_far.over nonbasic b e)
    ∙ get_or-map (over_of rows nonbasic) lines i old (pos 0) within in
    record {
      long = length-set lines i x ∙ so_far.long;
      over_long = length-set c.loop-i.over i _ ∙ so_far.over_long;
      are_lines = All-set (IsLine n) lines i x
          (subst (IsLine n) (sym is) (named-is_line n x.basic (line_at lines i) (so_far.are_lines i no_line within)))
          so_far.are_lines;
      same = λ k h. where_set (λ m l. m < length c.args.lines.now → SameNumbers l (line_at c.args.lines.now m)) lines i
          x within
          (λ g. subst (λ l. SameNumbers l (line_at c.args.lines.now i)) (sym is)
          (let s = so_far.same i g in record { times = s.times; coefs = s.coefs })) k
          (λ _ g. so_far.same k g) h;
      is_in = λ k h. where_set (λ m l. m < length c.args.lines.now → IsIn (class_at classes m) l.basic) lines i x within
          (λ g. subst (λ a. IsIn a x.basic) class made.is_in) k (λ _ g. so_far.is_in k g) h;
      over = λ nonbasic b e.
          let f = over_of rows nonbasic in
          ap (λ zs. set zs i (to_z w128 (of_z w128 c.rename_line.result))) (so_far.over nonbasic b e)
          ∙ ap (set (map f lines) i) (to_z-of_z w128 c.rename_line.result fits_made
          ∙ made.over nonbasic b (over_at nonbasic b e))
          ∙ sym (map-set f lines i x);
      lead = λ nonbasic b e k h. where_set (λ m l. IsLead rows nonbasic (class_at classes m) l) lines i x within
          (subst (λ a. IsLead rows nonbasic a x) class (made.lead nonbasic (over_at nonbasic b e))) k
          (λ apart. so_far.lead nonbasic b e k (omega (arith, h, apart)));
    }
