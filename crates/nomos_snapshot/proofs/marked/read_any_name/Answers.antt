-- No name is written `-`.
use Rattle.std.proofs.Common.{ℕ, Option, Some, None, ap, refl, sym, ◌∙◌}
use Rattle.nomos_snapshot.proofs.OneLineLaws.{any-only}
use Rattle.nomos_snapshot.proofs.marked.read_any_name.Goals as goal

pub returns-then-is_word : goal.returns-then-is_word
returns-then-is_word c =
    let dash = c.if-is_word.ensures.0 refl in
    record {
      found = (tt, dash);
      each = λ name is e.
          let same = any-only None name tt is (sym dash ∙ e) in
          ap (λ (n : Option ℕ). Some n) same;
    }
