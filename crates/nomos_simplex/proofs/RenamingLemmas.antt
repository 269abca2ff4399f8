-- Lines that get other variables, one by one.
use Rattle.std.proofs.Common.{◌≡◌, ℕ, ◌<◌, ⊎_elim, List, length, set, sym, subst}
use Rattle.std.proofs.lemmas.Bool.{cases_eq}
use Rattle.std.proofs.lemmas.List.{get_or-set_same, get_or-set_other}
use Rattle.nomos_simplex.specs.Nearest.{line_at}
use Rattle.nomos_simplex.specs.Sizes.{IsLine}
use Rattle.nomos_simplex.specs.mirror.Classes.{named}
use Rattle.nomos_simplex.specs.declared.table.TableLine.{TableLine}
use Rattle.nomos_simplex.proofs.ClassLemmas.{no_line}

-- what is known of each line, one of which is replaced
pub where_set : (P : ℕ → TableLine → Type 0) (lines : List TableLine) (i : ℕ) (x : TableLine) → i < length lines → P i x
    → (k : ℕ) →
    (¬ (k ≡ i) → P k (line_at lines k)) → P k (line_at (set lines i x) k)
where_set P lines i x h p k other = ⊎_elim
    (λ same. subst (λ n. P n (line_at (set lines i x) n)) (sym same)
    (subst (P i) (sym (get_or-set_same lines i x no_line h)) p))
    (λ apart. subst (P k) (sym (get_or-set_other lines i k x no_line apart)) (other apart))
    (cases_eq k i)

pub named-is_line : (n v : ℕ) (line : TableLine) → IsLine n line → IsLine n (named v line)
named-is_line n v line l = record { width = l.width; times = l.times; positive = l.positive; coefs = l.coefs }
