use Rattle.std.proofs.Common.{◌≡◌, ℕ, ◌-◌, ◌<◌, ◌≤◌, ◌⊎◌, List, true, false}
use Rattle.nomos_simplex.specs.LowestVariable.{is_below}
use Rattle.nomos_simplex.specs.mirror.Classes.{named}
use Rattle.nomos_simplex.specs.mirror.Keeping.{over_of}
use Rattle.nomos_simplex.proofs.renaming.lead.Given as goal

-- none before `first` is below its bound, and `last` is, or is the last of the class
abbrev pub invariant-loop-first : goal.invariant-loop-first
invariant-loop-first l = record {
  from : l.fn.class.first ≤ l.first;
  ordered : l.first ≤ l.last;
  to : l.last ≤ l.fn.class.last;
  before : (nonbasic : List ℕ) → l.over ≡ over_of l.rows nonbasic l.line → (v : ℕ) → l.fn.class.first ≤ v →
      v < l.first → is_below l.rows nonbasic (named v l.line) ≡ false;
  or_last : (nonbasic : List ℕ) → l.over ≡ over_of l.rows nonbasic l.line →
      (is_below l.rows nonbasic (named l.last l.line) ≡ true) ⊎ (l.last ≡ l.fn.class.last);
}

abbrev pub decreases-loop-first : goal.decreases-loop-first
decreases-loop-first l = l.last - l.first
