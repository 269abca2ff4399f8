-- Lines of firings that are written one after another.
use Rattle.std.proofs.Common.{◌≡◌, ℕ, ◌<◌, List, [], ◌∷◌, ◌++◌, length, drop, refl, sym, ◌∙◌, ap, arith, append-nil}
use Rattle.nomos_ir.specs.declared.ids.CodeId.{CodeId}
use Rattle.nomos_types.specs.Acceptance.{Acceptance}
use Rattle.nomos_legal.specs.World.{pids_of}
use Rattle.nomos_legal.specs.declared.journal.Firing.{Firing}
use Rattle.nomos_journal.specs.JournalText.{placed_lines}
use Rattle.nomos_journal.specs.Text.{lines_text}

-- the lines of the firings that are left
abbrev pub lines_left : Acceptance → List Firing → ℕ → List CodeId → List ℕ
lines_left a firings at left = lines_text a.annotations.unit (placed_lines a (pids_of (drop at firings)) left)

-- without instructions there are no lines
pub no_places : (a : Acceptance) (pids : List ℕ) → placed_lines a pids [] ≡ []
no_places a [] = refl
no_places a (pid ∷ pids) = refl

-- the bytes of the lines that are written and of those that are left
pub record Written (a : Acceptance) (firings : List Firing) (at : ℕ) (left : List CodeId) (all so_far : List ℕ) : Type 0
  where
    pub whole : all ≡ so_far ++ lines_left a firings at left

-- no instruction is left
pub Written-out : (a : Acceptance) (firings : List Firing) (at : ℕ) (left : List CodeId) (all so_far : List ℕ)
    → length left < 1 → Written a firings at left all so_far → so_far ≡ all
Written-out a firings at [] all so_far none h =
    sym (append-nil so_far)
    ∙ ap (λ ls. so_far ++ lines_text a.annotations.unit ls) (sym (no_places a (pids_of (drop at firings))))
    ∙ sym h.whole
Written-out a firings at (place ∷ left) all so_far none h = absurd (omega (arith, none))
