-- A mirror of how the code goes over a list. No promise stands on it.
use Rattle.std.specs.Prelude.{List, [], ◌∷◌}
use Rattle.nomos_elaborate.specs.mirror.Checked.{Checked, found, ◌>>=◌}

-- what each item gives, one after the other
module _ {W X Y : Type 0} (check : W → X → Checked (W × Y)) where
  unfoldable pub each : W → List X → Checked (W × List Y)
  each w [] = found (w, [])
  each w (x ∷ xs) = do
    a ← check w x
    b ← each a.0 xs
    found (b.0, a.1 ∷ b.1)
