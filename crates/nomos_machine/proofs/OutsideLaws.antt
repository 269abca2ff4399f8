-- What a process does leaves as many outside names as there were; so where there was none there is none.
use Rattle.std.proofs.Common.{◌≡◌, ◌∙◌, ℕ, List, [], ◌∷◌, length, Some, refl, sym, ap, arith}
use Rattle.nomos_types.specs.Acceptance.{Acceptance}
use Rattle.nomos_machine.specs.Run.{run}
use Rattle.nomos_machine.specs.State.{State}
use Rattle.nomos_machine.specs.Step.{step}
use Rattle.nomos_machine.proofs.PlainLaws.{made-outside, step-made, run-by_any_steps}

-- a step leaves as many outside names as there were
pub step-outside : (a : Acceptance) (s t : State) (pid : ℕ) → step a s pid ≡ Some t
    → length t.outside ≡ length s.outside
step-outside a s t pid is =
    let firing = step-made a s pid t is in
    ap (λ (u : State). length u.outside) (sym firing.after) ∙ made-outside firing.c firing.is_made

-- and so does a run
pub run-outside : (a : Acceptance) (s t : State) (pids : List ℕ) → run a s pids ≡ Some t
    → length t.outside ≡ length s.outside
run-outside a s t pids is =
    run-by_any_steps a (λ n s t. length t.outside ≡ length s.outside) (λ s. refl)
    (λ n s u t pid steps rest. rest ∙ step-outside a s u pid steps) s t pids is

-- so no name goes outside where none is
pub run-no_outside : (a : Acceptance) (s t : State) (pids : List ℕ) → run a s pids ≡ Some t → s.outside ≡ []
    → t.outside ≡ []
run-no_outside a s t pids is none = empty t.outside (run-outside a s t pids is ∙ ap (λ (ns : List ℕ). length ns) none)
  where
    empty : (names : List ℕ) → length names ≡ 0 → names ≡ []
    empty [] e = refl
    empty (n ∷ ns) e = absurd (omega (arith, e))
