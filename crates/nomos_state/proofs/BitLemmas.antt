-- The bits of one word.
use Rattle.std.proofs.Common.{◌≡◌, ◌<◌, ◌==◌, ◌-◌, ◌*◌, ◌%◌, ◌^◌, ℕ, true, false, cond, bit_and, bit_or, ap, sym, ◌∙◌}
use Rattle.std.specs.Int.{w64}
use Rattle.std.proofs.lemmas.Bool.Decides.{eqb_tells}
use mathlib.Core.Logic.{⊎_elim}
use Rattle.std.proofs.lemmas.Nat.Bits.{bit_at_set_same, bit_at_set_other, bit_at_clear_same, bit_at_clear_other}
use Rattle.nomos_state.specs.Spanning.{has_bit}

module _ (n k i : ℕ) (within : k < 64) (below : i < 64) where
  pub has_bit-set : has_bit (bit_or n (1 * 2 ^ k % 2 ^ 64)) i ≡ cond (i == k) true (has_bit n i)
  has_bit-set =
      ⊎_elim
      (λ e. ap (λ j. has_bit (bit_or n (1 * 2 ^ k % 2 ^ 64)) j) e.1 ∙ ap (λ b. b == 1) (bit_at_set_same w64 n k within)
      ∙ sym (ap (λ b. cond b true (has_bit n i)) e.0))
      (λ e. ap (λ b. b == 1) (bit_at_set_other w64 n k within i e.1) ∙ sym (ap (λ b. cond b true (has_bit n i)) e.0))
      (eqb_tells i k)

  pub has_bit-clear : has_bit (bit_and n (2 ^ 64 - 1 - 1 * 2 ^ k % 2 ^ 64)) i ≡ cond (i == k) false (has_bit n i)
  has_bit-clear =
      ⊎_elim
      (λ e. ap (λ j. has_bit (bit_and n (2 ^ 64 - 1 - 1 * 2 ^ k % 2 ^ 64)) j) e.1
      ∙ ap (λ b. b == 1) (bit_at_clear_same w64 n k within) ∙ sym (ap (λ b. cond b false (has_bit n i)) e.0))
      (λ e. ap (λ b. b == 1) (bit_at_clear_other w64 n k within i below e.1)
      ∙ sym (ap (λ b. cond b false (has_bit n i)) e.0))
      (eqb_tells i k)
