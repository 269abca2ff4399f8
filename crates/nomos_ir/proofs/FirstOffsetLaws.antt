-- The law of what is first by its offset: it stands at one offset at most.
use Rattle.std.proofs.Common.{◌≡◌, ◌≤◌, ℕ, arith}
use Rattle.nomos_ir.specs.FirstOffset.{IsFirstAt}

pub first-once : (Stands : ℕ → Type 0) (a b : ℕ) → IsFirstAt Stands a → IsFirstAt Stands b → a ≡ b
first-once Stands a b h i =
    let below : a ≤ b = h.first b i.there in
    let above : b ≤ a = i.first a h.there in
    omega arith
