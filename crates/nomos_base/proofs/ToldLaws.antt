-- Laws of the bytes that a source or a sink tells.
use Rattle.std.proofs.Common.{◌≡◌, ℕ, ◌+◌, ◌-◌, ◌<◌, ◌≤◌, length-drop, length, length-append, arith, List, ◌++◌, take, drop, Option, Some, None, refl, sym, ◌∙◌, ap, append_assoc}
use Rattle.std.proofs.Math.Seq.{take-add}
use Rattle.std.proofs.lemmas.List.{take_all, take-append-drop, drop-drop}
use Rattle.nomos_base.specs.Source.{with_front, GetsFront, TakesAtMost, TakesExactly}
use Rattle.nomos_base.specs.Sink.{with_end, Appends}

-- two pieces that were written, one behind the other, are one
pub with_end-append : (written : Option (List ℕ)) (a b : List ℕ)
    → with_end (with_end written a) b ≡ with_end written (a ++ b)
with_end-append None a b = refl
with_end-append (Some xs) a b = ap (λ (ys : List ℕ). Some ys) (append_assoc xs a b)

-- the first bytes, and behind them the next ones
pub with_end-take : (written : Option (List ℕ)) (xs : List ℕ) (done count : ℕ)
    → with_end (with_end written (take done xs)) (take count (drop done xs)) ≡ with_end written (take (done + count) xs)
with_end-take written xs done count =
    with_end-append written (take done xs) (take count (drop done xs))
    ∙ ap (λ (ys : List ℕ). with_end written ys) (sym (take-add done count xs))

-- the first bytes were written, and then some of the others
pub record WrittenTo (done : ℕ) (bytes : List ℕ) (start now : Option (List ℕ)) : Type 0 where
  pub in_range : done ≤ length bytes
  pub written : now ≡ with_end start (take done bytes)

-- a write of the bytes behind the first ones
pub WrittenTo-next : (bytes : List ℕ) (done count : ℕ) (start before now : Option (List ℕ))
    → WrittenTo done bytes start before → Appends count (take (length bytes - done) (drop done bytes)) before now
    → WrittenTo (done + count) bytes start now
WrittenTo-next bytes done count start before now so_far next =
    let all : take (length bytes - done) (drop done bytes)
    ≡ drop done bytes = take_all (length bytes - done) (drop done bytes) (omega (arith, length-drop done bytes)) in
    let fits : count ≤ length (drop done bytes) = rw all at next.fits in
    let behind : now ≡ with_end before (take count (drop done bytes)) = rw all at next.behind in
    record {
      in_range = omega (arith, length-drop done bytes, so_far.in_range);
      written = rw (behind, so_far.written) (with_end-take start bytes done count);
    }

-- two pieces that were taken, one behind the other, are one
pub with_front-append : (a b : List ℕ) (left : Option (List ℕ))
    → with_front a (with_front b left) ≡ with_front (a ++ b) left
with_front-append a b None = refl
with_front-append a b (Some xs) = ap (λ (ys : List ℕ). Some ys) (sym (append_assoc a b xs))

-- a front that was taken, and then at most so many bytes more
pub TakesAtMost-behind : (most so_far : ℕ) (bytes : List ℕ) (before mid now : Option (List ℕ)) → so_far ≡ length bytes
    → so_far ≤ most → before ≡ with_front bytes mid → TakesAtMost (most - so_far + 1) mid now
    → TakesAtMost (most + 1) before now
TakesAtMost-behind most so_far bytes before mid now counted within first second =
    let next : mid ≡ with_front second.0 now = second.2 in (
      bytes ++ second.0,
      omega (arith, length-append bytes second.0, second.1),
      rw (first, next) (with_front-append bytes second.0 now),
    )

-- a front that was taken, and then no more bytes than were left to take
pub TakesAtMost-within : (most so_far : ℕ) (bytes : List ℕ) (before mid now : Option (List ℕ)) → so_far ≡ length bytes
    → so_far ≤ most → before ≡ with_front bytes mid → TakesAtMost (most - so_far) mid now → TakesAtMost most before now
TakesAtMost-within most so_far bytes before mid now counted within first second =
    let next : mid ≡ with_front second.0 now = second.2 in (
      bytes ++ second.0,
      omega (arith, length-append bytes second.0, second.1),
      rw (first, next) (with_front-append bytes second.0 now),
    )

-- a front that was taken, and then just so many bytes more
pub TakesExactly-behind : (most so_far : ℕ) (bytes : List ℕ) (before mid now : Option (List ℕ)) → so_far ≡ length bytes
    → so_far ≤ most → before ≡ with_front bytes mid → TakesExactly (most - so_far + 1) mid now
    → TakesExactly (most + 1) before now
TakesExactly-behind most so_far bytes before mid now counted within first second =
    let next : mid ≡ with_front second.0 now = second.2 in (
      bytes ++ second.0,
      omega (arith, length-append bytes second.0, second.1),
      rw (first, next) (with_front-append bytes second.0 now),
    )

-- where it is told what was left, there were at least as many bytes as were taken
pub TakesExactly-told : (count : ℕ) (all : List ℕ) (now : Option (List ℕ)) → TakesExactly count (Some all) now
    → count ≤ length all
TakesExactly-told count all None taken = cc (taken.2)
TakesExactly-told count all (Some rest) taken =
    let same : all ≡ taken.0 ++ rest = cc (taken.2) in
    rw same (omega (arith, length-append taken.0 rest, taken.1))

-- bytes that were copied from the front of what is left
pub GetsFront-copied : (bytes buffer : List ℕ) (taken count : ℕ) → 0 < count → count ≤ length buffer
    → take count buffer ≡ take count (drop taken bytes)
    → GetsFront count buffer (Some (drop taken bytes)) (Some (drop (taken + count) bytes))
GetsFront-copied bytes buffer taken count some fits copied =
    let front : drop taken bytes ≡ take count buffer
    ++ drop (taken + count) bytes = rw (copied, ← drop-drop count taken bytes)
    (sym (take-append-drop count (drop taken bytes))) in
    record { some = some; fits = fits; front = ap (λ (ys : List ℕ). Some ys) front }

-- the first bytes were appended
pub Appends-copied : (bytes before now : List ℕ) (count : ℕ) → 0 < count → count ≤ length bytes
    → now ≡ before ++ take count bytes → Appends count bytes (Some before) (Some now)
Appends-copied bytes before now count some fits appended =
    record { some = some; fits = fits; behind = ap (λ (ys : List ℕ). Some ys) appended }
