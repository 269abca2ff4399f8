-- Amounts of gas whose unit has parts.
use Rattle.std.proofs.Common.{◌≡◌, ◌≢◌, ℕ, ◌<◌, ◌^◌, List, ◌∷◌, ◌++◌, Option, Some, None, ◌∙◌, arith, append_assoc, inl, inr}
use Rattle.std.proofs.lemmas.Bool.Decides.{eqb_tells}
use Rattle.std.proofs.lemmas.List.Elements.{All-append, All-cons}
use Rattle.std.specs.Prelude.{decimal}
use Rattle.std.proofs.lemmas.Bool.{ne_eqb}
use Rattle.nomos_base.specs.Gas.{gas_text}
use Rattle.nomos_printing.specs.Number.{ReadsBits, ReadsGas}
use Rattle.nomos_printing.specs.Splitting.{Lacks, ComesApart}
use Rattle.nomos_printing.proofs.ReadingLaws.{ReadsAs-none}
use Rattle.nomos_printing.proofs.SplittingLaws.{Lacks-apart, Lacks-decimal, ComesApart-parts}

-- the count, a `/` and the unit
pub gas_text-parts : (n unit : ℕ) → unit ≢ 1 → gas_text n unit ≡ decimal n ++ 47 ∷ decimal unit
gas_text-parts n unit parts = rw (ne_eqb unit 1 parts, append_assoc)

-- without a `/` it is no amount
pub no_parts : (unit : ℕ) (text : List ℕ) → unit ≢ 1 → Lacks 47 text → ReadsGas unit text None
no_parts unit text parts lacks =
    ReadsAs-none text (λ n small e.
    let lacks' : Lacks 47 (decimal n ++ 47 ∷ decimal unit) = rw (← gas_text-parts n unit parts, ← e) lacks in
    Lacks-apart 47 (decimal n) (decimal unit) lacks')

-- what stands before and behind the `/`
parts_of : (unit n : ℕ) (text front back : List ℕ) → unit ≢ 1 → ComesApart 47 text front back → n < 2 ^ 128
    → text ≡ gas_text n unit → (front ≡ decimal n) × (back ≡ decimal unit)
parts_of unit n text front back parts apart small e =
    ComesApart-parts 47 text front back (decimal n) (decimal unit) apart (Lacks-decimal 47 n small (omega arith))
    (e ∙ gas_text-parts n unit parts)

-- another unit
pub other_unit : (unit : ℕ) (text front back : List ℕ) → unit ≢ 1 → ComesApart 47 text front back
    → back ≢ decimal unit → ReadsGas unit text None
other_unit unit text front back parts apart other =
    ReadsAs-none text (λ n small e. other (parts_of unit n text front back parts apart small e).1)

-- this unit
pub same_unit : (unit : ℕ) (text front back : List ℕ) (r : Option ℕ) → unit ≢ 1 → ComesApart 47 text front back
    → back ≡ decimal unit → ReadsBits 128 front r → ReadsGas unit text r
same_unit unit text front back None parts apart same reads =
    ReadsAs-none text (λ n small e.
    let none = reads.each n small (parts_of unit n text front back parts apart small e).0 in
    cc)
same_unit unit text front back (Some m) parts apart same reads =
    record {
      found = (reads.found.0, rw (gas_text-parts m unit parts, ← reads.found.1, ← same) apart.joined);
      each = λ n small e. reads.each n small (parts_of unit n text front back parts apart small e).0;
    }

-- an amount has no blank
pub Lacks-gas_text : (unit n : ℕ) → unit < 2 ^ 32 → n < 2 ^ 128 → Lacks 32 (gas_text n unit)
Lacks-gas_text unit n unit_small small = elim (eqb_tells unit 1) [
  | inl whole ↦ rw whole.0 (Lacks-decimal 32 n small (omega arith))
  | inr parts ↦
      rw (gas_text-parts n unit parts.1)
      (All-append (λ byte. byte ≢ 32) (decimal n) (47 ∷ decimal unit) (Lacks-decimal 32 n small (omega arith))
      (All-cons (λ byte. byte ≢ 32) 47 (decimal unit) (λ e. absurd (omega (arith, e)))
      (Lacks-decimal 32 unit (omega arith) (omega arith))))
]
