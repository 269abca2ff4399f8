-- Texts come apart in one way.
use Rattle.std.proofs.Common.{◌≡◌, ◌≢◌, ℕ, ◌<◌, ◌^◌, true, ◌==◌, List, [], ◌∷◌, ◌++◌, inl, inr, refl, arith}
use Rattle.std.specs.Prelude.{not}
use Rattle.std.specs.List.{list_all}
use Rattle.std.proofs.lemmas.Bool.{false≢true}
use Rattle.std.proofs.lemmas.Bool.Decides.{eqb_tells}
use Rattle.std.specs.Prelude.{decimal}
use Rattle.std.proofs.lemmas.Fmt.{decimal_is_IsNumeral_wide}
use Rattle.std.proofs.lemmas.List.Elements.{All-nil, All-cons, All-append, All-head, All-tail, All-from_get_or}
use Rattle.std.proofs.lemmas.Str.Parse.{digit_at}
use Rattle.nomos_printing.specs.Splitting.{Lacks, ComesApart}

-- a text without the byte does not come apart
pub Lacks-apart : (mark : ℕ) (front back : List ℕ) → Lacks mark (front ++ mark ∷ back) → ⊥
Lacks-apart mark [] back lacks = All-head (λ byte. byte ≢ mark) mark back lacks refl
Lacks-apart mark (b ∷ front) back lacks =
    Lacks-apart mark front back (All-tail (λ byte. byte ≢ mark) b (front ++ mark ∷ back) lacks)

-- the front and the back of a text are its only ones
pub apart-only : (mark : ℕ) (v w s t : List ℕ) → Lacks mark v → Lacks mark w → v ++ mark ∷ s ≡ w ++ mark ∷ t
    → (v ≡ w) × (s ≡ t)
apart-only mark [] [] s t lacks_v lacks_w e = (refl, cc)
apart-only mark [] (c ∷ w) s t lacks_v lacks_w e =
    let same : c ≡ mark = cc in
    absurd (All-head (λ byte. byte ≢ mark) c w lacks_w same)
apart-only mark (b ∷ v) [] s t lacks_v lacks_w e =
    let same : b ≡ mark = cc in
    absurd (All-head (λ byte. byte ≢ mark) b v lacks_v same)
apart-only mark (b ∷ v) (c ∷ w) s t lacks_v lacks_w e =
    let rest : v ++ mark ∷ s ≡ w ++ mark ∷ t = cc in
    let first : b ≡ c = cc in
    let inner = apart-only mark v w s t (All-tail (λ byte. byte ≢ mark) b v lacks_v)
    (All-tail (λ byte. byte ≢ mark) c w lacks_w) rest in
    (cc (first, inner.0), inner.1)

-- what a text that comes apart has in front and behind
pub ComesApart-parts : (mark : ℕ) (text front back w t : List ℕ) → ComesApart mark text front back → Lacks mark w
    → text ≡ w ++ mark ∷ t → (front ≡ w) × (back ≡ t)
ComesApart-parts mark text front back w t apart lacks e =
    let same : front ++ mark ∷ back ≡ w ++ mark ∷ t = cc (apart.joined, e) in
    apart-only mark front w back t apart.lacks lacks same

-- a number has no byte below the digits
pub Lacks-decimal : (mark n : ℕ) → n < 2 ^ 128 → mark < 48 → Lacks mark (decimal n)
Lacks-decimal mark n small low =
    let numeral = (decimal_is_IsNumeral_wide n (omega arith)).0 in
    All-from_get_or (λ byte. byte ≢ mark) (decimal n) 0
    (λ i within e. absurd (omega (arith, digit_at (decimal n) i numeral.1 within, e)))

-- a text that passes the test lacks the byte
pub Lacks-tested : (mark : ℕ) (text : List ℕ) → list_all (λ byte. not (byte == mark)) text ≡ true → Lacks mark text
Lacks-tested mark [] passes = All-nil (λ byte. byte ≢ mark)
Lacks-tested mark (b ∷ text) passes = elim (eqb_tells b mark) [
  | inl same ↦ let wrong = rw same.0 at passes in absurd (false≢true wrong)
  | inr other ↦
      let rest = rw other.0 at passes in
      All-cons (λ byte. byte ≢ mark) b text other.1 (Lacks-tested mark text rest)
]

-- two texts in a row
pub Lacks-append : (mark : ℕ) (front back : List ℕ) → Lacks mark front → Lacks mark back → Lacks mark (front ++ back)
Lacks-append mark front back a b = All-append (λ byte. byte ≢ mark) front back a b
