-- Values come off the front of a text in one way.
use Rattle.std.proofs.Common.{◌≡◌, ◌≢◌, ℕ, zero, suc, ◌<◌, ◌≤◌, ◌^◌, ℤ, pos, negsuc, true, false, List, [], ◌∷◌, ◌++◌, drop, get_or, refl, sym, ◌∙◌, ap, subst, arith, append_assoc}
use Rattle.std.specs.Prelude.{decimal, codes, All, Option, Some, None, SomeIff, neg_ℤ}
use Rattle.std.specs.Fmt.{signed_decimal}
use Rattle.std.proofs.lemmas.Fmt.{decimal_nonempty, decimal_is_IsNumeral_wide}
use Rattle.std.proofs.lemmas.Int.{ints}
use Rattle.std.proofs.lemmas.List.{get_or_append_left}
use Rattle.std.proofs.lemmas.List.Elements.{All-append, All-nil, All-cons, All-head, All-tail, All-from_get_or}
use Rattle.std.proofs.lemmas.Str.Parse.{digit_at}
use Rattle.nomos_ir.specs.Value.{Value, ValueList, int, truth, list, no_values, value}
use Rattle.nomos_printing.specs.ValueTexts.{value_text, row_text, tail_text}
use Rattle.nomos_printing.specs.Number.{ReadsNumber}
use Rattle.nomos_printing.specs.ReadAs.{ReadsAs}
use Rattle.nomos_printing.proofs.OneTextLaws.{decimal-only}
use Rattle.nomos_printing.proofs.ReadingLaws.{ReadsAs-none}
use Rattle.nomos_snapshot.specs.LineValue.{IsLineNumber, HasSmallNumbers, HaveSmallNumbers}
use Rattle.nomos_snapshot.specs.mirror.ValueReading.{IsScalar, IsInner, Ends}

-- ---- fronts without comma and `]`

-- such a front and what ends it are the only ones
pub inner-only : (v w s t : List ℕ) → All IsInner v → All IsInner w → Ends s → Ends t → v ++ s ≡ w ++ t
    → (v ≡ w) × (s ≡ t)
inner-only [] [] s t v_inner w_inner s_ends t_ends e = (refl, e)
inner-only [] (c ∷ w) [] t v_inner w_inner s_ends t_ends e = cc
inner-only [] (c ∷ w) (b ∷ s) t v_inner w_inner s_ends t_ends e =
    let same : c ≡ b = cc in
    absurd (s_ends (subst IsInner same (All-head IsInner c w w_inner)))
inner-only (b ∷ v) [] s [] v_inner w_inner s_ends t_ends e = cc
inner-only (b ∷ v) [] s (c ∷ t) v_inner w_inner s_ends t_ends e =
    let same : b ≡ c = cc in
    absurd (t_ends (subst IsInner same (All-head IsInner b v v_inner)))
inner-only (b ∷ v) (c ∷ w) s t v_inner w_inner s_ends t_ends e =
    let rest : v ++ s ≡ w ++ t = cc in
    let first : b ≡ c = cc in
    let inner = inner-only v w s t (All-tail IsInner b v v_inner) (All-tail IsInner c w w_inner) s_ends t_ends rest in
    (cc (first, inner.0), inner.1)

-- a number has digits alone
decimal-inner : (n : ℕ) → n < 2 ^ 128 → All IsInner (decimal n)
decimal-inner n small =
    let numeral = (decimal_is_IsNumeral_wide n (omega arith)).0 in
    All-from_get_or IsInner (decimal n) 0
    (λ i within. (
      (λ e. absurd (omega (arith, digit_at (decimal n) i numeral.1 within, e))),
      (λ e. absurd (omega (arith, digit_at (decimal n) i numeral.1 within, e))),
    ))

-- the sizes of numbers of 64 bits
small-pos : (n : ℕ) → IsLineNumber (pos n) → n < 2 ^ 63
small-pos n is = omega (arith, ints, is.1)

small-neg : (n : ℕ) → IsLineNumber (negsuc n) → suc n ≤ 2 ^ 63
small-neg n is = omega (arith, ints, is.0)

signed-inner : (z : ℤ) → IsLineNumber z → All IsInner (signed_decimal z)
signed-inner (pos n) is = decimal-inner n (omega (arith, small-pos n is))
signed-inner (negsuc n) is =
    All-cons IsInner 45 (decimal (suc n)) ((λ e. absurd (omega (arith, e))), (λ e. absurd (omega (arith, e))))
    (decimal-inner (suc n) (omega (arith, small-neg n is)))

-- a word of which each byte is told
letter : (b : ℕ) (text : List ℕ) → 93 < b → All IsInner text → All IsInner (b ∷ text)
letter b text over rest =
    All-cons IsInner b text ((λ e. absurd (omega (arith, e, over))), (λ e. absurd (omega (arith, e, over)))) rest

pub scalar-inner : (v : Value) → IsScalar v → All IsInner (value_text v)
scalar-inner (int z) is = signed-inner z is
scalar-inner (truth true) is =
    letter 116 (codes "rue") (omega arith) (letter 114 (codes "ue") (omega arith) (letter 117 (codes "e") (omega arith)
    (letter 101 [] (omega arith) (All-nil IsInner))))
scalar-inner (truth false) is =
    letter 102 (codes "alse") (omega arith) (letter 97 (codes "lse") (omega arith)
    (letter 108 (codes "se") (omega arith)
    (letter 115 (codes "e") (omega arith) (letter 101 [] (omega arith) (All-nil IsInner)))))
scalar-inner (list vs) is = absurd is

-- ---- first bytes

record IsDigit (b : ℕ) : Type 0 where
  low : 48 ≤ b
  high : b ≤ 57

digit-first : (n : ℕ) (s : List ℕ) → n < 2 ^ 64 → IsDigit (get_or (decimal n ++ s) 0 0)
digit-first n s small =
    let some = decimal_nonempty n (omega (arith, small)) in
    let digit = digit_at (decimal n) 0 (decimal_is_IsNumeral_wide n (omega (arith, small))).0.1 some in
    rw (get_or_append_left (decimal n) s 0 0 some) (record { low = omega (arith, digit); high = omega (arith, digit) })

signed-first : (z : ℤ) (s : List ℕ) → IsLineNumber z → get_or (signed_decimal z ++ s) 0 0 ≤ 57
signed-first (pos n) s is = (digit-first n s (omega (arith, small-pos n is))).high
signed-first (negsuc n) s is = omega arith

-- a number or truth value begins with no `[`, and a value with no `]`
pub scalar-first : (v : Value) (s : List ℕ) → IsScalar v → get_or (value_text v ++ s) 0 0 ≢ 91
scalar-first (int z) s is e = absurd (omega (arith, signed-first z s is, e))
scalar-first (truth true) s is e = absurd (omega (arith, e))
scalar-first (truth false) s is e = absurd (omega (arith, e))
scalar-first (list vs) s is e = absurd is

pub value-first : (v : Value) (s : List ℕ) → HasSmallNumbers v → get_or (value_text v ++ s) 0 0 ≢ 93
value-first (int z) s is e = absurd (omega (arith, signed-first z s is, e))
value-first (truth true) s is e = absurd (omega (arith, e))
value-first (truth false) s is e = absurd (omega (arith, e))
value-first (list vs) s is e = absurd (omega (arith, e))

-- ---- numbers below zero

-- what stands behind `-` is the size
record IsNegative (digits : List ℕ) (z : ℤ) : Type 0 where
  less : ℕ
  is : z ≡ negsuc less
  small : suc less ≤ 2 ^ 63
  written : digits ≡ decimal (suc less)

minus-parts : (digits : List ℕ) (z : ℤ) → IsLineNumber z → codes "-" ++ digits ≡ signed_decimal z → IsNegative digits z
minus-parts digits (pos n) is e =
    absurd (omega (arith, (digit-first n [] (omega (arith, small-pos n is))).low, ap (λ t. get_or (t ++ []) 0 0) e))
minus-parts digits (negsuc n) is e =
    record { less = n; is = refl; small = small-neg n is; written = ap (λ t. drop 1 t) e }

-- no size
pub minus-none : (text digits : List ℕ) → text ≡ codes "-" ++ digits → ReadsNumber (2 ^ 63) digits None
    → ReadsAs IsLineNumber signed_decimal text None
minus-none text digits minus reads =
    ReadsAs-none text (λ z is e.
    let n = minus-parts digits z is (sym minus ∙ e) in
    let none = reads.each (suc n.less) n.small n.written in
    cc)

-- a size, which is not 0
minus-some : (text digits : List ℕ) (size : ℕ) (answer : Option ℤ) → text ≡ codes "-" ++ digits → size ≤ 2 ^ 63
    → digits ≡ decimal size → SomeIff answer (0 < size) (neg_ℤ (pos size))
    → ReadsAs IsLineNumber signed_decimal text answer
minus-some text digits size None minus small written is =
    ReadsAs-none text (λ z is_number e.
    let n = minus-parts digits z is_number (sym minus ∙ e) in
    let same = decimal-only size (suc n.less) (omega (arith, small)) (omega (arith, n.small))
    (sym written ∙ n.written) in
    absurd (is (omega (arith, same))))
minus-some text digits zero (Some z) minus small written is = absurd (omega (arith, is.0))
minus-some text digits (suc less) (Some z) minus small written is =
    let is_neg : z ≡ negsuc less = is.1 in
    rw is_neg (record {
      found = (
        (omega (arith, ints, small), omega (arith, ints)),
        minus ∙ ap (λ (t : List ℕ). codes "-" ++ t) written,
      );
      each = λ y y_is e.
          let n = minus-parts digits y y_is (sym minus ∙ e) in
          let same = decimal-only (suc less) (suc n.less) (omega (arith, small)) (omega (arith, n.small))
          (sym written ∙ n.written) in
          let inner : less ≡ n.less = omega (arith, same) in
          ap (λ (k : ℕ). Some (negsuc k)) inner ∙ ap (λ (x : ℤ). Some x) (sym n.is);
    })

pub minus-reads : (text digits : List ℕ) (size : ℕ) (answer : Option ℤ) → text ≡ codes "-" ++ digits
    → ReadsNumber (2 ^ 63) digits (Some size) → SomeIff answer (0 < size) (neg_ℤ (pos size))
    → ReadsAs IsLineNumber signed_decimal text answer
minus-reads text digits size answer minus reads is =
    minus-some text digits size answer minus reads.found.0 reads.found.1 is

-- ---- numbers and truth values

signed-only : (y z : ℤ) → IsLineNumber y → IsLineNumber z → signed_decimal y ≡ signed_decimal z → y ≡ z
signed-only (pos m) (pos n) a b e =
    ap pos (decimal-only m n (omega (arith, small-pos m a)) (omega (arith, small-pos n b)) e)
signed-only (pos m) (negsuc n) a b e =
    absurd (omega (arith, (digit-first m [] (omega (arith, small-pos m a))).low, ap (λ t. get_or (t ++ []) 0 0) e))
signed-only (negsuc m) (pos n) a b e =
    absurd (omega (arith, (digit-first n [] (omega (arith, small-pos n b))).low, ap (λ t. get_or (t ++ []) 0 0) e))
signed-only (negsuc m) (negsuc n) a b e =
    let same : suc m ≡ suc n =
    decimal-only (suc m) (suc n) (omega (arith, small-neg m a)) (omega (arith, small-neg n b)) (ap (λ t. drop 1 t) e) in
    let inner : m ≡ n = omega (arith, same) in
    ap negsuc inner

scalar-only : (v w : Value) → IsScalar v → IsScalar w → value_text v ≡ value_text w → v ≡ w
scalar-only (int y) (int z) a b e = ap int (signed-only y z a b e)
scalar-only (int y) (truth true) a b e =
    absurd (omega (arith, signed-first y [] a, ap (λ t. get_or (t ++ []) 0 0) e))
scalar-only (int y) (truth false) a b e =
    absurd (omega (arith, signed-first y [] a, ap (λ t. get_or (t ++ []) 0 0) e))
scalar-only (int y) (list ws) a b e = absurd b
scalar-only (truth true) (int z) a b e =
    absurd (omega (arith, signed-first z [] b, ap (λ t. get_or (t ++ []) 0 0) e))
scalar-only (truth false) (int z) a b e =
    absurd (omega (arith, signed-first z [] b, ap (λ t. get_or (t ++ []) 0 0) e))
scalar-only (truth true) (truth true) a b e = refl
scalar-only (truth true) (truth false) a b e = absurd (omega (arith, ap (λ t. get_or t 0 0) e))
scalar-only (truth false) (truth true) a b e = absurd (omega (arith, ap (λ t. get_or t 0 0) e))
scalar-only (truth false) (truth false) a b e = refl
scalar-only (truth c) (list ws) a b e = absurd b
scalar-only (list vs) w a b e = absurd a

-- a number or truth value, and what ends it
scalars : (v w : Value) (s t : List ℕ) → IsScalar v → IsScalar w → Ends s → Ends t
    → value_text v ++ s ≡ value_text w ++ t
    → (v ≡ w) × (s ≡ t)
scalars v w s t a b s_ends t_ends e =
    let both = inner-only (value_text v) (value_text w) s t (scalar-inner v a) (scalar-inner w b) s_ends t_ends e in
    (scalar-only v w a b both.0, both.1)

-- ---- values and rows

-- what stands behind a value of a row ends it
pub tail-ends : (vs : ValueList) (s : List ℕ) → Ends (tail_text vs ++ 93 ∷ s)
tail-ends no_values s = λ inner. inner.1 refl
tail-ends (value v vs) s = λ inner. inner.0 refl

-- a row of some values before a `]`
pub row-parts : (v : Value) (vs : ValueList) (s : List ℕ)
    → row_text (value v vs) ++ 93 ∷ s ≡ value_text v ++ (tail_text vs ++ 93 ∷ s)
row-parts v vs s = append_assoc (value_text v) (tail_text vs) (93 ∷ s)

mutual
  -- a value and what ends it are the only ones
  pub value-only : (v w : Value) (s t : List ℕ) → HasSmallNumbers v → HasSmallNumbers w → Ends s → Ends t
      → value_text v ++ s ≡ value_text w ++ t → (v ≡ w) × (s ≡ t)
  value-only (int y) (int z) s t a b s_ends t_ends e = scalars (int y) (int z) s t a b s_ends t_ends e
  value-only (int y) (truth c) s t a b s_ends t_ends e = scalars (int y) (truth c) s t a tt s_ends t_ends e
  value-only (int y) (list ws) s t a b s_ends t_ends e =
      absurd (scalar-first (int y) s a (ap (λ x. get_or x 0 0) e))
  value-only (truth c) (int z) s t a b s_ends t_ends e = scalars (truth c) (int z) s t tt b s_ends t_ends e
  value-only (truth c) (truth d) s t a b s_ends t_ends e = scalars (truth c) (truth d) s t tt tt s_ends t_ends e
  value-only (truth c) (list ws) s t a b s_ends t_ends e =
      absurd (scalar-first (truth c) s tt (ap (λ x. get_or x 0 0) e))
  value-only (list vs) (int z) s t a b s_ends t_ends e =
      absurd (scalar-first (int z) t b (sym (ap (λ x. get_or x 0 0) e)))
  value-only (list vs) (truth c) s t a b s_ends t_ends e =
      absurd (scalar-first (truth c) t tt (sym (ap (λ x. get_or x 0 0) e)))
  value-only (list vs) (list ws) s t a b s_ends t_ends e =
      let inner = rows-only vs ws s t a b
      (sym (append_assoc (row_text vs) (codes "]") s) ∙ ap (λ x. drop 1 x) e ∙ append_assoc (row_text ws) (codes "]")
      t) in
      (ap list inner.0, inner.1)

  -- so are the values of a list behind its `[`
  pub rows-only : (vs ws : ValueList) (s t : List ℕ) → HaveSmallNumbers vs → HaveSmallNumbers ws
      → row_text vs ++ 93 ∷ s ≡ row_text ws ++ 93 ∷ t → (vs ≡ ws) × (s ≡ t)
  rows-only no_values no_values s t a b e = (refl, ap (λ x. drop 1 x) e)
  rows-only no_values (value w ws) s t a b e =
      absurd (value-first w (tail_text ws ++ 93 ∷ t) b.0 (sym (ap (λ x. get_or x 0 0) (e ∙ row-parts w ws t))))
  rows-only (value v vs) no_values s t a b e =
      absurd (value-first v (tail_text vs ++ 93 ∷ s) a.0 (ap (λ x. get_or x 0 0) (sym (row-parts v vs s) ∙ e)))
  rows-only (value v vs) (value w ws) s t a b e =
      let first = value-only v w (tail_text vs ++ 93 ∷ s) (tail_text ws ++ 93 ∷ t) a.0 b.0 (tail-ends vs s)
      (tail-ends ws t) (sym (row-parts v vs s) ∙ e ∙ row-parts w ws t) in
      let rest = tails-only vs ws s t a.1 b.1 first.1 in
      (ap (λ x. value x vs) first.0 ∙ ap (λ xs. value w xs) rest.0, rest.1)

  tails-only : (vs ws : ValueList) (s t : List ℕ) → HaveSmallNumbers vs → HaveSmallNumbers ws
      → tail_text vs ++ 93 ∷ s ≡ tail_text ws ++ 93 ∷ t → (vs ≡ ws) × (s ≡ t)
  tails-only no_values no_values s t a b e = (refl, ap (λ x. drop 1 x) e)
  tails-only no_values (value w ws) s t a b e = absurd (omega (arith, ap (λ x. get_or x 0 0) e))
  tails-only (value v vs) no_values s t a b e = absurd (omega (arith, ap (λ x. get_or x 0 0) e))
  tails-only (value v vs) (value w ws) s t a b e =
      let first = value-only v w (tail_text vs ++ 93 ∷ s) (tail_text ws ++ 93 ∷ t) a.0 b.0 (tail-ends vs s)
      (tail-ends ws t) (sym (row-parts v vs s) ∙ ap (λ x. drop 1 x) e ∙ row-parts w ws t) in
      let rest = tails-only vs ws s t a.1 b.1 first.1 in
      (ap (λ x. value x vs) first.0 ∙ ap (λ xs. value w xs) rest.0, rest.1)

-- ---- bytes of values

-- a value has no blank and no line feed: each byte is one of those from the comma on
abbrev pub IsSolid : ℕ → Type 0
IsSolid b = 44 ≤ b

digits-solid : (n : ℕ) → n < 2 ^ 64 → All IsSolid (decimal n)
digits-solid n small =
    let numeral = (decimal_is_IsNumeral_wide n (omega (arith, small))).0 in
    All-from_get_or IsSolid (decimal n) 0 (λ i within. omega (arith, digit_at (decimal n) i numeral.1 within))

scalar-solid : (v : Value) → IsScalar v → All IsSolid (value_text v)
scalar-solid (int (pos n)) is = digits-solid n (omega (arith, small-pos n is))
scalar-solid (int (negsuc n)) is =
    All-cons IsSolid 45 (decimal (suc n)) (omega arith) (digits-solid (suc n) (omega (arith, small-neg n is)))
scalar-solid (truth true) is =
    All-cons IsSolid 116 (codes "rue") (omega arith) (All-cons IsSolid 114 (codes "ue") (omega arith)
    (All-cons IsSolid 117 (codes "e") (omega arith) (All-cons IsSolid 101 [] (omega arith) (All-nil IsSolid))))
scalar-solid (truth false) is =
    All-cons IsSolid 102 (codes "alse") (omega arith) (All-cons IsSolid 97 (codes "lse") (omega arith)
    (All-cons IsSolid 108 (codes "se") (omega arith) (All-cons IsSolid 115 (codes "e") (omega arith)
    (All-cons IsSolid 101 [] (omega arith) (All-nil IsSolid)))))
scalar-solid (list vs) is = absurd is

close-solid : All IsSolid (codes "]")
close-solid = All-cons IsSolid 93 [] (omega arith) (All-nil IsSolid)

mutual
  pub value-solid : (v : Value) → HasSmallNumbers v → All IsSolid (value_text v)
  value-solid (int z) is = scalar-solid (int z) is
  value-solid (truth b) is = scalar-solid (truth b) tt
  value-solid (list vs) is =
      All-cons IsSolid 91 (row_text vs ++ codes "]") (omega arith)
      (All-append IsSolid (row_text vs) (codes "]") (row-solid vs is) close-solid)

  row-solid : (vs : ValueList) → HaveSmallNumbers vs → All IsSolid (row_text vs)
  row-solid no_values is = All-nil IsSolid
  row-solid (value v vs) is =
      All-append IsSolid (value_text v) (tail_text vs) (value-solid v is.0) (tail-solid vs is.1)

  tail-solid : (vs : ValueList) → HaveSmallNumbers vs → All IsSolid (tail_text vs)
  tail-solid no_values is = All-nil IsSolid
  tail-solid (value v vs) is =
      All-cons IsSolid 44 (value_text v ++ tail_text vs) (omega arith)
      (All-append IsSolid (value_text v) (tail_text vs) (value-solid v is.0) (tail-solid vs is.1))
