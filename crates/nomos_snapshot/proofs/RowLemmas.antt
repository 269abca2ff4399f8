-- How the code takes a value, and the values of a list one after another.
use Rattle.std.proofs.Common.{◌≡◌, ◌≢◌, ℕ, ◌-◌, ◌≤◌, List, [], ◌∷◌, ◌++◌, drop, get_or, refl, sym, ◌∙◌, ap, subst, arith, append_assoc, append-nil, Result, Ok, Err, Option, Some, None, IfOk}
use Rattle.std.specs.Prelude.{codes, MatchOption}
use Rattle.nomos_ir.specs.Value.{Value, ValueList, int, truth, list, no_values, value, value_list}
use Rattle.nomos_printing.specs.ValueTexts.{value_text, row_text, tail_text}
use Rattle.nomos_snapshot.specs.LineValue.{IsLineValue, HasSmallNumbers, HaveSmallNumbers, nesting, nestings}
use Rattle.nomos_snapshot.specs.mirror.ValueReading.{IsScalar, IsWithin, AreWithin, Ends, BeginsScalar, BeginsValue, HasNoValue, BeginsRow, HasNoRow}
use Rattle.nomos_snapshot.proofs.ValueLemmas.{inner-only, scalar-inner, scalar-first, value-only, rows-only, row-parts, tail-ends}

-- ---- one value

-- a number or truth value is within each depth
scalar-within : (depth : ℕ) (v : Value) → IsScalar v → IsWithin depth v
scalar-within depth (int z) is = (is, omega arith)
scalar-within depth (truth b) is = (tt, omega arith)
scalar-within depth (list vs) is = absurd is

-- the two ways in which a value begins
no-scalar : (depth : ℕ) (text word left : List ℕ) → ((rest : List ℕ) → text ≢ codes "[" ++ rest)
    → BeginsScalar text word left → ((v : Value) → IsScalar v → word ≢ value_text v)
    → (v : Value) (back : List ℕ) → BeginsValue depth text v back → ⊥
no-scalar depth text word left other begins none (int z) back value_begins =
    let both = inner-only word (value_text (int z)) left back begins.inner (scalar-inner (int z) value_begins.within.0)
    begins.ends value_begins.ends (sym begins.joined ∙ value_begins.joined) in
    none (int z) value_begins.within.0 both.0
no-scalar depth text word left other begins none (truth b) back value_begins =
    let both = inner-only word (value_text (truth b)) left back begins.inner (scalar-inner (truth b) tt)
    begins.ends value_begins.ends (sym begins.joined ∙ value_begins.joined) in
    none (truth b) tt both.0
no-scalar depth text word left other begins none (list vs) back value_begins =
    other ((row_text vs ++ codes "]") ++ back) value_begins.joined

pub scalar-none : (depth : ℕ) (text word left : List ℕ) → ((rest : List ℕ) → text ≢ codes "[" ++ rest)
    → BeginsScalar text word left → ((v : Value) → IsScalar v → word ≢ value_text v) → HasNoValue depth text
scalar-none depth text word left other begins none = no-scalar depth text word left other begins none

-- a value that begins with `[` is a list
record ListBegins (depth : ℕ) (inner : List ℕ) (v : Value) (back : List ℕ) : Type 0 where
  values : ValueList
  is : v ≡ list values
  deep : 1 ≤ depth
  row : BeginsRow (depth - 1) inner values back

list-begins : (depth : ℕ) (text inner : List ℕ) → text ≡ codes "[" ++ inner → (v : Value) (back : List ℕ)
    → BeginsValue depth text v back → ListBegins depth inner v back
list-begins depth text inner open_is (int z) back begins =
    absurd (scalar-first (int z) back begins.within.0 (ap (λ x. get_or x 0 0) (sym begins.joined ∙ open_is)))
list-begins depth text inner open_is (truth b) back begins =
    absurd (scalar-first (truth b) back tt (ap (λ x. get_or x 0 0) (sym begins.joined ∙ open_is)))
list-begins depth text inner open_is (list vs) back begins = record {
  values = vs;
  is = refl;
  deep = omega (arith, begins.within.1);
  row = record {
    within = (begins.within.0, omega (arith, begins.within.1));
    joined = ap (λ x. drop 1 x) (sym open_is ∙ begins.joined) ∙ append_assoc (row_text vs) (codes "]") back;
  };
}

pub list-deep : (depth : ℕ) (text inner : List ℕ) → text ≡ codes "[" ++ inner → depth ≡ 0 → HasNoValue depth text
list-deep depth text inner open_is none v back begins =
    let l = list-begins depth text inner open_is v back begins in
    absurd (omega (arith, l.deep, none))

pub list-none : (depth : ℕ) (text inner : List ℕ) → text ≡ codes "[" ++ inner → HasNoRow (depth - 1) inner
    → HasNoValue depth text
list-none depth text inner open_is none v back begins =
    let l = list-begins depth text inner open_is v back begins in
    none l.values back l.row

pub list-unended : (depth : ℕ) (text inner left : List ℕ) (vs : List Value) → text ≡ codes "[" ++ inner
    → BeginsRow (depth - 1) inner (value_list vs) left → ¬ (Ends left) → HasNoValue depth text
list-unended depth text inner left vs open_is row unended v back begins =
    let l = list-begins depth text inner open_is v back begins in
    let both = rows-only (value_list vs) l.values left back row.within.0 l.row.within.0
    (sym row.joined ∙ l.row.joined) in
    unended (subst Ends (sym both.1) begins.ends)

-- ---- values with a comma behind each

-- a row with these values in front
more_values : List Value → ValueList → ValueList
more_values [] vs = vs
more_values (v ∷ done) vs = value v (more_values done vs)

-- values with a comma behind each
pub front_text : List Value → List ℕ
front_text [] = []
front_text (v ∷ vs) = value_text v ++ 44 ∷ front_text vs

-- What is left of a text behind values with a comma behind each.
pub record ReadItems (depth : ℕ) (text left : List ℕ) (done : List Value) : Type 0 where
  pub within : AreWithin depth (value_list done)
  pub joined : text ≡ front_text done ++ left

pub nothing-read : (depth : ℕ) (text : List ℕ) → ReadItems depth text text []
unfolding front_text
nothing-read depth text = record { within = (tt, omega arith); joined = refl }

-- one value more at the end
list-more : (done : List Value) (v : Value) → value_list (done ++ v ∷ []) ≡ more_values done (value v no_values)
unfolding more_values
list-more [] v = refl
list-more (d ∷ done) v = ap (λ vs. value d vs) (list-more done v)

within-more : (depth : ℕ) (done : List Value) (v : Value) → AreWithin depth (value_list done) → IsWithin depth v
    → AreWithin depth (value_list (done ++ v ∷ []))
within-more depth [] v all is = ((is.0, tt), omega (arith, is.1))
within-more depth (d ∷ done) v all is =
    let rest = within-more depth done v (all.0.1, omega (arith, all.1)) is in
    ((all.0.0, rest.0), omega (arith, all.1, rest.1))

front-more : (done : List Value) (v : Value) → front_text (done ++ v ∷ []) ≡ front_text done
    ++ (value_text v ++ 44 ∷ [])
unfolding front_text
front-more [] v = refl
front-more (d ∷ done) v =
    ap (λ (t : List ℕ). value_text d ++ 44 ∷ t) (front-more done v)
    ∙ sym (append_assoc (value_text d) (44 ∷ front_text done) (value_text v ++ 44 ∷ []))

-- behind a comma
pub comma-read : (depth : ℕ) (text left rest more : List ℕ) (done : List Value) (v : Value)
    → ReadItems depth text left done → BeginsValue depth left v rest → rest ≡ codes "," ++ more
    → ReadItems depth text more (done ++ v ∷ [])
comma-read depth text left rest more done v read begins comma = record {
  within = within-more depth done v read.within begins.within;
  joined =
      read.joined ∙ ap (λ (t : List ℕ). front_text done ++ t)
      (begins.joined ∙ ap (λ (t : List ℕ). value_text v ++ t) comma
      ∙ sym (append_assoc (value_text v) (44 ∷ []) more))
      ∙ sym (append_assoc (front_text done) (value_text v ++ 44 ∷ []) more)
      ∙ ap (λ (t : List ℕ). t ++ more) (sym (front-more done v));
}

-- values with a comma behind each, and others, are a row
front-row : (done : List Value) (v : Value) (vs : ValueList)
    → front_text done ++ row_text (value v vs) ≡ row_text (more_values done (value v vs))
unfolding front_text more_values
front-row [] v vs = refl
front-row (d ∷ []) v vs = append_assoc (value_text d) (44 ∷ []) (row_text (value v vs))
front-row (d ∷ e ∷ done) v vs =
    append_assoc (value_text d) (44 ∷ front_text (e ∷ done)) (row_text (value v vs))
    ∙ ap (λ (t : List ℕ). value_text d ++ 44 ∷ t) (front-row (e ∷ done) v vs)

-- behind the `]`
pub row-read : (depth : ℕ) (text left rest more : List ℕ) (done : List Value) (v : Value)
    → ReadItems depth text left done → BeginsValue depth left v rest → rest ≡ codes "]" ++ more
    → BeginsRow depth text (value_list (done ++ v ∷ [])) more
row-read depth text left rest more done v read begins close = record {
  within = within-more depth done v read.within begins.within;
  joined =
      read.joined ∙ ap (λ (t : List ℕ). front_text done ++ t)
      (begins.joined ∙ ap (λ (t : List ℕ). value_text v ++ t) close)
      ∙ sym (append_assoc (front_text done) (value_text v) (93 ∷ more))
      ∙ ap (λ (t : List ℕ). (front_text done ++ t) ++ 93 ∷ more) (sym (append-nil (value_text v)))
      ∙ ap (λ (t : List ℕ). t ++ 93 ∷ more) (front-row done v no_values)
      ∙ ap (λ (vs : ValueList). row_text vs ++ 93 ∷ more) (sym (list-more done v));
}

-- ---- rows that there are not

-- a row goes on where the values with commas end
record RowSplits (ws : ValueList) (left back : List ℕ) : Type 0 where
  first : Value
  others : ValueList
  small : HasSmallNumbers first
  low : nesting first ≤ nestings ws
  joined : left ≡ value_text first ++ (tail_text others ++ 93 ∷ back)

row-splits : (done : List Value) (w : Value) (ws : ValueList) (left back : List ℕ) → HaveSmallNumbers (value_list done)
    → HaveSmallNumbers (value w ws) → front_text done ++ left ≡ row_text (value w ws) ++ 93 ∷ back
    → RowSplits (value w ws) left back
unfolding front_text
row-splits [] w ws left back done_small small e = record {
  first = w;
  others = ws;
  small = small.0;
  low = omega arith;
  joined = e ∙ row-parts w ws back;
}
row-splits (d ∷ done) w no_values left back done_small small e =
    let both = value-only d w (44 ∷ (front_text done ++ left)) (93 ∷ back) done_small.0 small.0
    (λ inner. inner.0 refl) (λ inner. inner.1 refl)
    (sym (append_assoc (value_text d) (44 ∷ front_text done) left) ∙ e ∙ row-parts w no_values back) in
    absurd (omega (arith, ap (λ x. get_or x 0 0) both.1))
row-splits (d ∷ done) w (value x xs) left back done_small small e =
    let both = value-only d w (44 ∷ (front_text done ++ left)) (tail_text (value x xs) ++ 93 ∷ back) done_small.0
    small.0
    (λ inner. inner.0 refl) (tail-ends (value x xs) back)
    (sym (append_assoc (value_text d) (44 ∷ front_text done) left) ∙ e ∙ row-parts w (value x xs) back) in
    let inner = row-splits done x xs left back done_small.1 small.1 (ap (λ t. drop 1 t) both.1) in
    record {
      first = inner.first;
      others = inner.others;
      small = inner.small;
      low = omega (arith, inner.low);
      joined = inner.joined;
    }

-- so each row of the text has a value where the others end
row-value : (depth : ℕ) (text left : List ℕ) (done : List Value) (ws : ValueList) (back : List ℕ)
    → ((rest : List ℕ) → text ≢ codes "]" ++ rest) → ReadItems depth text left done → BeginsRow depth text ws back
    → RowSplits ws left back
row-value depth text left done no_values back open_is read row = absurd (open_is back row.joined)
row-value depth text left done (value w ws) back open_is read row =
    row-splits done w ws left back read.within.0 row.within.0 (sym read.joined ∙ row.joined)

-- no value stands there
pub row-none : (depth : ℕ) (text left : List ℕ) (done : List Value) → ((rest : List ℕ) → text ≢ codes "]" ++ rest)
    → ReadItems depth text left done → HasNoValue depth left → HasNoRow depth text
row-none depth text left done open_is read none ws back row =
    let splits = row-value depth text left done ws back open_is read row in
    none splits.first (tail_text splits.others ++ 93 ∷ back) (record {
      within = (splits.small, omega (arith, splits.low, row.within.1));
      ends = tail-ends splits.others back;
      joined = splits.joined;
    })

-- the value is not ended by a comma or by `]`
pub row-unended : (depth : ℕ) (text left rest : List ℕ) (done : List Value) (v : Value)
    → ((back : List ℕ) → text ≢ codes "]" ++ back) → ReadItems depth text left done → BeginsValue depth left v rest
    → ((more : List ℕ) → rest ≢ codes "," ++ more) → ((more : List ℕ) → rest ≢ codes "]" ++ more) → HasNoRow depth text
row-unended depth text left rest done v open_is read begins no_comma no_close ws back row =
    let splits = row-value depth text left done ws back open_is read row in
    let both = value-only v splits.first rest (tail_text splits.others ++ 93 ∷ back) begins.within.0 splits.small
    begins.ends (tail-ends splits.others back) (sym begins.joined ∙ splits.joined) in
    unended-tail splits.others rest back both.1 no_comma no_close
  where
    unended-tail : (others : ValueList) (rest back : List ℕ) → rest ≡ tail_text others ++ 93 ∷ back
        → ((more : List ℕ) → rest ≢ codes "," ++ more) → ((more : List ℕ) → rest ≢ codes "]" ++ more) → ⊥
    unended-tail no_values rest back e no_comma no_close = no_close back e
    unended-tail (value x xs) rest back e no_comma no_close =
        no_comma ((value_text x ++ tail_text xs) ++ 93 ∷ back) e

-- what is behind the last value that was taken
pub row-closed : {R E : Type 0} (result : Result (Option (List Value × R)) E) (now : R → List ℕ) (depth : ℕ)
    (text left rest : List ℕ) (done : List Value) (v : Value) → ((back : List ℕ) → text ≢ codes "]" ++ back)
    → ReadItems depth text left done → BeginsValue depth left v rest → ((more : List ℕ) → rest ≢ codes "," ++ more)
    → IfOk result (λ found. MatchOption found ((more : List ℕ) → rest ≢ codes "]" ++ more)
    (λ p. (p.0 ≡ done ++ v ∷ []) × (rest ≡ codes "]" ++ now p.1)))
    → IfOk result (λ found. MatchOption found (HasNoRow depth text)
    (λ p. BeginsRow depth text (value_list p.0) (now p.1)))
row-closed (Ok None) now depth text left rest done v open_is read begins no_comma told =
    row-unended depth text left rest done v open_is read begins no_comma told
row-closed (Ok (Some p)) now depth text left rest done v open_is read begins no_comma told =
    rw told.0 (row-read depth text left rest (now p.1) done v read begins told.1)
row-closed (Err e) now depth text left rest done v open_is read begins no_comma told = tt

-- ---- whole texts

-- a text that is a value has nothing behind it
whole : (text : List ℕ) (v : Value) → IsLineValue v → text ≡ value_text v → BeginsValue 256 text v []
whole text v is e = record {
  within = (is.small, is.nested);
  ends = tt;
  joined = e ∙ sym (append-nil (value_text v));
}

pub value-none : (text : List ℕ) → HasNoValue 256 text → (v : Value) → IsLineValue v → text ≢ value_text v
value-none text none v is e = none v [] (whole text v is e)

pub value-behind : (text left : List ℕ) (v : Value) → BeginsValue 256 text v left → left ≢ [] → (w : Value)
    → IsLineValue w → text ≢ value_text w
value-behind text left v begins some w is e =
    let as_whole = whole text w is e in
    let both = value-only v w left [] begins.within.0 is.small begins.ends tt (sym begins.joined ∙ as_whole.joined) in
    some both.1

-- no two values of lines are written alike
pub value_text-only : (v w : Value) → IsLineValue v → IsLineValue w → value_text v ≡ value_text w → v ≡ w
value_text-only v w a b e =
    (value-only v w [] [] a.small b.small tt tt
    (append-nil (value_text v) ∙ e ∙ sym (append-nil (value_text w)))).0

-- a text that is a value is the list that the value is, if it is one
pub list-reads : (result : Option (List Value)) (text : List ℕ) (v : Value) → IsLineValue v → text ≡ value_text v
    → MatchOption result ((vs : ValueList) → v ≢ list vs) (λ items. v ≡ list (value_list items))
    → MatchOption result
    ((items : List Value) → IsLineValue (list (value_list items)) → text ≢ value_text (list (value_list items)))
    (λ items. IsLineValue (list (value_list items)) × (text ≡ value_text (list (value_list items))))
list-reads None text v is e other = λ items items_is same.
    other (value_list items) (value_text-only v (list (value_list items)) is items_is (sym e ∙ same))
list-reads (Some items) text v is e same = (subst IsLineValue same is, e ∙ ap value_text same)

pub list-none_read : (text : List ℕ) → ((v : Value) → IsLineValue v → text ≢ value_text v)
    → (items : List Value) → IsLineValue (list (value_list items)) → text ≢ value_text (list (value_list items))
list-none_read text none items = none (list (value_list items))
