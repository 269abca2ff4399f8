-- How far parts are from a token, where productions are replaced.
use Rattle.std.proofs.Common.{
  ◌≡◌,
  ℕ,
  ◌+◌,
  ◌*◌,
  ◌<◌,
  ◌≤◌,
  max,
  nat_lt,
  nat_le,
  nat_eq,
  Bool,
  true,
  false,
  ◌&&◌,
  ◌||◌,
  not,
  List,
  [],
  ◌∷◌,
  ◌++◌,
  length,
  refl,
  ap,
  ◌∙◌,
  arith,
  length-append,
  if◌then◌else◌,
}
use Rattle.std.proofs.lemmas.Bool.{ltb-true, leb-true, eqb-true}
use Rattle.nomos_grammar.specs.declared.part.Nonterminal.{Nonterminal}
use Rattle.nomos_grammar.specs.declared.part.Mark.{Mark}
use Rattle.nomos_grammar.specs.declared.part.Part.{Part}
use Rattle.nomos_grammar.specs.declared.part.Part.TheVariants as part
use Rattle.nomos_grammar.specs.Producing.{IsAmong, file}
use Rattle.nomos_grammar.specs.Grammar.{alternatives}
use Rattle.nomos_grammar.specs.mirror.Table.{vanishes}
use Rattle.nomos_grammar.specs.mirror.Stacks.{may_vanish, rises, rank, distance, IsLow}
use Rattle.nomos_grammar.proofs.TerminalLemmas.{and_first, and_second}
use Rattle.nomos_grammar.proofs.TableLemmas.{
  each_side-at,
  vanishes_empty,
  all_vanish_empty,
  comes_nearer,
  all_come_nearer,
  never_rises,
  stays_low,
  all_stay_low,
}
use Rattle.nomos_grammar.proofs.ChoiceLemmas.{vanishing_side}

solid_case : (v w : Bool) (x y : ℕ) → (w ≡ false → x ≡ y) → (v && w) ≡ false →
    (if v then x else 0) ≡ (if v then y else 0)
solid_case true w x y same h = same h
solid_case false w x y same h = refl

-- what stands behind parts that do not vanish makes no difference
distance_solid : (side rest : List Part) → may_vanish side ≡ false → distance (side ++ rest) ≡ distance side
distance_solid [] rest h = cc
distance_solid (part.Terminal t ∷ side) rest h = refl
distance_solid (part.Mark m ∷ side) rest h = rw (distance_solid side rest h)
distance_solid (part.Nonterminal m ∷ side) rest h =
    ap (λ d. max (rank m) d) (solid_case (vanishes m) (may_vanish side) (distance (side ++ rest)) (distance side)
    (distance_solid side rest) h)

-- a production is no nearer to a token than where it vanishes
vanished_case : (v : Bool) (r d : ℕ) → v ≡ true → d ≤ max r (if v then d else 0)
vanished_case true r d h = omega arith
vanished_case false r d h = cc

pub distance_vanished : (n : Nonterminal) (rest : List Part) → vanishes n ≡ true →
    distance rest ≤ distance (part.Nonterminal n ∷ rest)
distance_vanished n rest h = vanished_case (vanishes n) (rank n) (distance rest) h

not_false : (b : Bool) → not b ≡ true → b ≡ false
not_false true h = cc
not_false false h = refl

-- an alternative that is not empty comes nearer to a token
nearer : (n : Nonterminal) (p : Part) (side rest : List Part) → IsAmong (p ∷ side) (alternatives n) →
    (distance ((p ∷ side) ++ rest) < rank n) × (length (p ∷ side) < 20)
nearer n p side rest m =
    let solid = not_false (may_vanish (p ∷ side))
    (each_side-at vanishes_empty (alternatives n) (p ∷ side) (all_vanish_empty n) m) in
    let near = each_side-at (comes_nearer n) (alternatives n) (p ∷ side) (all_come_nearer n) m in
    let far = ltb-true (distance (p ∷ side)) (rank n) (and_first _ _ near) in (
      rw (distance_solid (p ∷ side) rest solid) far,
      ltb-true (length (p ∷ side)) 20 (and_second (nat_lt (distance (p ∷ side)) (rank n)) _ near),
    )

-- what falls while parts are replaced and marks are counted
abbrev pub steps_left : List Part → ℕ
steps_left parts = 20 * distance parts + length parts

pub fewer_replaced : (n : Nonterminal) (side rest : List Part) → IsAmong side (alternatives n) →
    steps_left (side ++ rest) < steps_left (part.Nonterminal n ∷ rest)
fewer_replaced n [] rest m =
    let h = distance_vanished n rest ((vanishing_side n [] m refl).1) in
    omega (arith, h)
fewer_replaced n (p ∷ side) rest m =
    let h = nearer n p side rest m in
    let k : rank n ≤ distance (part.Nonterminal n ∷ rest) = omega arith in
    let l = length-append (p ∷ side) rest in
    omega (arith, h.0, h.1, k, l)

-- so the parts come no farther from a token
pub distance_replaced : (n : Nonterminal) (side rest : List Part) → IsAmong side (alternatives n) →
    distance (side ++ rest) ≤ distance (part.Nonterminal n ∷ rest)
distance_replaced n [] rest m = distance_vanished n rest ((vanishing_side n [] m refl).1)
distance_replaced n (p ∷ side) rest m =
    let h = nearer n p side rest m in
    let k : rank n ≤ distance (part.Nonterminal n ∷ rest) = omega arith in
    omega (arith, h.0, k)

flat_case : (v : Bool) (r x y z : ℕ) → x ≤ max y z → max r (if v then x else 0) ≤ max (max r (if v then y else 0)) z
flat_case true r x y z h = omega (arith, h)
flat_case false r x y z h = omega arith

-- parts that add nothing are no farther from a token than they are alone, or what stands behind them
distance_flat : (side rest : List Part) → never_rises side ≡ true →
    distance (side ++ rest) ≤ max (distance side) (distance rest)
distance_flat [] rest h = omega arith
distance_flat (part.Terminal t ∷ side) rest h = omega arith
distance_flat (part.Mark m ∷ side) rest h =
    let none : rises m ≡ 0 = eqb-true (rises m) 0 (and_first _ (never_rises side) h) in
    let more = distance_flat side rest (and_second (nat_eq (rises m) 0) _ h) in
    omega (arith, none, more)
distance_flat (part.Nonterminal m ∷ side) rest h =
    flat_case (vanishes m) (rank m) (distance (side ++ rest)) (distance side) (distance rest)
    (distance_flat side rest h)

low_first : (rest : List Part) → IsLow rest → distance rest ≤ 40
low_first [] low = omega arith
low_first (p ∷ rest) low = low.0

low_end : (v r : Bool) (side rest : List Part) → may_vanish side ≡ v → never_rises side ≡ r →
    (not v || r) ≡ true → distance side ≤ 40 → distance rest ≤ 40 → distance (side ++ rest) ≤ 40
low_end false r side rest solid e h own behind = rw (distance_solid side rest solid) own
low_end true r side rest solid e h own behind =
    let flat = distance_flat side rest (e ∙ h) in
    omega (arith, flat, own, behind)

low_joined : (side rest : List Part) → stays_low side ≡ true → IsLow rest → IsLow (side ++ rest)
low_joined [] rest h low = low
low_joined (p ∷ side) rest h low =
    let h1 = and_second (nat_le (distance (p ∷ side)) 40) _ h in (
      low_end (may_vanish (p ∷ side)) (never_rises (p ∷ side)) (p ∷ side) rest refl refl
          (and_first _ (stays_low side) h1)
          (leb-true (distance (p ∷ side)) 40 (and_first _ _ h)) (low_first rest low),
      low_joined side rest (and_second (not (may_vanish (p ∷ side)) || never_rises (p ∷ side)) _ h1) low,
    )

pub low_replaced : (n : Nonterminal) (side rest : List Part) → IsAmong side (alternatives n) →
    IsLow (part.Nonterminal n ∷ rest) → IsLow (side ++ rest)
low_replaced n side rest m low =
    low_joined side rest (each_side-at stays_low (alternatives n) side (all_stay_low n) m) low.1

pub low_distance : (parts : List Part) → IsLow parts → distance parts ≤ 40
low_distance parts low = low_first parts low

pub low_file : IsLow file
unfolding rank
low_file = (omega arith, tt)
