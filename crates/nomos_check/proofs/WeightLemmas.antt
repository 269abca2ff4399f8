-- What is left to do grows less.
use Rattle.std.proofs.Common.{◌≡◌, ◌<◌, ◌≤◌, ◌+◌, ◌*◌, ⊎_elim, ℕ, zero, suc, List, [], ◌∷◌, ◌++◌, map, length, sum_by, All, Contains, refl, sym, ap, subst, arith}
use Rattle.std.proofs.Math.Nat.{mul-le-mul_right}
use Rattle.std.proofs.lemmas.Bool.{cases_lt}
use Rattle.std.proofs.lemmas.List.{length-map}
use Rattle.std.proofs.lemmas.List.Elements.{All-weaker, All-contains_itself}
use Rattle.std.proofs.lemmas.List.Sums.{sum_by-le, sum_by-cons, sum_by-append}
use Rattle.nomos_ir.specs.declared.code_node.Chan.TheVariants as chan
use Rattle.nomos_ir.specs.declared.code_node.CodeNode.{CodeNode}
use Rattle.nomos_ir.specs.declared.lists.ProgramLists.{ProgramLists}
use Rattle.nomos_ir.specs.CodeParts.{code_next}
use Rattle.nomos_types.proofs.FollowingLaws.{place, row-places}
use Rattle.nomos_types.proofs.InversionLaws.{row-descends}
use Rattle.nomos_types.proofs.OccurrenceLaws.{contains-found}
use Rattle.nomos_types.proofs.RowLaws.{row-at}
use Rattle.nomos_types.specs.Equality.{no_amounts}
use Rattle.nomos_types.specs.Judgement.{Judgement}
use Rattle.nomos_types.specs.Typed.{IsWellFormed}
use Rattle.nomos_check.proofs.ListLemmas.{contains-map}
use Rattle.nomos_check.proofs.StarLaws.{at_most-greatest}
use Rattle.nomos_check.specs.declared.standing.Forks.{Forks}
use Rattle.nomos_check.specs.declared.standing.WayOn.{WayOn}
use Rattle.nomos_check.specs.declared.standing.WayOn.TheVariants as way
use Rattle.nomos_check.specs.mirror.StandingData.{shape_of, way_shape, LeadsAlong}
use Rattle.nomos_check.specs.mirror.Walking.{width, weight, way_next, forks_work, work}

-- a weight times two and some more
doubled : (b w : ℕ) → (b + 2) * w ≡ b * w + w + w
doubled b w = grind arith

pub weight-positive : (b p : ℕ) → 2 ≤ weight b p
weight-positive b zero = omega arith
weight-positive b (suc p) = omega (arith, weight-positive b p, doubled b (weight b p))

pub weight-rises : (b q p : ℕ) → q ≤ p → weight b q ≤ weight b p
weight-rises b q zero low = let none : q ≡ 0 = omega arith in subst (λ (n : ℕ). weight b n ≤ weight b 0) (sym none)
    (omega arith)
weight-rises b q (suc p) low =
    ⊎_elim (λ (below : q < suc p). omega (arith, weight-rises b q p (omega arith), doubled b (weight b p)))
    (λ (above : suc p ≤ q). let same : q ≡ suc p = omega arith in subst (λ (n : ℕ). weight b n ≤ weight b (suc p))
    (sym same) (omega arith))
    (cases_lt q (suc p))

few-times : (n b m : ℕ) → n ≤ b → n * m ≤ b * m
few-times n b m few = mul-le-mul_right m few

-- ways to instructions with lower numbers are less to do than the instruction
light-ways : (b p : ℕ) (ways : List WayOn) → length ways ≤ b → All (λ w. way_next w < p) ways
    → 1 + sum_by (λ w. weight b (way_next w)) ways < weight b p
light-ways b zero ways few lower =
    let none = sum_by-le (λ (w : WayOn). weight b (way_next w)) 0 ways (All-weaker (λ (w : WayOn). way_next w < 0) (λ
    (w : WayOn). weight b (way_next w) ≤ 0) (λ w below. absurd (omega arith)) ways lower) in
    omega arith
light-ways b (suc p) ways few lower =
    let m = weight b p in
    let most = sum_by-le (λ (w : WayOn). weight b (way_next w)) m ways
    (All-weaker (λ (w : WayOn). way_next w < suc p) (λ
    (w : WayOn). weight b (way_next w) ≤ m) (λ w below. weight-rises b (way_next w) p (omega arith)) ways lower) in
    let times = few-times (length ways) b m few in
    omega (arith, weight-positive b p, doubled b m)

-- a way leads to its instruction
pub way-place : (j : Judgement) (w : WayOn) → place (way_shape j w) ≡ way_next w
way-place j (way.Label chan.Own t next) = refl
way-place j (way.Label (chan.Var v) t next) = refl
way-place j (way.Truth next) = refl
way-place j (way.Empty w next) = refl
way-place j (way.Full p) = refl

pub forks-light : {lists : ProgramLists} (f : Forks) → IsWellFormed lists → LeadsAlong lists f.before f.ways.items
    → forks_work (width lists) f < weight (width lists) f.before.code.0
forks-light {lists} f formed leads =
    let s = f.before in
    let ways = f.ways.items in
    let after = map (way_shape (shape_of s)) ways in
    let (n, stands, says) = row-at leads.row in
    let places = row-places lists no_amounts (shape_of s) after n says in
    let count : length ways ≡ length (code_next n) =
    simp length-map at (ap length places)
    in
    let counts = map (λ (m : CodeNode). length (code_next m)) lists.code in
    let among = contains-map (λ (m : CodeNode). length (code_next m)) lists.code n
    (contains-found lists.code s.code.0 n stands) in
    let few : length ways ≤ width lists = omega (arith, count, at_most-greatest counts (length (code_next n)) among) in
    let lower : All (λ w. way_next w < s.code.0) ways =
    All-weaker (Contains ways) (λ (w : WayOn). way_next w < s.code.0)
    (λ w inside. omega (
      arith,
      row-descends formed leads.row (contains-map (way_shape
          (shape_of s)) ways w inside),
      way-place (shape_of s) w,
    ))
    ways (All-contains_itself ways)
    in
    light-ways (width lists) s.code.0 ways few lower

pub work-append : (b : ℕ) (xs ys : List Forks) → work b (xs ++ ys) ≡ work b xs + work b ys
work-append b xs ys = sum_by-append (forks_work b) xs ys

pub work-one : (b : ℕ) (f : Forks) → work b (f ∷ []) ≡ forks_work b f
work-one b f = omega (arith, sum_by-cons (forks_work b) f [])
