-- Where the arms of a `case` lead.
use Rattle.std.proofs.Common.{◌≡◌, ◌<◌, ◌+◌, ◌↔◌, ◌∙◌, ℕ, zero, suc, ◌==◌, nat_eq, find, option_map, Bool, true, false, cond, List, [], ◌∷◌, ◌++◌, map, length, get_or, take, All, Contains, Option, Some, inl, inr, ap, refl, subst, sym, arith, eq-eqb, eqb-true, add-one}
use Rattle.std.specs.Cmp.{unsigned_Decides}
use Rattle.std.specs.HashSet as bag
use Rattle.std.proofs.lemmas.Map.Made.{is_member-Decides}
use Rattle.std.proofs.Math.Seq.{take-suc}
use Rattle.std.proofs.lemmas.Bool.{cases_lt}
use Rattle.std.proofs.lemmas.List.{get_or_default}
use Rattle.std.proofs.lemmas.List.Elements.{All-cons, All-nil, All-contains, Contains-get_or}
use Rattle.nomos_ir.specs.declared.code_node.Arm.{Arm}
use Rattle.nomos_ir.specs.declared.code_node.Chan.{Chan}
use Rattle.nomos_ir.specs.declared.code_node.CodeNode.TheVariants as code
use Rattle.nomos_ir.specs.declared.ids.Label.{Label}
use Rattle.nomos_ir.specs.declared.ids.TypeId.{TypeId}
use Rattle.nomos_ir.specs.declared.lists.ProgramLists.{ProgramLists}
use Rattle.nomos_ir.specs.declared.type_node.Branch.{Branch}
use Rattle.nomos_ir.specs.declared.type_node.TypeNode.TheVariants as node
use Rattle.nomos_types.proofs.UniqueRowLaws.{awaited-branches-same}
use Rattle.nomos_types.specs.Branches.{goes_by}
use Rattle.nomos_types.specs.Judgement.{Judgement}
use Rattle.nomos_types.specs.Premises.{HasType, by_side, ArmsGoOn, AwaitsLabel}
use Rattle.nomos_types.specs.TypingRule.{StandsAtCode}
use Rattle.nomos_check.specs.Account.{Account}
use Rattle.nomos_check.specs.declared.standing.Standing.{Standing}
use Rattle.nomos_check.specs.declared.standing.WayOn.{WayOn}
use Rattle.nomos_check.specs.declared.standing.WayOn.TheVariants as way
use Rattle.nomos_check.specs.mirror.Cases.{HasArm, AreWays, none, arm, HasOddArm}
use Rattle.nomos_check.specs.mirror.StandingData.{IsWayOf, LeadsAlong, NoRow, shape_of, way_account, way_shape}
use Rattle.nomos_check.proofs.ChannelLaws.{head-unique}
use Rattle.nomos_check.proofs.LeadLemmas.{leads-along}
use Rattle.nomos_check.proofs.StepRows.{case-stuck}
use Rattle.nomos_types.specs.TypingRule as row

module _ {X Y : Type 0} (f : X → Y) where
  -- what is among the images is the image of an item
  pub item-of_image : (xs : List X) (y : Y) → Contains (map f xs) y → (x : X) × Contains xs x × (f x ≡ y)
  item-of_image [] y (k, inside, e) = absurd (omega arith)
  item-of_image (x ∷ xs) y (zero, inside, e) = (x, (0, omega arith, refl), e)
  item-of_image (x ∷ xs) y (suc k, inside, e) =
      let rest = item-of_image xs y (k, omega arith, e) in
      let later : Contains (x ∷ xs) rest.0 = (suc rest.1.0, omega (arith, rest.1.1), rest.1.2) in
      (rest.0, later, rest.2)

  -- the image of an item is among the images
  pub image-of_item : (xs : List X) (x : X) → Contains xs x → Contains (map f xs) (f x)
  image-of_item [] x (k, inside, e) = absurd (omega arith)
  image-of_item (z ∷ xs) x (zero, inside, e) = (0, omega arith, ap f e)
  image-of_item (z ∷ xs) x (suc k, inside, e) =
      let rest = image-of_item xs x (k, omega arith, e) in
      (suc rest.0, omega (arith, rest.1), rest.2)

-- the set of the labels of arms has the labels of arms
pub labels-HasArm : {S : Type 0} (arms : List Arm) (labels : bag.HashSet ℕ S)
    → bag.IsFromIterResult nat_eq (map (λ (a : Arm). a.label.0) arms) labels → (l : Label)
    → (bag.contains nat_eq labels l.0 ≡ true) ↔ HasArm arms l
labels-HasArm arms labels made l =
    let tells = is_member-Decides {eq = nat_eq} unsigned_Decides (map (λ (a : Arm). a.label.0) arms) l.0 in (
      λ yes. item-of_image (λ (a : Arm). a.label.0) arms l.0 (tells.0 (sym (made.0 l.0) ∙ yes)),
      λ (a, held, same). made.0 l.0 ∙ tells.1 (subst (Contains (map (λ (x : Arm). x.label.0) arms)) same
          (image-of_item (λ (x : Arm). x.label.0) arms a held)),
    )

-- what holds of the items so far and of the next one
pub more-items : {X : Type 0} (P : X → Type 0) (xs : List X) (i : ℕ) (d : X) → i < length xs → ((k : ℕ) (e : X)
    → k < i → P (get_or xs k e)) → P (get_or xs i d) → (k : ℕ) (e : X) → k < i + 1 → P (get_or xs k e)
more-items P xs i d inside before here k e below =
    elim (cases_lt k i) [
      | inl lower ↦ before k e lower
      | inr above ↦ let same : i ≡ k = omega arith in subst (λ (n : ℕ). P (get_or xs n e)) same (subst P
          (get_or_default xs i d e inside) here)
    ]

-- one more arm leads on one more way
pub ways-more : (c : Chan) (bs : List Branch) (arms : List Arm) (ways : List WayOn) (a : Arm) (t : TypeId)
    → AreWays c bs arms ways → goes_by bs a.label ≡ Some t
    → AreWays c bs (arms ++ a ∷ []) (ways ++ way.Label c t a.goes ∷ [])
ways-more c bs _ _ a t none found = arm t found none
ways-more c bs _ _ a t (arm {arms = arms} {ways = ways} u goes rest) found =
    arm u goes (ways-more c bs arms ways a t rest found)

-- the arms go on where their ways lead
pub ways-go_on : (j : Judgement) (c : Chan) (bs : List Branch) {arms : List Arm} {ways : List WayOn}
    → AreWays c bs arms ways
    → ArmsGoOn j c bs arms (map (way_shape j) ways)
ways-go_on j c bs none = ArmsGoOn.none
ways-go_on j c bs (arm t found rest) = ArmsGoOn.arm t found (ways-go_on j c bs rest)

-- the ways after one more turn
pub ways-step : (c : Chan) (bs : List Branch) (arms : List Arm) (ways made : List WayOn) (i : ℕ) (d : Arm) (t : TypeId)
    → i < length arms → AreWays c bs (take i arms) ways → goes_by bs (get_or arms i d).label ≡ Some t
    → made ≡ ways ++ way.Label c t (get_or arms i d).goes ∷ [] → AreWays c bs (take (i + 1) arms) made
ways-step c bs arms ways made i d t inside before found put =
    let a = get_or arms i d in
    let all : take (i + 1) arms ≡ take i arms ++ a ∷ [] = ap (λ (n : ℕ). take n arms)
    (add-one i) ∙ take-suc arms i d inside in
    let more = ways-more c bs (take i arms) ways a t before found in
    let with_arms : AreWays c bs (take (i + 1) arms) (ways ++ way.Label c t a.goes ∷ []) =
    subst (λ (xs : List Arm). AreWays c bs xs (ways ++ way.Label c t a.goes ∷ [])) (sym all) more
    in
    subst (λ (ws : List WayOn). AreWays c bs (take (i + 1) arms) ws) (sym put) with_arms

-- each way leaves the account as it is
ways-account : (a : Account) (c : Chan) (bs : List Branch) {arms : List Arm} {ways : List WayOn}
    → AreWays c bs arms ways
    → map (λ (x : Arm). a) arms ≡ map (way_account a) ways
ways-account a c bs none = refl
ways-account a c bs (arm t found rest) = ap (λ (others : List Account). a ∷ others) (ways-account a c bs rest)

-- no way takes a list apart
ways-there : (s : Standing) (c : Chan) (bs : List Branch) {arms : List Arm} {ways : List WayOn} → AreWays c bs arms ways
    → All (IsWayOf s) ways
ways-there s c bs none = All-nil (IsWayOf s)
ways-there s c bs (arm {a = a} {ways = ways} t found rest) =
    All-cons (IsWayOf s) (way.Label c t a.goes) ways tt (ways-there s c bs rest)

-- ---- branches by their labels

-- the branch with which a choice goes on, where the test of the first one is known
branch-first : (b : Branch) (bs : List Branch) (l : Label) (t : TypeId) (passes : Bool) → (b.label.0 == l.0) ≡ passes
    → (goes_by bs l ≡ Some t → (x : Branch) × Contains bs x × (x.label.0 ≡ l.0))
    → option_map (λ (c : Branch). c.goes) (cond passes (Some b) (find (λ (c : Branch). c.label.0 == l.0) bs)) ≡ Some t
    → (x : Branch) × Contains (b ∷ bs) x × (x.label.0 ≡ l.0)
branch-first b bs l t true here rest found = (b, (0, omega arith, refl), eqb-true b.label.0 l.0 here)
branch-first b bs l t false here rest found =
    let (x, among, same) = rest found in (x, (suc among.0, omega (arith, among.1), among.2), same)

-- the branch with which a choice goes on
branch-found : (bs : List Branch) (l : Label) (t : TypeId) → goes_by bs l ≡ Some t
    → (x : Branch) × Contains bs x × (x.label.0 ≡ l.0)
branch-found [] l t found = absurd cc
branch-found (b ∷ bs) l t found = branch-first b bs l t (b.label.0 == l.0) refl (branch-found bs l t) found

goes-first : (b : Branch) (others : Option Branch) (passes : Bool)
    → ((t : TypeId) × (option_map (λ (c : Branch). c.goes) others ≡ Some t))
    → (t : TypeId) × (option_map (λ (c : Branch). c.goes) (cond passes (Some b) others) ≡ Some t)
goes-first b others true rest = (b.goes, refl)
goes-first b others false rest = rest

-- a choice goes on after the label of each branch
goes-there : (bs : List Branch) (b : Branch) → Contains bs b → (t : TypeId) × (goes_by bs b.label ≡ Some t)
goes-there [] b (k, inside, same) = absurd (omega arith)
goes-there (x ∷ bs) b (zero, inside, same) =
    let here : (x.label.0 == b.label.0) ≡ true = eq-eqb x.label.0 b.label.0 (ap (λ (y : Branch). y.label.0) same) in
    let others = find (λ (c : Branch). c.label.0 == b.label.0) bs in
    (x.goes, ap (λ t. option_map (λ (c : Branch). c.goes) (cond t (Some x) others)) here)
goes-there (x ∷ bs) b (suc k, inside, same) =
    let others = find (λ (c : Branch). c.label.0 == b.label.0) bs in
    goes-first x others (x.label.0 == b.label.0) (goes-there bs b (k, omega arith, same))

-- ---- the rule

-- each arm of a rule has a type
arms-have : (j : Judgement) (c : Chan) (bs : List Branch) {arms : List Arm} {after : List Judgement}
    → ArmsGoOn j c bs arms after → (a : Arm) → Contains arms a → (t : TypeId) × (goes_by bs a.label ≡ Some t)
arms-have j c bs ArmsGoOn.none a (k, inside, same) = absurd (omega arith)
arms-have j c bs (ArmsGoOn.arm t goes rest) a (zero, inside, same) =
    (t, subst (λ (x : Arm). goes_by bs x.label ≡ Some t) same goes)
arms-have j c bs (ArmsGoOn.arm t goes rest) a (suc k, inside, same) = arms-have j c bs rest a (k, omega arith, same)

module _ (lists : ProgramLists) (s : Standing) (at : ℕ) (c : Chan) (arms : List Arm)
    (stands : StandsAtCode lists (shape_of s) (code.Case at c arms)) (bs : List Branch)
    (typed : HasType lists (shape_of s) c (by_side c (node.With bs) (node.Plus bs))) where
  -- the branches of a rule are those of the channel's type
  same-branches : {after : List Judgement} → (says : AwaitsLabel lists (shape_of s) c arms after) → says.branches ≡ bs
  same-branches says = awaited-branches-same c says.branches bs
      (head-unique lists (shape_of s) c _ _ says.channel typed)

  -- without an arm for each branch no rule applies
  pub branch-stuck : ¬ (All (λ b. HasArm arms b.label) bs) → NoRow lists (shape_of s)
  branch-stuck lacks =
      case-stuck stands
      (λ after says.
      lacks
      (λ k d inside.
      let b = get_or bs k d in
      let (t, goes) = goes-there bs b (Contains-get_or bs k d inside) in
      let goes_too = subst (λ (cs : List Branch). goes_by cs b.label ≡ Some t) (sym (same-branches says)) goes in
      let (a, among, same) = item-of_image (λ (x : Arm). x.label) arms b.label (says.each_label b.label t goes_too) in
      (a, among, ap (λ (l : Label). l.0) same)))

  -- with an arm for no branch no rule applies
  pub arm-stuck : HasOddArm bs arms → NoRow lists (shape_of s)
  arm-stuck (a, among, odd) =
      case-stuck stands
      (λ after says.
      let each = subst (λ (cs : List Branch). ArmsGoOn (shape_of s) c cs arms after)
      (same-branches says) says.each_arm in
      let (t, goes) = arms-have (shape_of s) c bs each a among in
      cc)

  -- the arms lead on their ways
  pub case-leads : (ways : List WayOn) → All (λ b. HasArm arms b.label) bs → AreWays c bs arms ways
      → LeadsAlong lists s ways
  case-leads ways covered are =
      let j = shape_of s in
      let says : AwaitsLabel lists j c arms (map (way_shape j) ways) = record {
        branches = bs;
        channel = typed;
        each_label =
            λ l t goes.
            let (b, among, same) = branch-found bs l t goes in
            let (a, there, label) = All-contains (λ (x : Branch). HasArm arms x.label) bs b covered among in
            let made : ℕ → Label = λ n. record { 0 = n } in
            subst (λ (k : Label). Contains (map (λ (x : Arm). x.label) arms) k) (ap made (label ∙ same))
            (image-of_item (λ (x : Arm). x.label) arms a there);
        each_arm = ways-go_on j c bs are;
      }
      in
      leads-along s (code.Case at c arms) ways ways refl stands (row.case stands (map (way_shape j) ways) says)
      (λ a has. ways-account a c bs are) (ways-there s c bs are)
