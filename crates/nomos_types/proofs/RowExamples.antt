-- The typing rules on small judgements: for each line of the table one to which it applies, and near misses.
use Rattle.std.proofs.Common.{length, true≢false, ◌<◌, cond, find, option_map, eqb-true, ◌≡◌, ◌==◌, ℕ, zero, suc, Bool, true, false, inl, inr, List, [], ◌∷◌, map, Contains, get_or, Option, Some, subst, ap, sym, refl, ◌∙◌, lit≤, lit<, arith}
use Rattle.nomos_ir.specs.declared.code_node.Arm.{Arm}
use Rattle.nomos_ir.specs.declared.code_node.Chan.{Chan}
use Rattle.nomos_ir.specs.declared.code_node.Chan.TheVariants as chan
use Rattle.nomos_ir.specs.declared.ids.Label.{Label}
use Rattle.nomos_ir.specs.declared.ids.TypeId.{TypeId}
use Rattle.nomos_ir.specs.declared.ids.VarId.{VarId}
use Rattle.nomos_ir.specs.declared.mode.Mode.{Mode}
use Rattle.nomos_ir.specs.declared.mode.Mode.TheVariants as mode
use Rattle.nomos_ir.specs.declared.type_node.Branch.{Branch}
use Rattle.nomos_ir.specs.declared.type_node.TypeNode.{TypeNode}
use Rattle.nomos_ir.specs.declared.type_node.TypeNode.TheVariants as node
use Rattle.nomos_ir.specs.declared.kind.Kind.{Kind}
use Rattle.nomos_ir.specs.Nodes.{type_node}
use Rattle.nomos_ir.proofs.NodeLaws.{type_node-at}
use Rattle.std.specs.List.{list_any, flat_map}
use Rattle.std.proofs.lemmas.Map.Keys.{any_passes_from_place}
use Rattle.std.proofs.lemmas.Option.{slice_get_read}
use Rattle.nomos_ir.specs.TermKind.{HasKind, int_kind, bool_kind}
use Rattle.nomos_ir.specs.TermKind as kind
use Rattle.nomos_ir.specs.Unfold.{IsConstructor, Unfolds, constructor, name}
use Rattle.nomos_ir.proofs.TermKindLaws.{HasKind-unique}
use Rattle.nomos_ir.proofs.UnfoldLaws.{Unfolds-unique}
use Rattle.nomos_types.specs.Alike.{AlikeTypes}
use Rattle.nomos_types.specs.Arguments as passes
use Rattle.nomos_types.specs.Branches.{goes_by}
use Rattle.nomos_types.specs.Equality.{SameHead, one, up, down, Agree, EqualTypes}
use Rattle.nomos_types.specs.Judgement.{Judgement}
use Rattle.nomos_types.specs.Premises as lines
use Rattle.nomos_types.specs.Premises.{HasType, ArmsGoOn}
use Rattle.nomos_types.specs.Modes.{HasMode, whole, part, whole_modes}
use Rattle.nomos_types.specs.Amount.{dths}
use Rattle.nomos_ir.specs.declared.amount.Amount.TheVariants.{Written}
use Rattle.nomos_ir.specs.TypeParts.{type_parts}
use Rattle.std.proofs.lemmas.List.Elements.{All-cons, All-nil}
use Rattle.nomos_types.specs.TypingRule.{TypingRule}
use Rattle.nomos_types.specs.TypingRule as row
use Rattle.nomos_types.proofs.EqualityLaws.{equal-from_unfolded, equal-unfolded}
use Rattle.nomos_types.proofs.RowExampleProgram.{type_id, var_id, label_id, plus_branches, tried, units, empty_handed, holding, referring, knowing}
use Rattle.nomos_types.proofs.ModeLaws.{part-number, node_parts}
use Rattle.nomos_types.proofs.OccurrenceLaws.{contains-part}
use Rattle.nomos_types.proofs.RowLaws.{row-inverted}

-- a line applies to the judgement; no line does
abbrev pub LineApplies : Judgement → Type 0
LineApplies j = (after : List Judgement) × TypingRule tried units j after

abbrev pub NoLineApplies : Judgement → Type 0
NoLineApplies j = (after : List Judgement) → ¬ (TypingRule tried units j after)

-- ---- types and terms

-- types that end, by the name of their definition
pub end-unfolds : (t : ℕ) → type_node tried t ≡ Some (node.Named (record { 0 = 0 })) → Unfolds tried t node.One
end-unfolds t there =
    let body = constructor 0 node.One refl tt in
    name t (record { 0 = 0 }) (record { name = _; mode = mode.R; body = type_id 0 }) node.One there refl body

-- a type that is a name of the shared definition
pub market-unfolds : (t : ℕ) → type_node tried t ≡ Some (node.Named (record { 0 = 9 }))
    → Unfolds tried t (node.Up (type_id 22))
market-unfolds t there =
    let up_node = node.Up (type_id 22) in
    let body = constructor 21 up_node refl tt in
    name t (record { 0 = 9 }) (record { name = _; mode = mode.S; body = type_id 21 }) up_node there refl body

-- the node to which the type of `self` unfolds, and that of a held channel, is the one that stands there
own-type : (m : Mode) (q c t : ℕ) (n : TypeNode) → type_node tried t ≡ Some n → IsConstructor n
    → HasType tried (empty_handed m q c t) chan.Own n
own-type m q c t n there no_name = (type_id t, refl, constructor t n there no_name)

held-type : (j : Judgement) (t : ℕ) (n : TypeNode) → type_node tried t ≡ Some n → IsConstructor n
    → HasType tried (holding t j) (chan.Var (var_id 1)) n
held-type j t n there no_name = (type_id t, refl, constructor t n there no_name)

own-is : (m : Mode) (q c t : ℕ) (k n : TypeNode) → type_node tried t ≡ Some k → IsConstructor k
    → HasType tried (empty_handed m q c t) chan.Own n → k ≡ n
own-is m q c t k n there no_name channel =
    let (s, found, unfolds) = channel in
    let same : s ≡ type_id t = cc in
    let here : Unfolds tried t n = subst (λ (u : TypeId). Unfolds tried u.0 n) same unfolds in
    Unfolds-unique tried t k n (constructor t k there no_name) here

held-is : (j : Judgement) (t : ℕ) (k n : TypeNode) → type_node tried t ≡ Some k → IsConstructor k
    → HasType tried (holding t j) (chan.Var (var_id 1)) n → k ≡ n
held-is j t k n there no_name channel =
    let (s, found, unfolds) = channel in
    let same : s ≡ type_id t = cc in
    let here : Unfolds tried t n = subst (λ (u : TypeId). Unfolds tried u.0 n) same unfolds in
    Unfolds-unique tried t k n (constructor t k there no_name) here

-- numbers are no truth values
bool-not_int : bool_kind ≡ int_kind → ⊥
bool-not_int same = let bases = ap (λ (k : Kind). k.base) same in cc

-- a list of one channel is not empty
pub no-channels : (c : VarId × TypeId) → ◌≡◌ {A = List (VarId × TypeId)} (c ∷ []) [] → ⊥
no-channels c e = cc

-- types with other heads are not equal
pub not-equal : (t u : TypeId) (m n : TypeNode) → Unfolds tried t.0 m → Unfolds tried u.0 n
    → (SameHead units (EqualTypes tried units) m n → ⊥) → EqualTypes tried units t u → ⊥
not-equal t u m n left right differ equal =
    let (q, q_unfolds, same) = equal-unfolded tried units t u m equal left in
    let there : q ≡ n = Unfolds-unique tried u.0 q n q_unfolds right in
    differ (subst (λ (p : TypeNode). SameHead units (EqualTypes tried units) m p) there same)

-- the kinds of the two terms
pub seven : (vars : List (VarId × Kind)) → HasKind tried vars (record { 0 = 0 }) int_kind
seven vars = kind.term vars (record { 0 = 0 }) int_kind _ refl (kind.number vars 0 7)

truth : (vars : List (VarId × Kind)) → HasKind tried vars (record { 0 = 1 }) bool_kind
truth vars = kind.term vars (record { 0 = 1 }) bool_kind _ refl (kind.truth vars 0 true)

-- types that end and stand at R are alike
pub ended-alike : (t u : ℕ) → type_node tried t ≡ Some (node.Named (record { 0 = 0 }))
    → type_node tried u ≡ Some (node.Named (record { 0 = 0 })) → HasMode tried (type_id t) mode.R
    → HasMode tried (type_id u) mode.R → AlikeTypes tried units (type_id t) (type_id u)
ended-alike t u t_there u_there t_mode u_mode =
    record {
      equal =
          equal-from_unfolded tried units (type_id t) (type_id u) node.One node.One (end-unfolds t t_there)
          (end-unfolds u u_there) one;
      mode = mode.R;
      left_mode = t_mode;
      right_mode = u_mode;
    }

-- what unfolds to the shared contract agrees to every depth
mutual
  agree-shared : (n : ℕ) (t u : TypeId) → Unfolds tried t.0 (node.Up (type_id 22))
      → Unfolds tried u.0 (node.Up (type_id 22)) → Agree tried units n t u
  agree-shared zero t u left right = tt
  agree-shared (suc n) t u left right =
      record {
        left = node.Up (type_id 22);
        right = node.Up (type_id 22);
        left_unfolds = left;
        right_unfolds = right;
        same = up (type_id 22) (type_id 22) (agree-held n);
      }

  agree-held : (n : ℕ) → Agree tried units n (type_id 22) (type_id 22)
  agree-held zero = tt
  agree-held (suc n) =
      record {
        left = node.Down (type_id 23);
        right = node.Down (type_id 23);
        left_unfolds = constructor 22 (node.Down (type_id 23)) refl tt;
        right_unfolds = constructor 22 (node.Down (type_id 23)) refl tt;
        same =
            down (type_id 23) (type_id 23)
            (agree-shared n (type_id 23) (type_id 23) (market-unfolds 23 refl) (market-unfolds 23 refl));
      }

pub shared-alike : (t : ℕ) → type_node tried t ≡ Some (node.Named (record { 0 = 9 })) → HasMode tried (type_id t) mode.S
    → AlikeTypes tried units (type_id 28) (type_id t)
shared-alike t there its_mode =
    record {
      equal = λ n. agree-shared n (type_id 28) (type_id t) (market-unfolds 28 refl) (market-unfolds t there);
      mode = mode.S;
      left_mode = whole (12, lit< tt, refl);
      right_mode = its_mode;
    }

-- ---- labels

label-applies : LineApplies (empty_handed mode.R 0 1 1)
label-applies =
    let channel = own-type mode.R 0 1 1 (node.Plus plus_branches) refl tt in
    (_, row.label refl (type_id 2) (record { branches = plus_branches; channel = channel; goes = refl }))

-- the client of that choice does not make it
label-by_client : NoLineApplies (holding 1 (empty_handed mode.R 0 2 27))
label-by_client after applied =
    let (t, says, goes) = row-inverted _ refl applied in
    let same = held-is (empty_handed mode.R 0 2 27) 1 (node.Plus plus_branches) (node.With says.branches) refl tt
    says.channel in
    cc

-- the label of a type to which a choice goes on is one of its labels
goes-label_at : (b : Branch) (l : Label) (o : Option Branch) (t : TypeId) (bs : List Branch) (test : Bool)
    → (b.label.0 == l.0) ≡ test → (option_map (λ c. c.goes) o ≡ Some t → Contains (map (λ c. c.label) bs) l)
    → option_map (λ c. c.goes) (cond test (Some b) o) ≡ Some t → Contains (map (λ c. c.label) (b ∷ bs)) l
goes-label_at b l o t bs true here rest found =
    let same : b.label ≡ l = ap label_id (eqb-true b.label.0 l.0 here) in
    (zero, omega arith, same)
goes-label_at b l o t bs false here rest found = let there = rest found in (suc there.0, omega arith, there.2)

goes-label : (bs : List Branch) (l : Label) (t : TypeId) → goes_by bs l ≡ Some t → Contains (map (λ b. b.label) bs) l
goes-label [] l t found = absurd cc
goes-label (b ∷ bs) l t found =
    goes-label_at b l (find (λ (c : Branch). c.label.0 == l.0) bs) t bs (b.label.0 == l.0) refl (goes-label bs l t)
    found

case-applies : LineApplies (holding 1 (empty_handed mode.R 0 3 27))
case-applies = (
  _,
  row.case refl _ (record {
    branches = plus_branches;
    channel = held-type (empty_handed mode.R 0 3 27) 1 (node.Plus plus_branches) refl tt;
    each_label = goes-label plus_branches;
    each_arm = lines.arm (type_id 2) refl (lines.arm (type_id 3) refl lines.none);
  }),
)

-- the list of the first label alone does not have the second
no-label : (k : ℕ) → k < 1 → get_or (label_id 0 ∷ []) k (label_id 1) ≡ label_id 1 → ⊥
no-label zero inside found = omega (arith, ap (λ (l : Label). l.0) found)
no-label (suc k) inside found = omega arith

-- an arm is missing
case-missing_arm : NoLineApplies (holding 1 (empty_handed mode.R 0 4 27))
case-missing_arm after applied =
    let says = row-inverted _ refl applied in
    let same = held-is (empty_handed mode.R 0 4 27) 1 (node.Plus plus_branches) (node.Plus says.branches) refl tt
    says.channel in
    let its_own : plus_branches ≡ says.branches = cc in
    let goes = sym (ap (λ (bs : List Branch). goes_by bs (label_id 1)) its_own) in
    let (k, inside, found) = says.each_label (label_id 1) (type_id 3) goes in
    no-label k inside found

-- the third arm's label is none of the choice
third-arm : {j : Judgement} {c : Chan} {bs : List Branch} {a b d : Arm} {after : List Judgement}
    → ArmsGoOn j c bs (a ∷ b ∷ d ∷ []) after → (t : TypeId) × (goes_by bs d.label ≡ Some t)
third-arm (lines.arm _ _ (lines.arm _ _ (lines.arm t goes _))) = (t, goes)

case-extra_arm : NoLineApplies (holding 1 (empty_handed mode.R 0 5 27))
case-extra_arm after applied =
    let says = row-inverted _ refl applied in
    let same = held-is (empty_handed mode.R 0 5 27) 1 (node.Plus plus_branches) (node.Plus says.branches) refl tt
    says.channel in
    let its_own : plus_branches ≡ says.branches = cc in
    let none = ap (λ (bs : List Branch). goes_by bs (label_id 2)) its_own in
    let (t, goes) = third-arm says.each_arm in
    cc

-- ---- channels over channels

pair-carries : HasMode tried (type_id 8) mode.R
pair-carries =
    part (type_id 7) mode.R (node.Tensor (type_id 8) (type_id 9)) (whole (3, lit< tt, refl)) refl (0, lit< tt, refl)

send-applies : LineApplies (holding 31 (empty_handed mode.R 0 6 7))
send-applies = (
  _,
  row.send refl _ (type_id 9) (record {
    carried = type_id 8;
    channel = (type_id 7, refl, constructor 7 (node.Tensor (type_id 8) (type_id 9)) refl tt);
    other = λ e. cc;
    passes = passes.linear (type_id 31) refl refl (ended-alike 31 8 refl refl (whole (14, lit< tt, refl)) pair-carries);
  }),
)

-- a channel is not sent over itself
send-itself : NoLineApplies (holding 10 (empty_handed mode.R 0 7 27))
send-itself after applied =
    let (left, t, says, goes) = row-inverted _ refl applied in
    says.other refl

recv-applies : LineApplies (empty_handed mode.R 0 8 10)
recv-applies = (
  _,
  row.recv refl mode.R (type_id 11) (type_id 12) (record {
    channel = own-type mode.R 0 8 10 (node.Lolli (type_id 11) (type_id 12)) refl tt;
    mode =
        part (type_id 10) mode.R (node.Lolli (type_id 11) (type_id 12)) (whole (4, lit< tt, refl)) refl
        (0, lit< tt, refl);
    free = refl;
  }),
)

-- the variable is taken
recv-taken : NoLineApplies (knowing (empty_handed mode.R 0 8 10))
recv-taken after applied =
    let (m, carried, t, says, goes) = row-inverted _ refl applied in
    omega (arith, says.free)

-- ---- values

put-applies : LineApplies (empty_handed mode.R 0 9 13)
put-applies =
    let channel = own-type mode.R 0 9 13 (node.ValueOut int_kind (type_id 14)) refl tt in
    (_, row.put refl (type_id 14) (record { kind = int_kind; channel = channel; value = seven [] }))

-- the value has another kind
put-other_kind : NoLineApplies (empty_handed mode.R 0 10 13)
put-other_kind after applied =
    let (t, says, goes) = row-inverted _ refl applied in
    let out = node.ValueOut int_kind (type_id 14) in
    let same = own-is mode.R 0 10 13 out (node.ValueOut says.kind t) refl tt says.channel in
    let kinds = HasKind-unique tried [] (record { 0 = 1 }) bool_kind says.kind (truth []) says.value in
    let clash : bool_kind ≡ int_kind = cc in
    bool-not_int clash

take-applies : LineApplies (empty_handed mode.R 0 11 15)
take-applies =
    let channel = own-type mode.R 0 11 15 (node.ValueIn int_kind (type_id 16)) refl tt in
    (_, row.take refl int_kind (type_id 16) (record { channel = channel; free = refl }))

-- the provider of a value does not take it
take-by_provider : NoLineApplies (empty_handed mode.R 0 11 13)
take-by_provider after applied =
    let (k, t, says, goes) = row-inverted _ refl applied in
    let same = own-is mode.R 0 11 13 (node.ValueOut int_kind (type_id 14)) (node.ValueIn k t) refl tt says.channel in
    cc

let-applies : LineApplies (empty_handed mode.R 0 25 27)
let-applies = (_, row.«let» refl int_kind (seven []) refl)

let-taken : NoLineApplies (holding 31 (empty_handed mode.R 0 25 27))
let-taken after applied =
    let (k, value, free, goes) = row-inverted _ refl applied in
    omega (arith, free)

emit-applies : LineApplies (empty_handed mode.T 0 26 27)
emit-applies = (_, row.emit refl int_kind (seven []))

choose-applies : LineApplies (empty_handed mode.R 0 27 27)
choose-applies = (_, row.choose refl (truth []))

-- a number is no test
choose-number : NoLineApplies (empty_handed mode.R 0 28 27)
choose-number after applied =
    let (test, goes) = row-inverted _ refl applied in
    bool-not_int (HasKind-unique tried [] (record { 0 = 0 }) bool_kind int_kind test (seven []))

-- ---- potential

pay-applies : LineApplies (empty_handed mode.R 3 12 17)
pay-applies =
    let channel = own-type mode.R 3 12 17 (node.PotOut (Written 3) (type_id 18)) refl tt in
    (_, row.pay refl (type_id 18) (record { amount = Written 3; channel = channel; same = refl; enough = lit≤ tt }))

-- more is paid than there is
pay-too_much : NoLineApplies (empty_handed mode.R 2 12 17)
pay-too_much after applied =
    let (t, says, goes) = row-inverted _ refl applied in
    omega (arith, says.enough)

get-applies : LineApplies (empty_handed mode.R 0 13 19)
get-applies =
    let channel = own-type mode.R 0 13 19 (node.PotIn (Written 3) (type_id 20)) refl tt in
    (_, row.get refl (type_id 20) (record { amount = Written 3; channel = channel; same = refl }))

-- the type has another amount
get-other_amount : NoLineApplies (empty_handed mode.R 0 14 19)
get-other_amount after applied =
    let (t, says, goes) = row-inverted _ refl applied in
    let asks = node.PotIn (Written 3) (type_id 20) in
    let same = own-is mode.R 0 14 19 asks (node.PotIn says.amount t) refl tt says.channel in
    let its_own : Written 3 ≡ says.amount = cc in
    let worth : 3 ≡ dths units says.amount = ap (dths units) its_own in
    omega (arith, says.same)

work-applies : LineApplies (empty_handed mode.R 3 15 27)
work-applies = (_, row.work refl (lit≤ tt))

work-too_much : NoLineApplies (empty_handed mode.R 2 15 27)
work-too_much after applied =
    let (enough, goes) = row-inverted _ refl applied in
    omega (arith, enough)

-- ---- ends

wait-applies : LineApplies (holding 0 (empty_handed mode.R 0 16 27))
wait-applies = (_, row.wait refl (held-type (empty_handed mode.R 0 16 27) 0 node.One refl tt))

-- the channel has not ended
wait-early : NoLineApplies (holding 1 (empty_handed mode.R 0 16 27))
wait-early after applied =
    let (channel, goes) = row-inverted _ refl applied in
    let same = held-is (empty_handed mode.R 0 16 27) 1 (node.Plus plus_branches) node.One refl tt channel in
    cc

close-applies : LineApplies (empty_handed mode.R 0 0 0)
close-applies =
    let channel = own-type mode.R 0 0 0 node.One refl tt in
    (_, row.close refl (record { channel = channel; mode = inl refl; nothing_held = refl }))

-- a channel is left
close-holding : NoLineApplies (holding 31 (empty_handed mode.R 0 0 0))
close-holding after applied =
    let (says, goes) = row-inverted _ refl applied in
    no-channels (var_id 1, type_id 31) says.nothing_held

fwd-applies : LineApplies (holding 31 (empty_handed mode.R 0 29 27))
fwd-applies =
    let alike = ended-alike 27 31 refl refl (whole (16, lit< tt, refl)) (whole (14, lit< tt, refl)) in
    (_, row.fwd refl (record { mode = refl; own = type_id 31; only = refl; alike = alike }))

-- only a process at R forwards
fwd-by_client : NoLineApplies (holding 31 (empty_handed mode.L 0 29 27))
fwd-by_client after applied =
    let (says, goes) = row-inverted _ refl applied in
    let at_r = says.mode in
    cc

-- ---- shared contracts

accept-applies : LineApplies (empty_handed mode.S 0 17 21)
accept-applies =
    let channel = own-type mode.S 0 17 21 (node.Up (type_id 22)) refl tt in
    (_, row.accept refl (type_id 22) (record { mode = refl; channel = channel }))

-- a process that is held does not accept
accept-held : NoLineApplies (empty_handed mode.L 0 17 21)
accept-held after applied =
    let (t, says, goes) = row-inverted _ refl applied in
    let at_s = says.mode in
    cc

detach-applies : LineApplies (holding 31 (empty_handed mode.L 0 18 22))
detach-applies = (
  _,
  row.detach refl (type_id 23) (record {
    mode = refl;
    channel = (type_id 22, refl, constructor 22 (node.Down (type_id 23)) refl tt);
    nothing_held =
        All-cons (λ b. HasMode tried b.1 mode.R) (var_id 1, type_id 31) [] (whole (14, lit< tt, refl)) (All-nil _);
  }),
)

-- a test fails at each element of a list
none-there : {X : Type 0} (test : X → Bool) (xs : List X) (y : X) → list_any test xs ≡ false → test y ≡ true
    → Contains xs y → ⊥
none-there test xs y none passes there =
    let found = slice_get_read xs (length xs) there.0 y refl there.1 (sym there.2) in
    let some = any_passes_from_place test xs there.0 y found passes in
    true≢false (sym some ∙ none)

-- whether it is the type of a held contract, at R
abbrev is_held : TypeId × Mode → Bool
is_held (t, mode.R) = t.0 == 24
is_held p = false

-- the type of a held contract does not stand at R
held-not_private : HasMode tried (type_id 24) mode.R → ⊥
held-not_private (whole among) = none-there is_held (whole_modes tried) (type_id 24, mode.R) refl refl among
held-not_private (part outer k n _ there among) =
    let number = part-number tried k mode.R n (type_id 24) among in
    let (at, found, same) = type_node-at tried outer.0 n there in
    let here : Contains (node_parts at) 24 = subst (λ (o : TypeNode). Contains (type_parts o) 24) (sym same) number in
    let part_of = contains-part node_parts tried.types outer.0 at 24 found here in
    none-there (λ i. i == 24) (flat_map node_parts tried.types) 24 refl refl part_of

-- a contract is held
detach-holding : NoLineApplies (holding 24 (empty_handed mode.L 0 18 22))
detach-holding after applied =
    let (t, says, goes) = row-inverted _ refl applied in
    held-not_private (says.nothing_held 0 (var_id 1, type_id 24) (omega arith))

acquire-applies : LineApplies (referring 21 (empty_handed mode.T 0 19 27))
acquire-applies = (
  _,
  row.acquire refl (type_id 22) (record {
    mode = inr refl;
    own = type_id 21;
    reference = refl;
    unfolds = constructor 21 (node.Up (type_id 22)) refl tt;
    free = refl;
  }),
)

-- a private process acquires nothing
acquire-private : NoLineApplies (referring 21 (empty_handed mode.R 0 19 27))
acquire-private after applied =
    let (t, says, goes) = row-inverted _ refl applied in
    elim says.mode [ inl at_l ↦ cc | inr at_t ↦ cc ]

release-applies : LineApplies (holding 22 (empty_handed mode.T 0 20 27))
release-applies =
    let channel = held-type (empty_handed mode.T 0 20 27) 22 (node.Down (type_id 23)) refl tt in
    (_, row.release refl (type_id 23) (record { channel = channel; free = refl }))

-- the talk has not come to its end
release-early : NoLineApplies (holding 1 (empty_handed mode.T 0 20 27))
release-early after applied =
    let (t, says, goes) = row-inverted _ refl applied in
    let same = held-is (empty_handed mode.T 0 20 27) 1 (node.Plus plus_branches) (node.Down t) refl tt says.channel in
    cc
