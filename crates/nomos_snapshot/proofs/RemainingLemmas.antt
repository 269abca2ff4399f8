-- The lowest variable of a process comes off what is left of its variables.
use Rattle.std.proofs.Common.{◌≡◌, ℕ, ◌<◌, List, [], ◌∷◌, map, length, refl, ap, subst, ◌∙◌, arith}
use Rattle.std.proofs.lemmas.List.Elements.{All-head, All-nil}
use Rattle.nomos_ir.specs.Bindings.{IsAscending}
use Rattle.nomos_ir.specs.Value.{Value}
use Rattle.nomos_ir.specs.declared.ids.VarId.{VarId}
use Rattle.nomos_machine.specs.declared.object.PotentialList.{PotentialList}
use Rattle.nomos_snapshot.specs.declared.line.SnapshotLine.{SnapshotLine}
use Rattle.nomos_snapshot.specs.declared.line.SnapshotLine.TheVariants as line
use Rattle.nomos_snapshot.specs.mirror.Remaining.{AreLeft, IsBelowFirst, NoListFirst, NoValueFirst, lines_of_left}
use Rattle.nomos_snapshot.proofs.LowestLaws.{AreAbove, Lowest, above-all, above-others, channel-first, list-first, lowest, lowest_channel, lowest_list, lowest_value, nothing, value-first}
use Rattle.nomos_snapshot.proofs.ProcessLaws.{without-channel, without-list, without-value}

-- ---- the same variables

pub same-lines : {values values2 : List (VarId × Value)} {lists lists2 : List (VarId × PotentialList)}
    {channels channels2 : List (VarId × ℕ)} → values ≡ values2 → lists ≡ lists2 → channels ≡ channels2
    → lines_of_left values lists channels ≡ lines_of_left values2 lists2 channels2
same-lines e f g = λ i. lines_of_left (e i) (f i) (g i)

pub same-left : {values values2 : List (VarId × Value)} {lists lists2 : List (VarId × PotentialList)}
    {channels channels2 : List (VarId × ℕ)} → values ≡ values2 → lists ≡ lists2 → channels ≡ channels2
    → AreLeft values lists channels → AreLeft values2 lists2 channels2
same-left {values} {values2} {lists} {lists2} {channels} {channels2} e f g left =
    subst (λ (vs : List (VarId × Value)). AreLeft vs lists2 channels2) e
    (subst (λ (ls : List (VarId × PotentialList)). AreLeft values ls channels2) f
    (subst (λ (cs : List (VarId × ℕ)). AreLeft values lists cs) g left))

-- ---- the first of each kind

above-first : {X : Type 0} (v : VarId) (b : List (VarId × X)) → AreAbove v.0 b → IsBelowFirst v b
above-first v [] all = tt
above-first v (e ∷ b) all = All-head (λ p. v.0 < p.0.0) e b all

first-above : {X : Type 0} (v : VarId) (b : List (VarId × X)) → IsAscending b → IsBelowFirst v b → AreAbove v.0 b
first-above v [] ascending below = All-nil (λ p. v.0 < p.0.0)
first-above v (e ∷ b) ascending below = above-all v.0 e b below ascending

-- what is taken, and what is left behind it
pub record ComesOff (values : List (VarId × Value)) (lists : List (VarId × PotentialList)) (channels : List (VarId × ℕ))
    (l : SnapshotLine) (values2 : List (VarId × Value)) (lists2 : List (VarId × PotentialList))
    (channels2 : List (VarId × ℕ)) : Type 0 where
  pub lines : lines_of_left values lists channels ≡ l ∷ lines_of_left values2 lists2 channels2
  pub left : AreLeft values2 lists2 channels2

pub value-taken : (e : VarId × Value) (values others : List (VarId × Value)) (lists : List (VarId × PotentialList))
    (channels : List (VarId × ℕ)) → AreLeft values lists channels → values ≡ e ∷ others → IsBelowFirst e.0 lists
    → IsBelowFirst e.0 channels → ComesOff values lists channels (line.Value e.0 e.1) others lists channels
value-taken e values others lists channels left is below_lists below_channels =
    let here : AreLeft (e ∷ others) lists channels = same-left is refl refl left in
    record {
      lines =
          same-lines {lists = lists} {channels = channels} is refl refl
          ∙ ap (map (λ (f : VarId × SnapshotLine). f.1))
          (value-first e others lists channels (above-others e others here.values_ascend)
          (first-above e.0 lists here.lists_ascend below_lists)
          (first-above e.0 channels here.channels_ascend below_channels));
      left = without-value e others lists channels here;
    }

list-first_of : (f : VarId × PotentialList) (values : List (VarId × Value)) (others : List (VarId × PotentialList))
    (channels : List (VarId × ℕ)) → Lowest values (f ∷ others) channels → NoValueFirst values (f ∷ others) channels
    → IsBelowFirst f.0 channels
    → lines_of_left values (f ∷ others) channels
    ≡ line.List f.0 f.1.amount f.1.items ∷ lines_of_left values others channels
list-first_of f (e ∷ values) others channels (lowest_value e2 v2 l2 c2 a b c) no_value below =
    absurd (no_value (above-first e.0 (f ∷ others) b, above-first e.0 channels c))
list-first_of f values others channels (lowest_list f2 v2 l2 c2 a b c) no_value below =
    ap (map (λ (g : VarId × SnapshotLine). g.1)) (list-first f values others channels a b c)
list-first_of f values others (g ∷ channels) (lowest_channel g2 v2 l2 c2 a b c) no_value below =
    let above = All-head (λ p. g.0.0 < p.0.0) f others b in
    absurd (omega (arith, above, below))

pub list-taken : (f : VarId × PotentialList) (values : List (VarId × Value))
    (lists others : List (VarId × PotentialList)) (channels : List (VarId × ℕ)) → AreLeft values lists channels
    → lists ≡ f ∷ others → NoValueFirst values lists channels
    → IsBelowFirst f.0 channels
    → ComesOff values lists channels (line.List f.0 f.1.amount f.1.items) values others channels
list-taken f values lists others channels left is no_value below =
    let here : AreLeft values (f ∷ others) channels = same-left refl is refl left in
    let none : NoValueFirst values (f ∷ others) channels =
    subst (λ (ls : List (VarId × PotentialList)). NoValueFirst values ls channels) is no_value in
    record {
      lines =
          same-lines {values = values} {channels = channels} refl is refl
          ∙ list-first_of f values others channels (lowest values (f ∷ others) channels here) none below;
      left = without-list f values others channels here;
    }

channel-first_of : (g : VarId × ℕ) (values : List (VarId × Value)) (lists : List (VarId × PotentialList))
    (others : List (VarId × ℕ)) → Lowest values lists (g ∷ others) → NoValueFirst values lists (g ∷ others)
    → NoListFirst lists (g ∷ others)
    → lines_of_left values lists (g ∷ others) ≡ line.Channel g.0 g.1 ∷ lines_of_left values lists others
channel-first_of g (e ∷ values) lists others (lowest_value e2 v2 l2 c2 a b c) no_value none =
    absurd (no_value (above-first e.0 lists b, above-first e.0 (g ∷ others) c))
channel-first_of g values (f ∷ lists) others (lowest_list f2 v2 l2 c2 a b c) no_value none =
    absurd (none (above-first f.0 (g ∷ others) c))
channel-first_of g values lists others (lowest_channel g2 v2 l2 c2 a b c) no_value none =
    ap (map (λ (h : VarId × SnapshotLine). h.1)) (channel-first g values lists others a b c)

pub channel-taken : (g : VarId × ℕ) (values : List (VarId × Value)) (lists : List (VarId × PotentialList))
    (channels others : List (VarId × ℕ)) → AreLeft values lists channels → channels ≡ g ∷ others
    → NoValueFirst values lists channels → NoListFirst lists channels
    → ComesOff values lists channels (line.Channel g.0 g.1) values lists others
channel-taken g values lists channels others left is no_value none =
    let here : AreLeft values lists (g ∷ others) = same-left refl refl is left in
    let none_value : NoValueFirst values lists (g ∷ others) =
    subst (λ (cs : List (VarId × ℕ)). NoValueFirst values lists cs) is no_value in
    let no_list : NoListFirst lists (g ∷ others) = subst (λ (cs : List (VarId × ℕ)). NoListFirst lists cs) is none in
    record {
      lines =
          same-lines {values = values} {lists = lists} refl refl is
          ∙ channel-first_of g values lists others (lowest values lists (g ∷ others) here) none_value no_list;
      left = without-channel g values lists others here;
    }

none-left : (values : List (VarId × Value)) (lists : List (VarId × PotentialList)) → Lowest values lists []
    → NoValueFirst {Z = ℕ} values lists [] → NoListFirst {Y = ℕ} lists [] → lines_of_left values lists [] ≡ []
none-left (e ∷ values) lists (lowest_value e2 v2 l2 c2 a b c) no_value none =
    absurd (no_value (above-first e.0 lists b, tt))
none-left values (f ∷ lists) (lowest_list f2 v2 l2 c2 a b c) no_value none = absurd (none tt)
none-left [] [] nothing no_value none = refl

pub none-long : {X : Type 0} (xs : List X) → length xs ≡ 0 → xs ≡ []
none-long [] long = refl
none-long (x ∷ xs) long = absurd (omega (arith, long))

-- nothing is left where there is none of each kind
pub none-taken : (values : List (VarId × Value)) (lists : List (VarId × PotentialList)) (channels : List (VarId × ℕ))
    → AreLeft values lists channels → channels ≡ [] → NoValueFirst values lists channels → NoListFirst lists channels
    → lines_of_left values lists channels ≡ []
none-taken values lists channels left is no_value none =
    let here : AreLeft values lists [] = same-left refl refl is left in
    same-lines {values = values} {lists = lists} refl refl is
    ∙ none-left values lists (lowest values lists [] here)
    (subst (λ (cs : List (VarId × ℕ)). NoValueFirst values lists cs) is no_value)
    (subst (λ (cs : List (VarId × ℕ)). NoListFirst lists cs) is none)
