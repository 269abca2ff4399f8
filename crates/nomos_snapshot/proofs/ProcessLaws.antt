-- The lines of a process's variables lead from the process without them to the process.
use Rattle.std.proofs.Common.{◌≡◌, ◌≢◌, ℕ, zero, suc, ◌+◌, ◌<◌, ◌≤◌, List, [], ◌∷◌, ◌++◌, get_or, length, map, All, inl, inr, refl, ap, sym, subst, arith}
use Rattle.std.specs.Map.{keys_of}
use Rattle.std.proofs.lemmas.Bool.Decides.{eqb_tells}
use Rattle.std.proofs.lemmas.List.{append-nil, append_assoc}
use Rattle.std.proofs.lemmas.List.Elements.{All-head, All-nil, All-push, All-tail, All-weaker}
use Rattle.std.proofs.lemmas.Map.Keys.{sorted_tail}
use Rattle.nomos_deeds.specs.SeenObjects.{seen_process}
use Rattle.nomos_deeds.specs.declared.sight.SeenProcess.{SeenProcess}
use Rattle.nomos_ir.specs.Bindings.{bindings_of, bound_to, by_number}
use Rattle.nomos_ir.specs.Value.{Value}
use Rattle.nomos_ir.specs.declared.ids.VarId.{VarId}
use Rattle.nomos_legal.specs.Ledger.{LedgerState}
use Rattle.nomos_machine.specs.declared.object.PotentialList.{PotentialList}
use Rattle.nomos_machine.specs.declared.object.Process.{Process}
use Rattle.nomos_machine.specs.TypedState.{VariablesDiffer}
use Rattle.nomos_types.specs.Acceptance.{Acceptance}
use Rattle.nomos_types.specs.Judgement.{count_one}
use Rattle.nomos_snapshot.specs.GatheredLines.{Gathered, Goes, IsOverObjects, IsOverVariables, behind, ledger_of, process_with, unfinished, with_channel, with_list, with_value}
use Rattle.nomos_snapshot.specs.GatheredLines as gathering
use Rattle.nomos_snapshot.specs.LineOrder.{LeadTo}
use Rattle.nomos_snapshot.specs.LineOrder as leading
use Rattle.nomos_snapshot.specs.Line.{IsLine}
use Rattle.nomos_snapshot.specs.Text.{variable_lines}
use Rattle.nomos_snapshot.specs.declared.line.SnapshotLine.{SnapshotLine}
use Rattle.nomos_snapshot.specs.declared.line.SnapshotLine.TheVariants as line
use Rattle.nomos_snapshot.specs.mirror.Remaining.{AreApart, AreLeft}
use Rattle.nomos_snapshot.proofs.LowestLaws.{AreAbove, Lowest, channel-first, left_pairs, list-first, lowest, lowest_channel, lowest_list, lowest_value, nothing, value-first}

-- ---- what is left

-- the process with these variables behind its own
grown : Process → List (VarId × Value) → List (VarId × PotentialList) → List (VarId × ℕ) → Process
grown p values lists channels = record p {
  values = p.values ++ values;
  lists = p.lists ++ lists;
  channels = p.channels ++ channels;
}

-- the lines of what is left
left_lines : List (VarId × Value) → List (VarId × PotentialList) → List (VarId × ℕ) → List SnapshotLine
left_lines values lists channels = map (λ e. e.1) (bindings_of (left_pairs values lists channels))

-- each variable that is left is over those of the process
record AreOver (p : Process) (values : List (VarId × Value)) (lists : List (VarId × PotentialList))
    (channels : List (VarId × ℕ)) : Type 0 where
  values_over : All (λ e. IsOverVariables e.0 p) values
  lists_over : All (λ e. IsOverVariables e.0 p) lists
  channels_over : All (λ e. IsOverVariables e.0 p) channels

pub all-both : {X : Type 0} (P Q R : X → Type 0) → ((x : X) → P x → Q x → R x) → (xs : List X) → All P xs → All Q xs
    → All R xs
all-both P Q R both xs p q = λ k d within. both _ (p k d within) (q k d within)

-- ---- one variable more

pub over-value : (v : VarId) (x : Value) (w : VarId) (p : Process) → v.0 < w.0 → IsOverVariables w p
    → IsOverVariables w (with_value v x p)
over-value v x w p below over = record {
  values = All-push (λ e. e.0.0 < w.0) p.values (v, x) over.values below;
  lists = over.lists;
  channels = over.channels;
}

pub over-list : (e : VarId × PotentialList) (w : VarId) (p : Process) → e.0.0 < w.0 → IsOverVariables w p
    → IsOverVariables w (with_list e.0 e.1.amount e.1.items p)
over-list e w p below over = record {
  values = over.values;
  lists = All-push (λ f. f.0.0 < w.0) p.lists e over.lists below;
  channels = over.channels;
}

pub over-channel : (v : VarId) (name : ℕ) (w : VarId) (p : Process) → v.0 < w.0 → IsOverVariables w p
    → IsOverVariables w (with_channel v name p)
over-channel v name w p below over = record {
  values = over.values;
  lists = over.lists;
  channels = All-push (λ e. e.0.0 < w.0) p.channels (v, name) over.channels below;
}

-- what is left behind a change that keeps what is over it
still-over : (p q : Process) (n : ℕ) (values : List (VarId × Value)) (lists : List (VarId × PotentialList))
    (channels : List (VarId × ℕ)) → ((w : VarId) → n < w.0 → IsOverVariables w p → IsOverVariables w q)
    → AreAbove n values → AreAbove n lists → AreAbove n channels → AreOver p values lists channels
    → AreOver q values lists channels
still-over p q n values lists channels keeps a b c over = record {
  values_over = all-both (λ e. n < e.0.0) (λ e. IsOverVariables e.0 p) (λ e. IsOverVariables e.0 q)
      (λ e above was. keeps e.0 above was) values a over.values_over;
  lists_over = all-both (λ e. n < e.0.0) (λ e. IsOverVariables e.0 p) (λ e. IsOverVariables e.0 q)
      (λ e above was. keeps e.0 above was) lists b over.lists_over;
  channels_over = all-both (λ e. n < e.0.0) (λ e. IsOverVariables e.0 p) (λ e. IsOverVariables e.0 q)
      (λ e above was. keeps e.0 above was) channels c over.channels_over;
}

-- ---- what is left behind one that is taken

pub without-value : (e : VarId × Value) (values : List (VarId × Value)) (lists : List (VarId × PotentialList))
    (channels : List (VarId × ℕ)) → AreLeft (e ∷ values) lists channels → AreLeft values lists channels
without-value e values lists channels left = record {
  values_ascend = sorted_tail by_number e.0 (keys_of values) left.values_ascend;
  lists_ascend = left.lists_ascend;
  channels_ascend = left.channels_ascend;
  lists_apart = All-tail (λ p. All (λ f. p.0.0 ≢ f.0.0) lists) e values left.lists_apart;
  channels_apart = All-tail (λ p. All (λ f. p.0.0 ≢ f.0.0) channels) e values left.channels_apart;
  both_apart = left.both_apart;
}

pub without-list : (e : VarId × PotentialList) (values : List (VarId × Value)) (lists : List (VarId × PotentialList))
    (channels : List (VarId × ℕ)) → AreLeft values (e ∷ lists) channels → AreLeft values lists channels
without-list e values lists channels left = record {
  values_ascend = left.values_ascend;
  lists_ascend = sorted_tail by_number e.0 (keys_of lists) left.lists_ascend;
  channels_ascend = left.channels_ascend;
  lists_apart = All-weaker (λ p. All (λ f. p.0.0 ≢ f.0.0) (e ∷ lists)) (λ p. All (λ f. p.0.0 ≢ f.0.0) lists)
      (λ p all. All-tail (λ f. p.0.0 ≢ f.0.0) e lists all) values left.lists_apart;
  channels_apart = left.channels_apart;
  both_apart = All-tail (λ p. All (λ f. p.0.0 ≢ f.0.0) channels) e lists left.both_apart;
}

pub without-channel : (e : VarId × ℕ) (values : List (VarId × Value)) (lists : List (VarId × PotentialList))
    (channels : List (VarId × ℕ)) → AreLeft values lists (e ∷ channels) → AreLeft values lists channels
without-channel e values lists channels left = record {
  values_ascend = left.values_ascend;
  lists_ascend = left.lists_ascend;
  channels_ascend = sorted_tail by_number e.0 (keys_of channels) left.channels_ascend;
  lists_apart = left.lists_apart;
  channels_apart = All-weaker (λ p. All (λ f. p.0.0 ≢ f.0.0) (e ∷ channels)) (λ p. All (λ f. p.0.0 ≢ f.0.0) channels)
      (λ p all. All-tail (λ f. p.0.0 ≢ f.0.0) e channels all) values left.channels_apart;
  both_apart = All-weaker (λ p. All (λ f. p.0.0 ≢ f.0.0) (e ∷ channels)) (λ p. All (λ f. p.0.0 ≢ f.0.0) channels)
      (λ p all. All-tail (λ f. p.0.0 ≢ f.0.0) e channels all) lists left.both_apart;
}

-- ---- all variables

grown-none : (p : Process) → p ≡ grown p [] [] []
unfolding grown
grown-none p = λ i. record p {
  values = sym (append-nil p.values) i;
  lists = sym (append-nil p.lists) i;
  channels = sym (append-nil p.channels) i;
}

-- one line, and those of what is left then
step : {a : Acceptance} (k : LedgerState) (p q : Process) (l : SnapshotLine) (all others more : List SnapshotLine)
    (ledger : LedgerState) → all ≡ l ∷ others → Goes a (unfinished k p) l (unfinished k q)
    → All (IsLine a.program) all
    → (All (IsLine a.program) others → LeadTo a (unfinished k q) (others ++ more) ledger)
    → LeadTo a (unfinished k p) (all ++ more) ledger
step {a} k p q l all others more ledger is goes lines rest =
    let here = subst (All (IsLine a.program)) is lines in
    subst (λ (ls : List SnapshotLine). LeadTo a (unfinished k p) (ls ++ more) ledger) (sym is)
    (leading.line l (All-head (IsLine a.program) l others here) goes
    (rest (All-tail (IsLine a.program) l others here)))

variables-lead : {a : Acceptance} (n : ℕ) (k : LedgerState) (p : Process) (values : List (VarId × Value))
    (lists : List (VarId × PotentialList)) (channels : List (VarId × ℕ)) (more : List SnapshotLine)
    (ledger : LedgerState)
    → Lowest values lists channels → length values + length lists + length channels ≤ n → AreLeft values lists channels
    → AreOver p values lists channels → All (IsLine a.program) (left_lines values lists channels)
    → LeadTo a (unfinished k (grown p values lists channels)) more ledger
    → LeadTo a (unfinished k p) (left_lines values lists channels ++ more) ledger
unfolding left_lines grown
variables-lead {a} n k p [] [] [] more ledger nothing few left over lines lead =
    subst (λ (q : Process). LeadTo a (unfinished k q) more ledger) (sym (grown-none p)) lead
variables-lead zero k p (e ∷ values) lists channels more ledger (lowest_value e2 v2 l2 c2 x y z) few left over lines
    lead =
    absurd (omega (arith, few))
variables-lead {a} (suc n) k p (e ∷ values) lists channels more ledger (lowest_value e2 v2 l2 c2 x y z) few left over
    lines
    lead =
    let rest_left = without-value e values lists channels left in
    let q = with_value e.0 e.1 p in
    step k p q (line.Value e.0 e.1) (left_lines (e ∷ values) lists channels) (left_lines values lists channels) more
    ledger
    (ap (map (λ (f : VarId × SnapshotLine). f.1)) (value-first e values lists channels x y z))
    (gathering.value k p e.0 e.1 (All-head (λ f. IsOverVariables f.0 p) e values over.values_over)) lines
    (λ others. variables-lead n k q values lists channels more ledger (lowest values lists channels rest_left)
    (omega (arith, few)) rest_left
    (still-over p q e.0.0 values lists channels (λ w below was. over-value e.0 e.1 w p below was) x y z
    (record {
      values_over = All-tail (λ f. IsOverVariables f.0 p) e values over.values_over;
      lists_over = over.lists_over;
      channels_over = over.channels_over;
    }))
    others
    (subst (λ (vs : List (VarId × Value)). LeadTo a (unfinished k (record p {
      values = vs;
      lists = p.lists ++ lists;
      channels = p.channels ++ channels;
    })) more ledger) (sym (append_assoc p.values (e ∷ []) values)) lead))
variables-lead zero k p values (e ∷ lists) channels more ledger (lowest_list e2 v2 l2 c2 x y z) few left over lines
    lead =
    absurd (omega (arith, few))
variables-lead {a} (suc n) k p values (e ∷ lists) channels more ledger (lowest_list e2 v2 l2 c2 x y z) few left over
    lines
    lead =
    let rest_left = without-list e values lists channels left in
    let q = with_list e.0 e.1.amount e.1.items p in
    step k p q (line.List e.0 e.1.amount e.1.items) (left_lines values (e ∷ lists) channels)
    (left_lines values lists channels) more ledger
    (ap (map (λ (f : VarId × SnapshotLine). f.1)) (list-first e values lists channels x y z))
    (gathering.list k p e.0 e.1.amount e.1.items (All-head (λ f. IsOverVariables f.0 p) e lists over.lists_over)) lines
    (λ others. variables-lead n k q values lists channels more ledger (lowest values lists channels rest_left)
    (omega (arith, few)) rest_left
    (still-over p q e.0.0 values lists channels (λ w below was. over-list e w p below was) x y z
    (record {
      values_over = over.values_over;
      lists_over = All-tail (λ f. IsOverVariables f.0 p) e lists over.lists_over;
      channels_over = over.channels_over;
    }))
    others
    (subst (λ (ls : List (VarId × PotentialList)). LeadTo a (unfinished k (record p {
      values = p.values ++ values;
      lists = ls;
      channels = p.channels ++ channels;
    })) more ledger) (sym (append_assoc p.lists (e ∷ []) lists)) lead))
variables-lead zero k p values lists (e ∷ channels) more ledger (lowest_channel e2 v2 l2 c2 x y z) few left over lines
    lead = absurd (omega (arith, few))
variables-lead {a} (suc n) k p values lists (e ∷ channels) more ledger (lowest_channel e2 v2 l2 c2 x y z) few left over
    lines lead =
    let rest_left = without-channel e values lists channels left in
    let q = with_channel e.0 e.1 p in
    step k p q (line.Channel e.0 e.1) (left_lines values lists (e ∷ channels)) (left_lines values lists channels) more
    ledger (ap (map (λ (f : VarId × SnapshotLine). f.1)) (channel-first e values lists channels x y z))
    (gathering.channel k p e.0 e.1 (All-head (λ f. IsOverVariables f.0 p) e channels over.channels_over)) lines
    (λ others. variables-lead n k q values lists channels more ledger (lowest values lists channels rest_left)
    (omega (arith, few)) rest_left
    (still-over p q e.0.0 values lists channels (λ w below was. over-channel e.0 e.1 w p below was) x y z
    (record {
      values_over = over.values_over;
      lists_over = over.lists_over;
      channels_over = All-tail (λ f. IsOverVariables f.0 p) e channels over.channels_over;
    }))
    others
    (subst (λ (cs : List (VarId × ℕ)). LeadTo a (unfinished k (record p {
      values = p.values ++ values;
      lists = p.lists ++ lists;
      channels = cs;
    })) more ledger) (sym (append_assoc p.channels (e ∷ []) channels)) lead))

-- ---- a process

-- a variable that stands in a map is bound there
bound-one : {X : Type 0} (v : ℕ) (b : List (VarId × X)) (i : ℕ) (d : VarId × X) → i < length b → (get_or b i d).0.0 ≡ v
    → 1 ≤ count_one (bound_to v b)
bound-one v [] i d within is = absurd (omega (arith, within))
bound-one v (e ∷ b) zero d within is = elim (eqb_tells e.0.0 v) [
  | inl same ↦ rw same.0 (omega arith)
  | inr other ↦ absurd (other.1 is)
]
bound-one v (e ∷ b) (suc i) d within is = elim (eqb_tells e.0.0 v) [
  | inl same ↦ rw same.0 (omega arith)
  | inr other ↦ rw other.0 (bound-one v b i d (omega (arith, within)) is)
]

apart-from : {X Y : Type 0} (xs : List (VarId × X)) (ys : List (VarId × Y))
    → ((v : ℕ) → count_one (bound_to v xs) + count_one (bound_to v ys) ≤ 1) → AreApart xs ys
apart-from xs ys most = λ k d within j f inside same.
    absurd (omega (
      arith,
      bound-one (get_or xs k d).0.0 xs k d within refl,
      bound-one (get_or xs k d).0.0 ys j f inside (sym same),
      most (get_or xs k d).0.0,
    ))

pub left-of : (p : Process) → VariablesDiffer p → AreLeft p.values p.lists p.channels
left-of p differ = record {
  values_ascend = differ.values;
  lists_ascend = differ.lists;
  channels_ascend = differ.channels;
  lists_apart = apart-from p.values p.lists (λ v. omega (arith, differ.apart v));
  channels_apart = apart-from p.values p.channels (λ v. omega (arith, differ.apart v));
  both_apart = apart-from p.lists p.channels (λ v. omega (arith, differ.apart v));
}

-- all is over a process without variables
over-none : (p : SeenProcess) (w : VarId) → IsOverVariables w (process_with p)
over-none p w = record {
  values = All-nil (λ e. e.0.0 < w.0);
  lists = All-nil (λ e. e.0.0 < w.0);
  channels = All-nil (λ e. e.0.0 < w.0);
}

-- So the lines of a process whose variables differ lead to it.
pub process-lead : {a : Acceptance} (g : Gathered) (p : Process) (more : List SnapshotLine) (ledger : LedgerState)
    → VariablesDiffer p → IsOverObjects p.pid (ledger_of g)
    → All (IsLine a.program) (line.Process (seen_process p) ∷ variable_lines p)
    → LeadTo a (unfinished (ledger_of g) p) more ledger
    → LeadTo a (behind g) (line.Process (seen_process p) ∷ (variable_lines p ++ more)) ledger
unfolding left_lines grown
process-lead {a} g p more ledger differ over lines lead =
    leading.line (line.Process (seen_process p))
    (All-head (IsLine a.program) (line.Process (seen_process p)) (variable_lines p) lines)
    (gathering.process g (seen_process p) over)
    (variables-lead (length p.values + length p.lists + length p.channels) (ledger_of g) (process_with (seen_process p))
    p.values p.lists p.channels more ledger (lowest p.values p.lists p.channels (left-of p differ)) (omega arith)
    (left-of p differ)
    (record {
      values_over = λ k d within. over-none (seen_process p) (get_or p.values k d).0;
      lists_over = λ k d within. over-none (seen_process p) (get_or p.lists k d).0;
      channels_over = λ k d within. over-none (seen_process p) (get_or p.channels k d).0;
    })
    (All-tail (IsLine a.program) (line.Process (seen_process p)) (variable_lines p) lines) lead)
