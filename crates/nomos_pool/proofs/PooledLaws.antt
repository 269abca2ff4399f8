-- What holds of what items come to: a refusal stands alone, and what is pooled weighs what was read.
use Rattle.std.proofs.Common.{◌≡◌, ◌∙◌, ℕ, ◌+◌, ◌^◌, ◌<◌, ◌≤◌, List, [], ◌∷◌, ◌++◌, All, drop, length, map, slice_get, sum_by, take, Result, Ok, Err, Some, refl, sym, ap, subst, arith}
use Rattle.std.proofs.lemmas.List.{length-map, length-take-le, take-append-drop}
use Rattle.std.proofs.lemmas.List.Elements.{All-append, All-cons, All-head, All-map, All-nil, All-tail}
use Rattle.std.proofs.lemmas.List.Sums.{sum_by-append, sum_by-cons}
use Rattle.nomos_script.specs.Size.{IsScriptSize, entry_count, start_count}
use Rattle.nomos_script.specs.WrittenItems.{IsScript, IsWrittenItem}
use Rattle.nomos_script.specs.declared.item.Batch.{Batch}
use Rattle.nomos_script.specs.declared.item.ScriptItem.{ScriptItem}
use Rattle.nomos_script.specs.declared.item.ScriptItem.TheVariants as item
use Rattle.nomos_script.proofs.PartLaws.{all-first, all-last}
use Rattle.nomos_pool.specs.Dealing.{account_name, account_names, thread_of, threads_of}
use Rattle.nomos_pool.specs.Pooled.{FirstOther, IsPooled, IsRefused, IsSingle, IsSingleBatch, NotSingle, PoolsTo, first_line}
use Rattle.nomos_pool.specs.declared.pool.Submission.{Submission}
use Rattle.nomos_pool.proofs.DealingLemmas.{threads-below}
use Rattle.nomos_pool.proofs.KeepingLaws.{gathered-kept}
use Rattle.nomos_pool.proofs.SenderLemmas.{seam}
use Rattle.nomos_pool.proofs.WeighingLaws.{gathered-weighs}

-- ---- a refusal stands alone

module _ {X : Type 0} (P : X → Type 0) where
  -- the first item of which something does not hold, and what stands behind it, are one
  pub first-failing : (xs ys : List X) (a b : X) (r s : List X) → All P xs → All P ys → ¬ P a → ¬ P b
      → xs ++ a ∷ r ≡ ys ++ b ∷ s → (a ≡ b) × (r ≡ s)
  first-failing [] [] a b r s first second fails misses same = (cc same, cc same)
  first-failing [] (y ∷ ys) a b r s first second fails misses same =
      let is : y ≡ a = cc same in absurd (fails (subst P is (All-head P y ys second)))
  first-failing (x ∷ xs) [] a b r s first second fails misses same =
      let is : x ≡ b = cc same in absurd (misses (subst P is (All-head P x xs first)))
  first-failing (x ∷ xs) (y ∷ ys) a b r s first second fails misses same =
      first-failing xs ys a b r s (All-tail P x xs first) (All-tail P y ys second) fails misses (cc same)

  -- of what stands in a list it holds if it holds of all
  holds-there : (xs : List X) (a : X) (r : List X) → All P (xs ++ a ∷ r) → P a
  holds-there [] a r all = All-head P a r all
  holds-there (x ∷ xs) a r all = holds-there xs a r (All-tail P x (xs ++ a ∷ r) all)

-- a single line is not none
is-one : (one : ScriptItem) → IsSingle one → ¬ NotSingle one
is-one one single none = none single

-- items with a single line before another item are not pooled
unpooled : (n line : ℕ) (items pooled : List ScriptItem) → IsRefused items line → IsPooled n items pooled → ⊥
unpooled n line items pooled r p = go p.batches p.single (sym r.read ∙ p.read)
  where
    go : (batches : List Batch) → All IsSingleBatch batches
        → r.first ++ r.one ∷ r.behind ≡ p.first ++ map item.Batch batches → ⊥
    go [] single same =
        let all : All NotSingle (p.first ++ []) =
        All-append NotSingle p.first [] p.others (λ k d low. absurd (omega (arith, low))) in
        holds-there NotSingle r.first r.one r.behind (subst (All NotSingle) (sym same) all) r.starts
    go (batch ∷ batches) single same =
        let seam = first-failing NotSingle r.first p.first r.one (item.Batch batch) r.behind (map item.Batch batches)
        r.others p.others (is-one r.one r.starts)
        (is-one (item.Batch batch) (All-head IsSingleBatch batch batches single)) same in
        let all : All IsSingle r.behind = subst (All IsSingle) (sym seam.1)
        (All-map IsSingle item.Batch batches (All-tail IsSingleBatch batch batches single)) in
        r.refused.other
        (holds-there IsSingle r.refused.single r.refused.bad r.refused.rest (subst (All IsSingle) r.refused.read all))

-- the line that is refused is one
one-line : (items : List ScriptItem) (line other : ℕ) → IsRefused items line → IsRefused items other → other ≡ line
one-line items line other r s =
    let seam = first-failing NotSingle r.first s.first r.one s.one r.behind s.behind r.others s.others
    (is-one r.one r.starts) (is-one s.one s.starts) (sym r.read ∙ s.read) in
    let bad = first-failing IsSingle r.refused.single s.refused.single r.refused.bad s.refused.bad r.refused.rest
    s.refused.rest r.refused.all s.refused.all r.refused.other s.refused.other
    (sym r.refused.read ∙ (seam.1 ∙ s.refused.read)) in
    s.refused.at ∙ (ap first_line (sym bad.0) ∙ sym r.refused.at)

-- where a line is refused, there is no other answer
pub refused-alone : (n line : ℕ) (items : List ScriptItem) → IsRefused items line
    → (other : Result (List ScriptItem) ℕ) → PoolsTo n items other → other ≡ Err line
refused-alone n line items r (Ok pooled) p = absurd (unpooled n line items pooled r p)
refused-alone n line items r (Err other) s = ap Err (one-line items line other r s)

-- ---- what is pooled weighs what was read

-- however items are weighed, those that are pooled weigh what those that were read weigh
pub pooled-weighs : (weigh : ScriptItem → ℕ) (n : ℕ) (items pooled : List ScriptItem) → 0 < n → IsPooled n items pooled
    → sum_by weigh pooled ≡ sum_by weigh items
pooled-weighs weigh n items pooled some p =
    let of_batch : Batch → ℕ = λ batch. weigh (item.Batch batch) in
    ap (sum_by weigh) p.taken
    ∙ (sum_by-append weigh p.first (map (λ s. item.Batch s.item) p.gathered)
    ∙ (ap (λ (w : ℕ). sum_by weigh p.first + w) (gathered p.gathered
    ∙ (gathered-weighs of_batch n (threads_of n p.batches) p.batches p.gathered
    (length-map p.batches (λ batch. thread_of n (account_names p.batches) (account_name batch)))
    (threads-below n p.batches some) p.fair
    ∙ sym (batches p.batches)))
    ∙ (sym (sum_by-append weigh p.first (map item.Batch p.batches)) ∙ ap (sum_by weigh) (sym p.read))))
  where
    batches : (bs : List Batch) → sum_by weigh (map item.Batch bs) ≡ sum_by (λ batch. weigh (item.Batch batch)) bs
    batches [] = refl
    batches (b ∷ bs) =
        sum_by-cons weigh (item.Batch b) (map item.Batch bs)
        ∙ (ap (λ (w : ℕ). weigh (item.Batch b) + w) (batches bs)
        ∙ sym (sum_by-cons (λ batch. weigh (item.Batch batch)) b bs))

    gathered : (ss : List (Submission Batch)) → sum_by weigh (map (λ s. item.Batch s.item) ss)
        ≡ sum_by (λ batch. weigh (item.Batch batch)) (map (λ s. s.item) ss)
    gathered [] = refl
    gathered (s ∷ ss) =
        sum_by-cons weigh (item.Batch s.item) (map (λ s. item.Batch s.item) ss)
        ∙ (ap (λ (w : ℕ). weigh (item.Batch s.item) + w) (gathered ss)
        ∙ sym (sum_by-cons (λ batch. weigh (item.Batch batch)) s.item (map (λ s. s.item) ss)))

-- an item as an entry, and by its starts
abbrev entry_weight : ScriptItem → ℕ
entry_weight one = entry_count (one ∷ [])

abbrev start_weight : ScriptItem → ℕ
start_weight one = start_count (one ∷ [])

entries-weigh : (items : List ScriptItem) → entry_count items ≡ sum_by entry_weight items
entries-weigh [] = refl
entries-weigh (item.Deposit line name units ∷ items) =
    omega (arith, entries-weigh items, sum_by-cons entry_weight (item.Deposit line name units) items)
entries-weigh (item.Batch batch ∷ items) =
    omega (arith, entries-weigh items, sum_by-cons entry_weight (item.Batch batch) items)
entries-weigh (item.Show line ∷ items) =
    omega (arith, entries-weigh items, sum_by-cons entry_weight (item.Show line) items)

starts-weigh : (items : List ScriptItem) → start_count items ≡ sum_by start_weight items
starts-weigh [] = refl
starts-weigh (item.Deposit line name units ∷ items) =
    omega (arith, starts-weigh items, sum_by-cons start_weight (item.Deposit line name units) items)
starts-weigh (item.Batch batch ∷ items) =
    omega (arith, starts-weigh items, sum_by-cons start_weight (item.Batch batch) items)
starts-weigh (item.Show line ∷ items) =
    omega (arith, starts-weigh items, sum_by-cons start_weight (item.Show line) items)

-- what is pooled is no larger than a script may be
pub pooled-size : (n : ℕ) (items pooled : List ScriptItem) → 0 < n → IsPooled n items pooled → IsScriptSize items
    → IsScriptSize pooled
pooled-size n items pooled some p size = record {
  entries = subst (λ (k : ℕ). k < 105000)
      (entries-weigh items
      ∙ (sym (pooled-weighs entry_weight n items pooled some p) ∙ sym (entries-weigh pooled))) size.entries;
  starts = subst (λ (k : ℕ). k ≤ 2 ^ 20)
      (starts-weigh items
      ∙ (sym (pooled-weighs start_weight n items pooled some p) ∙ sym (starts-weigh pooled))) size.starts;
}

-- ---- what is pooled is as what was read

-- what holds of each item that was read holds of each that is pooled
pub pooled-kept : (P : ScriptItem → Type 0) (n : ℕ) (items pooled : List ScriptItem) → IsPooled n items pooled
    → All P items → All P pooled
pooled-kept P n items pooled p all =
    let whole = subst (All P) p.read all in
    let gathered = gathered-kept (λ batch. P (item.Batch batch)) n (threads_of n p.batches) p.batches p.gathered p.fair
    (of_batches p.batches (all-last P p.first (map item.Batch p.batches) whole)) in
    subst (All P) (sym p.taken)
    (All-append P p.first (map (λ s. item.Batch s.item) p.gathered)
    (all-first P p.first (map item.Batch p.batches) whole) (as_items p.gathered gathered))
  where
    of_batches : (bs : List Batch) → All P (map item.Batch bs) → All (λ batch. P (item.Batch batch)) bs
    of_batches [] all = All-nil (λ (batch : Batch). P (item.Batch batch))
    of_batches (b ∷ bs) all =
        All-cons (λ (batch : Batch). P (item.Batch batch)) b bs (All-head P (item.Batch b) (map item.Batch bs) all)
        (of_batches bs (All-tail P (item.Batch b) (map item.Batch bs) all))

    as_items : (ss : List (Submission Batch)) → All (λ batch. P (item.Batch batch)) (map (λ s. s.item) ss)
        → All P (map (λ s. item.Batch s.item) ss)
    as_items [] all = All-nil P
    as_items (s ∷ ss) all =
        All-cons P (item.Batch s.item) (map (λ s. item.Batch s.item) ss)
        (All-head (λ (batch : Batch). P (item.Batch batch)) s.item (map (λ s. s.item) ss) all)
        (as_items ss (All-tail (λ (batch : Batch). P (item.Batch batch)) s.item (map (λ s. s.item) ss) all))

-- what is pooled of a script is a script
pub pooled-script : (n : ℕ) (items pooled : List ScriptItem) → 0 < n → IsPooled n items pooled → IsScript items
    → IsScript pooled
pooled-script n items pooled some p script = record {
  size = pooled-size n items pooled some p script.size;
  written = pooled-kept IsWrittenItem n items pooled p script.written;
}

-- ---- what the code finds

-- the batches of single lines are those of single lines
pub single-batches : (batches : List Batch) → All IsSingle (map item.Batch batches) → All IsSingleBatch batches
single-batches [] all = λ k d low. absurd (omega (arith, low))
single-batches (batch ∷ batches) all =
    All-cons IsSingleBatch batch batches (All-head IsSingle (item.Batch batch) (map item.Batch batches) all)
    (single-batches batches (All-tail IsSingle (item.Batch batch) (map item.Batch batches) all))

-- a line is refused where, from the first single line on, another item stands
pub refuses : (place line : ℕ) (items : List ScriptItem) → place ≤ length items → All NotSingle (take place items)
    → ((one : ScriptItem) → slice_get items place ≡ Some one → IsSingle one) → FirstOther (drop place items) line
    → IsRefused items line
refuses place line items within before there r = go r.single r.all r.read
  where
    go : (single : List ScriptItem) → All IsSingle single → drop place items ≡ single ++ r.bad ∷ r.rest
        → IsRefused items line
    go [] all read =
        let whole : items ≡ take place items ++ r.bad ∷ r.rest =
        sym (take-append-drop place items) ∙ ap (λ l. take place items ++ l) read in
        absurd (r.other (there r.bad (ap (λ l. slice_get l place) whole
        ∙ (ap (λ k. slice_get (take place items ++ r.bad ∷ r.rest) k) (sym (length-take-le place items within))
        ∙ seam (take place items) r.bad r.rest))))
    go (one ∷ more) all read = record {
      first = take place items;
      one = one;
      behind = more ++ r.bad ∷ r.rest;
      read = sym (take-append-drop place items) ∙ ap (λ l. take place items ++ l) read;
      others = before;
      starts = All-head IsSingle one more all;
      refused = record {
        single = more;
        bad = r.bad;
        rest = r.rest;
        read = refl;
        all = All-tail IsSingle one more all;
        other = r.other;
        at = r.at;
      };
    }
