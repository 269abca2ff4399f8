-- Lines that start in books.
use Rattle.std.proofs.Common.{◌≡◌, ◌∙◌, ◌+◌, ◌<◌, ◌^◌, ℕ, suc, List, [], ◌∷◌, ◌++◌, length, get_or, take, drop, drop-cons, Some, None, Result, Ok, Err, refl, sym, ap, subst, arith, append_assoc, append-nil}
use Rattle.std.proofs.lemmas.List.{length-take-le, take_more, take-append-drop}
use Rattle.nomos_ir.specs.declared.or_no_memory.OrNoMemory.{OrNoMemory}
use Rattle.nomos_ir.specs.declared.or_no_memory.OrNoMemory.TheVariants as stop
use Rattle.nomos_types.specs.Acceptance.{Acceptance, IsAccepted}
use Rattle.nomos_script.specs.declared.item.Start.{Start}
use Rattle.nomos_deeds.specs.Acting.{HasNumbers}
use Rattle.nomos_legal.specs.Batch.{AllStart, OneRefuses, after_start, after_starts}
use Rattle.nomos_legal.specs.Batch as batch
use Rattle.nomos_legal.specs.Ledger.{Contracts, IsLedger, LedgerState, shared_name}
use Rattle.nomos_legal.specs.StandsFor.{IsSettled}
use Rattle.nomos_legal.specs.LineStarts.{NameIsFree, Resolves}
use Rattle.nomos_legal.specs.declared.refusal.Refusal.{Refusal}
use Rattle.nomos_legal.specs.declared.resolved.Resolved.{Resolved}
use Rattle.nomos_legal.proofs.ResolveLaws.{resolved-by}
use Rattle.nomos_legal.proofs.StartLaws.{after_starts-push, all_start-push, next-refuses, starts-counts, starts-length, starts-named, starts-settled}
use Rattle.nomos_ledger.specs.mirror.Books.{BooksState}
use Rattle.nomos_ledger.specs.mirror.StartedLines.{Extends, StartsAll, StartsLine, at_line}

-- the name that a contract gets is free
pub name-free : {a : Acceptance} {l : LedgerState} {start : Start} {r : Resolved} → Resolves a l start (Ok r)
    → (name : List ℕ) → r.contract ≡ Some name → shared_name l.contracts name ≡ None
name-free {a} {l} {start} {r} resolves name is =
    let by = resolved-by resolves in
    let free : NameIsFree l r.contract = subst (λ (x : Resolved). NameIsFree l x.contract) (sym by.is) by.free in
    subst (NameIsFree l) is free

-- ---- what stays

pub extends-none : (b : BooksState) → Extends b b
extends-none b = record {
  accounts = refl;
  deposits = refl;
  marked = refl;
  contracts = ([], sym (append-nil b.now.contracts));
}

pub extends-further : {b c d : BooksState} → Extends b c → Extends c d → Extends b d
extends-further {b} {c} {d} first second = record {
  accounts = second.accounts ∙ first.accounts;
  deposits = second.deposits ∙ first.deposits;
  marked = second.marked ∙ first.marked;
  contracts = (
    first.contracts.0 ++ second.contracts.0,
    second.contracts.1 ∙ ap (λ (xs : Contracts). xs ++ second.contracts.0) first.contracts.1
        ∙ append_assoc b.now.contracts first.contracts.0 second.contracts.0,
  );
}

-- ---- the lines of a batch

-- what is left where one more is taken
take-next : {X : Type 0} (xs : List X) (k : ℕ) (x : X) → k < length xs → x ≡ get_or xs k x
    → take (k + 1) xs ≡ take k xs ++ x ∷ []
take-next xs k x below is = take_more xs k x below ∙ ap (λ y. take k xs ++ y ∷ []) (sym is)

take-rest : {X : Type 0} (xs : List X) (k : ℕ) (x : X) → k < length xs → x ≡ get_or xs k x
    → take k xs ++ x ∷ drop (suc k) xs ≡ xs
take-rest xs k x below is =
    ap (λ y. take k xs ++ y ∷ drop (suc k) xs) is ∙ ap (λ ys. take k xs ++ ys) (sym (drop-cons xs k x below))
    ∙ take-append-drop k xs

-- The first so many lines of a batch started: they come to these starts, which lead from the one ledger to the other.
-- The acceptance by which the arguments are judged is the same as ever.
pub record SoFar (a b : Acceptance) (l m : LedgerState) (lines : List Start) (k : ℕ) (rs : List Resolved) : Type 0 where
  pub starts : AllStart a l (take k lines) rs
  pub now : m ≡ after_starts a l rs
  pub stays : b ≡ a

pub so_far-none : (a : Acceptance) (l : LedgerState) (lines : List Start) (rs : List Resolved) → rs ≡ []
    → SoFar a a l l lines 0 rs
so_far-none a l lines rs none = record {
  starts = subst (AllStart a l []) (sym none) (batch.none l);
  now = ap (after_starts a l) (sym none);
  stays = refl;
}

module _ {a b : Acceptance} (accepted : IsAccepted a) {l m : LedgerState} (settled : IsSettled a l)
    (ledger : IsLedger l) {lines : List Start} {k : ℕ} {rs : List Resolved} (so_far : SoFar a b l m lines k rs) where
  pub so_far-settled : IsSettled b m
  so_far-settled =
      subst (λ (x : Acceptance). IsSettled x m) (sym so_far.stays)
      (subst (IsSettled a) (sym so_far.now) (starts-settled accepted settled ledger so_far.starts))

  pub so_far-named : IsLedger m
  so_far-named = subst IsLedger (sym so_far.now) (starts-named accepted settled ledger so_far.starts)

  -- there are numbers for one more
  pub so_far-numbers : k < length lines → l.state.next_object + length lines < 2 ^ 32
      → l.state.next_name + length lines < 2 ^ 32 → HasNumbers m.state
  so_far-numbers below objects names =
      let counts = starts-counts accepted settled ledger so_far.starts in
      let many : length rs ≡ length (take k lines) = starts-length so_far.starts in
      let taken : length (take k lines) ≡ k = length-take-le k lines (omega (arith, below)) in
      subst (λ (n : LedgerState). HasNumbers n.state) (sym so_far.now) (record {
        object = omega (arith, counts.objects, many, taken, objects, below);
        name = omega (arith, counts.names, many, taken, names, below);
      })

  -- what the next line comes to in the ledger that these leave
  next-resolves : (start : Start) (answer : Result Resolved Refusal) → Resolves b m start answer
      → Resolves a (after_starts a l rs) start answer
  next-resolves start answer resolves =
      subst (λ (n : LedgerState). Resolves a n start answer) so_far.now
      (subst (λ (x : Acceptance). Resolves x m start answer) so_far.stays resolves)

  -- one more starts
  pub so_far-push : (start : Start) (r : Resolved) (c : Acceptance) (n : LedgerState) (qs : List Resolved)
      → k < length lines → start ≡ get_or lines k start → StartsLine b m start (Ok r) n → c ≡ b → qs ≡ rs ++ r ∷ []
      → SoFar a c l n lines (k + 1) qs
  so_far-push start r c n qs below is starts stays pushed = record {
    starts =
        subst (λ (xs : List Start). AllStart a l xs qs) (sym (take-next lines k start below is))
        (subst (AllStart a l (take k lines ++ start ∷ [])) (sym pushed)
        (all_start-push start r so_far.starts (next-resolves start (Ok r) starts.0)));
    now =
        starts.1 ∙ (λ i. after_start (so_far.stays i) (so_far.now i) r) ∙ sym (after_starts-push a l rs r)
        ∙ ap (after_starts a l) (sym pushed);
    stays = stays ∙ so_far.stays;
  }

  -- or the next one does not
  pub so_far-stops : (start : Start) (why : OrNoMemory Refusal) (n : LedgerState) → k < length lines
      → start ≡ get_or lines k start → StartsLine b m start (Err why) n
      → StartsAll a l lines (Err (at_line start.line why)) n
  so_far-stops start (stop.Answer cause) n below is resolves =
      subst (λ (starts : List Start). OneRefuses a l starts start.line cause) (take-rest lines k start below is)
      (next-refuses start (drop (suc k) lines) so_far.starts (next-resolves start (Err cause) resolves))
  so_far-stops start stop.NoMemory n below is u = tt
