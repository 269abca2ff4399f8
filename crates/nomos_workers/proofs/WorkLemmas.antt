-- What a worker knows after its turns.
use Rattle.std.proofs.Common.{◌≡◌, ◌∙◌, ℕ, List, [], ◌∷◌, map, length, refl, sym, ap, subst, arith, inl, inr}
use Rattle.std.proofs.lemmas.List.{length-map}
use Rattle.nomos_machine.specs.Run.{run}
use Rattle.nomos_legal.specs.World.{pids_of, ledger_begun}
use Rattle.nomos_legal.specs.declared.journal.Firing.{Firing}
use Rattle.nomos_legal.proofs.WorldLaws.{fires_at-run}
use mathlib.Core.List.{IsPrefix}
use Rattle.nomos_floor.specs.FloorPass.{AddsAtMostOne}
use Rattle.nomos_floor.proofs.HistoryLaws.{prefix_push}
use Rattle.nomos_workers.specs.Shops.{HasRun, IsShop, MayEnd, ShopState, history_of, opening}
use Rattle.nomos_workers.specs.declared.batch.BatchEnd.{BatchEnd}

module _ {E : Type 0} where
  -- at most one entry more, of the same number and over the same history
  pub adds-moved : (m n : ℕ) (xs ys zs : List (ℕ × E)) → m ≡ n → ys ≡ xs → AddsAtMostOne m xs zs → AddsAtMostOne n ys zs
  adds-moved m n xs ys zs e f adds =
      subst (λ (k : ℕ). AddsAtMostOne k ys zs) e (subst (λ (l : List (ℕ × E)). AddsAtMostOne m l zs) (sym f) adds)

  -- what began the history begins it then
  pub adds-prefix : (n : ℕ) (seen xs ys zs : List (ℕ × E)) → IsPrefix seen xs → AddsAtMostOne n xs ys → zs ≡ ys
      → IsPrefix seen zs
  adds-prefix n seen xs ys zs begins (inl same) is =
      subst (λ (l : List (ℕ × E)). IsPrefix seen l) (sym (is ∙ same)) begins
  adds-prefix n seen xs ys zs begins (inr added) is =
      subst (λ (l : List (ℕ × E)). IsPrefix seen l) (sym (is ∙ added.1))
      (prefix_push seen xs ((n, added.0) ∷ []) begins)

  -- what began what was taken out begins the history with at most one entry more
  pub look-begins : (n : ℕ) (seen taken xs ys : List (ℕ × E)) → IsPrefix seen taken → xs ≡ taken → AddsAtMostOne n xs ys
      → IsPrefix seen ys
  look-begins n seen taken xs ys begins fresh adds =
      adds-prefix n seen xs ys ys (subst (λ (l : List (ℕ × E)). IsPrefix seen l) (sym fresh) begins) adds refl

-- the processes of the history are those that fired
history-pids : (firings : List Firing)
    → map (λ (f : ℕ × ℕ). f.1) (map (λ (f : Firing). (f.pass, f.pid)) firings) ≡ pids_of firings
history-pids [] = refl
history-pids (f ∷ firings) = λ i. f.pid ∷ history-pids firings i

-- a shop has run from its opening, with an end that is allowed where it stands
pub shop-run : (s : ShopState) → IsShop s → (e : BatchEnd)
    → MayEnd s.accepted s.world.state (length s.world.firings) s.limit e → HasRun (opening s) (history_of s) e
shop-run s shop e ends =
    let count : length (history_of s) ≡ length s.world.firings =
    length-map s.world.firings (λ (f : Firing). (f.pass, f.pid)) in
    record {
      state = s.world.state;
      reached =
          ap (run s.accepted (ledger_begun s.accepted s.world).state) (history-pids s.world.firings)
          ∙ fires_at-run shop.stands.reached;
      within = omega (arith, count, shop.within);
      ends = subst (λ (n : ℕ). MayEnd s.accepted s.world.state n s.limit e) (sym count) ends;
    }

-- so has one that began as another did
pub run-from : (s : ShopState) → IsShop s → (e : BatchEnd)
    → MayEnd s.accepted s.world.state (length s.world.firings) s.limit e → (opened : ShopState)
    → opening s ≡ opening opened → HasRun (opening opened) (history_of s) e
run-from s shop e ends opened same =
    subst (λ (start : ShopState). HasRun start (history_of s) e) same (shop-run s shop e ends)
