-- Laws of the answer to whether a shared type is synchronizing.
use Rattle.std.proofs.Common.{◌≡◌, ◌↔◌, List, Contains, inl, inr, arith}
use Rattle.std.proofs.lemmas.List.Elements.{All-contains, All-weaker, All-contains_itself}
use Rattle.nomos_ir.specs.declared.amount.Amount.{Amount}
use Rattle.nomos_ir.specs.declared.ids.TypeId.{TypeId}
use Rattle.nomos_ir.specs.declared.lists.ProgramLists.{ProgramLists}
use Rattle.nomos_types.specs.Amount.{Annotations, dths}
use Rattle.nomos_types.specs.Synchronizing.{here, IsSynchronizingAt}
use Rattle.nomos_types.proofs.EqualityLaws.{equal-shapes}
use Rattle.nomos_equality.specs.Answer.{SameWorth}
use Rattle.nomos_equality.specs.Comparing.{Compared, nothing_compared, HasCompared}
use Rattle.nomos_equality.specs.declared.hop.Hop.{Hop}
use Rattle.nomos_equality.proofs.PathLaws.{equal-worth, equal-from_worth}
use Rattle.nomos_equality.specs.SyncAnswer.{StraysAt, FindsSynchronizing, SynchronizesWith, AnswersSynchronizing, SaysSynchronizing}
use Rattle.nomos_equality.specs.declared.synchronizing.Synced.{Synced}
use Rattle.nomos_equality.specs.declared.synchronizing.Synced.TheVariants as synced
use Rattle.nomos_equality.proofs.ContinuationLemmas.{continues-reaches}

-- the pairs say under which amounts the type is synchronizing
pub synchronizes_with-exact : (lists : ProgramLists) (from shared : TypeId) (pairs : List (Amount × Amount))
    (x : Annotations) → SynchronizesWith lists from shared pairs
    → IsSynchronizingAt lists x from shared ↔ SameWorth x pairs
synchronizes_with-exact lists from shared pairs x answer = (
  λ synchronizing.
      All-weaker (Contains pairs) (λ (p : Amount × Amount). dths x p.0 ≡ dths x p.1)
      (λ p among.
      let stand = (answer.pairs p).0 among in
      equal-worth lists x stand.behind shared p (synchronizing stand.at stand.behind stand.reached stand.unfolds)
      stand.stand)
      pairs (All-contains_itself pairs),
  λ worth.
      λ t b reached unfolds.
      equal-from_worth lists x b shared (answer.shapes t b reached unfolds)
      (λ p stand.
      All-contains (λ (q : Amount × Amount). dths x q.0 ≡ dths x q.1) pairs p worth
      ((answer.pairs p).1 (record { at = t; behind = b; reached = reached; unfolds = unfolds; stand = stand }))),
)

-- a type with an offending `down` is synchronizing under no amounts
pub offends-not_synchronizing : (lists : ProgramLists) (x : Annotations) (from shared : TypeId) (path : List Hop)
    → StraysAt lists from shared path → IsSynchronizingAt lists x from shared → ⊥
offends-not_synchronizing lists x from shared path offends synchronizing =
    offends.unequal
    (equal-shapes lists x offends.behind shared
    (synchronizing offends.at offends.behind (continues-reaches lists from from offends.at path here offends.leads)
    offends.unfolds))

-- the answer says under which amounts the type is synchronizing
pub synced-exact : (lists : ProgramLists) (from shared : TypeId) (answer : Synced) (x : Annotations)
    → AnswersSynchronizing lists from shared answer → IsSynchronizingAt lists x from shared ↔ SaysSynchronizing x answer
synced-exact lists from shared (synced.Yes pairs) x answers = synchronizes_with-exact lists from shared pairs x answers
synced-exact lists from shared (synced.No path) x answers =
    (λ synchronizing. offends-not_synchronizing lists x from shared path answers synchronizing, λ says. absurd says)

-- from nothing on, what is found is the answer
pub sync-answered : (lists : ProgramLists) (from shared : TypeId) (new : Compared) → HasCompared lists new
    → FindsSynchronizing lists from shared nothing_compared new → SynchronizesWith lists from shared new.amounts
sync-answered lists from shared new compared finds =
    record {
      shapes = finds.shapes;
      pairs = λ p. (
        λ among. elim ((finds.amounts p).0 among) [ inl h ↦ absurd (omega (arith, h.1)) | inr h ↦ h ],
        λ stand. (finds.amounts p).1 (inr stand),
      );
      once = compared.once;
    }
