-- Words ask for one task at most, which is about a contract in a file.
use Rattle.std.proofs.Common.{◌≡◌, ◌∙◌, ℕ, List, [], ◌∷◌, Option, Some, None, refl, sym, subst}
use Rattle.std.specs.Prelude.{IfSome, codes}
use Rattle.nomos_words.specs.FindsOne.{FindsOne}
use Rattle.nomos_words.specs.Options.{IsFileWord}
use Rattle.nomos_carry.specs.CarryWords.{AskForNothing, AsksToCarry, CarryTask, IsFileOf, Names, carry, contract_word, numbers, renumber}

-- neither `-` nor an option names a file
no-dash : (word : List ℕ) → word ≡ codes "-" → IsFileWord word → ⊥
no-dash word is file = let other : IsFileWord (codes "-") = subst IsFileWord is file in other refl

no-option : (word : List ℕ) → word ≡ codes "--renumber" → IsFileWord word → ⊥
no-option word is file = let other : IsFileWord (codes "--renumber") = subst IsFileWord is file in other refl

pub one-task : (words : List (List ℕ)) (s t : CarryTask) → AsksToCarry words s → AsksToCarry words t → s ≡ t
one-task words (carry f (Some s) r n) (carry g (Some u) q m) one two =
    let same : f ∷ s ∷ r ∷ n ∷ [] ≡ g ∷ u ∷ q ∷ m ∷ [] = sym one.are ∙ two.are in cc
one-task words (carry f (Some s) r n) (carry g None q m) one two =
    let same : f ∷ s ∷ r ∷ n ∷ [] ≡ g ∷ codes "-" ∷ q ∷ m ∷ [] = sym one.are ∙ two.are in
    let dash : s ≡ codes "-" = cc in
    absurd (no-dash s dash one.two.is_snapshot)
one-task words (carry f None r n) (carry g (Some u) q m) one two =
    let same : f ∷ codes "-" ∷ r ∷ n ∷ [] ≡ g ∷ u ∷ q ∷ m ∷ [] = sym one.are ∙ two.are in
    let dash : u ≡ codes "-" = cc in
    absurd (no-dash u dash two.two.is_snapshot)
one-task words (carry f None r n) (carry g None q m) one two =
    let same : f ∷ codes "-" ∷ r ∷ n ∷ [] ≡ g ∷ codes "-" ∷ q ∷ m ∷ [] = sym one.are ∙ two.are in cc
one-task words (carry f (Some s) r n) (renumber g u m) one two =
    let same : f ∷ s ∷ r ∷ n ∷ [] ≡ codes "--renumber" ∷ g ∷ u ∷ m ∷ [] = sym one.are ∙ two.are in
    let option : f ≡ codes "--renumber" = cc in
    absurd (no-option f option one.is_file)
one-task words (carry f None r n) (renumber g u m) one two =
    let same : f ∷ codes "-" ∷ r ∷ n ∷ [] ≡ codes "--renumber" ∷ g ∷ u ∷ m ∷ [] = sym one.are ∙ two.are in
    let option : f ≡ codes "--renumber" = cc in
    absurd (no-option f option one.is_file)
one-task words (carry f (Some s) r n) (numbers g u) one two =
    let same : f ∷ s ∷ r ∷ n ∷ [] ≡ codes "--numbers" ∷ g ∷ u ∷ [] = sym one.are ∙ two.are in
    let short : n ∷ [] ≡ [] = cc in
    absurd cc
one-task words (carry f None r n) (numbers g u) one two =
    let same : f ∷ codes "-" ∷ r ∷ n ∷ [] ≡ codes "--numbers" ∷ g ∷ u ∷ [] = sym one.are ∙ two.are in
    let short : n ∷ [] ≡ [] = cc in
    absurd cc
one-task words (renumber f s n) (carry g (Some u) q m) one two =
    let same : codes "--renumber" ∷ f ∷ s ∷ n ∷ [] ≡ g ∷ u ∷ q ∷ m ∷ [] = sym one.are ∙ two.are in
    let option : g ≡ codes "--renumber" = cc in
    absurd (no-option g option two.is_file)
one-task words (renumber f s n) (carry g None q m) one two =
    let same : codes "--renumber" ∷ f ∷ s ∷ n ∷ [] ≡ g ∷ codes "-" ∷ q ∷ m ∷ [] = sym one.are ∙ two.are in
    let option : g ≡ codes "--renumber" = cc in
    absurd (no-option g option two.is_file)
one-task words (renumber f s n) (renumber g u m) one two =
    let same : codes "--renumber" ∷ f ∷ s ∷ n ∷ [] ≡ codes "--renumber" ∷ g ∷ u ∷ m ∷ [] = sym one.are ∙ two.are in cc
one-task words (renumber f s n) (numbers g u) one two =
    let same : codes "--renumber" ∷ f ∷ s ∷ n ∷ [] ≡ codes "--numbers" ∷ g ∷ u ∷ [] = sym one.are ∙ two.are in
    let short : n ∷ [] ≡ [] = cc in
    absurd cc
one-task words (numbers f s) (carry g (Some u) q m) one two =
    let same : codes "--numbers" ∷ f ∷ s ∷ [] ≡ g ∷ u ∷ q ∷ m ∷ [] = sym one.are ∙ two.are in
    let short : [] ≡ m ∷ [] = cc in
    absurd cc
one-task words (numbers f s) (carry g None q m) one two =
    let same : codes "--numbers" ∷ f ∷ s ∷ [] ≡ g ∷ codes "-" ∷ q ∷ m ∷ [] = sym one.are ∙ two.are in
    let short : [] ≡ m ∷ [] = cc in
    absurd cc
one-task words (numbers f s) (renumber g u m) one two =
    let same : codes "--numbers" ∷ f ∷ s ∷ [] ≡ codes "--renumber" ∷ g ∷ u ∷ m ∷ [] = sym one.are ∙ two.are in
    let short : [] ≡ m ∷ [] = cc in
    absurd cc
one-task words (numbers f s) (numbers g u) one two =
    let same : codes "--numbers" ∷ f ∷ s ∷ [] ≡ codes "--numbers" ∷ g ∷ u ∷ [] = sym one.are ∙ two.are in cc

-- the contract is in a file
pub contract-is_file : (words : List (List ℕ)) (task : CarryTask) → AsksToCarry words task
    → IsFileWord (contract_word task)
contract-is_file words (carry f (Some s) r n) asks = asks.is_file
contract-is_file words (carry f None r n) asks = asks.is_file
contract-is_file words (renumber f s n) asks = asks.is_file
contract-is_file words (numbers f s) asks = asks.is_file

-- where nothing is found nothing is asked for
pub found-none : (words : List (List ℕ)) (found : Option CarryTask) → FindsOne (AsksToCarry words) found → found ≡ None
    → AskForNothing words
found-none words found finds none =
    λ task asks. absurd (let both : None ≡ Some task = sym none ∙ finds.each task asks in cc)

-- the file of a task is the one that the words name
pub task-names : (file_of : CarryTask → Option (List ℕ)) (words : List (List ℕ)) (task : CarryTask)
    → AsksToCarry words task → Names file_of words (file_of task)
task-names file_of words task asks = record {
  found = held (file_of task) refl;
  each = λ file is.
      subst (λ (t : CarryTask). file_of t ≡ Some file) (one-task words is.task task is.asks asks) is.is;
}
  where
    held : (file : Option (List ℕ)) → file_of task ≡ file → IfSome file (IsFileOf file_of words)
    held None is = tt
    held (Some file) is = record { task = task; asks = asks; is = is }
