-- Words ask for one task, and what holds of every task that they ask for.
use Rattle.std.proofs.Common.{◌≡◌, ◌≢◌, ℕ, ◌+◌, ◌*◌, ◌<◌, ◌≤◌, ◌^◌, List, [], ◌∷◌, ◌++◌, drop, get_or, Option, Some, None, refl, sym, ap, subst, ◌∙◌, arith}
use Rattle.std.specs.Prelude.{codes, decimal}
use Rattle.std.proofs.lemmas.List.{append-nil}
use Rattle.nomos_machine.specs.declared.policy.Policy.{Policy}
use Rattle.nomos_machine.specs.declared.policy.Policy.TheVariants.{First, Round}
use Rattle.nomos_printing.proofs.OneTextLaws.{decimal-only}
use Rattle.nomos_words.specs.Options.{AreSteps, AreWorkers, IsCountOr, IsPolicy, policy_word, option_value, option_words}
use Rattle.nomos_words.specs.Words.{AreOperands, Asks, AsksFile, AsksFiles, AsksLoad, AsksPool, AsksRun, AsksTalk, Task, check, command, run, replay, bench, least, pool, talk, save, resume}
use Rattle.nomos_words.specs.declared.workers.Workers.{Workers}
use Rattle.nomos_words.specs.declared.workers.Workers.TheVariants.{One, Many}
use Rattle.nomos_words.proofs.GivenOptionLemmas.{none_left}
use Rattle.nomos_words.proofs.OptionLemmas.{Pair, options_front}

-- ---- what an option says is one thing

count_same : (missing most : ℕ) → most < 2 ^ 32 → (given : Option (List ℕ)) (m n : ℕ) → IsCountOr missing most given m
    → IsCountOr missing most given n → m ≡ n
count_same missing most small None m n is other = is ∙ sym other
count_same missing most small (Some word) m n is other =
    decimal-only m n (omega (arith, small, is.1)) (omega (arith, small, other.1)) (sym is.2 ∙ other.2)

word_same : (p q : Policy) → policy_word p ≡ policy_word q → p ≡ q
word_same First First same = refl
word_same First Round same = absurd (omega (arith, ap (λ w. get_or w 0 0) same))
word_same Round First same = absurd (omega (arith, ap (λ w. get_or w 0 0) same))
word_same Round Round same = refl

policy_same : (given : Option (List ℕ)) (p q : Policy) → IsPolicy given p → IsPolicy given q → p ≡ q
policy_same None p q is other = is ∙ sym other
policy_same (Some word) p q is other = word_same p q (sym is ∙ other)

workers_same : (count policy : Option (List ℕ)) (u v : Workers) → AreWorkers count policy u → AreWorkers count policy v
    → u ≡ v
workers_same count policy (One p) (One q) is other = ap (λ x. One x) (policy_same policy p q is.1 other.1)
workers_same count policy (One p) (Many n) is other =
    absurd (omega (arith, count_same 1 16 (omega arith) count 1 n is.0 other.0, other.1))
workers_same count policy (Many m) (One q) is other =
    absurd (omega (arith, count_same 1 16 (omega arith) count m 1 is.0 other.0, is.1))
workers_same count policy (Many m) (Many n) is other =
    ap (λ x. Many x) (count_same 1 16 (omega arith) count m n is.0 other.0)

-- ---- words are the words of one list of options

options_same : (options other : List Pair) → option_words options ≡ option_words other → options ≡ other
options_same options other same =
    let told = options_front options other [] (append-nil (option_words options) ∙ same) in
    sym (told.1 ∙ ap (λ rest. options ++ rest) (none_left told.0 told.2) ∙ append-nil options)

-- ---- and they ask for one task

run_same : (words : List (List ℕ)) (f s : List ℕ) (w : Workers) (n : ℕ) (j : Option (List ℕ)) (f' s' : List ℕ)
    (w' : Workers) (n' : ℕ) (j' : Option (List ℕ)) → AsksRun words f s w n j → AsksRun words f' s' w' n' j'
    → run f s w n j ≡ run f' s' w' n' j'
run_same words f s w n j f' s' w' n' j' a b =
    let none : List ℕ = [] in
    let e = sym a.are ∙ b.are in
    let behind : option_words a.options ≡ option_words b.options =
    sym a.are_options.are ∙ ap (λ ws. drop 2 ws) e ∙ b.are_options.are in
    let same : b.options ≡ a.options = sym (options_same a.options b.options behind) in
    let IsCrew : List Pair → Workers → Type 0 =
    λ o x. AreWorkers (option_value (codes "--workers") o) (option_value (codes "--policy") o) x in
    let workers = workers_same (option_value (codes "--workers") a.options)
    (option_value (codes "--policy") a.options) w w' a.workers_are (subst (λ o. IsCrew o w') same b.workers_are) in
    let steps = count_same 1000000 10000000 (omega arith) (option_value (codes "--steps") a.options) n n'
    a.steps_are (subst (λ o. AreSteps (option_value (codes "--steps") o) n') same b.steps_are) in
    let journal : j ≡ j' = a.journal_is ∙ ap (λ o. option_value (codes "--journal") o) (sym same) ∙ sym b.journal_is in
    ap (λ x. run x s w n j) (ap (λ ws. get_or ws 0 none) e) ∙ ap (λ x. run f' x w n j) (ap (λ ws. get_or ws 1 none) e)
    ∙ ap (λ x. run f' s' x n j) workers ∙ ap (λ x. run f' s' w' x j) steps ∙ ap (λ x. run f' s' w' n' x) journal

load_same : (words : List (List ℕ)) (s b s' b' : ℕ) → AsksLoad words s b → AsksLoad words s' b'
    → bench s b ≡ bench s' b'
load_same words s b s' b' one other =
    let none : List ℕ = [] in
    let e = sym one.are ∙ other.are in
    let seed : decimal s ≡ decimal s' = sym one.is_seed.1 ∙ ap (λ ws. get_or ws 0 none) e ∙ other.is_seed.1 in
    let bidders : decimal b ≡ decimal b' =
    sym one.are_bidders.2 ∙ ap (λ ws. get_or ws 1 none) e ∙ other.are_bidders.2 in
    ap (λ x. bench x b) (decimal-only s s' (omega (arith, one.is_seed.0)) (omega (arith, other.is_seed.0)) seed)
    ∙ ap (λ x. bench s' x)
    (decimal-only b b' (omega (arith, one.are_bidders.1)) (omega (arith, other.are_bidders.1)) bidders)

file_same : (words : List (List ℕ)) (f f' : List ℕ) → AsksFile words f → AsksFile words f' → f ≡ f'
file_same words f f' a b = let none : List ℕ = [] in ap (λ ws. get_or ws 0 none) (sym a.are ∙ b.are)

files_same : (words : List (List ℕ)) (f s t f' s' t' : List ℕ) → AsksFiles words f s t → AsksFiles words f' s' t'
    → (task : List ℕ → List ℕ → List ℕ → Task) → task f s t ≡ task f' s' t'
files_same words f s t f' s' t' a b task =
    let none : List ℕ = [] in
    let same = sym a.are ∙ b.are in
    ap (λ x. task x s t) (ap (λ ws. get_or ws 0 none) same)
    ∙ ap (λ x. task f' x t) (ap (λ ws. get_or ws 1 none) same)
    ∙ ap (λ x. task f' s' x) (ap (λ ws. get_or ws 2 none) same)

pool_same : (words : List (List ℕ)) (f s : List ℕ) (n : ℕ) (f' s' : List ℕ) (n' : ℕ) → AsksPool words f s n
    → AsksPool words f' s' n' → pool f s n ≡ pool f' s' n'
pool_same words f s n f' s' n' a b =
    let none : List ℕ = [] in
    let same = sym a.are ∙ b.are in
    let threads : decimal n ≡ decimal n' = sym a.are_threads.2 ∙ ap (λ ws. get_or ws 2 none) same ∙ b.are_threads.2 in
    ap (λ x. pool x s n) (ap (λ ws. get_or ws 0 none) same)
    ∙ ap (λ x. pool f' x n) (ap (λ ws. get_or ws 1 none) same)
    ∙ ap (λ x. pool f' s' x)
    (decimal-only n n' (omega (arith, a.are_threads.1)) (omega (arith, b.are_threads.1)) threads)

talk_same : (words : List (List ℕ)) (f s n p x f' s' n' p' x' : List ℕ) → AsksTalk words f s n p x
    → AsksTalk words f' s' n' p' x' → talk f s n p x ≡ talk f' s' n' p' x'
talk_same words f s n p x f' s' n' p' x' a b =
    let none : List ℕ = [] in
    let same = sym a.are ∙ b.are in
    ap (λ y. talk y s n p x) (ap (λ ws. get_or ws 0 none) same)
    ∙ ap (λ y. talk f' y n p x) (ap (λ ws. get_or ws 1 none) same)
    ∙ ap (λ y. talk f' s' y p x) (ap (λ ws. get_or ws 2 none) same)
    ∙ ap (λ y. talk f' s' n' y x) (ap (λ ws. get_or ws 3 none) same)
    ∙ ap (λ y. talk f' s' n' p' y) (ap (λ ws. get_or ws 4 none) same)

-- by its first letter, its second or its third a command differs from each other one
abbrev letters : List ℕ → ℕ
letters word = get_or word 0 0 + 256 * get_or word 1 0 + 65536 * get_or word 2 0

other_words : {word other : List ℕ} {P : Type 0} → word ≡ other → letters word ≢ letters other → P
other_words e differ = absurd (differ (ap letters e))

same_task : (words : List (List ℕ)) (t u : Task) → command t ≡ command u → AreOperands words t → AreOperands words u
    → t ≡ u
same_task words (check f) (check f') e a b = ap (λ x. check x) (file_same words f f' a b)
same_task words (check f) (run f' s' w' n' j') e a b = other_words e (λ d. omega (arith, d))
same_task words (check f) (replay f' s' j') e a b = other_words e (λ d. omega (arith, d))
same_task words (check f) (bench s' k') e a b = other_words e (λ d. omega (arith, d))
same_task words (check f) (least f') e a b = other_words e (λ d. omega (arith, d))
same_task words (check f) (pool f' s' n') e a b = other_words e (λ d. omega (arith, d))
same_task words (check f) (talk f' s' n' p' x') e a b = other_words e (λ d. omega (arith, d))
same_task words (check f) (save f' s' n') e a b = other_words e (λ d. omega (arith, d))
same_task words (check f) (resume f' n' s') e a b = other_words e (λ d. omega (arith, d))
same_task words (run f s w n j) (check f') e a b = other_words e (λ d. omega (arith, d))
same_task words (run f s w n j) (run f' s' w' n' j') e a b = run_same words f s w n j f' s' w' n' j' a b
same_task words (run f s w n j) (replay f' s' j') e a b = other_words e (λ d. omega (arith, d))
same_task words (run f s w n j) (bench s' k') e a b = other_words e (λ d. omega (arith, d))
same_task words (run f s w n j) (least f') e a b = other_words e (λ d. omega (arith, d))
same_task words (run f s w n j) (pool f' s' n') e a b = other_words e (λ d. omega (arith, d))
same_task words (run f s w n j) (talk f' s' n' p' x') e a b = other_words e (λ d. omega (arith, d))
same_task words (run f s w n j) (save f' s' n') e a b = other_words e (λ d. omega (arith, d))
same_task words (run f s w n j) (resume f' n' s') e a b = other_words e (λ d. omega (arith, d))
same_task words (replay f s j) (check f') e a b = other_words e (λ d. omega (arith, d))
same_task words (replay f s j) (run f' s' w' n' j') e a b = other_words e (λ d. omega (arith, d))
same_task words (replay f s j) (replay f' s' j') e a b = files_same words f s j f' s' j' a b (λ x y z. replay x y z)
same_task words (replay f s j) (bench s' k') e a b = other_words e (λ d. omega (arith, d))
same_task words (replay f s j) (least f') e a b = other_words e (λ d. omega (arith, d))
same_task words (replay f s j) (pool f' s' n') e a b = other_words e (λ d. omega (arith, d))
same_task words (replay f s j) (talk f' s' n' p' x') e a b = other_words e (λ d. omega (arith, d))
same_task words (replay f s j) (save f' s' n') e a b = other_words e (λ d. omega (arith, d))
same_task words (replay f s j) (resume f' n' s') e a b = other_words e (λ d. omega (arith, d))
same_task words (bench s k) (check f') e a b = other_words e (λ d. omega (arith, d))
same_task words (bench s k) (run f' s' w' n' j') e a b = other_words e (λ d. omega (arith, d))
same_task words (bench s k) (replay f' s' j') e a b = other_words e (λ d. omega (arith, d))
same_task words (bench s k) (bench s' k') e a b = load_same words s k s' k' a b
same_task words (bench s k) (least f') e a b = other_words e (λ d. omega (arith, d))
same_task words (bench s k) (pool f' s' n') e a b = other_words e (λ d. omega (arith, d))
same_task words (bench s k) (talk f' s' n' p' x') e a b = other_words e (λ d. omega (arith, d))
same_task words (bench s k) (save f' s' n') e a b = other_words e (λ d. omega (arith, d))
same_task words (bench s k) (resume f' n' s') e a b = other_words e (λ d. omega (arith, d))
same_task words (least f) (check f') e a b = other_words e (λ d. omega (arith, d))
same_task words (least f) (run f' s' w' n' j') e a b = other_words e (λ d. omega (arith, d))
same_task words (least f) (replay f' s' j') e a b = other_words e (λ d. omega (arith, d))
same_task words (least f) (bench s' k') e a b = other_words e (λ d. omega (arith, d))
same_task words (least f) (least f') e a b = ap (λ x. least x) (file_same words f f' a b)
same_task words (least f) (pool f' s' n') e a b = other_words e (λ d. omega (arith, d))
same_task words (least f) (talk f' s' n' p' x') e a b = other_words e (λ d. omega (arith, d))
same_task words (least f) (save f' s' n') e a b = other_words e (λ d. omega (arith, d))
same_task words (least f) (resume f' n' s') e a b = other_words e (λ d. omega (arith, d))
same_task words (pool f s n) (check f') e a b = other_words e (λ d. omega (arith, d))
same_task words (pool f s n) (run f' s' w' n' j') e a b = other_words e (λ d. omega (arith, d))
same_task words (pool f s n) (replay f' s' j') e a b = other_words e (λ d. omega (arith, d))
same_task words (pool f s n) (bench s' k') e a b = other_words e (λ d. omega (arith, d))
same_task words (pool f s n) (least f') e a b = other_words e (λ d. omega (arith, d))
same_task words (pool f s n) (pool f' s' n') e a b = pool_same words f s n f' s' n' a b
same_task words (pool f s n) (talk f' s' n' p' x') e a b = other_words e (λ d. omega (arith, d))
same_task words (pool f s n) (save f' s' n') e a b = other_words e (λ d. omega (arith, d))
same_task words (pool f s n) (resume f' n' s') e a b = other_words e (λ d. omega (arith, d))
same_task words (talk f s n p x) (check f') e a b = other_words e (λ d. omega (arith, d))
same_task words (talk f s n p x) (run f' s' w' n' j') e a b = other_words e (λ d. omega (arith, d))
same_task words (talk f s n p x) (replay f' s' j') e a b = other_words e (λ d. omega (arith, d))
same_task words (talk f s n p x) (bench s' k') e a b = other_words e (λ d. omega (arith, d))
same_task words (talk f s n p x) (least f') e a b = other_words e (λ d. omega (arith, d))
same_task words (talk f s n p x) (pool f' s' n') e a b = other_words e (λ d. omega (arith, d))
same_task words (talk f s n p x) (talk f' s' n' p' x') e a b = talk_same words f s n p x f' s' n' p' x' a b
same_task words (talk f s n p x) (save f' s' n') e a b = other_words e (λ d. omega (arith, d))
same_task words (talk f s n p x) (resume f' n' s') e a b = other_words e (λ d. omega (arith, d))
same_task words (save f s n) (check f') e a b = other_words e (λ d. omega (arith, d))
same_task words (save f s n) (run f' s' w' n' j') e a b = other_words e (λ d. omega (arith, d))
same_task words (save f s n) (replay f' s' j') e a b = other_words e (λ d. omega (arith, d))
same_task words (save f s n) (bench s' k') e a b = other_words e (λ d. omega (arith, d))
same_task words (save f s n) (least f') e a b = other_words e (λ d. omega (arith, d))
same_task words (save f s n) (pool f' s' n') e a b = other_words e (λ d. omega (arith, d))
same_task words (save f s n) (talk f' s' n' p' x') e a b = other_words e (λ d. omega (arith, d))
same_task words (save f s n) (save f' s' n') e a b = files_same words f s n f' s' n' a b (λ x y z. save x y z)
same_task words (save f s n) (resume f' n' s') e a b = other_words e (λ d. omega (arith, d))
same_task words (resume f n s) (check f') e a b = other_words e (λ d. omega (arith, d))
same_task words (resume f n s) (run f' s' w' n' j') e a b = other_words e (λ d. omega (arith, d))
same_task words (resume f n s) (replay f' s' j') e a b = other_words e (λ d. omega (arith, d))
same_task words (resume f n s) (bench s' k') e a b = other_words e (λ d. omega (arith, d))
same_task words (resume f n s) (least f') e a b = other_words e (λ d. omega (arith, d))
same_task words (resume f n s) (pool f' s' n') e a b = other_words e (λ d. omega (arith, d))
same_task words (resume f n s) (talk f' s' n' p' x') e a b = other_words e (λ d. omega (arith, d))
same_task words (resume f n s) (save f' s' n') e a b = other_words e (λ d. omega (arith, d))
same_task words (resume f n s) (resume f' n' s') e a b = files_same words f n s f' n' s' a b (λ x y z. resume x y z)

-- words ask for one task
pub one_task : (words : List (List ℕ)) (t u : Task) → Asks words t → Asks words u → t ≡ u
one_task [] t u asks other = absurd asks
one_task (word ∷ words) t u asks other = same_task words t u (sym asks.0 ∙ other.0) asks.1 other.1

-- ---- tasks that are asked for

count_within : (missing most n : ℕ) → 1 ≤ missing → missing ≤ most → (given : Option (List ℕ))
    → IsCountOr missing most given n → (1 ≤ n) × (n ≤ most)
count_within missing most n some few None is = (omega (arith, is), omega (arith, is))
count_within missing most n some few (Some word) is = (is.0, is.1)

several : (k : ℕ) (given : Option (List ℕ)) → IsCountOr 1 16 given k → 1 < k → (2 ≤ k) × (k ≤ 16)
several k given is more = (omega (arith, more), (count_within 1 16 k (omega arith) (omega arith) given is).1)

-- where several workers are asked for, they are from 2 to 16
pub several_workers : (words : List (List ℕ)) (file script : List ℕ) (k steps : ℕ) (journal : Option (List ℕ))
    → Asks words (run file script (Many k) steps journal) → (2 ≤ k) × (k ≤ 16)
several_workers [] file script k steps journal asks = absurd asks
several_workers (word ∷ words) file script k steps journal asks =
    several k (option_value (codes "--workers") asks.1.options) asks.1.workers_are.0 asks.1.workers_are.1

-- a run makes at least one firing in a batch, and at most 10,000,000
pub steps_within : (words : List (List ℕ)) (file script : List ℕ) (workers : Workers) (steps : ℕ)
    (journal : Option (List ℕ)) → Asks words (run file script workers steps journal) → (1 ≤ steps) × (steps ≤ 10000000)
steps_within [] file script workers steps journal asks = absurd asks
steps_within (word ∷ words) file script workers steps journal asks =
    count_within 1000000 10000000 steps (omega arith) (omega arith) (option_value (codes "--steps") asks.1.options)
    asks.1.steps_are

-- where threads submit, they are from 1 to 8
pub some_threads : (words : List (List ℕ)) (file script : List ℕ) (threads : ℕ) → Asks words (pool file script threads)
    → (1 ≤ threads) × (threads ≤ 8)
some_threads [] file script threads asks = absurd asks
some_threads (word ∷ words) file script threads asks = (asks.1.are_threads.0, asks.1.are_threads.1)
