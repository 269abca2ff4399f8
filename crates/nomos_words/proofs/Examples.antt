-- Some words, loads and summaries, computed by the definitions.
use Rattle.std.proofs.Common.{◌≡◌, ℕ, List, [], ◌∷◌, ◌++◌, get_or, Some, None, refl, sym, ap, arith, pos}
use Rattle.std.specs.Prelude.{codes}
use Rattle.std.specs.Fmt.{digits}
use Rattle.std.specs.List.{Contains}
use Rattle.std.proofs.lemmas.List.Elements.{All-cons, All-nil}
use Rattle.nomos_ir.specs.Value.{int}
use Rattle.nomos_machine.specs.declared.policy.Policy.TheVariants.{First, Round}
use Rattle.nomos_words.specs.BenchLoad.{bid, drawn_at, load_script}
use Rattle.nomos_words.specs.Options.{AreOptions, AreWorkers, option_names}
use Rattle.nomos_words.specs.Summary.{summary_text}
use Rattle.nomos_words.specs.Words.{Asks, Task, check, run, replay, bench, least, pool, talk, save, resume}
use Rattle.nomos_words.specs.declared.workers.Workers.{Workers}
use Rattle.nomos_words.specs.declared.workers.Workers.TheVariants.{One, Many}
use Rattle.nomos_words.proofs.OptionLemmas.{IsKnown}

-- ---- words

abbrev Words : Type 0
Words = List (List ℕ)

-- words that name a contract and a script, and others behind them
abbrev run_with : Words → Words
run_with behind = codes "run" ∷ codes "c" ∷ codes "s" ∷ behind

checks : Asks (codes "check" ∷ codes "c" ∷ []) (check (codes "c"))
checks = (refl, record { are = refl; is_file = λ e. omega (arith, e) })

replays : Asks (codes "replay" ∷ codes "c" ∷ codes "s" ∷ codes "j" ∷ []) (replay (codes "c") (codes "s") (codes "j"))
replays = (
  refl,
  record {
    are = refl;
    is_first = λ e. omega (arith, e);
    is_second = λ e. omega (arith, e);
    is_third = λ e. omega (arith, e);
  },
)

-- the names of a talk are any words, and so may be empty
talks : Asks (codes "talk" ∷ codes "c" ∷ codes "s" ∷ [] ∷ codes "-p" ∷ codes "t" ∷ [])
    (talk (codes "c") (codes "s") [] (codes "-p") (codes "t"))
talks = (
  refl,
  record {
    are = refl;
    is_file = λ e. omega (arith, e);
    is_script = λ e. omega (arith, e);
    is_text = λ e. omega (arith, e);
  },
)

-- the snapshot stands before the script where a run goes on from it
resumes : Asks (codes "resume" ∷ codes "c" ∷ codes "n" ∷ codes "s" ∷ []) (resume (codes "c") (codes "n") (codes "s"))
resumes = (
  refl,
  record {
    are = refl;
    is_first = λ e. omega (arith, e);
    is_second = λ e. omega (arith, e);
    is_third = λ e. omega (arith, e);
  },
)

benches : Asks (codes "bench" ∷ codes "0" ∷ codes "10000" ∷ []) (bench 0 10000)
unfolding digits
benches = (
  refl,
  record {
    seed_word = codes "0";
    bidders_word = codes "10000";
    are = refl;
    is_seed = (omega arith, refl);
    are_bidders = (omega arith, omega arith, refl);
  },
)

-- a word that begins with `-` is no file
no_file : (task : Task) → Asks (codes "check" ∷ codes "-x" ∷ []) task → ⊥
no_file (check f) asks =
    let none : List ℕ = [] in
    let same : codes "-x" ≡ f = ap (λ ws. get_or ws 0 none) asks.1.are in (rw (sym same) at asks.1.is_file) refl
no_file (run f s w n j) asks = omega (arith, ap (λ w. get_or w 0 0) asks.0)
no_file (replay f s j) asks = omega (arith, ap (λ w. get_or w 0 0) asks.0)
no_file (bench s b) asks = omega (arith, ap (λ w. get_or w 0 0) asks.0)
no_file (least f) asks = omega (arith, ap (λ w. get_or w 0 0) asks.0)
no_file (pool f s n) asks = omega (arith, ap (λ w. get_or w 0 0) asks.0)
no_file (talk f s n p t) asks = omega (arith, ap (λ w. get_or w 0 0) asks.0)
no_file (save f s n) asks = omega (arith, ap (λ w. get_or w 0 0) asks.0)
no_file (resume f n s) asks = omega (arith, ap (λ w. get_or w 0 0) asks.0)

-- a run without options
runs : Asks (run_with []) (run (codes "c") (codes "s") (One First) 1000000 None)
runs = (
  refl,
  record {
    behind = [];
    options = [];
    are = refl;
    is_file = λ e. omega (arith, e);
    is_script = λ e. omega (arith, e);
    are_options =
        record { are = refl; known = All-nil IsKnown; once = λ i j d below within. absurd (omega (arith, within)) };
    workers_are = (refl, refl);
    steps_are = refl;
    journal_is = refl;
    journal_is_file = tt;
  },
)

-- one worker may have a policy
one_option : (key value : List ℕ) → Contains option_names key → AreOptions (key ∷ value ∷ []) ((key, value) ∷ [])
one_option key value known = record {
  are = refl;
  known = All-cons IsKnown (key, value) [] known (All-nil IsKnown);
  once = λ i j d below within. absurd (omega (arith, below, within));
}

by_turns : Asks (run_with (codes "--policy" ∷ codes "round" ∷ []))
    (run (codes "c") (codes "s") (One Round) 1000000 None)
by_turns = (
  refl,
  record {
    behind = codes "--policy" ∷ codes "round" ∷ [];
    options = (codes "--policy", codes "round") ∷ [];
    are = refl;
    is_file = λ e. omega (arith, e);
    is_script = λ e. omega (arith, e);
    are_options = one_option (codes "--policy") (codes "round") (1, omega arith, refl);
    workers_are = (refl, refl);
    steps_are = refl;
    journal_is = refl;
    journal_is_file = tt;
  },
)

-- several have none
several_by_turns : (workers : Workers) → AreWorkers (Some (codes "2")) (Some (codes "first")) workers → ⊥
unfolding digits
several_by_turns (One policy) are = omega (arith, ap (λ w. get_or w 0 0) are.0.2)
several_by_turns (Many n) are = let none = are.2 in cc

-- ---- loads

first_draw : drawn_at 0 1 ≡ 1442695040888963407
first_draw = refl

first_bid : bid 0 1 ≡ 808
first_bid = refl

one_bidder : load_script 0 1
    ≡ codes "deposit seller 2\nlet ws = new seller keep(0;)\nlet auc = new seller start(0; ws)\n"
    ++ codes "deposit u1 3\nlet w1 = new u1 keep(0;)\nexec u1 place(808; auc, w1)\nexec seller ask(; auc)\n"
unfolding load_script digits
one_bidder = refl

-- ---- a summary

summary : summary_text (record { seed = 0; bidders = 1; entries = 7; firings = 52; spent = 5; unit = 1 })
    (Some (int (pos 808)))
    ≡ codes "bench 0 1\nentries 7\nfirings 52\nspent 5\nbest 808\n"
unfolding digits
summary = refl
