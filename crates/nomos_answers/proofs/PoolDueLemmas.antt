-- What is due where threads submit, from its parts.
use Rattle.std.proofs.Common.{◌≡◌, ℕ, List, Some, Result, Ok, Err, refl}
use Rattle.std.specs.Prelude.{IfErr, IfOk}
use Rattle.nomos_types.specs.Acceptance.{Acceptance}
use Rattle.nomos_script.specs.ScriptReading.{ReadsAs}
use Rattle.nomos_script.specs.declared.item.ScriptItem.{ScriptItem}
use Rattle.nomos_legal.specs.declared.journal.Journal.{Journal}
use Rattle.nomos_pool.specs.Pooled.{PoolsTo}
use Rattle.nomos_words.specs.Options.{usual_limit}
use Rattle.nomos_answers.specs.Finding.{HasRunAs, HasRunPart, IsBare, IsBareOf, PoolsIn, PoolsInPart, nothing_taken, taken, taken_part, untaken, untaken_of}
use Rattle.nomos_answers.specs.DueLines.{no_entries}
use Rattle.nomos_answers.specs.Outside.{HasText, SourceState, input_of}
use Rattle.nomos_answers.specs.Pools as pools
use Rattle.nomos_answers.specs.Pools.{pool_refusal}
use Rattle.nomos_answers.specs.RunsDue.{usual_orders}
use Rattle.nomos_answers.specs.Sources.{IsPoolDueFor, IsPoolPartFor}
use Rattle.nomos_answers.specs.declared.due.Due.{Due}
use Rattle.nomos_answers.specs.declared.pools.PoolDue.{PoolDue}
use Rattle.nomos_answers.specs.declared.pools.PoolPart.{PoolPart}
use Rattle.nomos_answers.proofs.SourceLemmas.{some_text}

-- a script that reads
pub due-pool : (a : Acceptance) (threads : ℕ) (script : SourceState) (text : List ℕ) (items : List ScriptItem)
    (p : PoolDue) → HasText script.left text → ReadsAs text items → PoolsIn a threads items p
    → IsPoolDueFor a threads script p
due-pool a threads script text items p told reads (taken these comes run is) = record {
  text = text;
  told = told;
  is =
      rw (run.status_is, run.text_is, is)
      (pools.ran items these p.due.journal run.passages run.last reads comes run.run run.stands);
  nothing_kept = run.kept_is;
}
due-pool a threads script text items p told reads (untaken k comes bare none) = record {
  text = text;
  told = told;
  is = rw (bare.status_is, bare.text_is, bare.nothing_run, none) (pools.no_pool items k reads comes);
  nothing_kept = bare.nothing_kept;
}

pub part-pool : (a : Acceptance) (threads : ℕ) (script : SourceState) (text : List ℕ) (items : List ScriptItem)
    (p : PoolPart) → HasText script.left text → ReadsAs text items → PoolsInPart a threads items p
    → IsPoolPartFor a threads script p
part-pool a threads script text items p told reads (taken_part these comes part is) = record {
  text = text;
  told = told;
  is = rw is (pools.ran_part items these part.count p.journal part.passages part.last reads comes part.run);
}
part-pool a threads script text items p told reads (nothing_taken none is) = record {
  text = text;
  told = told;
  is = rw (none, is) pools.not_gathered;
}

-- no script to be pooled
pub untaken-due : (a : Acceptance) (threads : ℕ) (script : SourceState) (text : List ℕ) (r : Result Due Journal)
    → HasText script.left text → IfOk r (IsBareOf (input_of script text) usual_limit)
    → IfOk (untaken_of r) (IsPoolDueFor a threads script)
untaken-due a threads script text (Ok due) told bare = record {
  text = text;
  told = told;
  is = rw bare.nothing_run (pools.no_script due.status due.out.items bare.is);
  nothing_kept = bare.nothing_kept;
}
untaken-due a threads script text (Err journal) told bare = tt

pub untaken-part : (a : Acceptance) (threads : ℕ) (script : SourceState) (r : Result Due Journal)
    → IfErr r (λ journal. journal ≡ no_entries usual_limit) → IfErr (untaken_of r) (IsPoolPartFor a threads script)
untaken-part a threads script (Ok due) none = tt
untaken-part a threads script (Err journal) none =
    let t = some_text script.left in record { text = t.0; told = t.1; is = rw none pools.not_gathered }

-- ---- a script that reads

pub pool-taken : (a : Acceptance) (threads : ℕ) (items these : List ScriptItem) (p : PoolDue)
    → PoolsTo threads items (Ok these) → HasRunAs a these usual_orders p.due × (p.taken ≡ Some these)
    → PoolsIn a threads items p
pool-taken a threads items these p pools run = taken these pools run.0 run.1

pub pool-taken_part : (a : Acceptance) (threads : ℕ) (items these : List ScriptItem) (p : PoolPart)
    → PoolsTo threads items (Ok these) → HasRunPart a these usual_orders p.journal × (p.taken ≡ Some these)
    → PoolsInPart a threads items p
pool-taken_part a threads items these p pools run = taken_part these pools run.0 run.1

pub pool-refused : (a : Acceptance) (threads : ℕ) (items : List ScriptItem) (k : ℕ) (r : Result Due Journal)
    → PoolsTo threads items (Err k) → IfOk r (λ due. IsBare due 2 (pool_refusal k) usual_limit)
    → IfOk (untaken_of r) (PoolsIn a threads items)
pool-refused a threads items k (Ok due) pools bare = untaken k pools bare refl
pool-refused a threads items k (Err journal) pools bare = tt

pub pool-refused_part : (a : Acceptance) (threads : ℕ) (items : List ScriptItem) (r : Result Due Journal)
    → IfErr r (λ journal. journal ≡ no_entries usual_limit) → IfErr (untaken_of r) (PoolsInPart a threads items)
pool-refused_part a threads items (Ok due) none = tt
pool-refused_part a threads items (Err journal) none = nothing_taken none refl
