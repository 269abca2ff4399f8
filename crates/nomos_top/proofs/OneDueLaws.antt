-- Of one ledger, text or script one thing is told: where it begins, what is carried out, what is saved, and what is
-- said.
use Rattle.std.proofs.Common.{◌≡◌, ◌∙◌, ℕ, List, Bool, Option, Some, None, Result, Ok, Err, refl, sym, subst, arith}
use Rattle.nomos_answers.specs.Outside.{Input}
use Rattle.nomos_answers.specs.RunsDue.{HasRunFrom, usual_orders}
use Rattle.nomos_answers.specs.TalkDue as talking
use Rattle.nomos_answers.specs.TalkDue.{IsNoTalk}
use Rattle.nomos_legal.proofs.OneJournalLaws.{follows-one_journal}
use Rattle.nomos_legal.specs.Ledger.{LedgerState}
use Rattle.nomos_legal.specs.Passage.{Passage}
use Rattle.nomos_legal.specs.declared.journal.Journal.{Journal}
use Rattle.nomos_machine.specs.declared.policy.Policy.TheVariants.{First}
use Rattle.nomos_monitor.proofs.TalkCourseLaws.{talk-one}
use Rattle.nomos_monitor.specs.TalkCourse.{HoldsTalk, PartyTurn, TalkReply}
use Rattle.nomos_script.proofs.ReadingLaws.{reads_once}
use Rattle.nomos_script.proofs.TalkLaws.{answers_once}
use Rattle.nomos_script.specs.TalkReading.{IsFormlessAt, ReadsAsTalk}
use Rattle.nomos_script.specs.declared.item.ScriptItem.{ScriptItem}
use Rattle.nomos_script.specs.declared.talk_line.TalkLine.{TalkLine}
use Rattle.nomos_script.specs.declared.talk_parsing.TalkError.TheVariants as talk_error
use Rattle.nomos_snapshot.proofs.LoadingLaws.{loads-one}
use Rattle.nomos_snapshot.specs.Saving as saving
use Rattle.nomos_snapshot.specs.Saving.{Saves}
use Rattle.nomos_snapshot.specs.declared.error.SaveError.{SaveError}
use Rattle.nomos_top.specs.Headline.{BeginsBy, CarriesBy}
use Rattle.nomos_types.specs.Acceptance.{Acceptance, IsAccepted}
use Rattle.nomos_visit.specs.Visits as visits
use Rattle.nomos_visit.specs.Visits.{HoldsTalkIn}
use Rattle.nomos_words.specs.Commands.{Third, no_third, a_journal, a_snapshot, a_talk}

-- ---- where a script begins, and which one it is

pub begins-one : (third : Third) (a : Acceptance) (text : List ℕ) (first other : LedgerState) → IsAccepted a
    → BeginsBy third a text first → BeginsBy third a text other → first ≡ other
begins-one no_third a text first other accepted one two = one ∙ sym two
begins-one (a_journal word) a text first other accepted one two = one ∙ sym two
begins-one (a_snapshot word) a text first other accepted one two =
    let same : Ok first ≡ Ok other = loads-one accepted one two in cc
begins-one (a_talk word) a text first other accepted one two = one ∙ sym two

pub script-one : (threads : Option ℕ) (taken : Option (List ScriptItem)) (text : List ℕ) (items other : List ScriptItem)
    → CarriesBy threads taken text items → CarriesBy threads taken text other → items ≡ other
script-one (Some n) taken text items other one two = let same : Some items ≡ Some other = sym one ∙ two in cc
script-one None taken text items other one two = reads_once text items other one two

-- ---- what a usual run comes to

pub usual-one : {a : Acceptance} {first : LedgerState} {items : List ScriptItem} {journal other : Journal}
    {ps qs : List Passage} {last m : LedgerState} → HasRunFrom a first items usual_orders journal ps last
    → HasRunFrom a first items usual_orders other qs m → (journal ≡ other) × (ps ≡ qs) × (last ≡ m)
usual-one one two =
    follows-one_journal First one.tells two.tells (one.limit ∙ sym two.limit) (one.follows First refl)
    (two.follows First refl)

-- ---- what is saved

pub saves-one : {a : Acceptance} {l : LedgerState} {x y : Result (List ℕ) SaveError} → Saves a l x → Saves a l y
    → x ≡ y
saves-one (saving.numbers high) (saving.numbers high2) = refl
saves-one (saving.numbers high) (saving.too_long low long) = absurd (high low)
saves-one (saving.numbers high) (saving.saved low short) = absurd (high low)
saves-one (saving.too_long low long) (saving.numbers high) = absurd (high low)
saves-one (saving.too_long low long) (saving.too_long low2 long2) = refl
saves-one (saving.too_long low long) (saving.saved low2 short) = absurd (omega (arith, long, short))
saves-one (saving.saved low short) (saving.numbers high) = absurd (high low)
saves-one (saving.saved low short) (saving.too_long low2 long) = absurd (omega (arith, long, short))
saves-one (saving.saved low short) (saving.saved low2 short2) = refl

-- ---- what is said

-- a text that reads as a talk has no line without a form
formed : (text : List ℕ) (k : ℕ) (talk : List (ℕ × TalkLine)) → ReadsAsTalk text talk → IsFormlessAt text k → ⊥
formed text k talk reads bad =
    let same : Ok talk ≡ Err (talk_error.Syntax k) =
    answers_once text (Ok talk) (Err (talk_error.Syntax k)) reads bad in
    cc

pub talk-not_missing : (text : Input) (line : List ℕ) (talk : List (ℕ × TalkLine)) → IsNoTalk text 10 line
    → ReadsAsTalk text.text talk → ⊥
talk-not_missing text line talk (talking.too_long over) reads = omega (arith, over, reads.limit)
talk-not_missing text line talk (talking.syntax k bad) reads = formed text.text k talk reads bad

pub talk-reads_once : (text : List ℕ) (talk other : List (ℕ × TalkLine)) → ReadsAsTalk text talk
    → ReadsAsTalk text other → talk ≡ other
talk-reads_once text talk other one two =
    let same : Ok talk ≡ Ok other = answers_once text (Ok talk) (Ok other) one two in cc

-- what a party says and is told
pub holds-one : {a : Acceptance} → IsAccepted a → {l : LedgerState} {name proc : List ℕ} {limit : ℕ}
    {turns : List PartyTurn} {fine good : Bool} {replies others : List TalkReply}
    → HoldsTalkIn a l name proc limit turns fine replies → HoldsTalkIn a l name proc limit turns good others
    → (fine ≡ good) × (replies ≡ others)
holds-one accepted (visits.nobody none) (visits.nobody none2) = (refl, refl)
holds-one accepted {l} {name} (visits.nobody none) (visits.holds account good others is holds) =
    absurd (let both : None ≡ Some account = sym none ∙ is in cc)
holds-one accepted {l} {name} (visits.holds account fine replies is holds) (visits.nobody none) =
    absurd (let both : None ≡ Some account = sym none ∙ is in cc)
holds-one {a} accepted {l} {name} {proc} {limit} {turns} (visits.holds account fine replies is holds)
    (visits.holds account2 good others is2 holds2) =
    let both : Some account2 ≡ Some account = sym is2 ∙ is in
    let same : account2 ≡ account = cc in
    talk-one accepted holds
    (subst (λ (n : ℕ). HoldsTalk a l.state proc n limit turns good others) same holds2)
