-- A text has one answer.
use Rattle.std.proofs.Common.{ℕ, List}
use Rattle.nomos_accept.proofs.AcceptLaws.{one-program}
use Rattle.nomos_accept.proofs.CauseLaws.{one-cause}
use Rattle.nomos_accept.proofs.NeverLaws.{cause-never}
use Rattle.nomos_accept.proofs.RowListLaws.{ends-once}
use Rattle.nomos_accept.proofs.StarLaws.{no_stars-stop}
use Rattle.nomos_least.proofs.OneLeastLaws.{least_ends-once, no_stars-least_stop}
use Rattle.nomos_replay.proofs.OneAnswerLaws.{answers-one}
use Rattle.nomos_script.proofs.ReadingLaws.{reads_once, reads_without_syntax, syntax_once}
use Rattle.nomos_script.proofs.TalkLaws.{answers_once}
use Rattle.nomos_snapshot.proofs.LoadingLaws.{loads-one}
use Rattle.nomos_top.proofs.CauseLemmas.{accepted-one, cause-no_stop, cause-no_least_stop}
use Rattle.nomos_top.proofs.RefusalLaws.{one-refusal}
use Rattle.nomos_top.specs.Refusing.{HasOneAnswer, HasOneReading}

pub one-answer : (text : List ℕ) → HasOneAnswer text
one-answer text = record {
  reads_once = one-program text;
  one_cause = one-cause text;
  cause_rules_out = cause-never text;
  one_refusal = one-refusal text;
  one_end = λ lists a b read ends other. ends-once lists a b ends other;
  one_least_end = λ lists a b read ends other. least_ends-once lists a b ends other;
  caused_goes_on = λ why stop cause. (cause-no_stop text why stop cause, cause-no_least_stop text why stop cause);
  solved_without_stars = λ lists stop read none. (
    no_stars-stop lists stop none,
    no_stars-least_stop text lists stop read none,
  );
  accepted_once = accepted-one text;
}

pub one-reading : (text : List ℕ) → HasOneReading text
one-reading text = record {
  reads_once = reads_once text;
  one_line = syntax_once text;
  not_both = λ items k. reads_without_syntax text k items;
  told_once = λ a items x y accepted one other. answers-one accepted one other;
  talk_once = answers_once text;
  loaded_once = λ a x y accepted one other. loads-one accepted one other;
}
