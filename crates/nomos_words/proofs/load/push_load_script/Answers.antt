-- The parts of the script, one after another.
use Rattle.nomos_words.specs.BenchLoad.{load_script}
use Rattle.nomos_words.proofs.LoadLemmas.{three_appended}
use Rattle.nomos_words.proofs.load.push_load_script.Goals as goal

pub returns : goal.returns
unfolding load_script
returns c =
    three_appended _ _ _ _ _ _ _ c.in_ok-extend_from_slice.ensures.items c.in_ok-push_bidders.ensures
    c.in_ok-extend_from_slice-2.ensures.items
