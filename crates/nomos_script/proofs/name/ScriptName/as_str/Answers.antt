-- A word is ASCII, and so it is text.
use Rattle.nomos_script.proofs.NameLemmas.{name_is_text, text_is_read}
use Rattle.nomos_script.proofs.name.ScriptName.as_str.Goals as goal

pub unwrap-requires : goal.unwrap-requires
unwrap-requires c =
    text_is_read _ _ _ c.from_utf8.result c.from_utf8.ensures.cases
    (rw c.as_bytes.ensures.bytes (name_is_text c.args.self.now c.as_bytes.ensures.name))
