use Rattle.std.specs.Prelude.{string_bytes}
use Rattle.go_explain_core.proofs.LineLemmas.{lines_all, lines_more}
use Rattle.govisd_disk.specs.Notes.{name_byte}
use Rattle.govisd_disk.proofs.notes.push_name_bytes.Goals as goal

pub loop-byte-preserved : goal.loop-byte-preserved
loop-byte-preserved c = lines_more name_byte c.args.name.now c.loop-byte.byte-index _ (string_bytes c.args.text.now) (string_bytes c.loop-byte.text) (string_bytes c.push_name_byte.new.text) c.loop-byte-test.true c.loop-byte.invariant c.in_ok-push_name_byte.ensures

pub returns : goal.returns
returns c = lines_all name_byte c.args.name.now c.loop-byte.byte-index (string_bytes c.args.text.now) (string_bytes c.loop-byte.text) c.loop-byte-test.false c.loop-byte.invariant
