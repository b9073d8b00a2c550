use Rattle.std.specs.Prelude.{string_bytes}
use Rattle.go_explain_core.specs.Telling.{json_byte}
use Rattle.go_explain_core.proofs.LineLemmas.{lines_more, lines_all}
use Rattle.go_explain_core.proofs.telling.push_json.Goals as goal

pub loop-byte-preserved : goal.loop-byte-preserved
loop-byte-preserved c = lines_more json_byte c.args.bytes.now c.loop-byte.byte-index _ (string_bytes c.args.text.now) (string_bytes c.loop-byte.text) (string_bytes c.push_json_byte.new.text) c.loop-byte-test.true c.loop-byte.invariant c.in_ok-push_json_byte.ensures

pub returns : goal.returns
returns c = lines_all json_byte c.args.bytes.now c.loop-byte.byte-index (string_bytes c.args.text.now) (string_bytes c.loop-byte.text) c.loop-byte-test.false c.loop-byte.invariant
