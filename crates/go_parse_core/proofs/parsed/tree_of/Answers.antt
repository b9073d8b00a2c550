use Rattle.std.proofs.Common.{arith, sym, ap, ◌∙◌}
use Rattle.go_tree_nodes.specs.Terminals.{terminals}
use Rattle.go_parse_core.specs.mirrors.FileReading.{file_at}
use Rattle.go_parse_core.proofs.CodeParse.{parsed, parsed_high, refused, refused_only, refused_high, refused_read, fails_at}
use Rattle.go_parse_core.proofs.Meanings.{no_tokens}
use Rattle.go_scan_core.proofs.Answered.{not_both}
use Rattle.go_parse_core.proofs.parsed.tree_of.Goals as goal

pub returns-in-Ok-file-clause-answer : goal.returns-in-Ok-file-clause-answer
returns-in-Ok-file-clause-answer c =
    let shown = c.new.ensures ∙ ap (terminals c.args.text.now) c.deref.ensures.value in
    parsed _ _ _ c.in-Ok.ensures.answer c.in-Ok.ensures.spans c.in-Ok.ensures.filled (omega arith) (ap (file_at 199) (sym shown) ∙ c.in-Ok-file.ensures)

pub returns-clause-answer : goal.returns-clause-answer
returns-clause-answer c =
    let shown = c.new.ensures ∙ ap (terminals c.args.text.now) c.deref.ensures.value in
    refused _ _ _ _ c.in-Ok.ensures.answer (fails_at _ _ _ shown c.in-Err.ensures) c.error_of.ensures

pub returns-clause-only : goal.returns-clause-only
returns-clause-only c =
    let shown = c.new.ensures ∙ ap (terminals c.args.text.now) c.deref.ensures.value in
    refused_only _ _ _ _ c.in-Ok.ensures.answer (fails_at _ _ _ shown c.in-Err.ensures) c.error_of.ensures

pub returns-clause-high : goal.returns-clause-high
returns-clause-high c =
    let shown = c.new.ensures ∙ ap (terminals c.args.text.now) c.deref.ensures.value in
    refused_high _ _ _ _ c.in-Ok.ensures.answer (fails_at _ _ _ shown c.in-Err.ensures) c.error_of.ensures

pub returns-clause-read : goal.returns-clause-read
returns-clause-read c =
    let shown = c.new.ensures ∙ ap (terminals c.args.text.now) c.deref.ensures.value in
    refused_read _ _ _ _ c.in-Ok.ensures.answer (fails_at _ _ _ shown c.in-Err.ensures) c.error_of.ensures

pub returns-in-Ok-file-clause-high : goal.returns-in-Ok-file-clause-high
returns-in-Ok-file-clause-high c f has high =
    let shown = c.new.ensures ∙ ap (terminals c.args.text.now) c.deref.ensures.value in
    parsed_high _ _ _ c.in-Ok.ensures.answer (ap (file_at 199) (sym shown) ∙ c.in-Ok-file.ensures) f has high

-- a text without tokens has no tree, and is not read

pub returns-in-Err-Fault-clause-only : goal.returns-in-Err-Fault-clause-only
returns-in-Err-Fault-clause-only c f has low =
    let scanned = rw c.in-Err-Fault.field-0-is at c.in-Err-Fault.ensures in
    no_tokens _ c.in-Err-Fault.fault scanned.answer f has

pub returns-in-Err-Fault-clause-high : goal.returns-in-Err-Fault-clause-high
returns-in-Err-Fault-clause-high c f has high =
    let scanned = rw c.in-Err-Fault.field-0-is at c.in-Err-Fault.ensures in
    absurd (no_tokens _ c.in-Err-Fault.fault scanned.answer f has)

pub returns-in-Err-Fault-clause-read : goal.returns-in-Err-Fault-clause-read
returns-in-Err-Fault-clause-read c tokens is =
    let scanned = rw c.in-Err-Fault.field-0-is at c.in-Err-Fault.ensures in
    absurd (not_both _ tokens c.in-Err-Fault.fault is scanned.answer)
