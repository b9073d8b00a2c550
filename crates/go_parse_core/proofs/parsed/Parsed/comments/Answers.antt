use Rattle.std.proofs.Common.{Err, ap, subst, ◌∙◌}
use Rattle.std.specs.Prelude.{string_bytes}
use Rattle.go_scan_core.specs.Tokens.{IsAnswer}
use Rattle.go_scan_core.proofs.Answered.{not_both}
use Rattle.go_parse_core.proofs.parsed.Parsed.comments.Goals as goal

-- a text with tokens has its comments
pub unreachable-requires : goal.unreachable-requires
unreachable-requires c =
    let found = c.self.invariant.found in
    let refused = rw c.in-Err-Fault.field-0-is at c.in-Err-Fault.ensures in
    let same = c.as_str.ensures.value ∙ ap (λ x. string_bytes x.text) c.deref.ensures in
    not_both _ found.tokens c.in-Err-Fault.field-0-0 found.scanned (subst (λ t. IsAnswer t (Err c.in-Err-Fault.field-0-0)) same refused.answer)
