use Rattle.std.proofs.Common.{ap, ◌∙◌}
use Rattle.std.specs.Str.{is_utf8}
use Rattle.std.proofs.lemmas.Str.{is_utf8-from_IsUtf8}
use Rattle.go_text_core.proofs.name.Name.from_text.Goals as goal
use Rattle.go_text_core.proofs.name.Name.from_text.Goals.{then-spelled-le-SHORT, else-spelled-le-SHORT+in_ok-from_str+in_ok-new}

pub invariant_of-result : goal.invariant_of-result
invariant_of-result c = elim c.if-spelled-le-SHORT.branch [
  | then-spelled-le-SHORT w ↦ rw w.form-is (w.if-spelled-le-SHORT.true, ap is_utf8 w.short_bytes.ensures ∙ is_utf8-from_IsUtf8 c.args.spelled.now c.utf8.spelled)
  | else-spelled-le-SHORT+in_ok-from_str+in_ok-new w ↦ rw w.form-is tt
]
