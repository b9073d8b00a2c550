use Rattle.std.proofs.Common.{◌≡◌, ◌++◌, refl}
use Rattle.std.specs.Prelude.{codes, string_bytes}
use Rattle.go_text_core.specs.Rules.{rule_number}
use Rattle.go_explain_core.specs.Telling.{json_said}
use Rattle.go_explain_core.proofs.LineLemmas.{begun, ended, more}
use Rattle.go_explain_core.proofs.telling.push_object.Goals as goal

pub returns : goal.returns
returns c =
    let start = string_bytes c.args.text.now in
    let rule = c.args.rule in
    let between = codes "\",\"rule\":\"" in
    let p0 : string_bytes c.push_said.new.text ≡ start ++ json_said rule = begun start _ _ (json_said rule) refl c.in_ok-push_said.ensures in
    let p1 : string_bytes c.push.new.text ≡ start ++ (json_said rule ++ between) = more start _ _ (json_said rule) _ between p0 refl c.in_ok-push.ensures in
    let p2 : string_bytes c.push-2.new.text ≡ start ++ (json_said rule ++ between ++ rule_number rule) = more start _ _ (json_said rule ++ between) _ (rule_number rule) p1 c.number.ensures c.in_ok-push-2.ensures in
    ended c.push-3.result start _ _ (json_said rule ++ between ++ rule_number rule) _ (codes "\"}\n") p2 refl c.push-3.ensures
