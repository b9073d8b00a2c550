use Rattle.std.proofs.Common.{◌≡◌, ◌∙◌, ◌++◌, ap, refl}
use Rattle.std.specs.Prelude.{codes, string_bytes}
use Rattle.go_explain_core.specs.Examples.{example_of}
use Rattle.go_explain_core.specs.Meanings.{rule_meaning}
use Rattle.go_explain_core.specs.Telling.{json_text}
use Rattle.go_explain_core.proofs.LineLemmas.{begun, ended, more}
use Rattle.go_explain_core.proofs.telling.push_front.Goals as goal

pub returns : goal.returns
returns c =
    let start = string_bytes c.args.text.now in
    let rule = c.args.rule in
    let opened = codes "{\"example\":\"" in
    let between = codes "\",\"meaning\":\"" in
    let example = json_text (example_of rule) in
    let p0 : string_bytes c.push.new.text ≡ start ++ opened = begun start _ _ opened refl c.in_ok-push.ensures in
    let p1 : string_bytes c.push_json.new.text ≡ start ++ (opened ++ example) = more start _ _ opened _ example p0 (ap json_text (c.as_bytes.ensures.value ∙ c.explain-said.ensures.example)) c.in_ok-push_json.ensures in
    let p2 : string_bytes c.push-2.new.text ≡ start ++ (opened ++ example ++ between) = more start _ _ (opened ++ example) _ between p1 refl c.in_ok-push-2.ensures in
    ended c.push-3.result start _ _ (opened ++ example ++ between) _ (rule_meaning rule) p2 c.explain-said.ensures.meaning c.push-3.ensures
