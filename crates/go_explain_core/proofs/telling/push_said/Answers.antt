use Rattle.std.proofs.Common.{◌≡◌, ◌∙◌, ◌++◌, ap, refl}
use Rattle.std.specs.Prelude.{codes, string_bytes}
use Rattle.go_explain_core.specs.Mendings.{mending_of}
use Rattle.go_explain_core.specs.Telling.{json_front, json_text}
use Rattle.go_explain_core.proofs.LineLemmas.{begun, ended, more}
use Rattle.go_explain_core.proofs.telling.push_said.Goals as goal

pub returns : goal.returns
returns c =
    let start = string_bytes c.args.text.now in
    let rule = c.args.rule in
    let between = codes "\",\"mending\":\"" in
    let p0 : string_bytes c.push_front.new.text ≡ start ++ json_front rule = begun start _ _ (json_front rule) refl c.in_ok-push_front.ensures in
    let p1 : string_bytes c.push.new.text ≡ start ++ (json_front rule ++ between) = more start _ _ (json_front rule) _ between p0 refl c.in_ok-push.ensures in
    ended c.push_json.result start _ _ (json_front rule ++ between) _ (json_text (mending_of rule)) p1 (ap json_text (c.as_bytes.ensures.value ∙ c.explain-said.ensures.mending)) c.push_json.ensures
