use Rattle.std.proofs.Common.{◌++◌, ◌≡◌, refl}
use Rattle.std.specs.Prelude.{codes, decimal, string_bytes}
use Rattle.go_explain_core.proofs.LineLemmas.{begun, ended, more}
use Rattle.go_path_core.specs.text_core.Rules.{rule_number}
use Rattle.govisd_folders.specs.Telling.{comma_text, result_text}
use Rattle.govisd_folders.proofs.lines.push_result.Goals as goal

pub returns : goal.returns
returns c =
    let start = string_bytes c.args.out.now in
    let p0 : string_bytes c.push.new.text ≡ start ++ (comma_text c.args.is_first) = begun start _ _ (comma_text c.args.is_first) c.comma_text.ensures c.in_ok-push.ensures in
    let p1 : string_bytes c.push-2.new.text ≡ start ++ (comma_text c.args.is_first ++ (codes "{\"ruleId\":\"")) = more start _ _ (comma_text c.args.is_first) _ (codes "{\"ruleId\":\"") p0 refl c.in_ok-push-2.ensures in
    let p2 : string_bytes c.push-3.new.text ≡ start ++ (comma_text c.args.is_first ++ (codes "{\"ruleId\":\"") ++ (rule_number c.args.rule)) = more start _ _ (comma_text c.args.is_first ++ (codes "{\"ruleId\":\"")) _ (rule_number c.args.rule) p1 c.number.ensures c.in_ok-push-3.ensures in
    let p3 : string_bytes c.push-4.new.text ≡ start ++ (comma_text c.args.is_first ++ (codes "{\"ruleId\":\"") ++ (rule_number c.args.rule) ++ (result_text c.args.follows)) = more start _ _ (comma_text c.args.is_first ++ (codes "{\"ruleId\":\"") ++ (rule_number c.args.rule)) _ (result_text c.args.follows) p2 c.result_text.ensures c.in_ok-push-4.ensures in
    let p4 : string_bytes c.push-5.new.text ≡ start ++ (comma_text c.args.is_first ++ (codes "{\"ruleId\":\"") ++ (rule_number c.args.rule) ++ (result_text c.args.follows) ++ (codes "\",\"locations\":[{\"physicalLocation\":{\"artifactLocation\":{\"uri\":\"")) = more start _ _ (comma_text c.args.is_first ++ (codes "{\"ruleId\":\"") ++ (rule_number c.args.rule) ++ (result_text c.args.follows)) _ (codes "\",\"locations\":[{\"physicalLocation\":{\"artifactLocation\":{\"uri\":\"") p3 refl c.in_ok-push-5.ensures in
    let p5 : string_bytes c.push-6.new.text ≡ start ++ (comma_text c.args.is_first ++ (codes "{\"ruleId\":\"") ++ (rule_number c.args.rule) ++ (result_text c.args.follows) ++ (codes "\",\"locations\":[{\"physicalLocation\":{\"artifactLocation\":{\"uri\":\"") ++ c.args.file.now) = more start _ _ (comma_text c.args.is_first ++ (codes "{\"ruleId\":\"") ++ (rule_number c.args.rule) ++ (result_text c.args.follows) ++ (codes "\",\"locations\":[{\"physicalLocation\":{\"artifactLocation\":{\"uri\":\"")) _ c.args.file.now p4 refl c.in_ok-push-6.ensures in
    let p6 : string_bytes c.push-7.new.text ≡ start ++ (comma_text c.args.is_first ++ (codes "{\"ruleId\":\"") ++ (rule_number c.args.rule) ++ (result_text c.args.follows) ++ (codes "\",\"locations\":[{\"physicalLocation\":{\"artifactLocation\":{\"uri\":\"") ++ c.args.file.now ++ (codes "\",\"uriBaseId\":\"%SRCROOT%\"},\"region\":{\"startLine\":")) = more start _ _ (comma_text c.args.is_first ++ (codes "{\"ruleId\":\"") ++ (rule_number c.args.rule) ++ (result_text c.args.follows) ++ (codes "\",\"locations\":[{\"physicalLocation\":{\"artifactLocation\":{\"uri\":\"") ++ c.args.file.now) _ (codes "\",\"uriBaseId\":\"%SRCROOT%\"},\"region\":{\"startLine\":") p5 refl c.in_ok-push-7.ensures in
    let p7 : string_bytes c.push_number.new.text ≡ start ++ (comma_text c.args.is_first ++ (codes "{\"ruleId\":\"") ++ (rule_number c.args.rule) ++ (result_text c.args.follows) ++ (codes "\",\"locations\":[{\"physicalLocation\":{\"artifactLocation\":{\"uri\":\"") ++ c.args.file.now ++ (codes "\",\"uriBaseId\":\"%SRCROOT%\"},\"region\":{\"startLine\":") ++ (decimal c.args.at.line)) = more start _ _ (comma_text c.args.is_first ++ (codes "{\"ruleId\":\"") ++ (rule_number c.args.rule) ++ (result_text c.args.follows) ++ (codes "\",\"locations\":[{\"physicalLocation\":{\"artifactLocation\":{\"uri\":\"") ++ c.args.file.now ++ (codes "\",\"uriBaseId\":\"%SRCROOT%\"},\"region\":{\"startLine\":")) _ (decimal c.args.at.line) p6 refl c.in_ok-push_number.ensures in
    let p8 : string_bytes c.push-8.new.text ≡ start ++ (comma_text c.args.is_first ++ (codes "{\"ruleId\":\"") ++ (rule_number c.args.rule) ++ (result_text c.args.follows) ++ (codes "\",\"locations\":[{\"physicalLocation\":{\"artifactLocation\":{\"uri\":\"") ++ c.args.file.now ++ (codes "\",\"uriBaseId\":\"%SRCROOT%\"},\"region\":{\"startLine\":") ++ (decimal c.args.at.line) ++ (codes ",\"byteOffset\":")) = more start _ _ (comma_text c.args.is_first ++ (codes "{\"ruleId\":\"") ++ (rule_number c.args.rule) ++ (result_text c.args.follows) ++ (codes "\",\"locations\":[{\"physicalLocation\":{\"artifactLocation\":{\"uri\":\"") ++ c.args.file.now ++ (codes "\",\"uriBaseId\":\"%SRCROOT%\"},\"region\":{\"startLine\":") ++ (decimal c.args.at.line)) _ (codes ",\"byteOffset\":") p7 refl c.in_ok-push-8.ensures in
    ended c.push_number-2.result start _ _ (comma_text c.args.is_first ++ (codes "{\"ruleId\":\"") ++ (rule_number c.args.rule) ++ (result_text c.args.follows) ++ (codes "\",\"locations\":[{\"physicalLocation\":{\"artifactLocation\":{\"uri\":\"") ++ c.args.file.now ++ (codes "\",\"uriBaseId\":\"%SRCROOT%\"},\"region\":{\"startLine\":") ++ (decimal c.args.at.line) ++ (codes ",\"byteOffset\":")) _ (decimal c.args.offset) p8 refl c.push_number-2.ensures
