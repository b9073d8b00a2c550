use Rattle.std.proofs.Common.{◌++◌, ◌≡◌, refl}
use Rattle.std.specs.Prelude.{codes, string_bytes}
use Rattle.go_explain_core.proofs.LineLemmas.{begun, ended, more}
use Rattle.go_path_core.specs.text_core.Rules.{rule_number}
use Rattle.govisd_folders.specs.Telling.{position_text}
use Rattle.govisd_folders.proofs.lines.push_plain.Goals as goal

pub returns : goal.returns
returns c =
    let start = string_bytes c.args.out.now in
    let p0 : string_bytes c.push_place.new.out ≡ start ++ (position_text c.args.file.now c.args.at) = begun start _ _ (position_text c.args.file.now c.args.at) refl c.in_ok-push_place.ensures in
    let p1 : string_bytes c.push.new.text ≡ start ++ (position_text c.args.file.now c.args.at ++ (codes ": ")) = more start _ _ (position_text c.args.file.now c.args.at) _ (codes ": ") p0 refl c.in_ok-push.ensures in
    let p2 : string_bytes c.push-2.new.text ≡ start ++ (position_text c.args.file.now c.args.at ++ (codes ": ") ++ (rule_number c.args.rule)) = more start _ _ (position_text c.args.file.now c.args.at ++ (codes ": ")) _ (rule_number c.args.rule) p1 c.number.ensures c.in_ok-push-2.ensures in
    ended c.push-3.result start _ _ (position_text c.args.file.now c.args.at ++ (codes ": ") ++ (rule_number c.args.rule)) _ (codes " ") p2 refl c.push-3.ensures
