use Rattle.std.proofs.Common.{◌++◌, ◌≡◌, refl}
use Rattle.std.specs.Prelude.{string_bytes}
use Rattle.go_explain_core.proofs.LineLemmas.{begun, ended, more}
use Rattle.go_path_core.specs.text_core.Rules.{rule_number}
use Rattle.govisd_folders.specs.Telling.{bold_text, plain_text, position_text, red_text}
use Rattle.govisd_folders.proofs.lines.push_painted.Goals as goal

pub returns : goal.returns
returns c =
    let start = string_bytes c.args.out.now in
    let p0 : string_bytes c.push.new.text ≡ start ++ bold_text = begun start _ _ bold_text refl c.in_ok-push.ensures in
    let p1 : string_bytes c.push_place.new.out ≡ start ++ (bold_text ++ (position_text c.args.file.now c.args.at)) = more start _ _ bold_text _ (position_text c.args.file.now c.args.at) p0 refl c.in_ok-push_place.ensures in
    let p2 : string_bytes c.push-2.new.text ≡ start ++ (bold_text ++ (position_text c.args.file.now c.args.at) ++ red_text) = more start _ _ (bold_text ++ (position_text c.args.file.now c.args.at)) _ red_text p1 refl c.in_ok-push-2.ensures in
    let p3 : string_bytes c.push-3.new.text ≡ start ++ (bold_text ++ (position_text c.args.file.now c.args.at) ++ red_text ++ (rule_number c.args.rule)) = more start _ _ (bold_text ++ (position_text c.args.file.now c.args.at) ++ red_text) _ (rule_number c.args.rule) p2 c.number.ensures c.in_ok-push-3.ensures in
    ended c.push-4.result start _ _ (bold_text ++ (position_text c.args.file.now c.args.at) ++ red_text ++ (rule_number c.args.rule)) _ plain_text p3 refl c.push-4.ensures
