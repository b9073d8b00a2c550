use Rattle.std.proofs.Common.{◌++◌, ◌≡◌, refl}
use Rattle.std.specs.Prelude.{codes, decimal, string_bytes}
use Rattle.go_explain_core.proofs.LineLemmas.{begun, ended, more}
use Rattle.go_path_core.specs.text_core.Rules.{rule_number}
use Rattle.govisd_folders.specs.Telling.{level_text}
use Rattle.govisd_folders.proofs.lines.push_command.Goals as goal

pub returns : goal.returns
returns c =
    let start = string_bytes c.args.out.now in
    let p0 : string_bytes c.push.new.text ≡ start ++ (level_text c.args.follows) = begun start _ _ (level_text c.args.follows) c.level_text.ensures c.in_ok-push.ensures in
    let p1 : string_bytes c.push-2.new.text ≡ start ++ (level_text c.args.follows ++ (rule_number c.args.rule)) = more start _ _ (level_text c.args.follows) _ (rule_number c.args.rule) p0 c.number.ensures c.in_ok-push-2.ensures in
    let p2 : string_bytes c.push-3.new.text ≡ start ++ (level_text c.args.follows ++ (rule_number c.args.rule) ++ (codes ",file=")) = more start _ _ (level_text c.args.follows ++ (rule_number c.args.rule)) _ (codes ",file=") p1 refl c.in_ok-push-3.ensures in
    let p3 : string_bytes c.push-4.new.text ≡ start ++ (level_text c.args.follows ++ (rule_number c.args.rule) ++ (codes ",file=") ++ c.args.file.now) = more start _ _ (level_text c.args.follows ++ (rule_number c.args.rule) ++ (codes ",file=")) _ c.args.file.now p2 refl c.in_ok-push-4.ensures in
    let p4 : string_bytes c.push-5.new.text ≡ start ++ (level_text c.args.follows ++ (rule_number c.args.rule) ++ (codes ",file=") ++ c.args.file.now ++ (codes ",line=")) = more start _ _ (level_text c.args.follows ++ (rule_number c.args.rule) ++ (codes ",file=") ++ c.args.file.now) _ (codes ",line=") p3 refl c.in_ok-push-5.ensures in
    let p5 : string_bytes c.push_number.new.text ≡ start ++ (level_text c.args.follows ++ (rule_number c.args.rule) ++ (codes ",file=") ++ c.args.file.now ++ (codes ",line=") ++ (decimal c.args.at.line)) = more start _ _ (level_text c.args.follows ++ (rule_number c.args.rule) ++ (codes ",file=") ++ c.args.file.now ++ (codes ",line=")) _ (decimal c.args.at.line) p4 refl c.in_ok-push_number.ensures in
    let p6 : string_bytes c.push-6.new.text ≡ start ++ (level_text c.args.follows ++ (rule_number c.args.rule) ++ (codes ",file=") ++ c.args.file.now ++ (codes ",line=") ++ (decimal c.args.at.line) ++ (codes ",col=")) = more start _ _ (level_text c.args.follows ++ (rule_number c.args.rule) ++ (codes ",file=") ++ c.args.file.now ++ (codes ",line=") ++ (decimal c.args.at.line)) _ (codes ",col=") p5 refl c.in_ok-push-6.ensures in
    ended c.push_number-2.result start _ _ (level_text c.args.follows ++ (rule_number c.args.rule) ++ (codes ",file=") ++ c.args.file.now ++ (codes ",line=") ++ (decimal c.args.at.line) ++ (codes ",col=")) _ (decimal c.args.at.column) p6 refl c.push_number-2.ensures
