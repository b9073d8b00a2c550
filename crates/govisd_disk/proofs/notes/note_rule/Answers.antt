use Rattle.std.proofs.Common.{◌≡◌, ◌++◌, refl}
use Rattle.std.specs.Prelude.{codes, string_bytes}
use Rattle.go_path_core.specs.text_core.Rules.{rule_number}
use Rattle.go_explain_core.specs.Meanings.{rule_meaning}
use Rattle.go_explain_core.proofs.LineLemmas.{begun, ended, more}
use Rattle.govisd_disk.specs.Notes.{told_name}
use Rattle.govisd_disk.proofs.notes.note_rule.Goals as goal

pub returns : goal.returns
returns c =
    let start = string_bytes c.args.notes.now in
    let p0 : string_bytes c.push.new.text ≡ start ++ codes "govisd: " = begun start _ _ (codes "govisd: ") refl c.in_ok-push.ensures in
    let p1 : string_bytes c.push_name.new.text ≡ start ++ (codes "govisd: " ++ (told_name c.args.path.now)) = more start _ _ (codes "govisd: ") _ (told_name c.args.path.now) p0 refl c.in_ok-push_name.ensures in
    let p2 : string_bytes c.push-2.new.text ≡ start ++ (codes "govisd: " ++ (told_name c.args.path.now) ++ codes ": ") = more start _ _ (codes "govisd: " ++ (told_name c.args.path.now)) _ (codes ": ") p1 refl c.in_ok-push-2.ensures in
    let p3 : string_bytes c.push-3.new.text ≡ start ++ (codes "govisd: " ++ (told_name c.args.path.now) ++ codes ": " ++ rule_number c.args.rule) = more start _ _ (codes "govisd: " ++ (told_name c.args.path.now) ++ codes ": ") _ (rule_number c.args.rule) p2 c.number.ensures c.in_ok-push-3.ensures in
    let p4 : string_bytes c.push-4.new.text ≡ start ++ (codes "govisd: " ++ (told_name c.args.path.now) ++ codes ": " ++ rule_number c.args.rule ++ codes " ") = more start _ _ (codes "govisd: " ++ (told_name c.args.path.now) ++ codes ": " ++ rule_number c.args.rule) _ (codes " ") p3 refl c.in_ok-push-4.ensures in
    let p5 : string_bytes c.push-5.new.text ≡ start ++ (codes "govisd: " ++ (told_name c.args.path.now) ++ codes ": " ++ rule_number c.args.rule ++ codes " " ++ rule_meaning c.args.rule) = more start _ _ (codes "govisd: " ++ (told_name c.args.path.now) ++ codes ": " ++ rule_number c.args.rule ++ codes " ") _ (rule_meaning c.args.rule) p4 c.meaning.ensures c.in_ok-push-5.ensures in
    ended c.push-6.result start _ _ (codes "govisd: " ++ (told_name c.args.path.now) ++ codes ": " ++ rule_number c.args.rule ++ codes " " ++ rule_meaning c.args.rule) _ (codes "\n") p5 refl c.push-6.ensures
