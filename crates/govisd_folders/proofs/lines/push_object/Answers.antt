use Rattle.std.proofs.Common.{◌++◌, ◌≡◌, refl}
use Rattle.std.specs.Prelude.{codes, decimal, string_bytes}
use Rattle.go_explain_core.proofs.LineLemmas.{begun, ended, more}
use Rattle.go_path_core.specs.text_core.Rules.{rule_number}
use Rattle.go_explain_core.specs.Meanings.{rule_meaning}
use Rattle.govisd_folders.proofs.lines.push_object.Goals as goal

pub returns : goal.returns
returns c =
    let start = string_bytes c.args.out.now in
    let p0 : string_bytes c.push.new.text ≡ start ++ (codes "{\"column\":") = begun start _ _ (codes "{\"column\":") refl c.in_ok-push.ensures in
    let p1 : string_bytes c.push_number.new.text ≡ start ++ (codes "{\"column\":" ++ (decimal c.args.at.column)) = more start _ _ (codes "{\"column\":") _ (decimal c.args.at.column) p0 refl c.in_ok-push_number.ensures in
    let p2 : string_bytes c.push-2.new.text ≡ start ++ (codes "{\"column\":" ++ (decimal c.args.at.column) ++ (codes ",\"file\":\"")) = more start _ _ (codes "{\"column\":" ++ (decimal c.args.at.column)) _ (codes ",\"file\":\"") p1 refl c.in_ok-push-2.ensures in
    let p3 : string_bytes c.push-3.new.text ≡ start ++ (codes "{\"column\":" ++ (decimal c.args.at.column) ++ (codes ",\"file\":\"") ++ c.args.file.now) = more start _ _ (codes "{\"column\":" ++ (decimal c.args.at.column) ++ (codes ",\"file\":\"")) _ c.args.file.now p2 refl c.in_ok-push-3.ensures in
    let p4 : string_bytes c.push-4.new.text ≡ start ++ (codes "{\"column\":" ++ (decimal c.args.at.column) ++ (codes ",\"file\":\"") ++ c.args.file.now ++ (codes "\",\"line\":")) = more start _ _ (codes "{\"column\":" ++ (decimal c.args.at.column) ++ (codes ",\"file\":\"") ++ c.args.file.now) _ (codes "\",\"line\":") p3 refl c.in_ok-push-4.ensures in
    let p5 : string_bytes c.push_number-2.new.text ≡ start ++ (codes "{\"column\":" ++ (decimal c.args.at.column) ++ (codes ",\"file\":\"") ++ c.args.file.now ++ (codes "\",\"line\":") ++ (decimal c.args.at.line)) = more start _ _ (codes "{\"column\":" ++ (decimal c.args.at.column) ++ (codes ",\"file\":\"") ++ c.args.file.now ++ (codes "\",\"line\":")) _ (decimal c.args.at.line) p4 refl c.in_ok-push_number-2.ensures in
    let p6 : string_bytes c.push-5.new.text ≡ start ++ (codes "{\"column\":" ++ (decimal c.args.at.column) ++ (codes ",\"file\":\"") ++ c.args.file.now ++ (codes "\",\"line\":") ++ (decimal c.args.at.line) ++ (codes ",\"meaning\":\"")) = more start _ _ (codes "{\"column\":" ++ (decimal c.args.at.column) ++ (codes ",\"file\":\"") ++ c.args.file.now ++ (codes "\",\"line\":") ++ (decimal c.args.at.line)) _ (codes ",\"meaning\":\"") p5 refl c.in_ok-push-5.ensures in
    let p7 : string_bytes c.push-6.new.text ≡ start ++ (codes "{\"column\":" ++ (decimal c.args.at.column) ++ (codes ",\"file\":\"") ++ c.args.file.now ++ (codes "\",\"line\":") ++ (decimal c.args.at.line) ++ (codes ",\"meaning\":\"") ++ (rule_meaning c.args.rule)) = more start _ _ (codes "{\"column\":" ++ (decimal c.args.at.column) ++ (codes ",\"file\":\"") ++ c.args.file.now ++ (codes "\",\"line\":") ++ (decimal c.args.at.line) ++ (codes ",\"meaning\":\"")) _ (rule_meaning c.args.rule) p6 c.meaning.ensures c.in_ok-push-6.ensures in
    let p8 : string_bytes c.push-7.new.text ≡ start ++ (codes "{\"column\":" ++ (decimal c.args.at.column) ++ (codes ",\"file\":\"") ++ c.args.file.now ++ (codes "\",\"line\":") ++ (decimal c.args.at.line) ++ (codes ",\"meaning\":\"") ++ (rule_meaning c.args.rule) ++ (codes "\",\"offset\":")) = more start _ _ (codes "{\"column\":" ++ (decimal c.args.at.column) ++ (codes ",\"file\":\"") ++ c.args.file.now ++ (codes "\",\"line\":") ++ (decimal c.args.at.line) ++ (codes ",\"meaning\":\"") ++ (rule_meaning c.args.rule)) _ (codes "\",\"offset\":") p7 refl c.in_ok-push-7.ensures in
    let p9 : string_bytes c.push_number-3.new.text ≡ start ++ (codes "{\"column\":" ++ (decimal c.args.at.column) ++ (codes ",\"file\":\"") ++ c.args.file.now ++ (codes "\",\"line\":") ++ (decimal c.args.at.line) ++ (codes ",\"meaning\":\"") ++ (rule_meaning c.args.rule) ++ (codes "\",\"offset\":") ++ (decimal c.args.offset)) = more start _ _ (codes "{\"column\":" ++ (decimal c.args.at.column) ++ (codes ",\"file\":\"") ++ c.args.file.now ++ (codes "\",\"line\":") ++ (decimal c.args.at.line) ++ (codes ",\"meaning\":\"") ++ (rule_meaning c.args.rule) ++ (codes "\",\"offset\":")) _ (decimal c.args.offset) p8 refl c.in_ok-push_number-3.ensures in
    let p10 : string_bytes c.push-8.new.text ≡ start ++ (codes "{\"column\":" ++ (decimal c.args.at.column) ++ (codes ",\"file\":\"") ++ c.args.file.now ++ (codes "\",\"line\":") ++ (decimal c.args.at.line) ++ (codes ",\"meaning\":\"") ++ (rule_meaning c.args.rule) ++ (codes "\",\"offset\":") ++ (decimal c.args.offset) ++ (codes ",\"package\":\"")) = more start _ _ (codes "{\"column\":" ++ (decimal c.args.at.column) ++ (codes ",\"file\":\"") ++ c.args.file.now ++ (codes "\",\"line\":") ++ (decimal c.args.at.line) ++ (codes ",\"meaning\":\"") ++ (rule_meaning c.args.rule) ++ (codes "\",\"offset\":") ++ (decimal c.args.offset)) _ (codes ",\"package\":\"") p9 refl c.in_ok-push-8.ensures in
    let p11 : string_bytes c.push-9.new.text ≡ start ++ (codes "{\"column\":" ++ (decimal c.args.at.column) ++ (codes ",\"file\":\"") ++ c.args.file.now ++ (codes "\",\"line\":") ++ (decimal c.args.at.line) ++ (codes ",\"meaning\":\"") ++ (rule_meaning c.args.rule) ++ (codes "\",\"offset\":") ++ (decimal c.args.offset) ++ (codes ",\"package\":\"") ++ c.args.«package».now) = more start _ _ (codes "{\"column\":" ++ (decimal c.args.at.column) ++ (codes ",\"file\":\"") ++ c.args.file.now ++ (codes "\",\"line\":") ++ (decimal c.args.at.line) ++ (codes ",\"meaning\":\"") ++ (rule_meaning c.args.rule) ++ (codes "\",\"offset\":") ++ (decimal c.args.offset) ++ (codes ",\"package\":\"")) _ c.args.«package».now p10 refl c.in_ok-push-9.ensures in
    let p12 : string_bytes c.push-10.new.text ≡ start ++ (codes "{\"column\":" ++ (decimal c.args.at.column) ++ (codes ",\"file\":\"") ++ c.args.file.now ++ (codes "\",\"line\":") ++ (decimal c.args.at.line) ++ (codes ",\"meaning\":\"") ++ (rule_meaning c.args.rule) ++ (codes "\",\"offset\":") ++ (decimal c.args.offset) ++ (codes ",\"package\":\"") ++ c.args.«package».now ++ (codes "\",\"rule\":\"")) = more start _ _ (codes "{\"column\":" ++ (decimal c.args.at.column) ++ (codes ",\"file\":\"") ++ c.args.file.now ++ (codes "\",\"line\":") ++ (decimal c.args.at.line) ++ (codes ",\"meaning\":\"") ++ (rule_meaning c.args.rule) ++ (codes "\",\"offset\":") ++ (decimal c.args.offset) ++ (codes ",\"package\":\"") ++ c.args.«package».now) _ (codes "\",\"rule\":\"") p11 refl c.in_ok-push-10.ensures in
    let p13 : string_bytes c.push-11.new.text ≡ start ++ (codes "{\"column\":" ++ (decimal c.args.at.column) ++ (codes ",\"file\":\"") ++ c.args.file.now ++ (codes "\",\"line\":") ++ (decimal c.args.at.line) ++ (codes ",\"meaning\":\"") ++ (rule_meaning c.args.rule) ++ (codes "\",\"offset\":") ++ (decimal c.args.offset) ++ (codes ",\"package\":\"") ++ c.args.«package».now ++ (codes "\",\"rule\":\"") ++ (rule_number c.args.rule)) = more start _ _ (codes "{\"column\":" ++ (decimal c.args.at.column) ++ (codes ",\"file\":\"") ++ c.args.file.now ++ (codes "\",\"line\":") ++ (decimal c.args.at.line) ++ (codes ",\"meaning\":\"") ++ (rule_meaning c.args.rule) ++ (codes "\",\"offset\":") ++ (decimal c.args.offset) ++ (codes ",\"package\":\"") ++ c.args.«package».now ++ (codes "\",\"rule\":\"")) _ (rule_number c.args.rule) p12 c.number.ensures c.in_ok-push-11.ensures in
    ended c.push-12.result start _ _ (codes "{\"column\":" ++ (decimal c.args.at.column) ++ (codes ",\"file\":\"") ++ c.args.file.now ++ (codes "\",\"line\":") ++ (decimal c.args.at.line) ++ (codes ",\"meaning\":\"") ++ (rule_meaning c.args.rule) ++ (codes "\",\"offset\":") ++ (decimal c.args.offset) ++ (codes ",\"package\":\"") ++ c.args.«package».now ++ (codes "\",\"rule\":\"") ++ (rule_number c.args.rule)) _ (codes "\"") p13 refl c.push-12.ensures
