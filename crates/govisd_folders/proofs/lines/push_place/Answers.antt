use Rattle.std.proofs.Common.{◌++◌, ◌≡◌, refl}
use Rattle.std.specs.Prelude.{codes, decimal, string_bytes}
use Rattle.go_explain_core.proofs.LineLemmas.{begun, ended, more}
use Rattle.govisd_folders.proofs.lines.push_place.Goals as goal

pub returns : goal.returns
returns c =
    let start = string_bytes c.args.out.now in
    let p0 : string_bytes c.push.new.text ≡ start ++ c.args.file.now = begun start _ _ c.args.file.now refl c.in_ok-push.ensures in
    let p1 : string_bytes c.push-2.new.text ≡ start ++ (c.args.file.now ++ (codes ":")) = more start _ _ c.args.file.now _ (codes ":") p0 refl c.in_ok-push-2.ensures in
    let p2 : string_bytes c.push_number.new.text ≡ start ++ (c.args.file.now ++ (codes ":") ++ (decimal c.args.at.line)) = more start _ _ (c.args.file.now ++ (codes ":")) _ (decimal c.args.at.line) p1 refl c.in_ok-push_number.ensures in
    let p3 : string_bytes c.push-3.new.text ≡ start ++ (c.args.file.now ++ (codes ":") ++ (decimal c.args.at.line) ++ (codes ":")) = more start _ _ (c.args.file.now ++ (codes ":") ++ (decimal c.args.at.line)) _ (codes ":") p2 refl c.in_ok-push-3.ensures in
    ended c.push_number-2.result start _ _ (c.args.file.now ++ (codes ":") ++ (decimal c.args.at.line) ++ (codes ":")) _ (decimal c.args.at.column) p3 refl c.push_number-2.ensures
