use Rattle.std.proofs.Common.{◌++◌, ◌≡◌, refl}
use Rattle.std.specs.Prelude.{codes, decimal, string_bytes}
use Rattle.go_explain_core.proofs.LineLemmas.{begun, ended, more}
use Rattle.govisd_folders.proofs.telling.push_several.Goals as goal

pub returns : goal.returns
returns c =
    let start = string_bytes c.args.out.now in
    let p0 : string_bytes c.push.new.text ≡ start ++ (codes "; ") = begun start _ _ (codes "; ") refl c.in_ok-push.ensures in
    let p1 : string_bytes c.push_number.new.text ≡ start ++ (codes "; " ++ (decimal c.args.hidden)) = more start _ _ (codes "; ") _ (decimal c.args.hidden) p0 refl c.in_ok-push_number.ensures in
    ended c.push-2.result start _ _ (codes "; " ++ (decimal c.args.hidden)) _ (codes " of them follow from these (--all shows them)") p1 refl c.push-2.ensures
