use Rattle.std.proofs.Common.{◌≡◌, ◌++◌, refl}
use Rattle.std.specs.Prelude.{codes, decimal, string_bytes}
use Rattle.go_explain_core.proofs.LineLemmas.{begun, ended, more}
use Rattle.govisd_disk.proofs.notes.push_passed.Goals as goal

pub returns : goal.returns
returns c =
    let start = string_bytes c.args.notes.now in
    let p0 : string_bytes c.push.new.text ≡ start ++ codes "govisd: passed over by name: Go files " = begun start _ _ (codes "govisd: passed over by name: Go files ") refl c.in_ok-push.ensures in
    let p1 : string_bytes c.push_number.new.text ≡ start ++ (codes "govisd: passed over by name: Go files " ++ decimal c.args.files) = more start _ _ (codes "govisd: passed over by name: Go files ") _ (decimal c.args.files) p0 refl c.in_ok-push_number.ensures in
    let p2 : string_bytes c.push-2.new.text ≡ start ++ (codes "govisd: passed over by name: Go files " ++ decimal c.args.files ++ codes ", folders ") = more start _ _ (codes "govisd: passed over by name: Go files " ++ decimal c.args.files) _ (codes ", folders ") p1 refl c.in_ok-push-2.ensures in
    let p3 : string_bytes c.push_number-2.new.text ≡ start ++ (codes "govisd: passed over by name: Go files " ++ decimal c.args.files ++ codes ", folders " ++ decimal c.args.folders) = more start _ _ (codes "govisd: passed over by name: Go files " ++ decimal c.args.files ++ codes ", folders ") _ (decimal c.args.folders) p2 refl c.in_ok-push_number-2.ensures in
    ended c.push-3.result start _ _ (codes "govisd: passed over by name: Go files " ++ decimal c.args.files ++ codes ", folders " ++ decimal c.args.folders) _ (codes "\n") p3 refl c.push-3.ensures
