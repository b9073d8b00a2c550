use Rattle.std.proofs.Common.{◌≡◌, ◌++◌, flat_map, refl}
use Rattle.std.specs.Prelude.{codes, string_bytes}
use Rattle.go_explain_core.proofs.LineLemmas.{begun, ended, more}
use Rattle.govisd_disk.specs.Notes.{name_byte}
use Rattle.govisd_disk.proofs.notes.push_quoted.Goals as goal

pub returns : goal.returns
returns c =
    let start = string_bytes c.args.text.now in
    let name = flat_map name_byte c.args.name.now in
    let p0 : string_bytes c.push.new.text ≡ start ++ codes "\"" = begun start _ _ (codes "\"") refl c.in_ok-push.ensures in
    let p1 : string_bytes c.push_name_bytes.new.text ≡ start ++ (codes "\"" ++ name) = more start _ _ (codes "\"") _ name p0 refl c.in_ok-push_name_bytes.ensures in
    ended c.push-2.result start _ _ (codes "\"" ++ name) _ (codes "\"") p1 refl c.push-2.ensures
