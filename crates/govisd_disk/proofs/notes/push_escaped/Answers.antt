use Rattle.std.proofs.Common.{◌≡◌, ◌++◌, ap, refl}
use Rattle.std.specs.Prelude.{◌/◌, ◌%◌, codes, encode_utf8, string_bytes}
use Rattle.go_explain_core.proofs.LineLemmas.{begun, ended, more}
use Rattle.govisd_disk.specs.Notes.{hex_digit}
use Rattle.govisd_disk.proofs.notes.push_escaped.Goals as goal

pub returns : goal.returns
returns c =
    let start = string_bytes c.args.text.now in
    let high = encode_utf8 (hex_digit (c.args.byte / 16)) in
    let p0 : string_bytes c.push.new.text ≡ start ++ codes "\\x" = begun start _ _ (codes "\\x") refl c.in_ok-push.ensures in
    let p1 : string_bytes c.push_char.new.text ≡ start ++ (codes "\\x" ++ high) = more start _ _ (codes "\\x") _ high p0 (ap encode_utf8 c.hex_digit.ensures) c.in_ok-push_char.ensures in
    ended c.push_char-2.result start _ _ (codes "\\x" ++ high) _ (encode_utf8 (hex_digit (c.args.byte % 16))) p1 (ap encode_utf8 c.hex_digit-2.ensures) c.push_char-2.ensures
