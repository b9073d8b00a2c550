use Rattle.std.proofs.Common.{◌≡◌, ◌++◌, [], ◌∷◌, true, false, map, sym, ap, ◌∙◌, append-nil}
use Rattle.std.proofs.lemmas.List.{map-append}
use Rattle.go_env_core.specs.mirrors.Seen.{hider_shown, is_kept, name_unless}
use Rattle.go_env_core.proofs.fields.add_kept.Goals as goal

pub returns-then-is_hidden : goal.returns-then-is_hidden
returns-then-is_hidden c =
    let o = hider_shown c.args.hider in
    let name = c.args.field.now.name in
    let old = map (λ n. n.now) c.args.names.now.items in
    let on : is_kept o name c.args.home.now ≡ true = ap (λ n. is_kept o n c.args.home.now) (sym c.as_str-name.ensures) ∙ (sym c.is_hidden.ensures ∙ c.if-is_hidden.true) in
    sym (append-nil old) ∙ ap (λ b. old ++ name_unless b name) (sym on)

pub returns : goal.returns
returns c =
    let o = hider_shown c.args.hider in
    let name = c.args.field.now.name in
    let old = map (λ n. n.now) c.args.names.now.items in
    let off : is_kept o name c.args.home.now ≡ false = ap (λ n. is_kept o n c.args.home.now) (sym c.as_str-name.ensures) ∙ (sym c.is_hidden.ensures ∙ c.if-is_hidden.false) in
    ap (map (λ n. n.now)) c.in_ok-push.ensures.items
    ∙ (map-append (λ n. n.now) c.args.names.now.items (c.as_str-name.result ∷ [])
    ∙ (ap (λ n. old ++ n ∷ []) c.as_str-name.ensures ∙ ap (λ b. old ++ name_unless b name) (sym off)))
