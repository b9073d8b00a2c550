use Rattle.std.proofs.Common.{◌≡◌, ◌∙◌, ◌++◌, [], flat_map, ap, refl}
use Rattle.std.specs.Prelude.{codes, string_bytes}
use Rattle.go_explain_core.specs.Telling.{hint, near_piece, near_text}
use Rattle.go_explain_core.proofs.LineLemmas.{more}
use Rattle.go_explain_core.proofs.telling.unknown.Goals as goal

pub returns : goal.returns
returns c =
    let word = c.args.word.now in
    let near : c.as_str.result.now ≡ near_text word =
    c.as_str.ensures.value ∙ c.in_ok-push_near.ensures ∙ ap (λ l. l ++ flat_map (near_piece word) c.rules.result.now) c.new-near.ensures.bytes ∙ ap (flat_map (near_piece word)) c.rules.ensures in
    let there : string_bytes c.push.new.text ≡ codes "govisd: there is no rule " = c.in_ok-push.ensures ∙ ap (λ l. l ++ codes "govisd: there is no rule ") c.new-text.ensures.bytes in
    let said : string_bytes c.push-2.new.text ≡ codes "govisd: there is no rule " ++ word = more [] _ _ (codes "govisd: there is no rule ") _ word there refl c.in_ok-push-2.ensures in
    let hinted : string_bytes c.push_hint.new.text ≡ codes "govisd: there is no rule " ++ word ++ hint (near_text word) = more [] _ _ (codes "govisd: there is no rule " ++ word) _ (hint (near_text word)) said (ap hint near) c.in_ok-push_hint.ensures in
    more [] _ _ (codes "govisd: there is no rule " ++ word ++ hint (near_text word)) _ (codes "\ngovisd: govisd explain lists all rules\n") hinted refl c.in_ok-push-3.ensures
