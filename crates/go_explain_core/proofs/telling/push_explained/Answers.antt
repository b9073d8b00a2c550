use Rattle.std.proofs.Common.{◌≡◌, ◌++◌, refl}
use Rattle.std.specs.Prelude.{codes, string_bytes}
use Rattle.go_text_core.specs.Rules.{rule_number}
use Rattle.go_explain_core.specs.Examples.{example_of}
use Rattle.go_explain_core.specs.Meanings.{rule_meaning}
use Rattle.go_explain_core.specs.Mendings.{mending_of}
use Rattle.go_explain_core.proofs.LineLemmas.{begun, ended, more}
use Rattle.go_explain_core.proofs.telling.push_explained.Goals as goal

pub returns : goal.returns
returns c =
    let start = string_bytes c.args.text.now in
    let rule = c.args.rule in
    let number : string_bytes c.push.new.text ≡ start ++ rule_number rule = begun start _ _ (rule_number rule) c.number.ensures c.in_ok-push.ensures in
    let colon : string_bytes c.push-2.new.text ≡ start ++ (rule_number rule ++ codes ": ") = more start _ _ (rule_number rule) _ (codes ": ") number refl c.in_ok-push-2.ensures in
    let meaning : string_bytes c.push-3.new.text ≡ start ++ (rule_number rule ++ codes ": " ++ rule_meaning rule) = more start _ _ (rule_number rule ++ codes ": ") _ (rule_meaning rule) colon c.explain-said.ensures.meaning c.in_ok-push-3.ensures in
    let heading : string_bytes c.push-4.new.text ≡ start ++ (rule_number rule ++ codes ": " ++ rule_meaning rule ++ codes "\n\nExample:\n\n") = more start _ _ (rule_number rule ++ codes ": " ++ rule_meaning rule) _ (codes "\n\nExample:\n\n") meaning refl c.in_ok-push-4.ensures in
    let example : string_bytes c.push-5.new.text ≡ start ++ (rule_number rule ++ codes ": " ++ rule_meaning rule ++ codes "\n\nExample:\n\n" ++ example_of rule) = more start _ _ (rule_number rule ++ codes ": " ++ rule_meaning rule ++ codes "\n\nExample:\n\n") _ (example_of rule) heading c.explain-said.ensures.example c.in_ok-push-5.ensures in
    let last : string_bytes c.push-6.new.text ≡ start ++ (rule_number rule ++ codes ": " ++ rule_meaning rule ++ codes "\n\nExample:\n\n" ++ example_of rule ++ codes "\nHow to mend it:\n\n") = more start _ _ (rule_number rule ++ codes ": " ++ rule_meaning rule ++ codes "\n\nExample:\n\n" ++ example_of rule) _ (codes "\nHow to mend it:\n\n") example refl c.in_ok-push-6.ensures in
    ended c.push-7.result start _ _ (rule_number rule ++ codes ": " ++ rule_meaning rule ++ codes "\n\nExample:\n\n" ++ example_of rule ++ codes "\nHow to mend it:\n\n") _ (mending_of rule) last c.explain-said.ensures.mending c.push-7.ensures
