-- Texts that are made before they are written.
use Rattle.std.proofs.Common.{◌≡◌, inl, inr, ℕ, Bool, List, Option, Some, None, Result, Ok, Err, IfOk, Bor, sym, subst}
use Rattle.std.specs.Prelude.{option_map, string_bytes}
use Rattle.std.specs.declared.string.String.{String}
use Rattle.govisd.specs.declared.program.Ran.{Ran}
use Rattle.go_explain_core.specs.Naming.{rule_of_number}
use Rattle.go_explain_core.specs.Telling.{unknown_text}
use Rattle.govisd_resolve.proofs.OutputLemmas.{keeps_same}
use Rattle.govisd.specs.Runs.{Explains, ExplainsFound, Helps, HelpsFound, RefusesMade, RefusesName}
use Rattle.govisd.specs.Says.{SaysText}
use Rattle.govisd_words.specs.Texts.{help_of, unknown_command_text}

-- what was made is known
refused : {Z E : Type 0} (made : Result (String Z) E) (text : List ℕ) (ran : Ran) (err err' : Option (List ℕ)) → IfOk made (λ t. string_bytes t ≡ text) → RefusesMade made ran err err' → RefusesName text ran err err'
refused (Ok t) text ran err err' is h = inl (h.0, subst (λ l. SaysText ran.is_told l err err') is h.1)
refused (Err e) text ran err err' is h = inr h

module _ {Z E : Type 0} (made : Result (String Z) E) (ran : Ran) (out err err' : Option (List ℕ)) where
  -- no rule has a name
  pub no_rule : (json : Bool) (word : Option (Bor (List ℕ))) (name : Bor (List ℕ)) → word ≡ Some name → None ≡ rule_of_number name.now → IfOk made (λ t. string_bytes t ≡ unknown_text name.now) → RefusesMade made ran err err' → Explains json (option_map (λ w. w.now) word) ran out out err err'
  no_rule json word name is none said h =
      subst (λ w. Explains json (option_map (λ v. v.now) w) ran out out err err') (sym is)
      (subst (λ f. ExplainsFound json name.now f ran out out err err') none (refused made (unknown_text name.now) ran err err' said h, keeps_same out))

  -- no command has a name
  pub no_command : (topic : Option (Bor (List ℕ))) (name : Bor (List ℕ)) → topic ≡ Some name → None ≡ help_of name.now → IfOk made (λ t. string_bytes t ≡ unknown_command_text name.now) → RefusesMade made ran err err' → Helps (option_map (λ w. w.now) topic) ran out out err err'
  no_command topic name is none said h =
      subst (λ w. Helps (option_map (λ v. v.now) w) ran out out err err') (sym is)
      (subst (λ f. HelpsFound name.now f ran out out err err') none (refused made (unknown_command_text name.now) ran err err' said h, keeps_same out))
