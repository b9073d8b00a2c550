-- What is written of rules.
use Rattle.std.specs.Prelude.{ℕ, ◌==◌, Bool, true, false, List, [], ◌++◌, length, codes, encode_utf8, flat_map, if◌then◌else◌}
use Rattle.go_text_core.specs.Rules.{rule_number}
use Rattle.go_text_core.specs.declared.rule.Rule.{Rule}
use Rattle.go_explain_core.specs.Examples.{example_of}
use Rattle.go_explain_core.specs.Meanings.{rule_meaning}
use Rattle.go_explain_core.specs.Mendings.{mending_of}
use Rattle.go_explain_core.specs.Naming.{all_rules, near}

-- a rule: what it means, an example that breaks it, and the example mended
abbrev pub explained_text : Rule → List ℕ
explained_text rule =
    rule_number rule ++ codes ": " ++ rule_meaning rule ++ codes "\n\nExample:\n\n" ++ example_of rule ++ codes "\nHow to mend it:\n\n" ++ mending_of rule

-- a byte of ASCII as it stands in a string of JSON
abbrev pub json_byte : ℕ → List ℕ
json_byte b =
    if b == 34 then codes "\\\""
    else (if b == 92 then codes "\\\\"
    else (if b == 10 then codes "\\n"
    else (if b == 9 then codes "\\t" else encode_utf8 b)))

abbrev pub json_text : List ℕ → List ℕ
json_text text = flat_map json_byte text

-- a rule as a JSON object in a line
abbrev pub json_front : Rule → List ℕ
json_front rule = codes "{\"example\":\"" ++ json_text (example_of rule) ++ codes "\",\"meaning\":\"" ++ rule_meaning rule

abbrev pub json_said : Rule → List ℕ
json_said rule = json_front rule ++ codes "\",\"mending\":\"" ++ json_text (mending_of rule)

abbrev pub json_line : Rule → List ℕ
json_line rule = json_said rule ++ codes "\",\"rule\":\"" ++ rule_number rule ++ codes "\"}\n"

-- a rule, as lines or as such an object
abbrev pub told_text : Bool → Rule → List ℕ
told_text false rule = explained_text rule
told_text true rule = json_line rule

-- a rule in the list of all
abbrev pub list_line : Rule → List ℕ
list_line rule = rule_number rule ++ codes "  " ++ rule_meaning rule ++ codes "\n"

-- all rules, one a line
abbrev pub list_text : List ℕ
list_text = flat_map list_line all_rules

-- all rules as such objects
abbrev pub json_list : List ℕ
json_list = flat_map json_line all_rules

abbrev pub listed_text : Bool → List ℕ
listed_text false = list_text
listed_text true = json_list

-- the number of a rule behind a space, where it is near a word
abbrev pub near_piece : List ℕ → Rule → List ℕ
near_piece word rule = if near word rule then codes " " ++ rule_number rule else []

-- the rules near a word
abbrev pub near_text : List ℕ → List ℕ
near_text word = flat_map (near_piece word) all_rules

-- which rules are near, where there are any
abbrev pub hint : List ℕ → List ℕ
hint near = if length near == 0 then [] else codes ". Near it:" ++ near

-- no rule has this name
abbrev pub unknown_text : List ℕ → List ℕ
unknown_text word = codes "govisd: there is no rule " ++ word ++ hint (near_text word) ++ codes "\ngovisd: govisd explain lists all rules\n"
