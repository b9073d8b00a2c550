-- No reply has a float.
use Rattle.std.proofs.Common.{◌≡◌, ℕ, List, [], ◌∷◌, false, Option, Some, None, map, refl, ap, ◌∙◌}
use Rattle.std.specs.Prelude.{◌||◌, option_map}
use Rattle.serde_json.specs.Data.{Data, string}
use Rattle.serde_json.specs.View.{items_of}
use Rattle.serde_json.specs.Written.{has_float, items_have_float, members_have_float}
use Rattle.go_wire_core.specs.declared.reply.PackageEntry.{PackageEntry}
use Rattle.go_wire_core.specs.declared.reply.Symbol.{Symbol}
use Rattle.go_wire_core.specs.declared.reply.WireReply.{WireReply}
use Rattle.go_wire_core.specs.declared.reply.WireReply.TheVariants.{Opened, Done, Built, Listed, Described, Completed, Defined, Ran, Refused}
use Rattle.go_wire_core.specs.Replies.{entry_data, fault_data, line_data, reply_data, session_members, symbol_data, through_members}

listed : {A : Type 0} (shown : A → Data) (xs : List A) → ((x : A) → has_float (shown x) ≡ false) → items_have_float (items_of (map shown xs)) ≡ false
listed shown [] h = refl
listed shown (x ∷ xs) h = ap (λ b. b || items_have_float (items_of (map shown xs))) (h x) ∙ listed shown xs h

words : (ts : List (List ℕ)) → items_have_float (items_of (map string ts)) ≡ false
words ts = listed string ts (λ t. refl)

entry : (e : PackageEntry) → has_float (entry_data e) ≡ false
entry e = rw (words e.deps.items, words e.files.items, words e.imports.items) refl

through : (fields : Option (List (List ℕ))) → members_have_float (through_members fields) ≡ false
through None = refl
through (Some fields) = rw (words fields) refl

symbol : (s : Symbol) → has_float (symbol_data s) ≡ false
symbol s = through (option_map (λ v. v.items) s.through)

reply_has_none : (r : WireReply) → has_float (reply_data r) ≡ false
reply_has_none (Opened path) = refl
reply_has_none Done = refl
reply_has_none (Built batch faults) = rw (listed fault_data faults.items (λ f. refl)) refl
reply_has_none (Listed batch own importable) = rw (listed entry_data importable.items entry, entry own) refl
reply_has_none (Described batch name path symbols) = rw (listed symbol_data symbols.items symbol) refl
reply_has_none (Completed batch names) = rw (words names.items) refl
reply_has_none (Defined batch declaration) = refl
reply_has_none (Ran batch end output) = refl
reply_has_none (Refused rule) = refl

session_has_none : (session : Option ℕ) → members_have_float (session_members session) ≡ false
session_has_none None = refl
session_has_none (Some n) = refl

pub line_has_none : (session : Option ℕ) (r : WireReply) → has_float (line_data session r) ≡ false
line_has_none session r = ap (λ b. b || members_have_float (session_members session)) (reply_has_none r) ∙ session_has_none session
