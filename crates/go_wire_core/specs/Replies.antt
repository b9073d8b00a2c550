-- How replies are written: JSON without spaces, the members in byte order of their keys.
use Rattle.std.specs.Prelude.{ℕ, List, [], ◌∷◌, ◌++◌, map, Option, Some, None, option_map, codes, decimal}
use Rattle.serde_json.specs.Data.{Data, number, unsigned, string, array, object, Members, no_members, member}
use Rattle.serde_json.specs.View.{items_of}
use Rattle.serde_json.specs.Written.{compact_text}
use Rattle.go_text_core.specs.Rules.{rule_number}
use Rattle.go_wire_core.specs.declared.reply.FaultPlace.{FaultPlace}
use Rattle.go_wire_core.specs.declared.reply.PackageEntry.{PackageEntry}
use Rattle.go_wire_core.specs.declared.reply.RunEnd.{RunEnd}
use Rattle.go_wire_core.specs.declared.reply.Symbol.{Symbol}
use Rattle.go_wire_core.specs.declared.reply.WireReply.{WireReply}
use Rattle.go_wire_core.specs.declared.reply.WireReply.TheVariants.{Opened, Done, Built, Listed, Described, Completed, Defined, Ran, Refused}
use Rattle.go_wire_core.specs.Kinds.{end_word, kind_word}

abbrev pub count : ℕ → Data
count n = number (unsigned n)

abbrev pub list : {A : Type 0} → (A → Data) → List A → Data
list shown xs = array (items_of (map shown xs))

abbrev pub texts : List (List ℕ) → Data
texts = list string

-- PATH/FILE:OFFSET
abbrev pub place_text : FaultPlace → List ℕ
place_text f = f.path ++ 47 ∷ (f.file ++ 58 ∷ decimal f.offset)

abbrev pub fault_data : FaultPlace → Data
fault_data f =
    object (member (codes "at") (string (place_text f))
    (member (codes "rule") (string (rule_number f.rule)) no_members))

abbrev pub entry_data : PackageEntry → Data
entry_data e =
    object (member (codes "Deps") (texts e.deps.items)
    (member (codes "GoFiles") (texts e.files.items)
    (member (codes "ImportPath") (string e.path)
    (member (codes "Imports") (texts e.imports.items)
    (member (codes "Name") (string e.name) no_members)))))

abbrev pub through_members : Option (List (List ℕ)) → Members
through_members None = no_members
through_members (Some fields) = member (codes "path") (texts fields) no_members

abbrev pub symbol_data : Symbol → Data
symbol_data s =
    object (member (codes "doc") (string s.doc)
    (member (codes "kind") (string (kind_word s.kind))
    (member (codes "name") (string s.name) (through_members (option_map (λ v. v.items) s.through)))))

-- ---- the members of each reply

abbrev pub opened_data : List ℕ → Data
opened_data path = object (member (codes "module") (string path) no_members)

abbrev pub done_data : Data
done_data = object no_members

abbrev pub built_data : ℕ → List FaultPlace → Data
built_data batch faults =
    object (member (codes "batch") (count batch)
    (member (codes "faults") (list fault_data faults) no_members))

abbrev pub listed_data : ℕ → PackageEntry → List PackageEntry → Data
listed_data batch own importable =
    object (member (codes "batch") (count batch)
    (member (codes "importable") (list entry_data importable)
    (member (codes "self") (entry_data own) no_members)))

abbrev pub described_data : ℕ → List ℕ → List ℕ → List Symbol → Data
described_data batch name path symbols =
    object (member (codes "batch") (count batch)
    (member (codes "name") (string name)
    (member (codes "path") (string path)
    (member (codes "symbols") (list symbol_data symbols) no_members))))

abbrev pub completed_data : ℕ → List (List ℕ) → Data
completed_data batch names =
    object (member (codes "batch") (count batch)
    (member (codes "names") (texts names) no_members))

abbrev pub defined_data : ℕ → List ℕ → Data
defined_data batch declaration =
    object (member (codes "batch") (count batch)
    (member (codes "decl") (string declaration) no_members))

abbrev pub ran_data : ℕ → RunEnd → List ℕ → Data
ran_data batch end output =
    object (member (codes "batch") (count batch)
    (member (codes "end") (string (end_word end))
    (member (codes "output") (string output) no_members)))

-- what a reply says, a refusal the number of its rule
abbrev pub reply_data : WireReply → Data
reply_data (Opened path) = opened_data path
reply_data Done = done_data
reply_data (Built batch faults) = built_data batch faults.items
reply_data (Listed batch own importable) = listed_data batch own importable.items
reply_data (Described batch name path symbols) = described_data batch name path symbols.items
reply_data (Completed batch names) = completed_data batch names.items
reply_data (Defined batch declaration) = defined_data batch declaration
reply_data (Ran batch end output) = ran_data batch end output
reply_data (Refused rule) = string (rule_number rule)

abbrev pub reply_key : WireReply → List ℕ
reply_key (Opened path) = codes "ok"
reply_key Done = codes "ok"
reply_key (Built batch faults) = codes "ok"
reply_key (Listed batch own importable) = codes "ok"
reply_key (Described batch name path symbols) = codes "ok"
reply_key (Completed batch names) = codes "ok"
reply_key (Defined batch declaration) = codes "ok"
reply_key (Ran batch end output) = codes "ok"
reply_key (Refused rule) = codes "err"

-- the number of the session, where the request had one
abbrev pub session_members : Option ℕ → Members
session_members None = no_members
session_members (Some n) = member (codes "s") (count n) no_members

abbrev pub line_data : Option ℕ → WireReply → Data
line_data session reply = object (member (reply_key reply) (reply_data reply) (session_members session))

-- the line of a reply
unfoldable pub line_of : Option ℕ → WireReply → List ℕ
line_of session reply = compact_text (line_data session reply) ++ 10 ∷ []
