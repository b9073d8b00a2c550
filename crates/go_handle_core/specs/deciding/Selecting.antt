-- What a selector denotes, by a search through one depth after another: the Go specification, "Selectors".
use Rattle.std.specs.Prelude.{ℕ, zero, suc, ◌+◌, ◌*◌, Bool, true, false, ◌||◌, List, [], ◌∷◌, ◌++◌, length, map, Result, Ok, Err, if◌then◌else◌}
use Rattle.go_denote_core.specs.text_core.Text.{is_blank}
use Rattle.go_denote_core.specs.text_core.declared.rule.Rule.{Rule}
use Rattle.go_denote_core.specs.text_core.declared.rule.Rule.TheVariants.{S1, S2, S3, S7, S8}
use Rattle.go_term_core.specs.Terms.{Term}
use Rattle.go_table_core.specs.Entries.{Entry, EntryLook, find_entry, same_id}
use Rattle.go_mset_core.specs.embed_core.Owners.{EmbeddedEdge, owner_in, embedded_in, Found, AFieldOf, AMethodOf, AnInterfaces, TheErrorMethod, Named, members_of, has_spelled}
use Rattle.go_mset_core.specs.embed_core.OwnersShown.{found_shown}
use Rattle.go_mset_core.specs.select_core.declared.levels.search.Selected.{Selected}
use Rattle.go_mset_core.specs.select_core.LevelsSelectors.{Searched, Refused, In, FieldsIn, searched}
use Rattle.go_table_core.specs.Nesting.{nesting, deepest}

-- a type that embedded fields lead to: these, whether one of them has a star, and the type
pub record Trail : Type 0 where
  pub path : List ℕ
  pub pointer : Bool
  pub node : Term

abbrev pub trail : List ℕ → Bool → Term → Trail
trail path pointer node = record { path = path; pointer = pointer; node = node }

-- with one more embedded field before the others
abbrev pub behind_edge : EmbeddedEdge → Trail → Trail
behind_edge e w = trail (e.position ∷ w.path) (e.pointer || w.pointer) w.node

abbrev pub behind_edges : (Term → List Trail) → List EmbeddedEdge → List Trail
behind_edges trails [] = []
behind_edges trails (e ∷ es) = map (behind_edge e) (trails e.target) ++ behind_edges trails es

-- the types that lists of so many embedded fields lead to, each once for each list
abbrev pub trails_of : EntryLook → ℕ → Term → List Trail
trails_of look zero t = trail [] false t ∷ []
trails_of look (suc depth) t = behind_edges (trails_of look depth) (embedded_in (owner_in look t))

-- a member that the identifier names, with what leads to its type; known by its number among the members of that
pub record Match : Type 0 where
  pub trail : Trail
  pub number : ℕ
  pub member : Found

abbrev pub match_at : Trail → ℕ → Found → Match
match_at w n f = record { trail = w; number = n; member = f }

abbrev pub matches_among : Trail → List ℕ → List ℕ → ℕ → List Named → List Match
matches_among w name from i [] = []
matches_among w name from i (n ∷ ns) =
    if same_id n.0 n.1.0 name from then match_at w i n.1.1 ∷ matches_among w name from (suc i) ns else matches_among w name from (suc i) ns

abbrev pub matches_behind : EntryLook → List ℕ → List ℕ → List Trail → List Match
matches_behind look name from [] = []
matches_behind look name from (w ∷ ws) = matches_among w name from 0 (members_of (owner_in look w.node)) ++ matches_behind look name from ws

-- all of one depth
abbrev pub matches_of : EntryLook → Term → List ℕ → List ℕ → ℕ → List Match
matches_of look t name from depth = matches_behind look name from (trails_of look depth t)

abbrev pub unless_some : List Match → List Match → List Match
unless_some [] deeper = deeper
unless_some (m ∷ ms) deeper = m ∷ ms

-- those of the first depth that has some, of so many depths behind one and that
abbrev pub first_matches : (ℕ → List Match) → ℕ → ℕ → List Match
first_matches matches depth zero = matches depth
first_matches matches depth (suc more) = unless_some (matches depth) (first_matches matches (suc depth) more)

abbrev pub some_spelled : EntryLook → List ℕ → List Trail → Bool
some_spelled look name [] = false
some_spelled look name (w ∷ ws) = has_spelled (owner_in look w.node) name || some_spelled look name ws

-- a member is spelled so at one of so many depths behind one, or at that
abbrev pub spelled_from : (ℕ → Bool) → ℕ → ℕ → Bool
spelled_from spelled depth zero = spelled depth
spelled_from spelled depth (suc more) = spelled depth || spelled_from spelled (suc depth) more

-- a path that is longer than this comes to a type twice
abbrev pub last_depth : List Entry → Term → ℕ
last_depth es t = length es * suc (deepest es) + nesting t

-- what is selected: the embedded fields that lead to the member, whether a pointer is passed on the way, and the member
pub record Choice : Type 0 where
  pub path : List ℕ
  pub passes : Bool
  pub member : Found

abbrev pub choice : List ℕ → Bool → Found → Choice
choice path passes f = record { path = path; passes = passes; member = f }

-- of the members at the first depth that has some the one that is alone
abbrev pub only_match : Bool → List Match → Result Choice Rule
only_match spelled [] = Err (if spelled then S3 else S1)
only_match spelled (m ∷ []) = Ok (choice m.trail.path m.trail.pointer m.member)
only_match spelled (m ∷ (n ∷ ms)) = Err S2

-- what a name denotes in a type
abbrev pub match_in : List Entry → Term → List ℕ → List ℕ → Result Choice Rule
match_in es t name from =
    only_match (spelled_from (λ depth. some_spelled (find_entry es) name (trails_of (find_entry es) depth t)) 0 (last_depth es t)) (first_matches (matches_of (find_entry es) t name from) 0 (last_depth es t))

-- where the operand is a pointer, one is passed
abbrev pub passing : Bool → Result Choice Rule → Result Choice Rule
passing by_pointer (Err rule) = Err rule
passing by_pointer (Ok c) = Ok (choice c.path (by_pointer || c.passes) c.member)

abbrev pub field_alone : Found → Choice → Result Choice Rule
field_alone (AFieldOf path place t) c = Ok c
field_alone (AMethodOf path place pointer g) c = Err S7
field_alone (AnInterfaces path place g) c = Err S7
field_alone TheErrorMethod c = Err S7

-- behind a defined pointer type, fields alone
abbrev pub fields_alone : Result Choice Rule → Result Choice Rule
fields_alone (Err rule) = Err rule
fields_alone (Ok c) = field_alone c.member c

abbrev pub match_where : List Entry → Searched → List ℕ → List ℕ → Result Choice Rule
match_where es (Refused rule) name from = Err rule
match_where es (In t by_pointer) name from = passing by_pointer (match_in es t name from)
match_where es (FieldsIn t) name from = fields_alone (passing true (match_in es t name from))

-- what the selector of a name that is written in a package denotes behind an operand of a type, or the rule that it breaks
abbrev pub selected_of : List Entry → Term → List ℕ → List ℕ → Result Choice Rule
selected_of es t name from = if is_blank name then Err S8 else match_where es (searched (find_entry es) t) name from

-- the same of what the program has
abbrev pub chosen_of : Result Selected Rule → Result Choice Rule
chosen_of (Ok s) = Ok (choice s.path s.through_pointer (found_shown s.member))
chosen_of (Err rule) = Err rule
