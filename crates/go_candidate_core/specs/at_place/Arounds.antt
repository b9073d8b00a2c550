-- What is seen at a place of a package where locals are open, and the names there.
--
-- docs/RULES.md, "Names, selectors and calls in expressions", "Bodies of functions". The Go specification, "Declarations and scope", "Selectors",
-- "Composite literals".
use Rattle.std.specs.Prelude.{◌≡◌, ℕ, Bool, true, false, List, [], ◌∷◌, map}
use Rattle.std.specs.Option.{option_map}
use Rattle.go_tree_nodes.specs.Shapes.{shape, items_of}
use Rattle.go_tree_nodes.specs.Trees.{TypeTree}
use Rattle.go_term_core.specs.Terms.{Term, Sign}
use Rattle.go_body_core.specs.typexpr_core.EntryMeanings.{Shows, file_meaning}
use Rattle.go_expr_core.specs.operand_core.TypeRules.{TypeRules}
use Rattle.go_expr_core.specs.denote_core.declared.things.Dot.TheVariants as dots
use Rattle.go_expr_core.specs.denote_core.Look.{NameRules}
use Rattle.go_expr_core.specs.denote_core.CompositeLook.{LiteralRules}
use Rattle.go_summary_core.specs.handle_core.Declarations.{Declaration}
use Rattle.go_expr_core.specs.local_core.mirrors.Walk.{Names, look_in}
use Rattle.go_expr_core.specs.Locality.{needed_types}
use Rattle.go_expr_core.specs.Looks.{WrittenRules}
use Rattle.go_expr_core.specs.Uses.{Context, NameAt, SelectorBehind, KeyAmong, rule}
use Rattle.go_summary_core.specs.declared_core.Faces.{face_shown}
use Rattle.go_cursor_core.specs.Used.{LiteralType, OfName, OfWritten, SpotTree, BehindSpot, KeySpot}
use Rattle.go_cursor_core.specs.Contexts.{context_of_spot}
use Rattle.go_cursor_core.specs.Shown.{literal_shown}
use Rattle.go_body_core.specs.env_core.declared.meaning.Meaning.{Meaning}
use Rattle.go_body_core.specs.env_core.Scenes.{SceneModel, scene_shown}
use Rattle.go_body_core.specs.env_core.Looks.{TheLooks, here_look, looks_in}
use Rattle.go_body_core.specs.function.Stands.{FileStand, kinds_in_scene, looks_where, outer_meanings}
use Rattle.go_candidate_core.specs.after_dot.Names.{AreNames, is_declared}
use Rattle.go_candidate_core.specs.declared.at_place.around.Around.{Around}
use Rattle.go_candidate_core.specs.declared.at_place.naming.Asked.{Asked}
use Rattle.go_candidate_core.specs.declared.at_place.naming.Asked.TheVariants as askeds
use Rattle.go_candidate_core.specs.declared.at_place.place.PlaceAt.{PlaceAt}
use Rattle.go_candidate_core.specs.at_place.Locals.{local_shown}
use Rattle.go_candidate_core.specs.at_place.Types.{AreNoted, meaning_around, noted_rules, noted_shown}

-- a place, as an expression sees it

abbrev pub around_looks : Around → TheLooks
around_looks a = looks_in (scene_shown a.here.scene.now) a.here.file a.here.known.now (noted_rules (scene_shown a.here.scene.now).types (map noted_shown a.types.now)) (look_in (λ name. here_look a.here name 0) (map local_shown a.locals.now))

abbrev pub around_types : Around → TypeRules Term
around_types a = (around_looks a).types

abbrev pub around_names : Around → NameRules Term Sign Declaration (List ℕ)
around_names a = record {
  find = λ name. (around_looks a).find name 0;
  exported = (around_looks a).exported;
  select = (around_looks a).select;
  params = (around_looks a).params;
  results = (around_looks a).results;
}

abbrev pub around_literals : Around → LiteralRules Term Declaration
around_literals a = (around_looks a).literals

abbrev pub around_written : Around → WrittenRules Term
around_written a = (around_looks a).written

-- where a file of a package stands

abbrev pub scene_at : {P : Type 0} → PlaceAt P → SceneModel
scene_at at = record { path = at.home.now; blocks = at.blocks.now; types = at.types.now; others = at.others.now; written = at.written.now }

abbrev pub stand_shown : {P : Type 0} → (P → Shows) → PlaceAt P → FileStand
stand_shown shows at = record {
  scene = scene_at at;
  known = map (option_map face_shown) at.declared.now;
  file = record { path = at.home.now; file = at.file; places = at.places.now };
  top = file_meaning (shows at.imported.now) at.home.now at.blocks.now at.file;
}

-- the look-ups there where these locals are open and these struct types are noted
abbrev pub place_looks : {P : Type 0} → (P → Shows) → PlaceAt P → List (ℕ × Term) → Names Meaning → TheLooks
place_looks shows at types locals =
    looks_in (scene_at at) at.file (map (option_map face_shown) at.declared.now) (noted_rules at.types.now types) (look_in (outer_meanings (stand_shown shows at)) locals)

-- an outcome rests on a type: behind a value or behind what has no type, and for a key
abbrev pub rests_on_types : {T D : Type 0} → Context T D → Bool
rests_on_types (NameAt p) = false
rests_on_types (SelectorBehind u (dots.«Package» d)) = false
rests_on_types (SelectorBehind u dots.Refused) = false
rests_on_types (SelectorBehind u dots.Untyped) = true
rests_on_types (SelectorBehind u (dots.«Value» o)) = true
rests_on_types (KeyAmong k) = true

-- by these look-ups exactly these names have a declaration at a spot, where the outcome there rests on a type
abbrev pub ListsAround : TheLooks → SpotTree → List (List ℕ) → Type 0
ListsAround looks s names = rests_on_types (context_of_spot looks s) ≡ true → (offset : ℕ) → AreNames (λ name. is_declared (rule looks (context_of_spot looks s) offset name)) names

-- the same at a place where these locals are open
abbrev pub NamesAround : {P : Type 0} → (P → Shows) → PlaceAt P → Names Meaning → SpotTree → List (List ℕ) → Type 0
NamesAround shows at locals s names = ListsAround (looks_where (stand_shown shows at) (look_in (outer_meanings (stand_shown shows at)) locals)) s names

-- what is asked for

abbrev pub asked_shown : Asked → SpotTree
asked_shown (askeds.Behind u p e) = BehindSpot u p (shape e.now)
asked_shown (askeds.Key l es n) = KeySpot (literal_shown l) (items_of es.now) n

-- the struct types on which it rests

abbrev pub literal_types : LiteralType → List TypeTree
literal_types (OfName n) = []
literal_types (OfWritten t) = t ∷ []

abbrev pub spot_types : SpotTree → List TypeTree
spot_types (BehindSpot u p e) = needed_types e
spot_types (KeySpot l items n) = literal_types l
spot_types _ = []

abbrev pub types_asked : Asked → List TypeTree
types_asked a = spot_types (asked_shown a)

-- each of these is noted
abbrev pub AreNotedAt : {P : Type 0} → (P → Shows) → PlaceAt P → Names Meaning → List TypeTree → List (ℕ × Term) → Type 0
AreNotedAt shows at locals trees types = AreNoted (kinds_in_scene (scene_at at)) (stand_shown shows at).file (meaning_around locals (stand_shown shows at).top) trees types
