-- What is noted on the way through a function is there wherever names mean what is.
use Rattle.std.proofs.Common.{◌≡◌, ℕ, suc, Bool, true, false, List, [], ◌∷◌, ◌++◌, refl, sym, subst}
use Rattle.std.specs.Prelude.{Option, Some, None, ⊤, if◌then◌else◌}
use Rattle.std.specs.Str.{bytes_eq}
use Rattle.go_tree_nodes.specs.declared.names.Ident.{Ident}
use Rattle.go_tree_nodes.specs.Trees.{TypeTree}
use Rattle.go_tree_core.specs.declared.occurrence.Occ.{Occ}
use Rattle.go_cursor_core.specs.scope_stack.Blocks.{or_else}
use Rattle.go_names_core.specs.local_core.Steps.{Piece, Steps, Done, Check, Declare, Inner}
use Rattle.go_names_core.specs.local_core.Binding.{NameLook}
use Rattle.go_names_core.specs.local_core.Law.{Rules}
use Rattle.go_names_core.specs.local_core.Pieces.{piece_declares, piece_types}
use Rattle.go_names_core.specs.local_core.mirrors.Walk.{Names, latest, look_in, is_new, with_name, with_names, news, names_of, walk_out}
use Rattle.go_stmt_core.specs.piece.Laws.{piece_occs, steps_occs}
use Rattle.go_query_core.specs.body_core.Pieces.{AllPieces}
use Rattle.go_query_core.specs.body_core.WellFormed.{IsOfGrammar}
use Rattle.go_stmt_core.specs.inline_core.ByIntervals.{steps_types}
use Rattle.go_query_core.specs.body_core.FunctionNamed.{AreNamed}
use Rattle.go_query_core.specs.snap_core.NearNear.{IfAny}
use Rattle.go_stmt_core.specs.statement.Locality.{Each}
use Rattle.go_answer_laws.specs.declarations.Found.{steps_declare}
use Rattle.go_answer_laws.proofs.DeclarationsLists.{each_both, each_left, each_right, either, same_bytes}

or_in : {X : Type 0} (Is : X → Type 0) (a b : Option X) → IfAny Is a → IfAny Is b → IfAny Is (or_else a b)
or_in Is None b h k = k
or_in Is (Some x) b h k = h

-- each name means what is so of it
abbrev pub Sees : {X : Type 0} → (List ℕ → X → Type 0) → NameLook X → Type 0
Sees Near look = (name : List ℕ) (place : ℕ) → IfAny (Near name) (look name place)

-- so do the names of a list, from the n-th on
abbrev pub AreMeant : {X : Type 0} → (List ℕ → X → Type 0) → (ℕ → X) → ℕ → List Ident → Type 0
AreMeant Near means n [] = ⊤
AreMeant Near means n (x ∷ xs) = Near x.name (means n) × AreMeant Near means (suc n) xs

-- what a piece notes is so of its occurrences, and what its names mean, where names mean what is
pub record SayThere {X N : Type 0} (Near : List ℕ → X → Type 0) (Are : List Occ → List N → Type 0) (IsHere : Ident → Type 0) (IsGood : TypeTree → Type 0) (rules : Rules X N) : Type 0 where
  pub none : Are [] []
  pub both : (os ps : List Occ) (ns ms : List N) → Are os ns → Are ps ms → Are (os ++ ps) (ns ++ ms)
  pub notes : (look : NameLook X) (firsts : List Bool) (p : Piece) → IsOfGrammar p → Each IsGood (piece_types p) → Sees Near look → Are (piece_occs p) (rules.notes look firsts p)
  pub means : (look : NameLook X) (firsts : List Bool) (p : Piece) → IsOfGrammar p → Each IsGood (piece_types p) → Each IsHere (piece_declares p) → Sees Near look → AreMeant Near (rules.means look firsts p) 0 (piece_declares p)

module _ {X N : Type 0} (Near : List ℕ → X → Type 0) (Are : List Occ → List N → Type 0) (IsHere : Ident → Type 0) (IsGood : TypeTree → Type 0) (beyond : List ℕ → Option X) (outside : (name : List ℕ) → IfAny (Near name) (beyond name)) (rules : Rules X N)
    (law : SayThere Near Are IsHere IsGood rules) where
  abbrev IsNameIn : List ℕ × X → Type 0
  IsNameIn e = Near e.0 e.1

  abbrev AreNamesIn : Names X → Type 0
  AreNamesIn es = Each IsNameIn es

  one_in : (name : List ℕ) (e : List ℕ × X) → IsNameIn e → IfAny (Near name) (if bytes_eq name e.0 then Some e.1 else None)
  one_in name e h = by (bytes_eq name e.0) (λ s. same_bytes name e.0 s)
    where
      by : (b : Bool) → (b ≡ true → name ≡ e.0) → IfAny (Near name) (if b then Some e.1 else None)
      by true s = subst (λ (x : List ℕ). Near x e.1) (sym (s refl)) h
      by false s = tt

  latest_in : (es : Names X) (name : List ℕ) → AreNamesIn es → IfAny (Near name) (latest es name)
  latest_in [] name h = tt
  latest_in (e ∷ es) name h = or_in (Near name) (latest es name) (if bytes_eq name e.0 then Some e.1 else None) (latest_in es name h.1) (one_in name e h.0)

  sees : (es : Names X) → AreNamesIn es → Sees Near (look_in beyond es)
  sees es h name place = or_in (Near name) (latest es name) (beyond name) (latest_in es name h) (outside name)

  with_in : (block : Names X) (means : ℕ → X) (n : ℕ) (xs : List Ident) → AreNamesIn block → AreMeant Near means n xs → AreNamesIn (with_names block means n xs)
  with_in block means n [] h k = h
  with_in block means n (x ∷ xs) h k =
      with_in (with_name block x (means n)) means (suc n) xs (either AreNamesIn (is_new block x) _ _ (each_both IsNameIn block ((x.name, means n) ∷ []) h (k.0, tt)) h) k.1

  open_in : (outer block : Names X) → AreNamesIn outer → AreNamesIn block → AreNamesIn (outer ++ block)
  open_in outer block h k = each_both IsNameIn outer block h k

  pub walk_in : (outer block : Names X) (opens closes : ℕ) (steps : Steps) → AllPieces IsOfGrammar steps → Each IsGood (steps_types steps) → AreNamed steps → Each IsHere (steps_declare steps) → AreNamesIn outer → AreNamesIn block
      → Are (steps_occs steps) (walk_out rules beyond outer block opens closes steps).notes
  walk_in outer block opens closes Done wf good named here h k = law.none
  walk_in outer block opens closes (Check p rest) wf good named here h k =
      let look = look_in beyond (outer ++ block) in
      law.both (piece_occs p) (steps_occs rest) (rules.notes look [] p) (walk_out rules beyond outer block opens closes rest).notes
      (law.notes look [] p wf.0 (each_left IsGood (piece_types p) (steps_types rest) good) (sees (outer ++ block) (open_in outer block h k)))
      (walk_in outer block opens closes rest wf.1 (each_right IsGood (piece_types p) (steps_types rest) good) named here h k)
  walk_in outer block opens closes (Declare m from p xs rest) wf good named here h k =
      let look = look_in beyond (outer ++ block) in
      let firsts = news (names_of block) xs in
      let now = sees (outer ++ block) (open_in outer block h k) in
      let inner = with_names block (rules.means look firsts p) 0 xs in
      let mine = each_left IsGood (piece_types p) (steps_types rest) good in
      let own = subst (Each IsHere) named.0 (each_left IsHere xs (steps_declare rest) here) in
      let meant = subst (AreMeant Near (rules.means look firsts p) 0) (sym named.0) (law.means look firsts p wf.0 mine own now) in
      law.both (piece_occs p) (steps_occs rest) (rules.notes look firsts p) (walk_out rules beyond outer inner opens closes rest).notes
      (law.notes look firsts p wf.0 mine now)
      (walk_in outer inner opens closes rest wf.1 (each_right IsGood (piece_types p) (steps_types rest) good) named.1 (each_right IsHere xs (steps_declare rest) here) h (with_in block (rules.means look firsts p) 0 xs k meant))
  walk_in outer block opens closes (Inner o c steps rest) wf good named here h k =
      law.both (steps_occs steps) (steps_occs rest) (walk_out rules beyond (outer ++ block) [] o c steps).notes (walk_out rules beyond outer block opens closes rest).notes
      (walk_in (outer ++ block) [] o c steps wf.0 (each_left IsGood (steps_types steps) (steps_types rest) good) named.0 (each_left IsHere (steps_declare steps) (steps_declare rest) here) (open_in outer block h k) tt)
      (walk_in outer block opens closes rest wf.1 (each_right IsGood (steps_types steps) (steps_types rest) good) named.1 (each_right IsHere (steps_declare steps) (steps_declare rest) here) h k)
