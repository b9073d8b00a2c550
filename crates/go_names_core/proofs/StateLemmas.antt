-- States one after the other.
use Rattle.std.proofs.Common.{◌≡◌, ℕ, Bool, false, Result, Ok, Err, List, [], ◌∷◌, ◌++◌, length, map, refl, sym, ap, subst, ◌∙◌}
use Rattle.std.proofs.lemmas.List.{append-nil}
use Rattle.std.specs.Result.{OnOk}
use Rattle.go_tree_nodes.specs.declared.names.Ident.{Ident}
use Rattle.go_local_core.specs.scope_stack.declared.DeclId.{DeclId}
use Rattle.go_local_core.specs.scope_stack.Blocks.{innermost, with_innermost, block_after, short_names}
use Rattle.go_scope_core.specs.Models.{ScopesModel}
use Rattle.go_local_core.specs.declared.Fault.{Fault}
use Rattle.go_local_core.specs.Steps.{Piece, Newness, Check, Declare}
use Rattle.go_local_core.specs.Faults.{name_faults, spellings}
use Rattle.go_local_core.specs.Law.{Rules}
use Rattle.go_names_core.specs.declared.meaning.Outside.{Outside}
use Rattle.go_names_core.specs.declared.look.OpenNames.{OpenNames}
use Rattle.go_names_core.specs.declared.declaring.NewNames.{NewNames}
use Rattle.go_names_core.specs.Body.{each_means}
use Rattle.go_names_core.specs.Scope.{look_in_scope, open_look}
use Rattle.go_names_core.specs.mirrors.Declaring.{manner_of, found_faults, AreNew}
use Rattle.go_names_core.specs.Scenes.{NameScene, name_scene, look_at, news_at, local_declared, locals_declared}
use Rattle.go_names_core.specs.mirrors.Run.{noted, before, run}
use Rattle.go_names_core.specs.mirrors.States.{Blocks, state, IsAhead}
use Rattle.go_names_core.specs.mirrors.StateLaws.{before_more}
use Rattle.go_names_core.proofs.FaultLemmas.{found_are}

with_innermost_push : (bs : Blocks) (b new : List (List ℕ × DeclId)) → with_innermost (bs ++ b ∷ []) new ≡ bs ++ new ∷ []
with_innermost_push [] b new = refl
with_innermost_push (x ∷ []) b new = refl
with_innermost_push (x ∷ y ∷ bs) b new = ap (λ l. x ∷ l) (with_innermost_push (y ∷ bs) b new)

module _ {X : Type 0} where
  keeps_outer : (xs : List Ident) (ms : List X) (s : NameScene X) (outer : Blocks) (block : List (List ℕ × DeclId)) → s.scopes.open_blocks ≡ outer ++ block ∷ [] → (other : List (List ℕ × DeclId)) × ((locals_declared s xs ms).scopes.open_blocks ≡ outer ++ other ∷ [])
  keeps_outer [] ms s outer block e = (block, e)
  keeps_outer (x ∷ xs) [] s outer block e = (block, e)
  keeps_outer (x ∷ xs) (m ∷ ms) s outer block e =
      let next = block_after (innermost s.scopes.open_blocks) ((x.name, record { 0 = length s.locals }) ∷ []) in
      keeps_outer xs ms (local_declared s x m) outer next (ap (λ l. with_innermost l next) e ∙ with_innermost_push outer block next)

  keeps_around : (xs : List Ident) (ms : List X) (s : NameScene X) → ((locals_declared s xs ms).scopes.blocks ≡ s.scopes.blocks) × ((locals_declared s xs ms).scopes.file ≡ s.scopes.file)
  keeps_around [] ms s = (refl, refl)
  keeps_around (x ∷ xs) [] s = (refl, refl)
  keeps_around (x ∷ xs) (m ∷ ms) s = keeps_around xs ms (local_declared s x m)

module _ {X N : Type 0} (outside : Outside → X) where
  -- a piece is checked
  pub checked : (rules : Rules X N) (s : ScopesModel) (ms : List X) (ns ns' : List N) (fs : List Fault) (p : Piece) → ns' ≡ ns ++ rules.notes (look_in_scope outside s ms) [] p
      → IsAhead X N outside (state rules s ms ns fs false) (λ rest. Check p rest) (state rules s ms ns' fs false)
  checked rules s ms ns ns' fs p e = record {
    rules = refl;
    around = (refl, refl);
    outer = λ outer block h. (block, h);
    noted = λ rest.
        before_more (noted ns fs) (noted (rules.notes (look_in_scope outside s ms) [] p) []) (run rules outside (name_scene s ms) rest)
        ∙ (ap (λ l. before (noted l (fs ++ [])) (run rules outside (name_scene s ms) rest)) (sym e) ∙ ap (λ l. before (noted ns' l) (run rules outside (name_scene s ms) rest)) (append-nil fs));
  }

  -- names are declared by a piece
  pub declared : (rules : Rules X N) (s s' : ScopesModel) (ls ls' : List X) (ns ns' : List N) (fs fs' : List Fault) (m : Newness) (from : ℕ) (p : Piece) (xs : List Ident) (firsts : List Bool) (ms : List X)
      → firsts ≡ news_at (name_scene s ls) xs → ns' ≡ ns ++ rules.notes (look_in_scope outside s ls) firsts p → ms ≡ each_means (rules.means (look_in_scope outside s ls) firsts p) 0 xs → fs' ≡ fs ++ name_faults m firsts xs → name_scene s' ls' ≡ locals_declared (name_scene s ls) xs ms
      → IsAhead X N outside (state rules s ls ns fs false) (λ rest. Declare m from p xs rest) (state rules s' ls' ns' fs' false)
  declared rules s s' ls ls' ns ns' fs fs' m from p xs firsts ms news notes means faults after =
      let here : NameScene X = name_scene s ls in
      let next : NameScene X = locals_declared here xs ms in
      let kept = keeps_around xs ms here in
      record {
        rules = refl;
        around = (ap (λ (t : NameScene X). t.scopes.blocks) after ∙ kept.0, ap (λ (t : NameScene X). t.scopes.file) after ∙ kept.1);
        outer = λ outer block h. let there = keeps_outer xs ms here outer block h in (there.0, ap (λ (t : NameScene X). t.scopes.open_blocks) after ∙ there.1);
        noted = λ rest.
            ap (λ bs. before (noted ns fs) (before (noted (rules.notes (look_at outside here) bs p) (name_faults m bs xs)) (run rules outside (locals_declared here xs (each_means (rules.means (look_at outside here) bs p) 0 xs)) rest))) (sym news)
            ∙ (before_more (noted ns fs) (noted (rules.notes (look_at outside here) firsts p) (name_faults m firsts xs)) (run rules outside (locals_declared here xs (each_means (rules.means (look_at outside here) firsts p) 0 xs)) rest)
            ∙ (ap (λ l. before (noted l (fs ++ name_faults m firsts xs)) (run rules outside (locals_declared here xs (each_means (rules.means (look_at outside here) firsts p) 0 xs)) rest)) (sym notes)
            ∙ (ap (λ l. before (noted ns' l) (run rules outside (locals_declared here xs (each_means (rules.means (look_at outside here) firsts p) 0 xs)) rest)) (sym faults)
            ∙ (ap (λ l. before (noted ns' fs') (run rules outside (locals_declared here xs l) rest)) (sym means)
            ∙ ap (λ t. before (noted ns' fs') (run rules outside t rest)) (sym after)))));
      }

  -- the same, as the code has it
  pub declared_by : {T E : Type 0} (r : Result T E) (rules : Rules X N) (s s' : ScopesModel) (ls ls' : List X) (ns ns' : List N) (fs fs' : List Fault) (lacks is_short : Bool) (from : ℕ) (p : Piece) (xs : List Ident) (names : NewNames) (firsts : List Bool) (ms slice : List X)
      → lacks ≡ false → AreNew (innermost s.open_blocks) xs names → firsts ≡ names.firsts.items → slice ≡ ms
      → ns' ≡ ns ++ rules.notes (look_in_scope outside s ls) firsts p → ms ≡ each_means (rules.means (look_in_scope outside s ls) firsts p) 0 xs
      → OnOk r (fs' ≡ fs ++ found_faults is_short names.shorts.items (map (λ i. i.now) names.idents.items)) → OnOk r (name_scene s' ls' ≡ locals_declared (name_scene s ls) (map (λ i. i.now) names.idents.items) slice)
      → OnOk r (IsAhead X N outside (state rules s ls ns fs lacks) (λ rest. Declare (manner_of is_short) from p xs rest) (state rules s' ls' ns' fs' lacks))
  declared_by (Err e) rules s s' ls ls' ns ns' fs fs' lacks is_short from p xs names firsts ms slice ample new is_first is_slice notes means faults after = tt
  declared_by (Ok x) rules s s' ls ls' ns ns' fs fs' lacks is_short from p xs names firsts ms slice ample new is_first is_slice notes means faults after =
      let shorts = short_names (innermost s.open_blocks) (spellings xs) in
      let is_new : firsts ≡ news_at (name_scene s ls) xs = is_first ∙ new.2 in
      subst (λ l. IsAhead X N outside (state rules s ls ns fs l) (λ rest. Declare (manner_of is_short) from p xs rest) (state rules s' ls' ns' fs' l)) (sym ample)
      (declared rules s s' ls ls' ns ns' fs fs' (manner_of is_short) from p xs firsts ms is_new notes means
      (faults ∙ ap (λ l. fs ++ found_faults is_short l (map (λ i. i.now) names.idents.items)) new.1 ∙ ap (λ l. fs ++ found_faults is_short shorts l) new.0 ∙ ap (λ l. fs ++ l) (found_are is_short (innermost s.open_blocks) xs) ∙ ap (λ l. fs ++ name_faults (manner_of is_short) l xs) (sym is_new))
      (after ∙ ap (λ l. locals_declared (name_scene s ls) l slice) new.0 ∙ ap (locals_declared (name_scene s ls) xs) is_slice))

  -- the same, where the names that are open are given by what they stand on
  pub declared_at : {T E : Type 0} (r : Result T E) (rules : Rules X N) (s s' : ScopesModel) (ls ls' : List X) (ns ns' : List N) (fs fs' : List Fault) (lacks is_short : Bool) (from : ℕ) (p : Piece) (xs : List Ident) (names : NewNames) (firsts : List Bool) (ms slice : List X) (open_names : OpenNames X) (held : List X)
      → open_names.scopes.now ≡ s → open_names.locals.now ≡ held → held ≡ ls
      → lacks ≡ false → AreNew (innermost s.open_blocks) xs names → firsts ≡ names.firsts.items → slice ≡ ms
      → ns' ≡ ns ++ rules.notes (open_look outside open_names) firsts p → ms ≡ each_means (rules.means (open_look outside open_names) firsts p) 0 xs
      → OnOk r (fs' ≡ fs ++ found_faults is_short names.shorts.items (map (λ i. i.now) names.idents.items)) → OnOk r (name_scene s' ls' ≡ locals_declared (name_scene s ls) (map (λ i. i.now) names.idents.items) slice)
      → OnOk r (IsAhead X N outside (state rules s ls ns fs lacks) (λ rest. Declare (manner_of is_short) from p xs rest) (state rules s' ls' ns' fs' lacks))
  declared_at r rules s s' ls ls' ns ns' fs fs' lacks is_short from p xs names firsts ms slice open_names held at_scopes at_locals is_held ample new is_first is_slice notes means =
      let same : open_look outside open_names ≡ look_in_scope outside s ls = ap (λ t. look_in_scope outside t open_names.locals.now) at_scopes ∙ ap (look_in_scope outside s) (at_locals ∙ is_held) in
      declared_by r rules s s' ls ls' ns ns' fs fs' lacks is_short from p xs names firsts ms slice ample new is_first is_slice
      (notes ∙ ap (λ l. ns ++ rules.notes l firsts p) same) (means ∙ ap (λ l. each_means (rules.means l firsts p) 0 xs) same)
