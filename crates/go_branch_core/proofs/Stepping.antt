-- One step: a piece is checked, or names are declared by one.
use Rattle.std.proofs.Common.{◌≡◌, ℕ, Bool, false, Result, Ok, Err, List, [], ◌∷◌, ◌++◌, map, refl, sym, ap, subst, ◌∙◌}
use Rattle.std.proofs.lemmas.List.{append-nil}
use Rattle.std.specs.Result.{OnOk, is_err}
use Rattle.go_tree_nodes.specs.declared.stmts.Simple.{Simple}
use Rattle.go_tree_nodes.specs.declared.stmts.Simple.TheVariants as simple
use Rattle.go_tree_nodes.specs.Shapes.{shape_simple}
use Rattle.go_local_core.specs.Outline.{simple_steps}
use Rattle.go_tree_nodes.specs.declared.names.Ident.{Ident}
use Rattle.go_local_core.specs.scope_stack.declared.DeclId.{DeclId}
use Rattle.go_local_core.specs.scope_stack.Blocks.{innermost, block_after, short_names, is_short_new}
use Rattle.go_scope_core.specs.block_core.Blocks.{BlocksModel}
use Rattle.go_scope_core.specs.Models.{ScopesModel, scopes_model}
use Rattle.go_local_core.specs.declared.Fault.{Fault}
use Rattle.go_local_core.specs.Steps.{Piece, Act, Newness, Steps, Check, Declare, spell_piece}
use Rattle.go_local_core.specs.Faults.{name_faults, spellings}
use Rattle.go_local_core.specs.Short.{meant}
use Rattle.go_local_core.specs.Binding.{NameLook}
use Rattle.go_local_core.specs.Law.{Rules}
use Rattle.go_local_core.specs.Alike.{LookAtNames}
use Rattle.go_local_core.specs.mirrors.Walk.{Names, look_in, news, names_of, with_names, walk_out}
use Rattle.go_local_core.proofs.Short.{news_are_short, with_names_after}
use Rattle.go_names_core.specs.declared.meaning.Outside.{Outside}
use Rattle.go_names_core.specs.declared.look.OpenNames.{OpenNames}
use Rattle.go_names_core.specs.declared.declaring.NewNames.{NewNames}
use Rattle.go_names_core.specs.Body.{each_means}
use Rattle.go_names_core.specs.Scope.{look_in_scope, open_look, beyond_in}
use Rattle.go_names_core.specs.mirrors.Declaring.{manner_of, found_faults, AreNew}
use Rattle.go_names_core.specs.Scenes.{NameScene, name_scene, news_at, locals_declared}
use Rattle.go_names_core.specs.mirrors.Run.{Noted, noted, also}
use Rattle.go_names_core.specs.mirrors.States.{State, state}
use Rattle.go_names_core.specs.mirrors.StateLaws.{also_assoc}
use Rattle.go_names_core.proofs.BodyLemmas.{when_ok}
use Rattle.go_names_core.proofs.FaultLemmas.{found_are}
use Rattle.go_names_core.proofs.Runs.{Shows, ShowAll, show_all_more, shorts_same, innermost_push, looks_same, declares_same, distinct_names, all_alike, flat, noted_of}
use Rattle.go_branch_core.specs.mirrors.Ways.{IsOpen, Comes, ComesTo}

module _ {X N : Type 0} (outside : Outside → X) (rules : Rules X N) (at_names : LookAtNames X N rules) where
  -- what names mean where these are open
  looks_are : (around : BlocksModel) (file : ℕ) (s : ScopesModel) (ms : List X) (cs : List (Names X)) (c : Names X) → IsOpen X around file (name_scene s ms) cs c
      → (n : List ℕ) (p : ℕ) → look_in_scope outside s ms n p ≡ look_in (beyond_in outside around file) (flat cs ++ c) n p
  looks_are around file s ms cs c opens n p =
      ap (λ t. look_in_scope outside t ms n p) opens.is ∙ looks_same X N rules at_names outside around file ms opens.outer opens.block cs c opens.shown opens.here opens.distinct opens.first n p

  -- a piece is checked
  pub checked : (s : ScopesModel) (ms : List X) (ns ns' : List N) (fs : List Fault) (p : Piece) → ns' ≡ ns ++ rules.notes (look_in_scope outside s ms) [] p
      → Comes X N outside (state rules s ms ns fs false) (λ rest. Check p rest) (state rules s ms ns' fs false)
  checked s ms ns ns' fs p e = record {
    rules = refl;
    goes = λ around file cs c opens.
        let look : NameLook X = look_in_scope outside s ms in
        let other : NameLook X = look_in (beyond_in outside around file) (flat cs ++ c) in
        let same : rules.notes look [] p ≡ rules.notes other [] p = at_names.notes look other [] p (all_alike look other (looks_are around file s ms cs c opens) (spell_piece p)) in
        let out : ℕ → ℕ → Steps → Noted N = λ o e ss. noted_of (walk_out rules (beyond_in outside around file) (flat cs) c o e ss) in
        let now : also (noted ns fs) (noted (rules.notes other [] p) []) ≡ noted ns' fs = ap (noted (ns ++ rules.notes other [] p)) (append-nil fs) ∙ ap (λ l. noted l fs) (ap (λ l. ns ++ l) (sym same) ∙ sym e) in
        (c, (opens, λ o q rest. sym (also_assoc (noted ns fs) (noted (rules.notes other [] p) []) (out o q rest)) ∙ ap (λ k. also k (out o q rest)) now));
  }

  -- names are declared by a piece
  pub declared : (s s' : ScopesModel) (ls ls' : List X) (ns ns' : List N) (fs fs' : List Fault) (m : Newness) (from : ℕ) (p : Piece) (xs : List Ident) (firsts : List Bool) (ms : List X)
      → firsts ≡ news_at (name_scene s ls) xs → ns' ≡ ns ++ rules.notes (look_in_scope outside s ls) firsts p → ms ≡ each_means (rules.means (look_in_scope outside s ls) firsts p) 0 xs → fs' ≡ fs ++ name_faults m firsts xs → name_scene s' ls' ≡ locals_declared (name_scene s ls) xs ms
      → Comes X N outside (state rules s ls ns fs false) (λ rest. Declare m from p xs rest) (state rules s' ls' ns' fs' false)
  declared s s' ls ls' ns ns' fs fs' m from p xs firsts ms is_news notes means faults after = record {
    rules = refl;
    goes = λ around file cs c opens.
        let b : List (List ℕ × DeclId) = opens.block in
        let look : NameLook X = look_in_scope outside s ls in
        let other : NameLook X = look_in (beyond_in outside around file) (flat cs ++ c) in
        let alike = all_alike look other (looks_are around file s ls cs c opens) (spell_piece p) in
        let new : List Bool = news (names_of c) xs in
        let same_news : firsts ≡ new =
        is_news
        ∙ (ap (λ (t : ScopesModel). map is_short_new (short_names (innermost t.open_blocks) (spellings xs))) opens.is
        ∙ (ap (λ i. map is_short_new (short_names i (spellings xs))) (innermost_push opens.outer b)
        ∙ (ap (map is_short_new) (shorts_same ls b c opens.here (spellings xs) []) ∙ sym (news_are_short c xs)))) in
        let same_notes : rules.notes look firsts p ≡ rules.notes other new p = ap (λ l. rules.notes look l p) same_news ∙ at_names.notes look other new p alike in
        let meant_so : ℕ → X = rules.means other new p in
        let same_means : rules.means look firsts p ≡ meant_so = ap (λ l. rules.means look l p) same_news ∙ at_names.means look other new p alike in
        let more : List X = each_means meant_so 0 xs in
        let next = declares_same X N rules at_names outside around file meant_so xs 0 ls opens.outer b c opens.here in
        let there : name_scene s' ls' ≡ name_scene (scopes_model around file (opens.outer ++ next.0 ∷ [])) (ls ++ more) =
        after
        ∙ (ap (locals_declared (name_scene s ls) xs) (means ∙ ap (λ g. each_means g 0 xs) same_means)
        ∙ (ap (λ t. locals_declared (name_scene t ls) xs more) opens.is ∙ next.1)) in
        let locals_are : ls' ≡ ls ++ more = ap (λ (t : NameScene X). t.locals) there in
        let d : Names X = block_after c (meant meant_so 0 xs) in
        let out : Names X → ℕ → ℕ → Steps → Noted N = λ l o e ss. noted_of (walk_out rules (beyond_in outside around file) (flat cs) l o e ss) in
        let one : Noted N = noted (rules.notes other new p) (name_faults m new xs) in
        let now : also (noted ns fs) one ≡ noted ns' fs' =
        ap (λ l. noted l (fs ++ name_faults m new xs)) (ap (λ l. ns ++ l) (sym same_notes) ∙ sym notes) ∙ ap (noted ns') (ap (λ l. fs ++ name_faults m l xs) (sym same_news) ∙ sym faults) in (
          d,
          (
            record {
              outer = opens.outer;
              block = next.0;
              is = ap (λ (t : NameScene X). t.scopes) there;
              shown = subst (λ l. ShowAll l opens.outer cs) (sym locals_are) (show_all_more ls more opens.outer cs opens.shown);
              here = subst (λ l. Shows l next.0 d) (sym locals_are) next.2;
              distinct = opens.distinct;
              first = distinct_names meant_so xs c 0 opens.first;
            },
            λ o e rest.
                sym (also_assoc (noted ns fs) one (out (with_names c meant_so 0 xs) o e rest))
                ∙ (ap (λ k. also k (out (with_names c meant_so 0 xs) o e rest)) now ∙ ap (λ l. also (noted ns' fs') (out l o e rest)) (with_names_after xs c meant_so 0)),
          ),
        );
  }

  -- the same, as the code has it
  declared_by : {T E : Type 0} (r : Result T E) (s s' : ScopesModel) (ls ls' : List X) (ns ns' : List N) (fs fs' : List Fault) (lacks is_short : Bool) (from : ℕ) (p : Piece) (xs : List Ident) (names : NewNames) (firsts : List Bool) (ms slice : List X)
      → lacks ≡ false → AreNew (innermost s.open_blocks) xs names → firsts ≡ names.firsts.items → slice ≡ ms
      → ns' ≡ ns ++ rules.notes (look_in_scope outside s ls) firsts p → ms ≡ each_means (rules.means (look_in_scope outside s ls) firsts p) 0 xs
      → OnOk r (fs' ≡ fs ++ found_faults is_short names.shorts.items (map (λ i. i.now) names.idents.items)) → OnOk r (name_scene s' ls' ≡ locals_declared (name_scene s ls) (map (λ i. i.now) names.idents.items) slice)
      → OnOk r (Comes X N outside (state rules s ls ns fs lacks) (λ rest. Declare (manner_of is_short) from p xs rest) (state rules s' ls' ns' fs' lacks))
  declared_by (Err e) s s' ls ls' ns ns' fs fs' lacks is_short from p xs names firsts ms slice ample new is_first is_slice notes means faults after = tt
  declared_by (Ok x) s s' ls ls' ns ns' fs fs' lacks is_short from p xs names firsts ms slice ample new is_first is_slice notes means faults after =
      let shorts = short_names (innermost s.open_blocks) (spellings xs) in
      let is_new : firsts ≡ news_at (name_scene s ls) xs = is_first ∙ new.2 in
      subst (λ l. Comes X N outside (state rules s ls ns fs l) (λ rest. Declare (manner_of is_short) from p xs rest) (state rules s' ls' ns' fs' l)) (sym ample)
      (declared s s' ls ls' ns ns' fs fs' (manner_of is_short) from p xs firsts ms is_new notes means
      (faults ∙ ap (λ l. fs ++ found_faults is_short l (map (λ i. i.now) names.idents.items)) new.1 ∙ ap (λ l. fs ++ found_faults is_short shorts l) new.0 ∙ ap (λ l. fs ++ l) (found_are is_short (innermost s.open_blocks) xs) ∙ ap (λ l. fs ++ name_faults (manner_of is_short) l xs) (sym is_new))
      (after ∙ ap (λ l. locals_declared (name_scene s ls) l slice) new.0 ∙ ap (locals_declared (name_scene s ls) xs) is_slice))

  -- the same, where the names that are open are given by what they stand on
  pub declared_at : {T E : Type 0} (r : Result T E) (s s' : ScopesModel) (ls ls' : List X) (ns ns' : List N) (fs fs' : List Fault) (lacks is_short : Bool) (from : ℕ) (p : Piece) (xs : List Ident) (names : NewNames) (firsts : List Bool) (ms slice : List X) (open_names : OpenNames X) (held : List X)
      → open_names.scopes.now ≡ s → open_names.locals.now ≡ held → held ≡ ls
      → lacks ≡ false → AreNew (innermost s.open_blocks) xs names → firsts ≡ names.firsts.items → slice ≡ ms
      → ns' ≡ ns ++ rules.notes (open_look outside open_names) firsts p → ms ≡ each_means (rules.means (open_look outside open_names) firsts p) 0 xs
      → OnOk r (fs' ≡ fs ++ found_faults is_short names.shorts.items (map (λ i. i.now) names.idents.items)) → OnOk r (name_scene s' ls' ≡ locals_declared (name_scene s ls) (map (λ i. i.now) names.idents.items) slice)
      → OnOk r (Comes X N outside (state rules s ls ns fs lacks) (λ rest. Declare (manner_of is_short) from p xs rest) (state rules s' ls' ns' fs' lacks))
  declared_at r s s' ls ls' ns ns' fs fs' lacks is_short from p xs names firsts ms slice open_names held at_scopes at_locals is_held ample new is_first is_slice notes means =
      let same : open_look outside open_names ≡ look_in_scope outside s ls = ap (λ t. look_in_scope outside t open_names.locals.now) at_scopes ∙ ap (look_in_scope outside s) (at_locals ∙ is_held) in
      declared_by r s s' ls ls' ns ns' fs fs' lacks is_short from p xs names firsts ms slice ample new is_first is_slice
      (notes ∙ ap (λ l. ns ++ rules.notes l firsts p) same) (means ∙ ap (λ l. each_means (rules.means l firsts p) 0 xs) same)

-- a statement that may stand in a header and declares nothing is a piece
pub plain : (s : Simple) → ((d : _) → s ≡ simple.Define d → ⊥) → ◌≡◌ {A = Steps → Steps} (λ rest. simple_steps (shape_simple s) rest) (λ rest. Check (Act (shape_simple s)) rest)
plain (simple.Expr e) apart = refl
plain (simple.Step e op span) apart = refl
plain (simple.Assign x) apart = refl
plain (simple.Update u) apart = refl
plain (simple.Define d) apart = absurd (apart d refl)

module _ {X N : Type 0} (outside : Outside → X) where
  -- what a call leads to, where its outcome tells whether memory was wanting
  pub done_if : {T E : Type 0} (r : Result T E) (a : State X N) (steps : Steps → Steps) (rules : Rules X N) (s : ScopesModel) (ms : List X) (ns : List N) (fs : List Fault) (other lacks : Bool)
      → a.lacks_memory ≡ false → lacks ≡ is_err r → OnOk r (Comes X N outside a steps (state rules s ms ns fs other)) → ComesTo outside a steps (state rules s ms ns fs lacks)
  done_if r a steps rules s ms ns fs other lacks ample is comes ok = let there = when_ok r lacks is ok comes in (ample, record { rules = there.rules; goes = there.goes })

  module _ (rules : Rules X N) (at_names : LookAtNames X N rules) where
    pub checked_at : {T E : Type 0} (r : Result T E) (s : ScopesModel) (ls : List X) (ns ns' : List N) (fs : List Fault) (lacks lacks' : Bool) (p : Piece) (open_names : OpenNames X) (held : List X)
        → open_names.scopes.now ≡ s → open_names.locals.now ≡ held → held ≡ ls → lacks ≡ false → lacks' ≡ is_err r → OnOk r (ns' ≡ ns ++ rules.notes (open_look outside open_names) [] p)
        → ComesTo outside (state rules s ls ns fs lacks) (λ rest. Check p rest) (state rules s ls ns' fs lacks')
    checked_at r s ls ns ns' fs lacks lacks' p open_names held at_scopes at_locals is_held ample is noted_so ok =
        let same : open_look outside open_names ≡ look_in_scope outside s ls = ap (λ t. look_in_scope outside t open_names.locals.now) at_scopes ∙ ap (look_in_scope outside s) (at_locals ∙ is_held) in
        let there = checked outside rules at_names s ls ns ns' fs p (when_ok r lacks' is ok noted_so ∙ ap (λ l. ns ++ rules.notes l [] p) same) in
        (ample, record { rules = there.rules; goes = there.goes })
