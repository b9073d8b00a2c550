-- What a scope finds where a piece is checked, and what the intervals give there.
use Rattle.std.proofs.Common.{◌≡◌, ℕ, List, [], ◌∷◌, ◌++◌, map, Option, refl, sym, ap, ◌∙◌}
use Rattle.std.proofs.lemmas.List.{map-append}
use Rattle.go_scope_core.specs.text_core.declared.span.Span.{Span}
use Rattle.go_tree_nodes.specs.Terminals.{Terminal, TerminalKind, Spelled, Number, Quoted, Word, Mark, Stray}
use Rattle.go_scope_core.specs.Models.{scopes_model}
use Rattle.go_local_core.specs.Steps.{Piece, Steps, Done, Check, Declare, Inner, spell_piece}
use Rattle.go_local_core.specs.Outline.{func_steps, func_opens, func_closes}
use Rattle.go_local_core.specs.Binding.{Local, NameLook, bound, is_first}
use Rattle.go_local_core.specs.Law.{Rules, Out, law_out, declared_from}
use Rattle.go_local_core.specs.Alike.{AlikeAt, Alike, LookAtNames}
use Rattle.go_local_core.specs.Tables.{walked, out_by_intervals, IsTable}
use Rattle.go_local_core.proofs.Tables.{one_table}
use Rattle.go_names_core.specs.declared.meaning.Outside.{Outside}
use Rattle.go_names_core.specs.Scope.{beyond_in}
use Rattle.go_names_core.specs.Scenes.{NameScene, name_scene, look_at, entered, piece_declared, locals_after, scenes, function_scenes, AreSeen, OpenNamesAreBound}
use Rattle.go_names_core.specs.mirrors.Run.{Noted, run}
use Rattle.go_names_core.proofs.Runs.{run_is}

-- what the names among terminals mean
abbrev pub seen_at : {X : Type 0} → NameLook X → TerminalKind → Span → List (Option X)
seen_at look (Spelled n) s = look n s.start ∷ []
seen_at look (Number n) s = []
seen_at look (Quoted bs) s = []
seen_at look (Word k) s = []
seen_at look (Mark o) s = []
seen_at look Stray s = []

abbrev pub seen : {X : Type 0} → NameLook X → List Terminal → List (Option X)
seen look [] = []
seen look (t ∷ ts) = seen_at look t.kind t.span ++ seen look ts

module _ {X : Type 0} (look other : NameLook X) where
  seen_same : (ts : List Terminal) → Alike look other ts → seen look ts ≡ seen other ts
  seen_same [] h = refl
  seen_same (t ∷ ts) h = by t.kind h.0 ∙ ap (λ l. seen_at other t.kind t.span ++ l) (seen_same ts h.1)
    where
      by : (k : TerminalKind) → AlikeAt look other k t.span → seen_at look k t.span ++ seen look ts ≡ seen_at other k t.span ++ seen look ts
      by (Spelled n) e = ap (λ o. o ∷ seen look ts) e
      by (Number n) e = refl
      by (Quoted bs) e = refl
      by (Word k) e = refl
      by (Mark o) e = refl
      by Stray e = refl

  alike_seen : (ts : List Terminal) → seen look ts ≡ seen other ts → Alike look other ts
  alike_seen [] e = tt
  alike_seen (t ∷ ts) e = by t.kind e (alike_seen ts)
    where
      by : (k : TerminalKind) → seen_at look k t.span ++ seen look ts ≡ seen_at other k t.span ++ seen other ts → (seen look ts ≡ seen other ts → Alike look other ts) → AlikeAt look other k t.span × Alike look other ts
      by (Spelled n) e rest = (let here : look n t.span.start ≡ other n t.span.start = cc in let more : seen look ts ≡ seen other ts = cc in (here, rest more))
      by (Number n) e rest = (tt, rest e)
      by (Quoted bs) e rest = (tt, rest e)
      by (Word k) e rest = (tt, rest e)
      by (Mark o) e rest = (tt, rest e)
      by Stray e rest = (tt, rest e)

module _ (X N : Type 0) (rules : Rules X N) (at_names : LookAtNames X N rules) where
  -- what names mean, and for each piece what the names that it writes mean
  abbrev pub seeing : Rules X (List (Option X))
  seeing = record { notes = λ look firsts p. seen look (spell_piece p) ∷ []; means = rules.means }

  sees_names : LookAtNames X (List (Option X)) seeing
  sees_names = record { notes = λ look other firsts p h. ap (λ l. l ∷ []) (seen_same look other (spell_piece p) h); means = at_names.means }

  module _ (outside : Outside → X) where
    abbrev pub seen_in : Piece × NameScene X → List (Option X)
    seen_in e = seen (look_at outside e.1) (spell_piece e.0)

    scenes_seen : (ss : Steps) (s : NameScene X) → ((run seeing outside s ss).noted.notes ≡ map seen_in (scenes rules outside s ss)) × ((run seeing outside s ss).locals ≡ locals_after rules outside s ss)
    scenes_seen Done s = (refl, refl)
    scenes_seen (Check p rest) s = let more = scenes_seen rest s in (ap (λ l. seen_in (p, s) ∷ l) more.0, more.1)
    scenes_seen (Declare m from p xs rest) s = let more = scenes_seen rest (piece_declared rules outside s p xs) in (ap (λ l. seen_in (p, s) ∷ l) more.0, more.1)
    scenes_seen (Inner o c steps rest) s =
        let inner = scenes_seen steps (entered s) in
        let next : List X → NameScene X = name_scene s.scopes in
        let more = scenes_seen rest (next (locals_after rules outside (entered s) steps)) in (
          ap (λ l. (run seeing outside (entered s) steps).noted.notes ++ (run seeing outside (next l) rest).noted.notes) inner.1
              ∙ (ap (λ l. l ++ (run seeing outside (next (locals_after rules outside (entered s) steps)) rest).noted.notes) inner.0
              ∙ (ap (λ l. map seen_in (scenes rules outside (entered s) steps) ++ l) more.0
              ∙ sym (map-append seen_in (scenes rules outside (entered s) steps) (scenes rules outside (next (locals_after rules outside (entered s) steps)) rest)))),
          ap (λ l. (run seeing outside (next l) rest).locals) inner.1 ∙ more.1,
        )

    -- the same pieces, by the intervals
    abbrev pub bound_in : (List ℕ → Option X) → List (Local X) → Piece × NameScene X → List (Option X)
    bound_in beyond all e = seen (bound beyond all) (spell_piece e.0)

    given_seen : (beyond : List ℕ → Option X) (all : List (Local X)) (ss : Steps) (s : NameScene X) (o c : ℕ) → (law_out seeing beyond all o c ss).notes ≡ map (bound_in beyond all) (scenes rules outside s ss)
    given_seen beyond all Done s o c = refl
    given_seen beyond all (Check p rest) s o c = ap (λ l. seen (bound beyond all) (spell_piece p) ∷ l) (given_seen beyond all rest s o c)
    given_seen beyond all (Declare m from p xs rest) s o c = ap (λ l. seen (bound beyond all) (spell_piece p) ∷ l) (given_seen beyond all rest (piece_declared rules outside s p xs) o c)
    given_seen beyond all (Inner o' c' steps rest) s o c =
        let next : NameScene X = name_scene s.scopes (locals_after rules outside (entered s) steps) in
        ap (λ l. l ++ (law_out seeing beyond all o c rest).notes) (given_seen beyond all steps (entered s) o' c')
        ∙ (ap (λ l. map (bound_in beyond all) (scenes rules outside (entered s) steps) ++ l) (given_seen beyond all rest next o c)
        ∙ sym (map-append (bound_in beyond all) (scenes rules outside (entered s) steps) (scenes rules outside next rest)))

    same_declares : (beyond : List ℕ → Option X) (all : List (Local X)) (ss : Steps) (o c : ℕ) → (law_out rules beyond all o c ss).declares ≡ (law_out seeing beyond all o c ss).declares
    same_declares beyond all Done o c = refl
    same_declares beyond all (Check p rest) o c = same_declares beyond all rest o c
    same_declares beyond all (Declare m from p xs rest) o c = ap (λ l. declared_from o c from (rules.means (bound beyond all) (map (is_first all o) xs) p) 0 xs ++ l) (same_declares beyond all rest o c)
    same_declares beyond all (Inner o' c' steps rest) o c =
        ap (λ l. l ++ (law_out rules beyond all o c rest).declares) (same_declares beyond all steps o' c')
        ∙ ap (λ l. (law_out seeing beyond all o' c' steps).declares ++ l) (same_declares beyond all rest o c)

    each_alike : (beyond : List ℕ → Option X) (all : List (Local X)) (es : List (Piece × NameScene X)) → map seen_in es ≡ map (bound_in beyond all) es → AreSeen outside (bound beyond all) es
    each_alike beyond all [] h = tt
    each_alike beyond all (e ∷ es) h =
        let here : seen_in e ≡ bound_in beyond all e = cc in
        let more : map seen_in es ≡ map (bound_in beyond all) es = cc in
        (alike_seen (look_at outside e.1) (bound beyond all) (spell_piece e.0) here, each_alike beyond all es more)

pub open_names_are_bound : (X N : Type 0) → OpenNamesAreBound X N
open_names_are_bound X N rules at_names outside blocks file f placed all right =
    let beyond : List ℕ → Option X = beyond_in outside blocks file in
    let steps : Steps = func_steps f in
    let start : NameScene X = name_scene (scopes_model blocks file ([] ∷ [])) [] in
    let watch : Rules X (List (Option X)) = seeing X N rules at_names in
    let watched : LookAtNames X (List (Option X)) watch = sees_names X N rules at_names in
    let table = one_table X (List (Option X)) watch watched beyond f placed in
    let is_table : IsTable watch beyond f all = right ∙ same_declares X N rules at_names outside beyond all steps (func_opens f) (func_closes f) in
    let same : out_by_intervals watch beyond f all ≡ walked watch beyond f = ap (out_by_intervals watch beyond f) ((table.0 all).0 is_table) ∙ table.1 in
    let ran_is = run_is X (List (Option X)) watch watched outside blocks file steps [] [] [] [] [] (func_opens f) (func_closes f) tt tt tt (λ n. refl) in
    each_alike X N rules at_names outside beyond all (function_scenes rules outside blocks file f)
    (sym (scenes_seen X N rules at_names outside steps start).0 ∙ (ap (λ (n : Noted (List (Option X))). n.notes) ran_is.0
    ∙ (ap (λ (o : Out X (List (Option X))). o.notes) (sym same) ∙ given_seen X N rules at_names outside beyond all steps start (func_opens f) (func_closes f))))
