-- Ways one after the other, and ways through blocks: what the laws of a walk rest on.
use Rattle.std.proofs.Common.{◌≡◌, ℕ, List, [], ◌∷◌, ◌++◌, refl, sym, ap, subst, ◌∙◌}
use Rattle.go_local_core.specs.scope_stack.declared.DeclId.{DeclId}
use Rattle.go_scope_core.specs.block_core.Blocks.{BlocksModel}
use Rattle.go_scope_core.specs.Models.{ScopesModel, scopes_model}
use Rattle.go_scope_core.specs.Scopes.{with_open}
use Rattle.go_local_core.specs.Steps.{Steps, Done, Inner}
use Rattle.go_local_core.specs.Law.{Rules}
use Rattle.go_local_core.specs.mirrors.Walk.{Names, walk_out}
use Rattle.go_names_core.specs.declared.meaning.Outside.{Outside}
use Rattle.go_names_core.specs.Scope.{beyond_in}
use Rattle.go_names_core.specs.Scenes.{entered}
use Rattle.go_names_core.specs.mirrors.Run.{Noted, noted, also}
use Rattle.go_names_core.specs.mirrors.States.{Blocks, State, EntersTo, LeavesTo}
use Rattle.go_names_core.specs.mirrors.StateLaws.{also_assoc, also_none}
use Rattle.go_names_core.proofs.Runs.{Distinct, Shows, ShowAll, show_all_push, each_push, flat, flat_push, noted_of}
use Rattle.go_branch_core.specs.mirrors.Ways.{IsOpen, ComesTo, EndsTo}

-- the last of some blocks, and those before it
abbrev HasLast : {X : Type 0} → List X → Blocks → List (Names X) → Names X → Type 0
HasLast ms bs cs c = (outer : Blocks) × ((block : List (List ℕ × DeclId)) × ((bs ≡ outer ++ block ∷ []) × (ShowAll ms outer cs × Shows ms block c)))

shows_one : {X : Type 0} (ms : List X) (b : List (List ℕ × DeclId)) (bs : Blocks) (c : Names X) → ShowAll ms (b ∷ bs) (c ∷ []) → HasLast ms (b ∷ bs) [] c
shows_one ms b [] c h = ([], (b, (refl, (tt, h.0))))
shows_one ms b (y ∷ bs) c h = absurd h.1

shows_last : {X : Type 0} (ms : List X) (bs : Blocks) (cs : List (Names X)) (c : Names X) → ShowAll ms bs (cs ++ c ∷ []) → HasLast ms bs cs c
shows_last ms [] [] c h = absurd h
shows_last ms [] (x ∷ cs) c h = absurd h
shows_last ms (b ∷ bs) [] c h = shows_one ms b bs c h
shows_last ms (b ∷ bs) (x ∷ cs) c h = let more = shows_last ms bs cs c h.1 in (b ∷ more.0, (more.1.0, (ap (λ l. b ∷ l) more.1.1.0, ((h.0, more.1.1.1.0), more.1.1.1.1))))

-- a scope, from its parts
scope_is : (s : ScopesModel) (around : BlocksModel) (file : ℕ) (open_blocks : Blocks) → s.blocks ≡ around → s.file ≡ file → s.open_blocks ≡ open_blocks → s ≡ scopes_model around file open_blocks
scope_is s around file open_blocks e f g = ap (λ b. scopes_model b s.file s.open_blocks) e ∙ (ap (λ n. scopes_model around n s.open_blocks) f ∙ ap (scopes_model around file) g)

module _ {X N : Type 0} (outside : Outside → X) where
  pub comes_none : (a : State X N) → ComesTo outside a (λ rest. rest) a
  comes_none a ok = (ok, record { rules = refl; goes = λ around file cs c opens. (c, (opens, λ o e rest. refl)) })

  pub comes_more : (a b c : State X N) (f g : Steps → Steps) → ComesTo outside a f b → ComesTo outside b g c → ComesTo outside a (λ rest. f (g rest)) c
  comes_more a b c f g before after ok =
      let there = after ok in
      let here = before there.0 in (
        here.0,
        record {
          rules = there.1.rules ∙ here.1.rules;
          goes = λ around file cs n opens.
              let one = here.1.goes around file cs n opens in
              let two = there.1.goes around file cs one.0 one.1.0 in
              let out : Rules X N → Names X → ℕ → ℕ → Steps → Noted N = λ r m o e ss. noted_of (walk_out r (beyond_in outside around file) (flat cs) m o e ss) in
              (two.0, (two.1.0, λ o e rest. one.1.1 o e (g rest) ∙ subst (λ r. also b.noted (out r one.0 o e (g rest)) ≡ also c.noted (out r two.0 o e rest)) here.1.rules (two.1.1 o e rest)));
        },
      )

  -- the last steps of a block are steps after which nothing comes
  pub ended : (a b : State X N) (f : Steps → Steps) → ComesTo outside a f b → EndsTo outside a f b
  ended a b f comes ok =
      let along = comes ok in (
        along.0,
        record {
          rules = along.1.rules;
          goes = λ around file cs c opens. let one = along.1.goes around file cs c opens in (one.0, (one.1.0, λ o e. one.1.1 o e Done ∙ also_none b.noted));
        },
      )

  -- steps, and then the last ones
  pub ends_more : (a b c : State X N) (f g : Steps → Steps) → ComesTo outside a f b → EndsTo outside b g c → EndsTo outside a (λ rest. f (g rest)) c
  ends_more a b c f g before after ok =
      let there = after ok in
      let here = before there.0 in (
        here.0,
        record {
          rules = there.1.rules ∙ here.1.rules;
          goes = λ around file cs n opens.
              let one = here.1.goes around file cs n opens in
              let two = there.1.goes around file cs one.0 one.1.0 in
              let out : Rules X N → Names X → ℕ → ℕ → Steps → Noted N = λ r m o e ss. noted_of (walk_out r (beyond_in outside around file) (flat cs) m o e ss) in
              (two.0, (two.1.0, λ o e. one.1.1 o e (g Done) ∙ subst (λ r. also b.noted (out r one.0 o e (g Done)) ≡ c.noted) here.1.rules (two.1.1 o e)));
        },
      )

  -- a block inside, whose last steps these are
  pub ends_inner : (a b c d : State X N) (f : Steps → Steps) (o e : ℕ) → EntersTo a b → EndsTo outside b f c → LeavesTo c d → ComesTo outside a (λ rest. Inner o e (f Done) rest) d
  ends_inner a b c d f o e enters ends leaves ok =
      let left = leaves ok in
      let along = ends left.0 in
      let in_block = enters along.0 in
      let rules : d.rules ≡ a.rules = left.1 ∙ (along.1.rules ∙ in_block.1) in (
        in_block.0,
        record {
          rules = rules;
          goes = λ around file cs n opens.
              let beyond = beyond_in outside around file in
              let out : Rules X N → List (Names X) → Names X → ℕ → ℕ → Steps → Noted N = λ r ns m o e ss. noted_of (walk_out r beyond (flat ns) m o e ss) in
              let begun : IsOpen X around file (entered a.scene) (cs ++ n ∷ []) [] = record {
                outer = opens.outer ++ opens.block ∷ [];
                block = [];
                is = ap (λ (s : ScopesModel). with_open s (s.open_blocks ++ [] ∷ [])) opens.is;
                shown = show_all_push a.scene.locals opens.outer cs opens.block n opens.shown opens.here;
                here = tt;
                distinct = each_push Distinct cs n opens.distinct opens.first;
                first = λ m. refl;
              } in
              let inside : IsOpen X around file b.scene (cs ++ n ∷ []) [] = subst (λ s. IsOpen X around file s (cs ++ n ∷ []) []) (sym in_block.2) begun in
              let one = along.1.goes around file (cs ++ n ∷ []) [] inside in
              let last = shows_last c.scene.locals one.1.0.outer cs n one.1.0.shown in
              let closed : d.scene.scopes.open_blocks ≡ one.1.0.outer = left.5 one.1.0.outer one.1.0.block (ap (λ (s : ScopesModel). s.open_blocks) one.1.0.is) in
              let blocks_same : d.scene.scopes.blocks ≡ around = left.2.0 ∙ ap (λ (s : ScopesModel). s.blocks) one.1.0.is in
              let file_same : d.scene.scopes.file ≡ file = left.2.1 ∙ ap (λ (s : ScopesModel). s.file) one.1.0.is in
              let noted_there : also a.noted (noted_of (walk_out a.rules beyond (flat cs ++ n) [] o e (f Done))) ≡ d.noted =
              ap (λ l. also a.noted (noted_of (walk_out a.rules beyond l [] o e (f Done)))) (sym (flat_push cs n))
              ∙ (ap (λ k. also k (out a.rules (cs ++ n ∷ []) [] o e (f Done))) (sym in_block.3)
              ∙ (ap (λ r. also b.noted (out r (cs ++ n ∷ []) [] o e (f Done))) (sym in_block.1)
              ∙ (one.1.1 o e ∙ sym left.4))) in (
                n,
                (
                  record {
                    outer = last.0;
                    block = last.1.0;
                    is = scope_is d.scene.scopes around file (last.0 ++ last.1.0 ∷ []) blocks_same file_same (closed ∙ last.1.1.0);
                    shown = subst (λ ms. ShowAll ms last.0 cs) (sym left.3) last.1.1.1.0;
                    here = subst (λ ms. Shows ms last.1.0 n) (sym left.3) last.1.1.1.1;
                    distinct = opens.distinct;
                    first = opens.first;
                  },
                  λ p q rest. sym (also_assoc a.noted (noted_of (walk_out a.rules beyond (flat cs ++ n) [] o e (f Done))) (out a.rules cs n p q rest)) ∙ ap (λ k. also k (out a.rules cs n p q rest)) noted_there,
                ),
              );
        },
      )

  pub comes_inner : (a b c d : State X N) (f : Steps → Steps) (o e : ℕ) → EntersTo a b → ComesTo outside b f c → LeavesTo c d → ComesTo outside a (λ rest. Inner o e (f Done) rest) d
  comes_inner a b c d f o e enters comes leaves = ends_inner a b c d f o e enters (ended b c f comes) leaves
