-- What is noted on the way through a function with the blocks of a scope, is what the walk notes with open names.
use Rattle.std.proofs.Common.{◌≡◌, ℕ, suc, ◌<◌, Bool, true, false, cond, not, ◌&&◌, List, [], ◌∷◌, ◌++◌, length, map, Option, Some, None, is_some, refl, sym, ap, subst, ◌∙◌, arith}
use Rattle.std.proofs.lemmas.Option.{slice_get_within, slice_get-get_or, get_or_from_slice_get}
use Rattle.std.specs.Prelude.{if◌then◌else◌, slice_get}
use Rattle.std.specs.Str.{bytes_eq}
use Rattle.std.proofs.lemmas.Slice.Eq.{bytes_eq-Decides}
use Rattle.std.proofs.lemmas.List.{append_assoc, append-nil, length-append, get_or_append_left, get_or_push}
use Rattle.go_scope_core.specs.text_core.Text.{is_blank}
use Rattle.go_tree_nodes.specs.declared.names.Ident.{Ident}
use Rattle.go_tree_nodes.specs.Terminals.{Terminal, TerminalKind, Spelled, Number, Quoted, Word, Mark, Stray}
use Rattle.go_local_core.specs.scope_stack.declared.DeclId.{DeclId}
use Rattle.go_local_core.specs.scope_stack.Blocks.{in_block, or_else, found_in, innermost, with_innermost, block_after, short_name, short_names, short_names_behind, is_short_new}
use Rattle.go_local_core.specs.scope_stack.Blocks as open_blocks
use Rattle.go_local_core.specs.scope_stack.declared.short.ShortName.TheVariants.{New, Old, Blank, Repeated}
use Rattle.go_scope_core.specs.block_core.Blocks.{BlocksModel}
use Rattle.go_scope_core.specs.Models.{scopes_model}
use Rattle.go_local_core.specs.Steps.{Steps, Done, Check, Declare, Inner, spell_piece}
use Rattle.go_local_core.specs.Binding.{NameLook}
use Rattle.go_local_core.specs.Law.{Rules, Out}
use Rattle.go_local_core.specs.Faults.{name_faults, spellings}
use Rattle.go_local_core.specs.Short.{meant}
use Rattle.go_local_core.specs.mirrors.Walk.{Names, latest, look_in, news, names_of, walk_out}
use Rattle.go_local_core.specs.Alike.{AlikeAt, Alike, LookAtNames}
use Rattle.go_local_core.proofs.Short.{news_are_short, with_names_after}
use Rattle.go_names_core.specs.declared.meaning.Outside.{Outside}
use Rattle.go_names_core.specs.Body.{each_means}
use Rattle.go_names_core.specs.Scope.{beyond_in}
use Rattle.go_names_core.specs.Scenes.{NameScene, name_scene, look_at, news_at, locals_declared}
use Rattle.go_names_core.specs.mirrors.Run.{Noted, noted, also, Ran, before, run}
use Rattle.go_names_core.specs.mirrors.States.{Blocks}
use Rattle.go_names_core.proofs.ScopeLemmas.{meant_or, scope_means}

abbrev pub EachBlock : {X : Type 0} → (Names X → Type 0) → List (Names X) → Type 0
EachBlock P [] = Unit {0}
EachBlock P (b ∷ bs) = P b × EachBlock P bs

-- the first of a name is the latest
abbrev pub Distinct : {X : Type 0} → Names X → Type 0
Distinct block = (n : List ℕ) → in_block block n ≡ latest block n

abbrev pub flat : {X : Type 0} → List (Names X) → Names X
flat [] = []
flat (b ∷ bs) = b ++ flat bs

pub innermost_push : {X : Type 0} (bs : List (List (List ℕ × X))) (b : List (List ℕ × X)) → innermost (bs ++ b ∷ []) ≡ b
innermost_push [] b = refl
innermost_push (x ∷ []) b = refl
innermost_push (x ∷ y ∷ bs) b = innermost_push (y ∷ bs) b

pub with_innermost_push : {X : Type 0} (bs : List (List (List ℕ × X))) (b new : List (List ℕ × X)) → with_innermost (bs ++ b ∷ []) new ≡ bs ++ new ∷ []
with_innermost_push [] b new = refl
with_innermost_push (x ∷ []) b new = refl
with_innermost_push (x ∷ y ∷ bs) b new = ap (λ l. x ∷ l) (with_innermost_push (y ∷ bs) b new)

or_else_none : {X : Type 0} (o : Option X) → or_else o None ≡ o
or_else_none (Some x) = refl
or_else_none None = refl

or_else_assoc : {X : Type 0} (a b c : Option X) → or_else (or_else a b) c ≡ or_else a (or_else b c)
or_else_assoc (Some x) b c = refl
or_else_assoc None b c = refl

latest_append : {X : Type 0} (xs ys : Names X) (n : List ℕ) → latest (xs ++ ys) n ≡ or_else (latest ys n) (latest xs n)
latest_append [] ys n = sym (or_else_none (latest ys n))
latest_append (x ∷ xs) ys n = ap (λ o. or_else o (cond (bytes_eq n x.0) (Some x.1) None)) (latest_append xs ys n) ∙ or_else_assoc (latest ys n) (latest xs n) (cond (bytes_eq n x.0) (Some x.1) None)

found_latest : {X : Type 0} (bs : List (Names X)) → EachBlock Distinct bs → (n : List ℕ) → found_in bs n ≡ latest (flat bs) n
found_latest [] h n = refl
found_latest (b ∷ bs) h n = ap (λ o. or_else o (in_block b n)) (found_latest bs h.1 n) ∙ (ap (or_else (latest (flat bs) n)) (h.0 n) ∙ sym (latest_append b (flat bs) n))

in_block_push : {X : Type 0} (block : List (List ℕ × X)) (d : List ℕ × X) (n : List ℕ) → in_block (block ++ d ∷ []) n ≡ or_else (in_block block n) (cond (bytes_eq n d.0) (Some d.1) None)
in_block_push [] d n = refl
in_block_push (x ∷ xs) d n = ap (λ o. cond (bytes_eq n x.0) (Some x.1) o) (in_block_push xs d n) ∙ by (bytes_eq n x.0)
  where
    by : (b : Bool) → cond b (Some x.1) (or_else (in_block xs n) (cond (bytes_eq n d.0) (Some d.1) None)) ≡ or_else (cond b (Some x.1) (in_block xs n)) (cond (bytes_eq n d.0) (Some d.1) None)
    by true = refl
    by false = refl

not_some : {X : Type 0} (o : Option X) → is_some o ≡ false → o ≡ None
not_some None h = refl
not_some (Some x) h = absurd (cc)

distinct_push : {X : Type 0} (b : Names X) (d : List ℕ × X) → is_some (in_block b d.0) ≡ false → Distinct b → Distinct (b ++ d ∷ [])
distinct_push b d h k n = in_block_push b d n ∙ (by (bytes_eq n d.0) refl ∙ sym (latest_append b (d ∷ []) n))
  where
    by : (w : Bool) → bytes_eq n d.0 ≡ w → or_else (in_block b n) (cond w (Some d.1) None) ≡ or_else (cond w (Some d.1) None) (latest b n)
    by true e = ap (λ o. or_else o (Some d.1)) (ap (in_block b) ((bytes_eq-Decides n d.0).0 e) ∙ not_some (in_block b d.0) h)
    by false e = or_else_none (in_block b n) ∙ k n

-- a block of names by their numbers, and what they mean
module _ {X : Type 0} where
  abbrev pub Shows : List X → List (List ℕ × DeclId) → Names X → Type 0
  Shows ms [] [] = Unit {0}
  Shows ms [] (c ∷ cs) = ⊥
  Shows ms (b ∷ bs) [] = ⊥
  Shows ms (b ∷ bs) (c ∷ cs) = (b.0 ≡ c.0) × (slice_get ms b.1.0 ≡ Some c.1) × Shows ms bs cs

  abbrev pub ShowAll : List X → Blocks → List (Names X) → Type 0
  ShowAll ms [] [] = Unit {0}
  ShowAll ms [] (c ∷ cs) = ⊥
  ShowAll ms (b ∷ bs) [] = ⊥
  ShowAll ms (b ∷ bs) (c ∷ cs) = Shows ms b c × ShowAll ms bs cs

  -- what is found by its number, and what it means
  abbrev pub Agrees : List X → Option DeclId → Option X → Type 0
  Agrees ms None None = Unit {0}
  Agrees ms None (Some x) = ⊥
  Agrees ms (Some d) None = ⊥
  Agrees ms (Some d) (Some x) = slice_get ms d.0 ≡ Some x

  slice_get_front : (xs more : List X) (k : ℕ) (x : X) → slice_get xs k ≡ Some x → slice_get (xs ++ more) k ≡ Some x
  slice_get_front xs more k x h =
      let within = slice_get_within xs k x h in
      slice_get-get_or (xs ++ more) k x (subst (λ n. k < n) (sym (length-append xs more)) (omega (arith, within))) ∙ ap Some (get_or_append_left xs more x k within ∙ get_or_from_slice_get xs k x x h)

  slice_get_last : (xs : List X) (x : X) → slice_get (xs ++ x ∷ []) (length xs) ≡ Some x
  slice_get_last xs x = slice_get-get_or (xs ++ x ∷ []) (length xs) x (subst (λ n. length xs < n) (sym (length-append xs (x ∷ []))) (omega arith)) ∙ ap Some (get_or_push xs x x (length xs) refl)

  pub shows_more : (ms more : List X) (b : List (List ℕ × DeclId)) (c : Names X) → Shows ms b c → Shows (ms ++ more) b c
  shows_more ms more [] [] h = tt
  shows_more ms more [] (c ∷ cs) h = h
  shows_more ms more (b ∷ bs) [] h = h
  shows_more ms more (b ∷ bs) (c ∷ cs) h = (h.0, slice_get_front ms more b.1.0 c.1 h.1, shows_more ms more bs cs h.2)

  pub show_all_more : (ms more : List X) (bs : Blocks) (cs : List (Names X)) → ShowAll ms bs cs → ShowAll (ms ++ more) bs cs
  show_all_more ms more [] [] h = tt
  show_all_more ms more [] (c ∷ cs) h = h
  show_all_more ms more (b ∷ bs) [] h = h
  show_all_more ms more (b ∷ bs) (c ∷ cs) h = (shows_more ms more b c h.0, show_all_more ms more bs cs h.1)

  pub show_all_push : (ms : List X) (bs : Blocks) (cs : List (Names X)) (b : List (List ℕ × DeclId)) (c : Names X) → ShowAll ms bs cs → Shows ms b c → ShowAll ms (bs ++ b ∷ []) (cs ++ c ∷ [])
  show_all_push ms [] [] b c h k = (k, tt)
  show_all_push ms [] (y ∷ cs) b c h k = absurd h
  show_all_push ms (x ∷ bs) [] b c h k = absurd h
  show_all_push ms (x ∷ bs) (y ∷ cs) b c h k = (h.0, show_all_push ms bs cs b c h.1 k)

  agrees_or : (ms : List X) (d e : Option DeclId) (x y : Option X) → Agrees ms d x → Agrees ms e y → Agrees ms (or_else d e) (or_else x y)
  agrees_or ms None e None y h k = k
  agrees_or ms None e (Some x) y h k = absurd h
  agrees_or ms (Some d) e None y h k = absurd h
  agrees_or ms (Some d) e (Some x) y h k = h

  in_shown : (ms : List X) (b : List (List ℕ × DeclId)) (c : Names X) → Shows ms b c → (n : List ℕ) → Agrees ms (in_block b n) (in_block c n)
  in_shown ms [] [] h n = tt
  in_shown ms [] (c ∷ cs) h n = absurd h
  in_shown ms (b ∷ bs) [] h n = absurd h
  in_shown ms (b ∷ bs) (c ∷ cs) h n =
      subst (λ m. Agrees ms (cond (bytes_eq n b.0) (Some b.1) (in_block bs n)) (cond (bytes_eq n m) (Some c.1) (in_block cs n))) h.0 (by (bytes_eq n b.0) (in_shown ms bs cs h.2 n))
    where
      by : (w : Bool) → Agrees ms (in_block bs n) (in_block cs n) → Agrees ms (cond w (Some b.1) (in_block bs n)) (cond w (Some c.1) (in_block cs n))
      by true rest = h.1
      by false rest = rest

  found_shown : (ms : List X) (bs : Blocks) (cs : List (Names X)) → ShowAll ms bs cs → (n : List ℕ) → Agrees ms (found_in bs n) (found_in cs n)
  found_shown ms [] [] h n = tt
  found_shown ms [] (c ∷ cs) h n = absurd h
  found_shown ms (b ∷ bs) [] h n = absurd h
  found_shown ms (b ∷ bs) (c ∷ cs) h n = agrees_or ms (found_in bs n) (in_block b n) (found_in cs n) (in_block c n) (found_shown ms bs cs h.1 n) (in_shown ms b c h.0 n)

  agree_some : (ms : List X) (d : Option DeclId) (x : Option X) → Agrees ms d x → is_some d ≡ is_some x
  agree_some ms None None h = refl
  agree_some ms None (Some x) h = absurd h
  agree_some ms (Some d) None h = absurd h
  agree_some ms (Some d) (Some x) h = refl

  -- the same names are new
  some_same : (ms : List X) (b : List (List ℕ × DeclId)) (c : Names X) → Shows ms b c → (n : List ℕ) → is_some (in_block b n) ≡ is_some (in_block c n)
  some_same ms b c h n = agree_some ms (in_block b n) (in_block c n) (in_shown ms b c h n)

  pub shorts_same : (ms : List X) (b : List (List ℕ × DeclId)) (c : Names X) → Shows ms b c → (names seen : List (List ℕ)) → short_names_behind b seen names ≡ short_names_behind c seen names
  shorts_same ms b c h [] seen = refl
  shorts_same ms b c h (n ∷ names) seen =
      ap (λ s. (if open_blocks.is_repeated seen n then Repeated else (if is_blank n then Blank else (if s then Old else New))) ∷ short_names_behind b (seen ++ n ∷ []) names) (some_same ms b c h n)
      ∙ ap (λ l. short_name c seen n ∷ l) (shorts_same ms b c h names (seen ++ n ∷ []))

  shows_push : (ms : List X) (b : List (List ℕ × DeclId)) (c : Names X) (n : List ℕ) (d : DeclId) (m : X) → Shows ms b c → slice_get ms d.0 ≡ Some m → Shows ms (b ++ (n, d) ∷ []) (c ++ (n, m) ∷ [])
  shows_push ms [] [] n d m h k = (refl, k, tt)
  shows_push ms [] (c ∷ cs) n d m h k = absurd h
  shows_push ms (b ∷ bs) [] n d m h k = absurd h
  shows_push ms (b ∷ bs) (c ∷ cs) n d m h k = (h.0, h.1, shows_push ms bs cs n d m h.2 k)

  -- one name more, if it is new
  shows_after : (ms : List X) (b : List (List ℕ × DeclId)) (c : Names X) (n : List ℕ) (m : X) → Shows ms b c → Shows (ms ++ m ∷ []) (block_after b ((n, record { 0 = length ms }) ∷ [])) (block_after c ((n, m) ∷ []))
  shows_after ms b c n m h =
      subst (λ w. Shows (ms ++ m ∷ []) (if not (is_blank n) && not (is_some (in_block b n)) then b ++ (n, record { 0 = length ms }) ∷ [] else b) (if not (is_blank n) && not w then c ++ (n, m) ∷ [] else c)) (some_same ms b c h n)
      (by (not (is_blank n) && not (is_some (in_block b n))))
    where
      by : (w : Bool) → Shows (ms ++ m ∷ []) (if w then b ++ (n, record { 0 = length ms }) ∷ [] else b) (if w then c ++ (n, m) ∷ [] else c)
      by true = shows_push (ms ++ m ∷ []) b c n (record { 0 = length ms }) m (shows_more ms (m ∷ []) b c h) (slice_get_last ms m)
      by false = shows_more ms (m ∷ []) b c h

  distinct_after : (c : Names X) (n : List ℕ) (m : X) → Distinct c → Distinct (block_after c ((n, m) ∷ []))
  distinct_after c n m h = by (is_blank n) (is_some (in_block c n)) refl
    where
      by : (w t : Bool) → is_some (in_block c n) ≡ t → Distinct (if not w && not t then c ++ (n, m) ∷ [] else c)
      by true t e = h
      by false true e = h
      by false false e = distinct_push c (n, m) e h

  pub distinct_names : (means : ℕ → X) (xs : List Ident) (c : Names X) (n : ℕ) → Distinct c → Distinct (block_after c (meant means n xs))
  distinct_names means [] c n h = h
  distinct_names means (x ∷ xs) c n h = distinct_names means xs (block_after c ((x.name, means n) ∷ [])) (suc n) (distinct_after c x.name (means n) h)

pub each_push : {X : Type 0} (P : Names X → Type 0) (bs : List (Names X)) (b : Names X) → EachBlock P bs → P b → EachBlock P (bs ++ b ∷ [])
each_push P [] b h k = (k, tt)
each_push P (x ∷ bs) b h k = (h.0, each_push P bs b h.1 k)

pub flat_push : {X : Type 0} (bs : List (Names X)) (b : Names X) → flat (bs ++ b ∷ []) ≡ flat bs ++ b
flat_push [] b = append-nil b
flat_push (x ∷ bs) b = ap (λ l. x ++ l) (flat_push bs b) ∙ sym (append_assoc x (flat bs) b)

pub all_alike : {X : Type 0} (look other : NameLook X) → ((n : List ℕ) (p : ℕ) → look n p ≡ other n p) → (ts : List Terminal) → Alike look other ts
all_alike look other h [] = tt
all_alike look other h (t ∷ ts) = (by t.kind, all_alike look other h ts)
  where
    by : (k : TerminalKind) → AlikeAt look other k t.span
    by (Spelled n) = h n t.span.start
    by (Number n) = tt
    by (Quoted bs) = tt
    by (Word k) = tt
    by (Mark o) = tt
    by Stray = tt

-- what is noted of all that comes
abbrev pub noted_of : {X N : Type 0} → Out X N → Noted N
noted_of o = noted o.notes o.faults

-- this is noted, and the locals are those there were and more
abbrev pub Gives : {X N : Type 0} → Ran X N → Noted N → List X → Type 0
Gives {X} r n ms = (r.noted ≡ n) × ((more : List X) × (r.locals ≡ ms ++ more))

module _ (X N : Type 0) (rules : Rules X N) (at_names : LookAtNames X N rules) (outside : Outside → X) (around : BlocksModel) (file : ℕ) where
  abbrev beyond : List ℕ → Option X
  beyond = beyond_in outside around file

  abbrev at : Blocks → List X → NameScene X
  at bs ms = name_scene (scopes_model around file bs) ms

  agrees_means : (ms : List X) (d : Option DeclId) (x o : Option X) → Agrees ms d x → meant_or ms d o ≡ or_else x o
  agrees_means ms None None o h = refl
  agrees_means ms None (Some x) o h = absurd h
  agrees_means ms (Some d) None o h = absurd h
  agrees_means ms (Some d) (Some x) o h = h

  pub looks_same : (ms : List X) (bs : Blocks) (b : List (List ℕ × DeclId)) (cs : List (Names X)) (c : Names X) → ShowAll ms bs cs → Shows ms b c → EachBlock Distinct cs → Distinct c → (n : List ℕ) (p : ℕ) → look_at outside (at (bs ++ b ∷ []) ms) n p ≡ look_in beyond (flat cs ++ c) n p
  looks_same ms bs b cs c h k each first n p =
      scope_means outside ms around file (bs ++ b ∷ []) n
      ∙ (agrees_means ms (found_in (bs ++ b ∷ []) n) (found_in (cs ++ c ∷ []) n) (beyond n) (found_shown ms (bs ++ b ∷ []) (cs ++ c ∷ []) (show_all_push ms bs cs b c h k) n)
      ∙ ap (λ o. or_else o (beyond n)) (found_latest (cs ++ c ∷ []) (each_push Distinct cs c each first) n ∙ ap (λ l. latest l n) (flat_push cs c)))

  -- names are declared in the innermost block
  pub declares_same : (means : ℕ → X) (xs : List Ident) (n : ℕ) (ms : List X) (bs : Blocks) (b : List (List ℕ × DeclId)) (c : Names X) → Shows ms b c
      → (b' : List (List ℕ × DeclId)) × (locals_declared (at (bs ++ b ∷ []) ms) xs (each_means means n xs) ≡ at (bs ++ b' ∷ []) (ms ++ each_means means n xs)) × Shows (ms ++ each_means means n xs) b' (block_after c (meant means n xs))
  declares_same means [] n ms bs b c h = (b, ap (at (bs ++ b ∷ [])) (sym (append-nil ms)), shows_more ms [] b c h)
  declares_same means (x ∷ xs) n ms bs b c h =
      let m = means n in
      let id : DeclId = record { 0 = length ms } in
      let b1 : List (List ℕ × DeclId) = block_after b ((x.name, id) ∷ []) in
      let next = declares_same means xs (suc n) (ms ++ m ∷ []) bs b1 (block_after c ((x.name, m) ∷ [])) (shows_after ms b c x.name m h) in
      let same : (ms ++ m ∷ []) ++ each_means means (suc n) xs ≡ ms ++ (m ∷ each_means means (suc n) xs) = append_assoc ms (m ∷ []) (each_means means (suc n) xs) in
      let opened : with_innermost (bs ++ b ∷ []) (block_after (innermost (bs ++ b ∷ [])) ((x.name, id) ∷ [])) ≡ bs ++ b1 ∷ [] = ap (λ i. with_innermost (bs ++ b ∷ []) (block_after i ((x.name, id) ∷ []))) (innermost_push bs b) ∙ with_innermost_push bs b b1 in (
        next.0,
        ap (λ o. locals_declared (at o (ms ++ m ∷ [])) xs (each_means means (suc n) xs)) opened ∙ (next.1 ∙ ap (at (bs ++ next.0 ∷ [])) same),
        subst (λ l. Shows l next.0 (block_after c (meant means n (x ∷ xs)))) same next.2,
      )

  -- more than one step
  gives_more : (n k : Noted N) (r : Ran X N) (ms more : List X) → Gives r k (ms ++ more) → Gives (before n r) (also n k) ms
  gives_more n k r ms more h = (ap (also n) h.0, (more ++ h.1.0, h.1.1 ∙ append_assoc ms more h.1.0))

  pub run_is : (ss : Steps) (ms : List X) (bs : Blocks) (b : List (List ℕ × DeclId)) (cs : List (Names X)) (c : Names X) (o e : ℕ) → ShowAll ms bs cs → Shows ms b c → EachBlock Distinct cs → Distinct c
      → Gives (run rules outside (at (bs ++ b ∷ []) ms) ss) (noted_of (walk_out rules beyond (flat cs) c o e ss)) ms
  run_is Done ms bs b cs c o e h k each first = (refl, ([], sym (append-nil ms)))
  run_is (Check p rest) ms bs b cs c o e h k each first =
      let here : NameScene X = at (bs ++ b ∷ []) ms in
      let others = run_is rest ms bs b cs c o e h k each first in
      let same : rules.notes (look_at outside here) [] p ≡ rules.notes (look_in beyond (flat cs ++ c)) [] p = at_names.notes (look_at outside here) (look_in beyond (flat cs ++ c)) [] p (all_alike _ _ (looks_same ms bs b cs c h k each first) (spell_piece p)) in
      (ap (λ ns. also (noted ns []) (run rules outside here rest).noted) same ∙ ap (also (noted (rules.notes (look_in beyond (flat cs ++ c)) [] p) [])) others.0, others.1)
  run_is (Declare m from p xs rest) ms bs b cs c o e h k each first =
      let here : NameScene X = at (bs ++ b ∷ []) ms in
      let look : NameLook X = look_at outside here in
      let other : NameLook X = look_in beyond (flat cs ++ c) in
      let alike = all_alike look other (looks_same ms bs b cs c h k each first) (spell_piece p) in
      let new : List Bool = news (names_of c) xs in
      let means : ℕ → X = rules.means other new p in
      let same_news : news_at here xs ≡ new = ap (λ i. map is_short_new (short_names i (spellings xs))) (innermost_push bs b) ∙ (ap (map is_short_new) (shorts_same ms b c k (spellings xs) []) ∙ sym (news_are_short c xs)) in
      let step : List Bool → Ran X N = λ firsts. before (noted (rules.notes look firsts p) (name_faults m firsts xs)) (run rules outside (locals_declared here xs (each_means (rules.means look firsts p) 0 xs)) rest) in
      let next = declares_same means xs 0 ms bs b c k in
      let after : Names X = block_after c (meant means 0 xs) in
      let others = run_is rest (ms ++ each_means means 0 xs) bs next.0 cs after o e (show_all_more ms (each_means means 0 xs) bs cs h) next.2 each (distinct_names means xs c 0 first) in
      let ahead : step (news_at here xs) ≡ before (noted (rules.notes other new p) (name_faults m new xs)) (run rules outside (at (bs ++ next.0 ∷ []) (ms ++ each_means means 0 xs)) rest) =
      ap step same_news
      ∙ (ap (λ ns. before (noted ns (name_faults m new xs)) (run rules outside (locals_declared here xs (each_means (rules.means look new p) 0 xs)) rest)) (at_names.notes look other new p alike)
      ∙ (ap (λ g. before (noted (rules.notes other new p) (name_faults m new xs)) (run rules outside (locals_declared here xs (each_means g 0 xs)) rest)) (at_names.means look other new p alike)
      ∙ ap (λ s. before (noted (rules.notes other new p) (name_faults m new xs)) (run rules outside s rest)) next.1)) in
      let walked : also (noted (rules.notes other new p) (name_faults m new xs)) (noted_of (walk_out rules beyond (flat cs) after o e rest)) ≡ noted_of (walk_out rules beyond (flat cs) c o e (Declare m from p xs rest)) =
      ap (λ l. also (noted (rules.notes other new p) (name_faults m new xs)) (noted_of (walk_out rules beyond (flat cs) l o e rest))) (sym (with_names_after xs c means 0)) in
      let all = gives_more (noted (rules.notes other new p) (name_faults m new xs)) (noted_of (walk_out rules beyond (flat cs) after o e rest)) (run rules outside (at (bs ++ next.0 ∷ []) (ms ++ each_means means 0 xs)) rest) ms (each_means means 0 xs) others in
      (ap (λ (r : Ran X N). r.noted) ahead ∙ (all.0 ∙ walked), (all.1.0, ap (λ (r : Ran X N). r.locals) ahead ∙ all.1.1))
  run_is (Inner o' e' steps rest) ms bs b cs c o e h k each first =
      let inner = run_is steps ms (bs ++ b ∷ []) [] (cs ++ c ∷ []) [] o' e' (show_all_push ms bs cs b c h k) tt (each_push Distinct cs c each first) (λ n. refl) in
      let ran_inner : Ran X N = run rules outside (at ((bs ++ b ∷ []) ++ [] ∷ []) ms) steps in
      let more : List X = inner.1.0 in
      let others = run_is rest (ms ++ more) bs b cs c o e (show_all_more ms more bs cs h) (shows_more ms more b c k) each first in
      let said : ran_inner.noted ≡ noted_of (walk_out rules beyond (flat cs ++ c) [] o' e' steps) = inner.0 ∙ ap (λ l. noted_of (walk_out rules beyond l [] o' e' steps)) (flat_push cs c) in
      let ahead : before ran_inner.noted (run rules outside (at (bs ++ b ∷ []) ran_inner.locals) rest) ≡ before (noted_of (walk_out rules beyond (flat cs ++ c) [] o' e' steps)) (run rules outside (at (bs ++ b ∷ []) (ms ++ more)) rest) =
      ap (λ n. before n (run rules outside (at (bs ++ b ∷ []) ran_inner.locals) rest)) said
      ∙ ap (λ l. before (noted_of (walk_out rules beyond (flat cs ++ c) [] o' e' steps)) (run rules outside (at (bs ++ b ∷ []) l) rest)) inner.1.1 in
      let all = gives_more (noted_of (walk_out rules beyond (flat cs ++ c) [] o' e' steps)) (noted_of (walk_out rules beyond (flat cs) c o e rest)) (run rules outside (at (bs ++ b ∷ []) (ms ++ more)) rest) ms more others in
      (ap (λ (r : Ran X N). r.noted) ahead ∙ all.0, (all.1.0, ap (λ (r : Ran X N). r.locals) ahead ∙ all.1.1))
