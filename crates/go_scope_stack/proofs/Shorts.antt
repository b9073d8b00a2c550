-- What names to the left of `:=` are, and what their block has after them.
use Rattle.std.proofs.Common.{◌≡◌, ℕ, ◌+◌, ◌<◌, take, get_or, length, map, Bool, true, false, ◌⊎◌, ◌&&◌, ◌||◌, not, List, [], ◌∷◌, ◌++◌, Some, None, is_some, cond, if◌then◌else◌, refl, sym, ap, ◌∙◌, subst, append_assoc}
use Rattle.std.specs.Str.{bytes_eq}
use Rattle.std.proofs.lemmas.Bool.{true≢false}
use Rattle.std.proofs.lemmas.List.{append-nil, map-append, map_more}
use Rattle.std.specs.Borrow.{Bor}
use Rattle.go_collections_core.specs.text_core.Text.{is_blank}
use Rattle.go_scope_stack.specs.declared.DeclId.{DeclId}
use Rattle.go_scope_stack.specs.declared.short.ShortName.{ShortName}
use Rattle.go_scope_stack.specs.declared.short.ShortName.TheVariants.{New, Old, Blank, Repeated}
use Rattle.go_scope_stack.specs.Blocks.{in_block, is_new, block_after, named, names_in, is_listed, list_name, list_names, short_name, short_names, short_names_behind, is_short_new, any_new, only_new}
use Rattle.go_scope_stack.specs.Laws.{AddsNew}
use Rattle.go_scope_stack.proofs.Names.{same_bytes, or-none, or-swap, listed-append, listed-names, list_names-append}
use Rattle.go_scope_stack.proofs.Tables.{named_more, block_step}

some_one : {X : Type 0} (x : X) (b : Bool) → is_some (cond b (Some x) None) ≡ b
some_one x true = refl
some_one x false = refl

-- what a block with one more name has
some_push : {X : Type 0} (block : List (List ℕ × X)) (n : List ℕ × X) (m : List ℕ) → is_some (in_block (block ++ n ∷ []) m) ≡ is_some (in_block block m) || bytes_eq m n.0
some_push [] n m = some_one n.1 (bytes_eq m n.0)
some_push {X} (e ∷ es) n m = by (bytes_eq m e.0) (some_push es n m)
  where
    by : (b : Bool) → is_some (in_block (es ++ n ∷ []) m) ≡ is_some (in_block es m) || bytes_eq m n.0 → is_some (cond b (Some e.1) (in_block (es ++ n ∷ []) m)) ≡ is_some (cond b (Some e.1) (in_block es m)) || bytes_eq m n.0
    by true h = refl
    by false h = h

listed_push : (before : List (List ℕ)) (n m : List ℕ) → is_listed (before ++ n ∷ []) m ≡ is_listed before m || bytes_eq m n
listed_push before n m = listed-append before (n ∷ []) m ∙ ap (λ b. is_listed before m || b) (sym (or-none (bytes_eq m n)))

not_false : (b : Bool) → not b ≡ false → b ≡ true
not_false true h = refl
not_false false h = absurd (true≢false h)

turn : (t l s e k : Bool) → t ≡ l || s → (e ≡ true → k ≡ false → t ≡ true) → (if k then t || e else t) ≡ (l || e) || s
turn t true s e true is h = ap (λ b. b || e) is
turn t false s e true is h = ap (λ b. b || e) is ∙ or-swap s e
turn t true s false false is h = is
turn t false s false false is h = is
turn t true s true false is h = is
turn t false s true false is h = h refl refl

module _ {X : Type 0} where
  -- a block has the names before, and those that another has
  abbrev pub Knows : List (List ℕ × X) → List (List ℕ) → List (List ℕ × X) → Type 0
  Knows block before now = (m : List ℕ) → is_blank m ≡ false → is_some (in_block now m) ≡ is_listed before m || is_some (in_block block m)

  -- a name is new where the block has none such and none stands before it
  pub short_new : (block now : List (List ℕ × X)) (before : List (List ℕ)) (name : List ℕ) → Knows block before now → is_short_new (short_name block before name) ≡ is_new now name
  short_new block now before name h = by (is_blank name) refl
    where
      plain : (l s t : Bool) → t ≡ l || s → is_short_new (if l then Repeated else (if s then Old else New)) ≡ not t
      plain true s t e = sym (ap not e)
      plain false true t e = sym (ap not e)
      plain false false t e = sym (ap not e)

      by : (b : Bool) → is_blank name ≡ b → is_short_new (if not b && is_listed before name then Repeated else (if b then Blank else (if is_some (in_block block name) then Old else New))) ≡ (not b && not (is_some (in_block now name)))
      by true e = refl
      by false e = plain (is_listed before name) (is_some (in_block block name)) (is_some (in_block now name)) (h name e)

  -- one name more
  knows_more : (block now : List (List ℕ × X)) (before : List (List ℕ)) (n : List ℕ × X) → Knows block before now → Knows block (before ++ n.0 ∷ []) (if is_new now n.0 then now ++ n ∷ [] else now)
  knows_more block now before n h m plain =
      by (is_new now n.0)
      ∙ (turn (is_some (in_block now m)) (is_listed before m) (is_some (in_block block m)) (bytes_eq m n.0) (is_new now n.0) (h m plain) had
      ∙ ap (λ b. b || is_some (in_block block m)) (sym (listed_push before n.0 m)))
    where
      by : (k : Bool) → is_some (in_block (if k then now ++ n ∷ [] else now) m) ≡ (if k then is_some (in_block now m) || bytes_eq m n.0 else is_some (in_block now m))
      by true = some_push now n m
      by false = refl

      had : bytes_eq m n.0 ≡ true → is_new now n.0 ≡ false → is_some (in_block now m) ≡ true
      had same old =
          let new_m : is_new now m ≡ false = ap (is_new now) (same_bytes m n.0 same) ∙ old in
          not_false (is_some (in_block now m)) (sym (ap (λ b. not b && not (is_some (in_block now m))) plain) ∙ new_m)

  -- what a block has after a short declaration
  after_knows : (names block now : List (List ℕ × X)) (before : List (List ℕ)) → Knows block before now → Knows block (before ++ names_in names) (block_after now names)
  after_knows [] block now before h = subst (λ l. Knows block l now) (sym (append-nil before)) h
  after_knows (n ∷ names) block now before h =
      let next : List (List ℕ × X) = if is_new now n.0 then now ++ n ∷ [] else now in
      subst (λ l. Knows block l (block_after next names)) (append_assoc before (n.0 ∷ []) (names_in names)) (after_knows names block next (before ++ n.0 ∷ []) (knows_more block now before n h))

  pub knows_after : (names block : List (List ℕ × X)) → Knows block (names_in names) (block_after block names)
  knows_after names block = after_knows names block block [] (λ m plain. refl)

  -- what a name is shows in the block as it has become
  short_same : (names block : List (List ℕ × X)) (name : List ℕ) → short_name (block_after block names) (list_names [] (names_in names)) name ≡ short_name block (names_in names) name
  short_same names block name = by (is_blank name) refl
    where
      plain : (l m t s : Bool) → m ≡ l → t ≡ l || s → (if m then Repeated else (if t then Old else New)) ≡ (if l then Repeated else (if s then Old else New))
      plain true m t s e f = ap (λ b. if b then Repeated else (if t then Old else New)) e
      plain false m t s e f = ap (λ b. if b then Repeated else (if t then Old else New)) e ∙ ap (λ b. if b then Old else New) f

      by : (b : Bool) → is_blank name ≡ b → (if not b && is_listed (list_names [] (names_in names)) name then Repeated else (if b then Blank else (if is_some (in_block (block_after block names) name) then Old else New))) ≡ (if not b && is_listed (names_in names) name then Repeated else (if b then Blank else (if is_some (in_block block name) then Old else New)))
      by true e = refl
      by false e = plain (is_listed (names_in names) name) (is_listed (list_names [] (names_in names)) name) (is_some (in_block (block_after block names) name)) (is_some (in_block block name)) (listed-names [] (names_in names) name) (knows_after names block name e)

  short_push : (block : List (List ℕ × X)) (names before : List (List ℕ)) (name : List ℕ) → short_names_behind block before (names ++ name ∷ []) ≡ short_names_behind block before names ++ short_name block (before ++ names) name ∷ []
  short_push block [] before name = ap (λ l. short_name block l name ∷ []) (sym (append-nil before))
  short_push block (m ∷ names) before name =
      ap (λ l. short_name block before m ∷ l) (short_push block names (before ++ m ∷ []) name
      ∙ ap (λ l. short_names_behind block (before ++ m ∷ []) names ++ short_name block l name ∷ []) (append_assoc before (m ∷ []) names))

  glue : (now rest : List (List ℕ × X)) (n : List ℕ × X) (k j : Bool) → j ≡ k → (if k then now ++ n ∷ [] else now) ++ rest ≡ now ++ ((if j then n ∷ [] else []) ++ rest)
  glue now rest n k j e = by k ∙ ap (λ b. now ++ ((if b then n ∷ [] else []) ++ rest)) (sym e)
    where
      by : (k : Bool) → (if k then now ++ n ∷ [] else now) ++ rest ≡ now ++ ((if k then n ∷ [] else []) ++ rest)
      by true = append_assoc now (n ∷ []) rest
      by false = refl

  adds : (names block now : List (List ℕ × X)) (before : List (List ℕ)) → Knows block before now → block_after now names ≡ now ++ only_new (short_names_behind block before (names_in names)) names
  adds [] block now before h = sym (append-nil now)
  adds (n ∷ names) block now before h =
      adds names block (if is_new now n.0 then now ++ n ∷ [] else now) (before ++ n.0 ∷ []) (knows_more block now before n h)
      ∙ glue now (only_new (short_names_behind block (before ++ n.0 ∷ []) (names_in names)) names) n (is_new now n.0) (is_short_new (short_name block before n.0)) (short_new block now before n.0 h)

  none_new : (shorts : List ShortName) (names : List (List ℕ × X)) → any_new shorts ≡ false → only_new shorts names ≡ []
  none_new [] names h = refl
  none_new (s ∷ shorts) [] h = refl
  none_new (s ∷ shorts) (n ∷ names) h = by (is_short_new s) h (none_new shorts names)
    where
      by : (k : Bool) → k || any_new shorts ≡ false → (any_new shorts ≡ false → only_new shorts names ≡ []) → (if k then n ∷ [] else []) ++ only_new shorts names ≡ []
      by true h rest = absurd (true≢false h)
      by false h rest = rest h

pub short_adds_new : (X : Type 0) → AddsNew X
short_adds_new X = record {
  added = λ block names. adds names block block [] (λ m plain. refl);
  unchanged = λ block names none. adds names block block [] (λ m plain. refl) ∙ (ap (λ l. block ++ l) (none_new (short_names block (names_in names)) names none) ∙ append-nil block);
}

-- one name more that is seen
seen_more : (ns more seen next : List (List ℕ)) (n : List ℕ) → more ≡ ns ++ n ∷ [] → seen ≡ list_names [] ns → next ≡ list_name seen n → next ≡ list_names [] more
seen_more ns more seen next n more_is seen_is e = e ∙ (ap (λ l. list_name l n) seen_is ∙ (sym (list_names-append [] ns (n ∷ [])) ∙ sym (ap (list_names []) more_is)))

-- one name more that is told
shorts_more : (block : List (List ℕ × DeclId)) (ns more : List (List ℕ)) (n : List ℕ) (s : ShortName) (before after : List ShortName) → more ≡ ns ++ n ∷ [] → s ≡ short_name block ns n → before ≡ short_names block ns → after ≡ before ++ s ∷ [] → after ≡ short_names block more
shorts_more block ns more n s before after more_is s_is said e =
    e ∙ (ap (λ l. l ++ s ∷ []) said
    ∙ (ap (λ s. short_names block ns ++ s ∷ []) s_is
    ∙ (sym (short_push block ns [] n) ∙ sym (ap (short_names block) more_is))))

-- one name more of a short declaration
module _ (names : List (Bor (List ℕ) × DeclId)) (start now : List (List ℕ × DeclId)) (seen : List (List ℕ)) (i : ℕ) (d : Bor (List ℕ) × DeclId) (h : i < length names) (now_is : now ≡ block_after start (named (take i names))) (seen_is : seen ≡ list_names [] (names_in (named (take i names)))) where
  names_more : names_in (named (take (i + 1) names)) ≡ names_in (named (take i names)) ++ (get_or names i d).0.now ∷ []
  names_more = ap names_in (named_more names start now now i d h) ∙ map-append (λ e. e.0) (named (take i names)) (((get_or names i d).0.now, (get_or names i d).1) ∷ [])

  short_is : short_name now seen (get_or names i d).0.now ≡ short_name start (names_in (named (take i names))) (get_or names i d).0.now
  short_is = ap (λ b. short_name b seen (get_or names i d).0.now) now_is ∙ (ap (λ l. short_name (block_after start (named (take i names))) l (get_or names i d).0.now) seen_is ∙ short_same (named (take i names)) start (get_or names i d).0.now)

  pub seen_step : (next : List (List ℕ)) → next ≡ list_name seen (get_or names i d).0.now → next ≡ list_names [] (names_in (named (take (i + 1) names)))
  seen_step next e = seen_more (names_in (named (take i names))) (names_in (named (take (i + 1) names))) seen next (get_or names i d).0.now names_more seen_is e

  pub shorts_step : (before after : List ShortName) → before ≡ short_names start (names_in (named (take i names))) → after ≡ before ++ short_name now seen (get_or names i d).0.now ∷ [] → after ≡ short_names start (names_in (named (take (i + 1) names)))
  shorts_step before after said e = shorts_more start (names_in (named (take i names))) (names_in (named (take (i + 1) names))) (get_or names i d).0.now (short_name now seen (get_or names i d).0.now) before after names_more short_is said e

  pub after_step : (new : List (List ℕ × DeclId)) → new ≡ (if is_short_new (short_name now seen (get_or names i d).0.now) then now ++ ((get_or names i d).0.now, (get_or names i d).1) ∷ [] else now) → new ≡ block_after start (named (take (i + 1) names))
  after_step new e =
      let n : List ℕ = (get_or names i d).0.now in
      let same : is_short_new (short_name now seen n) ≡ is_new now n = ap is_short_new short_is ∙ (short_new start (block_after start (named (take i names))) (names_in (named (take i names))) n (knows_after (named (take i names)) start) ∙ sym (ap (λ b. is_new b n) now_is)) in
      block_step names start now new i d h now_is (e ∙ ap (λ b. if b then now ++ (n, (get_or names i d).1) ∷ [] else now) same)

-- one name more of which it is told what it is, with nothing declared
module _ (block : List (List ℕ × DeclId)) (names : List (Bor (List ℕ))) (i : ℕ) (d : Bor (List ℕ)) (h : i < length names) (seen : List (List ℕ)) (seen_is : seen ≡ list_names [] (map (λ n. n.now) (take i names))) where
  short_listed : (ns : List (List ℕ)) (name : List ℕ) → short_name block (list_names [] ns) name ≡ short_name block ns name
  short_listed ns name = ap (λ l. if not (is_blank name) && l then Repeated else (if is_blank name then Blank else (if is_some (in_block block name) then Old else New))) (listed-names [] ns name)

  pub told_seen : (next : List (List ℕ)) → next ≡ list_name seen (get_or names i d).now → next ≡ list_names [] (map (λ n. n.now) (take (i + 1) names))
  told_seen next e = seen_more (map (λ n. n.now) (take i names)) (map (λ n. n.now) (take (i + 1) names)) seen next (get_or names i d).now (map_more (λ n. n.now) names i d h) seen_is e

  pub told_shorts : (before after : List ShortName) → before ≡ short_names block (map (λ n. n.now) (take i names)) → after ≡ before ++ short_name block seen (get_or names i d).now ∷ [] → after ≡ short_names block (map (λ n. n.now) (take (i + 1) names))
  told_shorts before after said e =
      let n : List ℕ = (get_or names i d).now in
      let told : short_name block seen n ≡ short_name block (map (λ n. n.now) (take i names)) n = ap (λ l. short_name block l n) seen_is ∙ short_listed (map (λ n. n.now) (take i names)) n in
      shorts_more block (map (λ n. n.now) (take i names)) (map (λ n. n.now) (take (i + 1) names)) n (short_name block seen n) before after (map_more (λ n. n.now) names i d h) told said e

-- what is wrong with a short declaration, in a block that is the same
pub wrong_in : (block same : List (List ℕ × DeclId)) (names : List (List ℕ)) {P Q : Type 0} → block ≡ same → (P × (any_new (short_names block names) ≡ true)) ⊎ (Q × (any_new (short_names block names) ≡ false)) → (P × (any_new (short_names same names) ≡ true)) ⊎ (Q × (any_new (short_names same names) ≡ false))
wrong_in block same names {P} {Q} is h = subst (λ b. (P × (any_new (short_names b names) ≡ true)) ⊎ (Q × (any_new (short_names b names) ≡ false))) is h
