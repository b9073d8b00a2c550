-- An identifier in the same context at one number of two lists.
use Rattle.std.proofs.Common.{◌≡◌, ℕ, zero, suc, List, [], ◌∷◌, ◌++◌, map, refl, sym, ap, ◌∙◌, append_assoc}
use Rattle.std.specs.Prelude.{Some, None, slice_get, is_some}
use Rattle.std.proofs.lemmas.Bool.{both_ways}
use Rattle.std.proofs.lemmas.List.{map-append}
use Rattle.go_tree_nodes.specs.declared.names.Ident.{Ident}
use Rattle.go_stmt_core.specs.expr_core.declared.things.Use.{Use}
use Rattle.go_stmt_core.specs.expr_core.Looks.{Looks}
use Rattle.go_stmt_core.specs.expr_core.Uses.{Context, Spot, Identifier, use_of}
use Rattle.go_stmt_core.specs.expr_core.Respelling.{respelled}
use Rattle.go_stmt_core.specs.expr_core.Independence.{at_seam, len, len_both, map_len, plus}
use Rattle.go_complete_core.specs.spelling.Contexts.{ContextStays}

pub len_app : {A B : Type 0} (xs ys : List A) (zs ws : List B) → len xs ≡ len zs → len ys ≡ len ws → len (xs ++ ys) ≡ len (zs ++ ws)
len_app xs ys zs ws h k = len_both xs ys ∙ (ap (λ n. plus n (len ys)) h ∙ (ap (plus (len zs)) k ∙ sym (len_both zs ws)))

not_there : {A : Type 0} (y : A) → None ≡ Some y → ⊥
not_there {A} y h = both_ways (is_some {T = A} None) refl (ap is_some h)

get_front : {A : Type 0} (xs ys : List A) (n : ℕ) (y : A) → slice_get xs n ≡ Some y → slice_get (xs ++ ys) n ≡ Some y
get_front [] ys n y h = absurd (not_there y h)
get_front (x ∷ xs) ys zero y h = h
get_front (x ∷ xs) ys (suc n) y h = get_front xs ys n y h

get_back : {A : Type 0} (xs ys : List A) (n : ℕ) → slice_get (xs ++ ys) (plus (len xs) n) ≡ slice_get ys n
get_back [] ys n = refl
get_back (x ∷ xs) ys n = get_back xs ys n

-- what is put before or behind both lists

module _ {T S D P : Type 0} (looks : Looks T S D P) (x : Ident) (name : List ℕ) where
  pub behind : (before more : List (Spot T D P)) (after others : List (Use D P)) → ContextStays T S D P looks x name before after → ContextStays T S D P looks x name (before ++ more) (after ++ others)
  behind before more after others c = record {
    number = c.number;
    context = c.context;
    stands = get_front before more c.number _ c.stands;
    has = get_front after others c.number _ c.has;
  }

  pub before : (front before : List (Spot T D P)) (others after : List (Use D P)) → len front ≡ len others → ContextStays T S D P looks x name before after → ContextStays T S D P looks x name (front ++ before) (others ++ after)
  before front spots others after long c = record {
    number = plus (len front) c.number;
    context = c.context;
    stands = get_back front spots c.number ∙ c.stands;
    has = ap (λ n. slice_get (others ++ after) (plus n c.number)) long ∙ (get_back others after c.number ∙ c.has);
  }

-- at one number of both lists the identifier stands in the same context

pub record Split (T D P : Type 0) (x : Ident) (name : List ℕ) (ps bs : List (Spot T D P)) : Type 0 where
  pub context : Context T D
  pub front : List (Spot T D P)
  pub front' : List (Spot T D P)
  pub back : List (Spot T D P)
  pub back' : List (Spot T D P)
  pub long : len front ≡ len front'
  pub before : ps ≡ front ++ Identifier context x ∷ back
  pub after : bs ≡ front' ++ Identifier context (respelled name x) ∷ back'

module _ {T D P : Type 0} (x : Ident) (name : List ℕ) where
  pub here : (c d : Context T D) → c ≡ d → (ps bs : List (Spot T D P)) → Split T D P x name (Identifier c x ∷ ps) (Identifier d (respelled name x) ∷ bs)
  here c d same ps bs =
      record { context = c; front = []; front' = []; back = ps; back' = bs; long = refl; before = refl; after = ap (λ k. Identifier k (respelled name x) ∷ bs) (sym same) }

  pub in_left : (ps ps' bs bs' : List (Spot T D P)) → Split T D P x name ps ps' → Split T D P x name (ps ++ bs) (ps' ++ bs')
  in_left ps ps' bs bs' s = record {
    context = s.context;
    front = s.front;
    front' = s.front';
    back = s.back ++ bs;
    back' = s.back' ++ bs';
    long = s.long;
    before = ap (λ l. l ++ bs) s.before ∙ append_assoc s.front (Identifier s.context x ∷ s.back) bs;
    after = ap (λ l. l ++ bs') s.after ∙ append_assoc s.front' (Identifier s.context (respelled name x) ∷ s.back') bs';
  }

  pub in_right : (ps ps' bs bs' : List (Spot T D P)) → len ps ≡ len ps' → Split T D P x name bs bs' → Split T D P x name (ps ++ bs) (ps' ++ bs')
  in_right ps ps' bs bs' same s = record {
    context = s.context;
    front = ps ++ s.front;
    front' = ps' ++ s.front';
    back = s.back;
    back' = s.back';
    long = len_app ps s.front ps' s.front' same s.long;
    before = ap (λ l. ps ++ l) s.before ∙ sym (append_assoc ps s.front (Identifier s.context x ∷ s.back));
    after = ap (λ l. ps' ++ l) s.after ∙ sym (append_assoc ps' s.front' (Identifier s.context (respelled name x) ∷ s.back'));
  }

  -- under its new spelling it has what the rule of the context gives
  pub split_stays : {S : Type 0} (looks : Looks T S D P) (ps bs : List (Spot T D P)) → Split T D P x name ps bs → ContextStays T S D P looks x name ps (map (use_of looks) bs)
  split_stays looks ps bs s =
      let made = use_of looks in
      record {
        number = len s.front;
        context = s.context;
        stands = ap (λ l. slice_get l (len s.front)) s.before ∙ at_seam s.front (Identifier s.context x) s.back;
        has =
            ap (λ l. slice_get (map made l) (len s.front)) s.after
            ∙ (ap (λ l. slice_get l (len s.front)) (map-append made s.front' (Identifier s.context (respelled name x) ∷ s.back'))
            ∙ (ap (λ n. slice_get (map made s.front' ++ made (Identifier s.context (respelled name x)) ∷ map made s.back') n) (s.long ∙ sym (map_len made s.front'))
            ∙ at_seam (map made s.front') (made (Identifier s.context (respelled name x))) (map made s.back')));
      }
