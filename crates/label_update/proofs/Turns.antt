-- One more area of a program.
use Rattle.std.proofs.Common.{◌≡◌, ◌+◌, ◌++◌, ◌∷◌, [], ℕ, Bool, true, false, List, Option, Some, take, drop, map, slice_get, length, get_or, refl, sym, ap, ◌∙◌, subst, arith, ◌<◌, append_assoc}
use Rattle.std.specs.Prelude.{if◌then◌else◌}
use Rattle.std.specs.List.{filter}
use Rattle.std.specs.Str.{bytes_eq}
use Rattle.std.proofs.lemmas.List.{drop_more, take_more, length-append, map-append}
use Rattle.std.proofs.lemmas.Option.{get_or_from_slice_get, slice_get_within}
use Rattle.std.proofs.lemmas.List.Elements.{filter-append}
use Rattle.std.proofs.lemmas.Slice.Eq.{bytes_eq-Decides}
use Rattle.data_layout.specs.declared.item.Area.{Area}
use Rattle.name_tables.specs.Table.{with_value}
use Rattle.label_update.specs.Names.{area_name, count_named, name_text, names_after, turn_in}
use Rattle.label_update.specs.declared.names.AreaName.{AreaName}

abbrev has : List ℕ → Area → Bool
has name area = bytes_eq (name_text area.name) name

abbrev one : Bool → ℕ
one true = 1
one false = 0

one_if : (name : List ℕ) (area : Area) (b : Bool) → has name area ≡ b → length (filter (has name) (area ∷ [])) ≡ one b
one_if name area true e = rw e refl
one_if name area false e = rw e refl

counted : (name : List ℕ) (before : List Area) (area : Area) (b : Bool) → has name area ≡ b → count_named name (before ++ area ∷ []) ≡ count_named name before + one b
counted name before area b e =
    ap length (filter-append (has name) before (area ∷ [])) ∙ length-append (filter (has name) before) (filter (has name) (area ∷ []))
    ∙ ap (λ (n : ℕ). count_named name before + n) (one_if name area b e)

module _ (table : List ℕ → Option ℕ) (before : List Area) (area : Area) (turn : ℕ) (held : (name : List ℕ) → turn_in (table name) ≡ count_named name before) (is : turn ≡ turn_in (table (name_text area.name)) + 1) where
  turn_if : (name : List ℕ) (b : Bool) → has name area ≡ b → turn_in (if b then Some turn else table name) ≡ count_named name (before ++ area ∷ [])
  turn_if name true e =
      let same : name_text area.name ≡ name = (bytes_eq-Decides (name_text area.name) name).0 e in
      is ∙ ap (λ (n : ℕ). n + 1) (held (name_text area.name)) ∙ ap (λ (text : List ℕ). count_named text before + 1) same ∙ sym (counted name before area true e)
  turn_if name false e =
      let none : count_named name before ≡ count_named name before + 0 = omega arith in
      held name ∙ none ∙ sym (counted name before area false e)

  pub turns_more : (next : List ℕ → Option ℕ) → next ≡ with_value table (name_text area.name) turn → (name : List ℕ) → turn_in (next name) ≡ count_named name (before ++ area ∷ [])
  turns_more next e name = ap (λ (t : List ℕ → Option ℕ). turn_in (t name)) e ∙ turn_if name (has name area) refl

pub names_more : (program : List ℕ) (areas : List Area) (i : ℕ) (area : Area) (turn : ℕ) (names all : List AreaName) → i < length areas → area ≡ get_or areas i area
    → turn ≡ count_named (name_text area.name) (take i areas) + 1
    → names ++ names_after program (take i areas) (drop i areas) ≡ all
    → (names ++ record { program = program; name = name_text area.name; turn = turn } ∷ []) ++ names_after program (take i areas ++ area ∷ []) (drop (i + 1) areas) ≡ all
names_more program areas i area turn names all low is e whole =
    let rest : List AreaName = names_after program (take i areas ++ area ∷ []) (drop (i + 1) areas) in
    let name : List ℕ → ℕ → AreaName = λ text number. record { program = program; name = text; turn = number } in
    append_assoc names (name (name_text area.name) turn ∷ []) rest
    ∙ ap (λ (number : ℕ). names ++ name (name_text area.name) number ∷ rest) e
    ∙ ap (λ (left : List Area). names ++ names_after program (take i areas) left) (sym (drop_more areas i area low ∙ ap (λ (a : Area). a ∷ drop (i + 1) areas) (sym is)))
    ∙ whole

-- one more of a list that is changed item by item
pub mapped_more : {A B : Type 0} (f : A → B) (xs : List A) (i : ℕ) (x : A) → slice_get xs i ≡ Some x → map f (take (i + 1) xs) ≡ map f (take i xs) ++ f x ∷ []
mapped_more f xs i x found =
    let same = get_or_from_slice_get xs i x x found in
    rw (take_more xs i x (slice_get_within xs i x found), same, map-append f (take i xs) (x ∷ [])) refl

pub take_one : (areas : List Area) (i : ℕ) (area : Area) → i < length areas → area ≡ get_or areas i area → take (i + 1) areas ≡ take i areas ++ area ∷ []
take_one areas i area low is = take_more areas i area low ∙ ap (λ (a : Area). take i areas ++ a ∷ []) (sym is)
